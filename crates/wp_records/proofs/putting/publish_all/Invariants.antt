use Rattle.std.proofs.Common.{◌≡◌, false, [], length}
use Rattle.wp_parts.specs.Log.{LogState}
use Rattle.wp_shared.specs.Seats.{SeatState}
use Rattle.wp_records.specs.Records.{IsPutWith}
use Rattle.wp_records.specs.Stages.{HoldsPending, AreBehind, MayJoin}
use Rattle.wp_records.proofs.putting.publish_all.Given as goal

abbrev pub invariant-loop-seat : goal.invariant-loop-seat
invariant-loop-seat g l = record {
  holds : HoldsPending l.store l.seat l.log;
  may : MayJoin l.seat.knows l.store.cells l.log.state;
  behind : AreBehind l.log.state.pending;
  running : l.log.state.closed ≡ false;
  learned : l.seat.knows.learned ≡ [];
  uncalled : (l.log.wal ≡ l.fn.log.wal) × (l.log.state.log ≡ l.fn.log.state.log);
  puts : (new : SeatState) (left : LogState) → IsPutWith l.store l.seat l.log [] l.log.state.pending new left → IsPutWith l.store l.fn.seat l.fn.log [] l.fn.log.state.pending new left;
}

abbrev pub decreases-loop-seat : goal.decreases-loop-seat
decreases-loop-seat g l = length l.log.state.pending
