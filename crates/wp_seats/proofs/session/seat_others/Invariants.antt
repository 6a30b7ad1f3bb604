use Rattle.std.proofs.Common.{◌≡◌, length, map, vec_len, vec_capacity}
use Rattle.wp_seats.specs.Lists.{seat_of}
use Rattle.wp_seats.specs.New.{AreNew, having_made}
use Rattle.wp_seats.proofs.session.seat_others.Given as goal

abbrev pub invariant-loop-name : goal.invariant-loop-name
invariant-loop-name g l = record {
  first : l.first ≡ having_made l.store l.initial.first.knows.participant.client (length l.yielded);
  others : AreNew l.store l.yielded (map seat_of l.sessions.items);
  count : vec_len l.sessions ≡ length l.yielded;
  capacity : vec_capacity l.sessions ≡ vec_capacity l.initial.sessions;
}
