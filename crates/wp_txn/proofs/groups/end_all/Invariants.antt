use Rattle.std.proofs.Common.{◌≡◌, ℕ, ◌+◌, length}
use Rattle.wp_shared.specs.Seats.{SeatState, IsFree}
use Rattle.wp_txn.specs.Groups.{AreDecidedBehind, EndsEach}
use Rattle.wp_txn.proofs.Each.{HaveOtherNames}
use Rattle.wp_txn.proofs.groups.end_all.Given as goal

-- those that are left are decided still; and once they are ended, all are
abbrev pub invariant-loop-txns : goal.invariant-loop-txns
invariant-loop-txns g l = record {
  number : l.last ≡ l.decision + length l.txns.items;
  free : IsFree l.store.table l.seat;
  decided : AreDecidedBehind l.seat l.decision l.txns.items;
  names : HaveOtherNames l.txns.items;
  ends : (n : ℕ) → l.last ≡ n + length l.fn.txns.items → (new : SeatState) → EndsEach l.store l.seat l.txns.items l.decision new → EndsEach l.store l.fn.seat l.fn.txns.items n new;
}

abbrev pub decreases-loop-txns : goal.decreases-loop-txns
decreases-loop-txns g l = length l.txns.items
