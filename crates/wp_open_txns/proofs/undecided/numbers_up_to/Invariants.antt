use Rattle.std.proofs.Common.{◌≡◌, ℕ, ◌&&◌, take}
use Rattle.std.specs.Prelude.{◌==◌, nat_le}
use Rattle.std.specs.BTreeSet as sorted
use Rattle.std.specs.List.{list_any}
use Rattle.std.specs.Ordering.{nat_cmp}
use Rattle.wp_open_txns.proofs.undecided.numbers_up_to.Given as goal

abbrev pub invariant-loop-p : goal.invariant-loop-p
invariant-loop-p l = (p : ℕ) → sorted.contains nat_cmp l.kept p ≡ (nat_le p l.n && list_any (λ q. q == p) (take l.p-index l.numbers))
