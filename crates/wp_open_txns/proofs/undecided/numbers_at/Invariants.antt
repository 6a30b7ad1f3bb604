use Rattle.std.proofs.Common.{◌≡◌, ℕ, ◌&&◌, ◌||◌, drop, take}
use Rattle.std.specs.Prelude.{nat_le}
use Rattle.std.specs.BTreeSet as sorted
use Rattle.std.specs.List.{list_any}
use Rattle.std.specs.Ordering.{nat_cmp}
use Rattle.wp_model.specs.History.{decides, is_undecided}
use Rattle.wp_open_txns.proofs.undecided.numbers_at.Given as goal

abbrev pub invariant-loop-entry : goal.invariant-loop-entry
invariant-loop-entry l = (p : ℕ) → sorted.contains nat_cmp l.numbers p ≡ (nat_le p l.n && (is_undecided l.history.entries p || list_any (decides p) (take l.entry-index (drop l.n l.history.entries))))
