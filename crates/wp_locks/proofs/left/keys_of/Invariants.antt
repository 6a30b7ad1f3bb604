use Rattle.std.proofs.Common.{◌≡◌, ℕ, List, ◌++◌, length}
use Rattle.std.specs.List.{flat_map}
use Rattle.std.specs.FinMap.{from_entries}
use Rattle.wp_model.specs.Batch.{key_cmp}
use Rattle.wp_model.specs.History.{undecided, entry_at}
use Rattle.wp_history_laws.specs.Prepares.{prepare_of}
use Rattle.wp_history_laws.proofs.Opened.{keys_left}
use Rattle.wp_locks.proofs.left.keys_of.Given as goal

-- the keys of the last prepares are there
abbrev pub invariant-loop-p : goal.invariant-loop-p
invariant-loop-p l =
    (done : List ℕ)
    × (undecided l.history.entries ≡ l.left ++ done)
    × (from_entries {R = key_cmp} l.keys.entries ≡ from_entries (flat_map (λ p. keys_left (prepare_of (entry_at l.history.entries p))) done))

abbrev pub decreases-loop-p : goal.decreases-loop-p
decreases-loop-p l = length l.left
