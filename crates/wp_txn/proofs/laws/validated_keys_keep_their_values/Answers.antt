use Rattle.std.proofs.Common.{◌≡◌, ◌⊎◌, ⊎_elim, ◌-◌, ℕ, true, List, take}
use Rattle.wp_model.specs.declared.entry.Entry.{Entry}
use Rattle.wp_model.specs.Changed.{IsUnchanged}
use Rattle.wp_model.specs.History.{batch_at, entry_at, is_changed, is_prepare, is_undecided}
use Rattle.wp_model.specs.Legal.{IsLegal}
use Rattle.wp_history_laws.proofs.Unchanged.{unchanged_later, unchanged_keeps_value, held_unchanged, unchanged_over_prepare}
use Rattle.wp_txn.specs.Writes.{IsUnchangedThrough}
use Rattle.wp_txn.proofs.laws.validated_keys_keep_their_values.Goals as goal

validated_since : (history : List Entry) (key : List ℕ) (n : ℕ) → IsLegal history → IsUnchangedThrough history key n → IsUnchanged history key n
validated_since history key n legal is = ⊎_elim
    (λ (since : IsUnchanged history key n). since)
    (λ (over : (p : ℕ) × (is_prepare (entry_at history p) ≡ true) × IsUnchanged (take (p - 1) history) key n × (IsUnchanged history key p ⊎ ((is_undecided history p ≡ true) × (is_changed (batch_at history p) key ≡ true)))).
    unchanged_over_prepare history key n over.0 legal over.1 over.2 (⊎_elim
    (λ (behind : IsUnchanged history key over.0). behind)
    (λ (holds : (is_undecided history over.0 ≡ true) × (is_changed (batch_at history over.0) key ≡ true)). held_unchanged history key over.0 legal holds.0 holds.1)
    over.3))
    is

pub returns : goal.returns
returns c history key n legal is m le within =
    let since = validated_since history key n legal is in (unchanged_later history key n m le since, unchanged_keeps_value history key n m legal since le within)
