-- What the last entry undoes.
use Rattle.std.proofs.Common.{◌≡◌, suc, ◌-◌, List, [], ◌∷◌, ◌++◌, length, Some, None, refl, sym, ◌∙◌, arith}
use Rattle.std.specs.Prelude.{slice_get}
use Rattle.std.proofs.lemmas.Option.{slice_get-get_or}
use Rattle.wp_model.specs.declared.entry.Entry.{Entry}
use Rattle.wp_model.specs.Legal.{undone_last}
use Rattle.wp_model.proofs.Entries.{undone_after}
use Rattle.wp_history_laws.specs.Growth.{undone_by}

pub undone_next : (history : List Entry) (entry : Entry) → undone_last (history ++ entry ∷ []) ≡ undone_by entry
undone_next history entry = undone_after history [] entry

pub undone_at_last : (history : List Entry) (entry : Entry) → slice_get history (length history - 1) ≡ Some entry → undone_by entry ≡ undone_last history
undone_at_last [] entry at = absurd cc
undone_at_last (first ∷ []) entry at = let same : first ≡ entry = cc in rw same refl
undone_at_last (first ∷ second ∷ others) entry at =
    let at_rest : slice_get (second ∷ others) (length (second ∷ others) - 1) ≡ Some entry =
    let index : suc (suc (length others)) - 1 ≡ suc (suc (length others) - 1) = omega arith in
    rw index at at in
    undone_at_last (second ∷ others) entry at_rest ∙ sym (undone_after (first ∷ []) others second)

pub none_undone : (history : List Entry) → slice_get history (length history - 1) ≡ None → None ≡ undone_last history
none_undone [] at = refl
none_undone (first ∷ others) at = let there = slice_get-get_or (first ∷ others) (length (first ∷ others) - 1) first (omega arith) in absurd cc
