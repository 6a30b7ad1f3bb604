-- What is at a number of a history as it grows, and what its last entry undoes.
use Rattle.std.proofs.Common.{◌≡◌, ℕ, zero, suc, ◌<◌, ◌≤◌, true, not, List, [], ◌∷◌, ◌++◌, length, Option, Some, None, refl, sym, ap, ◌∙◌, inl, inr, arith}
use Rattle.std.specs.Prelude.{slice_get}
use Rattle.std.specs.List.{list_any}
use Rattle.std.proofs.lemmas.Bool.{cases_lt, and_parts}
use Rattle.std.proofs.lemmas.Option.{slice_get_past}
use Rattle.wp_model.specs.declared.change.Change.{Change}
use Rattle.wp_model.specs.declared.entry.Entry.{Entry}
use Rattle.wp_model.specs.declared.entry.Entry.TheVariants.{Write, Prepare, Commit, Undo, Close}
use Rattle.wp_model.specs.Batch.{key_of}
use Rattle.wp_model.specs.History.{entry_at, prepared_batch, batch_at, is_prepare, decides, is_undecided}
use Rattle.wp_model.specs.Legal.{undone_last, change_that_leaves}

-- ---- what is at a number

pub slice_get_old : (history more : List Entry) (n : ℕ) → n < length history → slice_get (history ++ more) n ≡ slice_get history n
slice_get_old [] more n lt = absurd (omega arith)
slice_get_old (first ∷ others) more zero lt = refl
slice_get_old (first ∷ others) more (suc n) lt = slice_get_old others more n (omega arith)

pub slice_get_next : (history : List Entry) (entry : Entry) (more : List Entry) → slice_get (history ++ entry ∷ more) (length history) ≡ Some entry
slice_get_next [] entry more = refl
slice_get_next (first ∷ others) entry more = slice_get_next others entry more

pub entry_at_old : (history more : List Entry) (p : ℕ) → p ≤ length history → entry_at (history ++ more) p ≡ entry_at history p
entry_at_old history more zero le = refl
entry_at_old history more (suc n) le = slice_get_old history more n (omega arith)

pub entry_at_past : (history : List Entry) (p : ℕ) → length history < p → entry_at history p ≡ None
entry_at_past history zero lt = absurd (omega arith)
entry_at_past history (suc n) lt = slice_get_past history n (omega arith)

pub batch_at_old : (history more : List Entry) (p : ℕ) → p ≤ length history → batch_at (history ++ more) p ≡ batch_at history p
batch_at_old history more p le = ap prepared_batch (entry_at_old history more p le)

-- ---- prepares

pub prepared_within : (history : List Entry) (p : ℕ) → is_prepare (entry_at history p) ≡ true → (1 ≤ p) × (p ≤ length history)
prepared_within history zero h = absurd cc
prepared_within history (suc n) h =
    elim (cases_lt n (length history)) [
      | inl lt ↦ (omega arith, omega arith)
      | inr le ↦ let none : slice_get history n ≡ None = slice_get_past history n le in absurd cc
    ]

pub undecided_prepared : (history : List Entry) (p : ℕ) → is_undecided history p ≡ true → is_prepare (entry_at history p) ≡ true
undecided_prepared history p h = (and_parts (is_prepare (entry_at history p)) (not (list_any (decides p) history)) h).0

pub undecided_within : (history : List Entry) (p : ℕ) → is_undecided history p ≡ true → (1 ≤ p) × (p ≤ length history)
undecided_within history p h = prepared_within history p (undecided_prepared history p h)

-- ---- the last undo

pub left_key : (key : List ℕ) (value : Option (List ℕ)) → key_of (change_that_leaves key value) ≡ key
left_key key (Some value) = refl
left_key key None = refl

undone_after_first : (first second : Entry) (others : List Entry) → undone_last (first ∷ second ∷ others) ≡ undone_last (second ∷ others)
undone_after_first (Write batch) second others = refl
undone_after_first (Prepare name batch) second others = refl
undone_after_first (Commit p) second others = refl
undone_after_first (Undo p batch) second others = refl
undone_after_first (Close p) second others = refl

pub undone_after : (front others : List Entry) (entry : Entry) → undone_last (front ++ entry ∷ others) ≡ undone_last (entry ∷ others)
undone_after [] others entry = refl
undone_after (first ∷ []) others entry = undone_after_first first entry others
undone_after (first ∷ second ∷ front) others entry = undone_after_first first second (front ++ entry ∷ others) ∙ undone_after (second ∷ front) others entry

-- the undo of p ends the history
pub record LastUndo (history : List Entry) (p : ℕ) : Type 0 where
  pub front : List Entry
  pub batch : List Change
  pub is : history ≡ front ++ Undo p batch ∷ []

last_undo_alone : (entry : Entry) (p : ℕ) → undone_last (entry ∷ []) ≡ Some p → LastUndo (entry ∷ []) p
last_undo_alone (Write batch) p undone = absurd cc
last_undo_alone (Prepare name batch) p undone = absurd cc
last_undo_alone (Commit q) p undone = absurd cc
last_undo_alone (Undo q batch) p undone = let same : q ≡ p = cc in record { front = []; batch = batch; is = ap (λ (r : ℕ). Undo r batch ∷ []) same }
last_undo_alone (Close q) p undone = absurd cc

pub last_undo : (history : List Entry) (p : ℕ) → undone_last history ≡ Some p → LastUndo history p
last_undo [] p undone = absurd cc
last_undo (first ∷ []) p undone = last_undo_alone first p undone
last_undo (first ∷ second ∷ others) p undone =
    let rest = last_undo (second ∷ others) p (sym (undone_after_first first second others) ∙ undone) in
    record { front = first ∷ rest.front; batch = rest.batch; is = ap (λ (h : List Entry). first ∷ h) rest.is }
