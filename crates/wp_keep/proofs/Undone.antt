-- What an undo that ends a legal history undoes, and what is undecided.
use Rattle.std.proofs.Common.{◌≡◌, ℕ, suc, ◌<◌, ◌≤◌, Bool, true, false, not, cond, List, [], ◌∷◌, ◌++◌, length, Option, Some, None, refl, sym, ap, ◌∙◌, subst, arith, length-append}
use Rattle.std.specs.Prelude.{option_map}
use Rattle.std.specs.List.{list_any, position}
use Rattle.std.specs.Str.{bytes_eq}
use Rattle.std.proofs.Math.Seq.{take-append_seam}
use Rattle.std.proofs.lemmas.Bool.{and_parts, and_from, not-true, or_from, not_from_false}
use Rattle.std.proofs.lemmas.List.Folds.{list_any-append, list_any_at}
use Rattle.std.proofs.lemmas.List.Quantifiers.{position-Some}
use Rattle.wp_model.specs.declared.change.Change.{Change}
use Rattle.wp_model.specs.declared.entry.Entry.{Entry}
use Rattle.wp_model.specs.declared.entry.Entry.TheVariants.{Write, Prepare, Commit, Undo, Close}
use Rattle.wp_model.specs.Batch.{key_of, value_of, change_to}
use Rattle.wp_model.specs.History.{entry_at, is_prepare, batch_at, prepared_batch, decides, is_undecided, newest}
use Rattle.wp_model.specs.Legal.{IsLegal, IsLegalNext, undone_last, change_that_leaves, prior}
use Rattle.wp_model.proofs.Entries.{slice_get_next, entry_at_old, prepared_within, left_key, last_undo}
use Rattle.wp_model.specs.Decision.{version_in, entry_version, decision_in, IsCommittedAt}

-- ---- undecided

nothing_decides : (history : List Entry) (p by : ℕ) (at : Option Entry) → is_prepare at ≡ true → list_any (decides p) history ≡ false → decision_in history p at ≡ Some by → ⊥
nothing_decides history p by None prepare none e = absurd cc
nothing_decides history p by (Some (Write batch)) prepare none e = absurd cc
nothing_decides history p by (Some (Commit q)) prepare none e = absurd cc
nothing_decides history p by (Some (Undo q batch)) prepare none e = absurd cc
nothing_decides history p by (Some (Close q)) prepare none e = absurd cc
nothing_decides history p by (Some (Prepare name batch)) prepare none e = at (position (decides p) history) refl e
  where
    at : (o : Option ℕ) → position (decides p) history ≡ o → option_map suc o ≡ Some by → ⊥
    at None is h = absurd cc
    at (Some i) is h =
        let found = position-Some (decides p) history i (Commit 0) is in
        let some = list_any_at (decides p) history i (Commit 0) found.0 found.1 in
        absurd cc

pub undecided_uncommitted : (history : List Entry) (p n : ℕ) → is_undecided history p ≡ true → IsCommittedAt history p n → ⊥
undecided_uncommitted history p n undecided committed =
    let parts = and_parts (is_prepare (entry_at history p)) (not (list_any (decides p) history)) undecided in
    nothing_decides history p committed.by (entry_at history p) parts.0 (not-true (list_any (decides p) history) parts.1) committed.decided

-- ---- what is at a number

-- ---- what it undoes

changed_before : (history : List Entry) (batch : List Change) (key : List ℕ) (value : Option (List ℕ)) → change_to (prior history batch) key ≡ Some value → (old : Option (List ℕ)) × (change_to batch key ≡ Some old)
changed_before history [] key value e = absurd cc
changed_before history (first ∷ others) key value e =
    by (bytes_eq (key_of first) key) (sym (ap (λ k. cond (bytes_eq k key) (Some (value_of (change_that_leaves (key_of first) (newest history (key_of first))))) (change_to (prior history others) key)) (left_key (key_of first) (newest history (key_of first)))) ∙ e) (changed_before history others key value)
  where
    by : (b : Bool) → cond b (Some (value_of (change_that_leaves (key_of first) (newest history (key_of first))))) (change_to (prior history others) key) ≡ Some value → (change_to (prior history others) key ≡ Some value → (old : Option (List ℕ)) × (change_to others key ≡ Some old)) → (old : Option (List ℕ)) × (cond b (Some (value_of first)) (change_to others key) ≡ Some old)
    by true h rest = (value_of first, refl)
    by false h rest = rest h

-- the undo that ends a history is committed from its number on, and the prepare that it undoes has each of its keys
pub record UndoesLast (history : List Entry) (key : List ℕ) (p : ℕ) : Type 0 where
  pub below : p < length history
  pub undecided : is_undecided history p ≡ true
  pub value : Option (List ℕ)
  pub there : entry_version history p key ≡ Some value

held_by : (at : Option Entry) (key : List ℕ) (value : Option (List ℕ)) → is_prepare at ≡ true → change_to (prepared_batch at) key ≡ Some value → version_in at key ≡ Some value
held_by None key value prepare e = absurd cc
held_by (Some (Write batch)) key value prepare e = absurd cc
held_by (Some (Prepare name batch)) key value prepare e = e
held_by (Some (Commit q)) key value prepare e = absurd cc
held_by (Some (Undo q batch)) key value prepare e = absurd cc
held_by (Some (Close q)) key value prepare e = absurd cc

undoes_at : (front : List Entry) (p : ℕ) (batch : List Change) (key : List ℕ) (value : Option (List ℕ)) → IsLegal (front ++ Undo p batch ∷ []) → entry_version (front ++ Undo p batch ∷ []) (length (front ++ Undo p batch ∷ [])) key ≡ Some value → UndoesLast (front ++ Undo p batch ∷ []) key p
undoes_at front p batch key value legal there =
    let long : length (front ++ Undo p batch ∷ []) ≡ suc (length front) = omega (arith, length-append front (Undo p batch ∷ [])) in
    let last : change_to batch key ≡ Some value = sym (ap (λ (at : Option Entry). version_in at key) (slice_get_next front (Undo p batch) [])) ∙ sym (ap (λ n. entry_version (front ++ Undo p batch ∷ []) n key) long) ∙ there in
    let P : List Entry → Type 0 = λ before. IsLegalNext before (Undo p batch) in
    let after : IsLegalNext front (Undo p batch) = subst P (take-append_seam front (Undo p batch ∷ [])) (legal.each (length front) (Undo p batch) (slice_get_next front (Undo p batch) [])) in
    let parts = and_parts (is_prepare (entry_at front p)) (not (list_any (decides p) front)) after.orderly.names_undecided in
    let within : p ≤ length front = (prepared_within front p parts.0).1 in
    let old = changed_before front (batch_at front p) key value (ap (λ (b : List Change). change_to b key) (sym after.restores_prior) ∙ last) in
    let same = entry_at_old front (Undo p batch ∷ []) p within in
    record {
      below = omega arith;
      undecided = and_from _ _ (ap is_prepare same ∙ parts.0) (not_from_false _ (list_any-append (decides p) front (Undo p batch ∷ []) ∙ or_from _ _ (not-true (list_any (decides p) front) parts.1) refl));
      value = old.0;
      there = ap (λ (at : Option Entry). version_in at key) same ∙ held_by (entry_at front p) key old.0 parts.0 old.1;
    }

pub undoes_last : (history : List Entry) (key : List ℕ) (p : ℕ) (value : Option (List ℕ)) → IsLegal history → undone_last history ≡ Some p → entry_version history (length history) key ≡ Some value → UndoesLast history key p
undoes_last history key p value legal undone there =
    let ends = last_undo history p undone in
    let P : List Entry → Type 0 = λ h. IsLegal h → entry_version h (length h) key ≡ Some value → UndoesLast h key p in
    subst P (sym ends.is) (undoes_at ends.front p ends.batch key value) legal there
