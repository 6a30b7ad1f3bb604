-- Which keys undecided prepares hold, and what may be above them.
use Rattle.std.proofs.Common.{◌≡◌, ℕ, Bool, true, false, cond, eqb, List, [], ◌∷◌, Option, Some, None, refl, sym, ap, ◌∙◌, ⊎_elim}
use Rattle.std.specs.Prelude.{option_map, is_some, if◌then◌else◌}
use Rattle.std.specs.List.{list_any, find}
use Rattle.std.specs.Str.{bytes_eq}
use Rattle.std.proofs.lemmas.Bool.{or_cases, eqb-true}
use Rattle.std.proofs.lemmas.Slice.Eq.{bytes_eq-Decides}
use Rattle.wp_model.specs.declared.change.Change.{Change}
use Rattle.wp_model.specs.declared.entry.Entry.{Entry}
use Rattle.wp_model.specs.Batch.{key_of, value_of, change_to}
use Rattle.wp_model.specs.History.{batch_at, is_undecided, undecided, is_changed, holder_of, newest}
use Rattle.wp_model.specs.Legal.{AreFree, change_that_leaves, prior}
use Rattle.wp_model.proofs.Entries.{left_key}
use Rattle.wp_history_laws.proofs.Undecided.{is_undecided_by_list}

-- ---- free keys

find_none : (test : ℕ → Bool) (numbers : List ℕ) (p : ℕ) → find test numbers ≡ None → list_any (λ k. eqb k p) numbers ≡ true → test p ≡ false
find_none test [] p none h = absurd cc
find_none test (first ∷ others) p none h =
    let rest : find test others ≡ None → list_any (λ k. eqb k p) others ≡ true → test p ≡ false = find_none test others p in
    let here : eqb first p ≡ true → test first ≡ false → test p ≡ false = λ same e. ap test (sym (eqb-true first p same)) ∙ e in
    elim (test first) as (λ b. test first ≡ b → cond b (Some first) (find test others) ≡ None → test p ≡ false) [
      | true ↦ λ _ e. absurd cc
      | false ↦ λ fails e. ⊎_elim (λ (same : eqb first p ≡ true). here same fails) (rest e) (or_cases (eqb first p) (list_any (λ k. eqb k p) others) h)
    ] refl none

-- an undecided prepare holds each key of its batch
pub not_free : (history : List Entry) (key : List ℕ) (p : ℕ) → is_undecided history p ≡ true → is_changed (batch_at history p) key ≡ true → holder_of history key ≡ None → ⊥
not_free history key p undecided_p changed none =
    let fails = find_none (λ q. is_changed (batch_at history q) key) (undecided history) p none (is_undecided_by_list history p ∙ undecided_p) in
    absurd cc

pub free_key : (history : List Entry) (changes : List Change) (key : List ℕ) → AreFree history changes → is_changed changes key ≡ true → holder_of history key ≡ None
free_key history [] key free h = absurd cc
free_key history (first ∷ others) key free h =
    let rest : is_changed others key ≡ true → holder_of history key ≡ None = free_key history others key free.1 in
    elim (bytes_eq (key_of first) key) as (λ b. bytes_eq (key_of first) key ≡ b → is_some (if b then Some (value_of first) else change_to others key) ≡ true → holder_of history key ≡ None) [
      | true ↦ λ same _. ap (holder_of history) (sym ((bytes_eq-Decides (key_of first) key).0 same)) ∙ free.0
      | false ↦ λ _ e. rest e
    ] refl h

-- ---- what an undo holds

left_value : (key : List ℕ) (value : Option (List ℕ)) → value_of (change_that_leaves key value) ≡ value
left_value key (Some value) = refl
left_value key None = refl

pub prior_to : (history : List Entry) (batch : List Change) (key : List ℕ) → change_to (prior history batch) key ≡ option_map (λ _. newest history key) (change_to batch key)
prior_to history [] key = refl
prior_to history (first ∷ others) key =
    let value = newest history (key_of first) in
    let rest = prior_to history others key in
    let R : Bool → Type 0 = λ b. (if b then Some (value_of (change_that_leaves (key_of first) value)) else change_to (prior history others) key) ≡ option_map (λ _. newest history key) (if b then Some (value_of first) else change_to others key) in
    let by_key : (b : Bool) → bytes_eq (key_of first) key ≡ b → R b = λ b. elim b as (λ c. bytes_eq (key_of first) key ≡ c → R c) [
      | true ↦ λ same. ap (λ (v : Option (List ℕ)). Some v) (left_value (key_of first) value ∙ ap (newest history) ((bytes_eq-Decides (key_of first) key).0 same))
      | false ↦ λ _. rest
    ] in
    rw (left_key (key_of first) value) (by_key (bytes_eq (key_of first) key) refl)
