-- The last entry that changes a key, found from the end on.
use Rattle.std.proofs.Common.{◌≡◌, ℕ, zero, suc, ◌+◌, ◌-◌, ◌<◌, ◌≤◌, Bool, true, false, true≢false, cond, get_or, List, ◌∷◌, length, Option, Some, None, refl, sym, ap, ◌∙◌, inl, inr, arith}
use Rattle.std.specs.Prelude.{is_some}
use Rattle.std.specs.List.{filter, range_with_len, last_or}
use Rattle.std.specs.Option.{option_map_or}
use Rattle.std.proofs.lemmas.Bool.{cases_eq}
use Rattle.std.proofs.lemmas.Option.{slice_get-get_or}
use Rattle.wp_model.specs.declared.entry.Entry.{Entry}
use Rattle.wp_model.specs.Batch.{change_to}
use Rattle.wp_model.specs.Changed.{changes_key, conflict, IsUnchanged}
use Rattle.wp_model.specs.History.{changes_of, is_changed}
use Rattle.wp_history_laws.proofs.Unchanged.{each_unchanged, unchanged_by_each, none_filtered}

-- the last that passes, where none above it does
pub last_passes : (p : ℕ → Bool) (a n k : ℕ) → a ≤ k → k < a + n → p k ≡ true → ((j : ℕ) → k < j → j < a + n → p j ≡ false) → (o : Option ℕ) → last_or o (filter p (range_with_len a n)) ≡ Some k
last_passes p a zero k low high is above o = absurd (omega arith)
last_passes p a (suc n) k low high is above o = by (p a) refl (λ e past. last_passes p (a + 1) n k past (omega arith) is (λ j more within. above j more (omega arith)) e)
  where
    by : (b : Bool) → p a ≡ b → ((e : Option ℕ) → a + 1 ≤ k → last_or e (filter p (range_with_len (a + 1) n)) ≡ Some k) → last_or o (cond b (a ∷ filter p (range_with_len (a + 1) n)) (filter p (range_with_len (a + 1) n))) ≡ Some k
    by true here rest = elim (cases_eq a k) [
      | inl same ↦ ap (last_or (Some a)) (none_filtered p (a + 1) n (λ j more within. above j (omega arith) (omega arith))) ∙ ap (λ (m : ℕ). Some m) same
      | inr other ↦ rest (Some a) (omega arith)
    ]
    by false here rest = elim (cases_eq a k) [
      | inl same ↦ absurd (true≢false (sym is ∙ ap p (sym same) ∙ here))
      | inr other ↦ rest o (omega arith)
    ]

module _ (history : List Entry) (key : List ℕ) (i : ℕ) (here : Entry) (lt : i < length history) (at : here ≡ get_or history i here) where
  changes_at : changes_key history key (suc i) ≡ is_changed (changes_of history here) key
  changes_at = ap (λ (o : Option Entry). option_map_or (λ entry. is_changed (changes_of history entry) key) o false) (slice_get-get_or history i here lt ∙ ap (λ (e : Entry). Some e) (sym at))

  pub found_last : (value : Option (List ℕ)) (n j : ℕ) → j ≡ i + 1 → n < j → IsUnchanged history key j → Some value ≡ change_to (changes_of history here) key → Some j ≡ conflict history key n
  found_last value n j next low none changed =
      let up : j ≡ suc i = omega (arith, next) in
      sym (last_passes (changes_key history key) (suc n) (length history - n) j (omega arith) (omega (arith, lt)) (ap (changes_key history key) up ∙ changes_at ∙ ap is_some (sym changed)) (λ k more within. each_unchanged history key j none k more (omega (arith, within, lt))) None)

  pub still_none : (j : ℕ) → j ≡ i + 1 → IsUnchanged history key j → change_to (changes_of history here) key ≡ None → IsUnchanged history key i
  still_none j next none unchanged =
      let up : j ≡ suc i = omega (arith, next) in
      unchanged_by_each history key i (λ k more within. elim (cases_eq k j) [
        | inl same ↦ ap (changes_key history key) (same ∙ up) ∙ changes_at ∙ ap is_some unchanged
        | inr other ↦ each_unchanged history key j none k (omega (arith, more, other)) within
      ])
