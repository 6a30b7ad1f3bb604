-- In a legal history no two undecided prepares have the same name.
use Rattle.std.proofs.Common.{◌≡◌, ⊎_elim, ℕ, suc, ◌≤◌, true, false, true≢false, List, [], ◌∷◌, ◌++◌, length, refl, sym, ap, ◌∙◌, Option, Some, None, arith}
use Rattle.std.proofs.lemmas.Slice.Eq.{bytes_eq-Decides}
use Rattle.wp_model.specs.declared.entry.Entry.{Entry}
use Rattle.wp_model.specs.declared.entry.Entry.TheVariants.{Prepare}
use Rattle.wp_model.specs.History.{is_prepare, prepared_name, name_at, is_undecided, decides, named}
use Rattle.wp_model.specs.Legal.{IsLegal, IsLegalNext}
use Rattle.wp_model.proofs.Entries.{undecided_within}
use Rattle.wp_model.proofs.Found.{found_named}
use Rattle.wp_history_laws.proofs.Growth.{by_growth}
use Rattle.wp_core.proofs.HistoryGrows.{none_is, before, after, at_next, undecided_before_or_now, name_at_old}
use Rattle.wp_history_laws.proofs.Named.{none_named}

-- a Prepare that comes next has a name that no undecided one has
new_name : (history : List Entry) (entry : Entry) → IsLegalNext history entry → is_prepare (Some entry) ≡ true → named history (prepared_name (Some entry)) ≡ None
new_name history (Prepare name batch) next is = next.orderly.keys_are_free.1
new_name history other next is = absurd (true≢false (sym is))

-- undecided prepares of the same name are one
abbrev HaveNames : List Entry → Type 0
HaveNames history = (p q : ℕ) → is_undecided history p ≡ true → is_undecided history q ≡ true → name_at history p ≡ name_at history q → p ≡ q

-- it was undecided, and is so still
abbrev IsOld : List Entry → Entry → ℕ → Type 0
IsOld history entry p = (p ≤ length history) × (is_undecided history p ≡ true) × (decides p entry ≡ false)

-- it is the entry that was added
abbrev IsNew : List Entry → Entry → ℕ → Type 0
IsNew history entry p = (p ≡ suc (length history)) × (is_prepare (Some entry) ≡ true)

module _ (history : List Entry) (entry : Entry) (legal : IsLegal (history ++ entry ∷ [])) where
  old_and_new : (p q : ℕ) → IsOld history entry p → IsNew history entry q → name_at (history ++ entry ∷ []) p ≡ name_at (history ++ entry ∷ []) q → ⊥
  old_and_new p q old new same =
      none_named history (prepared_name (Some entry)) p (new_name history entry (after history entry legal) new.1) old.1
      (sym (name_at_old history entry legal p old.0) ∙ same ∙ ap (name_at (history ++ entry ∷ [])) new.0 ∙ ap prepared_name (at_next history entry legal))

  one_more : HaveNames history → HaveNames (history ++ entry ∷ [])
  one_more one p q up uq same = ⊎_elim
      (λ (a : IsOld history entry p). ⊎_elim
      (λ (b : IsOld history entry q). one p q a.1 b.1 (sym (name_at_old history entry legal p a.0) ∙ same ∙ name_at_old history entry legal q b.0))
      (λ (b : IsNew history entry q). absurd (old_and_new p q a b same))
      (undecided_before_or_now history entry legal q uq))
      (λ (a : IsNew history entry p). ⊎_elim
      (λ (b : IsOld history entry q). absurd (old_and_new q p b a (sym same)))
      (λ (b : IsNew history entry q). a.0 ∙ sym b.0)
      (undecided_before_or_now history entry legal q uq))
      (undecided_before_or_now history entry legal p up)

one_name : (history : List Entry) → IsLegal history → HaveNames history
one_name history legal = by_growth HaveNames
    (λ p q up uq same. let within = undecided_within [] p up in absurd (nothing_within p within.0 within.1))
    (λ h entry whole legal_h next one. one_more h entry whole one) history legal
  where
    nothing_within : (p : ℕ) → 1 ≤ p → p ≤ 0 → ⊥
    nothing_within p low high = omega (arith, low, high)

-- the undecided prepare of a name is found by it
pub named_is : (history : List Entry) → IsLegal history → (p : ℕ) (name : List ℕ) → is_undecided history p ≡ true → name_at history p ≡ name → named history name ≡ Some p
named_is history legal p name u is = by (named history name) refl
  where
    by : (o : Option ℕ) → named history name ≡ o → named history name ≡ Some p
    by None e = absurd (none_named history name p e u is)
    by (Some q) e =
        let f = found_named history name q e in
        e ∙ ap (λ (n : ℕ). Some n) (one_name history legal q p f.0 u ((bytes_eq-Decides (name_at history q) name).0 f.1 ∙ sym is))

-- once its prepare is decided, a name is none's
pub name_is_free : (history : List Entry) (entry : Entry) (p : ℕ) (name : List ℕ) → IsLegal (history ++ entry ∷ []) → named history name ≡ Some p → decides p entry ≡ true → is_prepare (Some entry) ≡ false
    → named (history ++ entry ∷ []) name ≡ None
name_is_free history entry p name legal is decided none = none_is (named (history ++ entry ∷ []) name) (λ q e.
    let f = found_named (history ++ entry ∷ []) name q e in let g = found_named history name p is in
    ⊎_elim
    (λ (a : IsOld history entry q).
    let same : q ≡ p = one_name history (before history entry legal) q p a.1 g.0
    (sym (name_at_old history entry legal q a.0) ∙ (bytes_eq-Decides (name_at (history ++ entry ∷ []) q) name).0 f.1 ∙ sym ((bytes_eq-Decides (name_at history p) name).0 g.1)) in
    true≢false (sym decided ∙ ap (λ (n : ℕ). decides n entry) (sym same) ∙ a.2))
    (λ (a : IsNew history entry q). true≢false (sym a.1 ∙ none))
    (undecided_before_or_now history entry legal q f.0))
