-- Of the versions of a history those with fixed numbers are committed at the base, and are below what is carried.
use Rattle.std.proofs.Common.{◌≡◌, ℕ, zero, suc, ◌≤◌, true, false, not, List, ◌++◌, length, take, Option, Some, None, refl, sym, ap, ◌∙◌, subst, inl, inr, arith}
use Rattle.std.specs.Prelude.{is_some}
use Rattle.std.specs.List.{list_any}
use Rattle.std.proofs.lemmas.Bool.{cases_order, and_parts, false_from_ne_true}
use Rattle.wp_model.specs.declared.carried.Carried.{Carried}
use Rattle.wp_model.specs.declared.entry.Entry.{Entry}
use Rattle.wp_model.specs.declared.entry.Entry.TheVariants.{Write, Prepare, Commit, Undo, Close}
use Rattle.wp_model.specs.declared.version.Version.{Version}
use Rattle.wp_model.specs.History.{entry_at, is_prepare, decides, is_undecided, is_changed}
use Rattle.wp_model.specs.Legal.{IsLegal}
use Rattle.wp_model.specs.Decision.{entry_version, decision_in, IsCommittedAt}
use Rattle.wp_model.specs.Versions.{version_at}
use Rattle.wp_history_laws.proofs.Growth.{legal_before}
use Rattle.wp_history_laws.proofs.Counting.{counts, counts_within, counts_from, decided_any, entry_version_old}
use Rattle.wp_history_laws.proofs.Above.{Holds, legal_none_above, none_above}
use Rattle.wp_cuts.specs.Cut.{Cut, IsCut, carried_at, is_carried, is_fixed}
use Rattle.wp_cuts.specs.LegalCut.{AreBelow}
use Rattle.wp_cuts.proofs.Decided.{undecided_not_decided, fixed_counts}
use Rattle.wp_cuts.proofs.Agreeing.{cut_front_long, cut_whole}
use Rattle.wp_cuts.proofs.FullList.{fixed_parts, fixed_from}
use Rattle.wp_cuts.proofs.LegalCuts.{carries, carried_is}

-- ---- what is committed

undecided_uncounted_in : (history : List Entry) (p : ℕ) (at : Option Entry) → is_prepare at ≡ true → list_any (decides p) history ≡ false → is_some (decision_in history p at) ≡ false
undecided_uncounted_in history p None is none = refl
undecided_uncounted_in history p (Some (Write batch)) is none = absurd cc
undecided_uncounted_in history p (Some (Prepare name batch)) is none = decided_any history p ∙ none
undecided_uncounted_in history p (Some (Commit q)) is none = refl
undecided_uncounted_in history p (Some (Undo q batch)) is none = absurd cc
undecided_uncounted_in history p (Some (Close q)) is none = refl

undecided_uncounted : (history : List Entry) (p : ℕ) → is_undecided history p ≡ true → counts history p ≡ false
undecided_uncounted history p undecided_p =
    undecided_uncounted_in history p (entry_at history p) (and_parts (is_prepare (entry_at history p)) (not (list_any (decides p) history)) undecided_p).0 (undecided_not_decided history p undecided_p)

module _ (history : List Entry) (c : Cut) (versions : List Version) (legal : IsLegal history) (cut : IsCut history c)
    (part : (key : List ℕ) (p : ℕ) (value : Option (List ℕ)) → version_at versions key p ≡ Some value → entry_version history p key ≡ Some value) where
  abbrev before : List Entry
  before = take c.base history

  whole : history ≡ before ++ c.entries
  whole = cut_whole history c cut

  long : length before ≡ c.base
  long = cut_front_long history c cut

  legal_whole : IsLegal (before ++ c.entries)
  legal_whole = subst IsLegal whole legal

  carried_undecided_at : (p : ℕ) (x : Carried) → carried_at c p ≡ Some x → is_undecided before p ≡ true
  carried_undecided_at p x found = (carried_is history c p x cut found).0

  pub is_carried_is : (p : ℕ) → is_carried c p ≡ is_undecided before p
  is_carried_is p = by (carried_at c p) refl
    where
      by : (o : Option Carried) → carried_at c p ≡ o → is_some (carried_at c p) ≡ is_undecided before p
      by (Some x) e = ap is_some e ∙ sym (carried_undecided_at p x e)
      by None e = ap is_some e ∙ sym (false_from_ne_true (is_undecided before p) (λ h. let some : is_some (carried_at c p) ≡ true = ap is_some (carries history c p cut h) in let none : is_some (carried_at c p) ≡ false = ap is_some e in absurd cc))

  -- ---- of the versions up to the base just the fixed ones are committed there

  pub fixed_committed : (key : List ℕ) (p : ℕ) (value : Option (List ℕ)) → is_fixed c p ≡ true → version_at versions key p ≡ Some value → IsCommittedAt history p c.base
  fixed_committed key p value fixed there =
      let s = fixed_parts c p fixed in
      let within = s.within in
      let its : entry_version (before ++ c.entries) p key ≡ Some value = ap (λ (h : List Entry). entry_version h p key) (sym whole) ∙ part key p value there in
      let at = fixed_counts before c.entries key p value (omega (arith, within, long)) (sym (is_carried_is p) ∙ s.other) its in
      subst (λ (h : List Entry). IsCommittedAt h p c.base) (sym whole) (subst (IsCommittedAt (before ++ c.entries) p) long at)

  pub committed_fixed : (key : List ℕ) (p : ℕ) (value : Option (List ℕ)) → version_at versions key p ≡ Some value → IsCommittedAt history p c.base → is_fixed c p ≡ true
  committed_fixed key p value there committed =
      let at : IsCommittedAt (before ++ c.entries) p (length before) = subst (IsCommittedAt (before ++ c.entries) p) (sym long) (subst (λ (h : List Entry). IsCommittedAt h p c.base) whole committed) in
      let counted = counts_from before c.entries p legal_whole at in
      let within = counts_within before p counted in
      fixed_from c p (low p (part key p value there)) (omega (arith, within, long)) (is_carried_is p ∙ false_from_ne_true (is_undecided before p) (λ h. let un = undecided_uncounted before p h in absurd cc))
    where
      low : (q : ℕ) → entry_version history q key ≡ Some value → 1 ≤ q
      low zero e = absurd cc
      low (suc n) e = omega arith

  -- ---- below what is carried

  pub below : AreBelow c versions
  below key q p value x there fixed found changed =
      elim (cases_order q p) [
        | inl same ↦ let no = (fixed_parts c q fixed).other in let yes : is_carried c q ≡ true = ap (is_carried c) same ∙ ap is_some found in absurd cc
        | inr apart ↦ elim apart [
          | inl lt ↦ lt
          | inr above ↦
              let from_cut = carried_is history c p x cut found in
              let holds : Holds before key p = record { undecided = from_cut.0; changed = ap (λ (y : Carried). is_changed y.batch key) (sym from_cut.1) ∙ changed } in
              let none = none_above before key p q (legal_none_above before (legal_before before c.entries legal_whole)) cut.whole holds above in
              let within = (fixed_parts c q fixed).within in
              let some : entry_version before q key ≡ Some value = sym (entry_version_old before c.entries q key (omega (arith, within, long))) ∙ ap (λ (h : List Entry). entry_version h q key) (sym whole) ∙ part key q value there in
              absurd cc
        ]
      ]
