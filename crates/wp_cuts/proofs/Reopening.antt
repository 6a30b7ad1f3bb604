-- What covers a history and has the base in its list is enough to open its cut.
use Rattle.std.proofs.Common.{◌≡◌, ℕ, zero, suc, ◌≤◌, true, false, List, length, take, Option, Some, None, refl, sym, ap, ◌∙◌, inl, inr, arith}
use Rattle.std.specs.Prelude.{is_some}
use Rattle.std.proofs.lemmas.Bool.{cases_lt, cases_Bool, leb-true}
use Rattle.std.proofs.lemmas.List.{take_all}
use Rattle.wp_model.specs.declared.carried.Carried.{Carried}
use Rattle.wp_model.specs.declared.entry.Entry.{Entry}
use Rattle.wp_model.specs.declared.version.Version.{Version}
use Rattle.wp_model.specs.History.{is_undecided, value_at}
use Rattle.wp_model.specs.Legal.{IsLegal, undone_last}
use Rattle.wp_model.specs.Decision.{version_in, entry_version, decision_of, is_by, is_committed, IsCommittedAt}
use Rattle.wp_model.specs.Versions.{AreInOrder, version_at}
use Rattle.wp_model.specs.Covered.{GivesStore, IsCovered}
use Rattle.wp_history_laws.proofs.Counting.{entry_version_old}
use Rattle.wp_history_laws.proofs.Growth.{legal_naming}
use Rattle.wp_cuts.specs.Cut.{Cut, IsCut, carried_at, is_carried, is_fixed, base_value, front_entry_of, full_of}
use Rattle.wp_cuts.specs.LegalCut.{AreNumbered, IsLegalCut}
use Rattle.wp_cuts.specs.Agree.{AgreeFrom}
use Rattle.wp_cuts.specs.Reopened.{AreFromBase, IsReopened}
use Rattle.wp_cuts.proofs.Decided.{by_committed}
use Rattle.wp_cuts.proofs.Agreeing.{cuts_agree}
use Rattle.wp_cuts.proofs.Versions.{changes_to}
use Rattle.wp_cuts.proofs.FullList.{fixed_parts, fixed_from, front, full_is, front_long, front_at, full_is_cut, full_value, base_newest, base_none}
use Rattle.wp_cuts.proofs.Standing.{cut_numbered, stands_for}
use Rattle.wp_cuts.proofs.LegalCuts.{cut_is_legal}
use Rattle.wp_cuts.proofs.FullLegal.{full_is_legal}
use Rattle.wp_cuts.proofs.Fixed.{is_carried_is, fixed_committed, committed_fixed, below}

-- ---- what is committed

pub committed_by : (history : List Entry) (p n : ℕ) → is_committed history p n ≡ true → IsCommittedAt history p n
committed_by history p n h = by (decision_of history p) refl h
  where
    by : (o : Option ℕ) → decision_of history p ≡ o → is_by o n ≡ true → IsCommittedAt history p n
    by None e is = absurd cc
    by (Some d) e is = record { by = d; decided = e; within = leb-true d n is }

module _ (history : List Entry) (c : Cut) (versions : List Version) (legal : IsLegal history) (cut : IsCut history c) (order : AreInOrder versions) where
  abbrev before : List Entry
  before = take c.base history

  abbrev full : List Entry
  full = full_of c versions

  numbered : AreNumbered c
  numbered = cut_numbered history c cut

  module _ (numbers : List ℕ) (from : ℕ) (far : AreFromBase history c.base numbers from) (covered : IsCovered versions history numbers from) where
    -- ---- the values at the base

    none_fixed : (key : List ℕ) (q : ℕ) → is_fixed c q ≡ true → (IsCommittedAt history q c.base → version_at versions key q ≡ None) → version_at versions key q ≡ None
    none_fixed key q fixed none = by (version_at versions key q) refl
      where
        by : (o : Option (Option (List ℕ))) → version_at versions key q ≡ o → version_at versions key q ≡ None
        by None e = e
        by (Some value) e = none (fixed_committed history c versions legal cut covered.part key q value fixed e)

    base_is : (key : List ℕ) → value_at history key c.base ≡ base_value c versions key
    base_is key = by (covered.listed key c.base far.listed)
      where
        by : GivesStore versions history key c.base → value_at history key c.base ≡ base_value c versions key
        by (inl g) =
            g.stored ∙ sym (base_newest c versions key g.number g.value order (record {
              passing = committed_fixed history c versions legal cut covered.part key g.number g.value g.there g.committed;
              there = g.there;
              newest = λ q lt fixed. none_fixed key q fixed (g.newest q lt);
            }))
        by (inr g) = g.missing ∙ sym (base_none c versions key order (λ q fixed. none_fixed key q fixed (g.none q)))

    -- ---- the full list

    legal_cut : IsLegalCut c (base_value c versions)
    legal_cut = cut_is_legal history c (base_value c versions) legal cut base_is

    full_legal : IsLegal full
    full_legal = full_is_legal c versions order (below history c versions legal cut covered.part) legal_cut

    agree : AgreeFrom history full c.base
    agree = cuts_agree history full c (legal_naming history legal.each) (legal_naming full full_legal.each) cut (full_is_cut c versions numbered) (λ key. base_is key ∙ sym (full_value c versions key numbered order))

    -- what the versions have the full list has
    fixed_version : (key : List ℕ) (p : ℕ) → is_fixed c p ≡ true → entry_version full p key ≡ version_at versions key p
    fixed_version key p fixed =
        let s = fixed_parts c p fixed in
        let within = s.within in
        ap (λ (h : List Entry). entry_version h p key) (full_is c versions)
        ∙ entry_version_old (front c versions c.base) c.entries p key (omega (arith, within, front_long c versions c.base))
        ∙ ap (λ (o : Option Entry). version_in o key) (front_at c versions c.base p s.low s.within)
        ∙ by (carried_at c p) refl s.other
      where
        by : (o : Option Carried) → carried_at c p ≡ o → is_some (carried_at c p) ≡ false → version_in (Some (front_entry_of versions p (carried_at c p))) key ≡ version_at versions key p
        by None e other = ap (λ (o : Option Carried). version_in (Some (front_entry_of versions p o)) key) e ∙ changes_to versions p key
        by (Some x) e other = let some : is_some (carried_at c p) ≡ true = ap is_some e in absurd cc

    part : (key : List ℕ) (p : ℕ) (value : Option (List ℕ)) → version_at versions key p ≡ Some value → entry_version full p key ≡ Some value
    part key p value there = elim (cases_lt c.base p) [
      | inl behind ↦ ap (λ (o : Option Entry). version_in o key) (sym (agree.entries p behind)) ∙ covered.part key p value there
      | inr le ↦ elim (cases_Bool (is_carried c p)) [
        | inl carried ↦ ap (λ (o : Option Entry). version_in o key) (sym (agree.carried p (sym (is_carried_is history c versions legal cut covered.part p) ∙ carried))) ∙ covered.part key p value there
        | inr other ↦ fixed_version key p (fixed_from c p (low p (covered.part key p value there)) le other) ∙ there
      ]
    ]
      where
        low : (q : ℕ) → entry_version history q key ≡ Some value → 1 ≤ q
        low zero e = absurd cc
        low (suc n) e = omega arith

    -- ---- what readers find

    to_history : (key : List ℕ) (p n : ℕ) (value : Option (List ℕ)) → c.base ≤ n → version_at versions key p ≡ Some value → IsCommittedAt full p n → IsCommittedAt history p n
    to_history key p n value above there committed =
        committed_by history p n (agree.committed key p n value value above (covered.part key p value there) (part key p value there) ∙ by_committed full p n committed)

    to_full : (key : List ℕ) (p n : ℕ) (value : Option (List ℕ)) → c.base ≤ n → version_at versions key p ≡ Some value → IsCommittedAt history p n → IsCommittedAt full p n
    to_full key p n value above there committed =
        committed_by full p n (sym (agree.committed key p n value value above (covered.part key p value there) (part key p value there)) ∙ by_committed history p n committed)

    none_there : (key : List ℕ) (q n : ℕ) → c.base ≤ n → IsCommittedAt full q n → (IsCommittedAt history q n → version_at versions key q ≡ None) → version_at versions key q ≡ None
    none_there key q n above committed none = by (version_at versions key q) refl
      where
        by : (o : Option (Option (List ℕ))) → version_at versions key q ≡ o → version_at versions key q ≡ None
        by None e = e
        by (Some value) e = none (to_history key q n value above e committed)

    gives : (key : List ℕ) (n : ℕ) → c.base ≤ n → n ≤ length history → GivesStore versions history key n → GivesStore versions full key n
    gives key n above within (inl g) = inl (record {
      number = g.number;
      value = g.value;
      there = g.there;
      committed = to_full key g.number n g.value above g.there g.committed;
      newest = λ q lt committed. none_there key q n above committed (g.newest q lt);
      stored = sym (agree.values key n above within) ∙ g.stored;
    })
    gives key n above within (inr g) = inr (record {
      none = λ p committed. none_there key p n above committed (g.none p);
      missing = sym (agree.values key n above within) ∙ g.missing;
    })

    -- ---- what must be there

    undecided_there : (key : List ℕ) (p : ℕ) (value : Option (List ℕ)) → is_undecided full p ≡ true → entry_version full p key ≡ Some value → version_at versions key p ≡ Some value
    undecided_there key p value undecided_p there =
        let stands = stands_for history c versions (legal_naming history legal.each) cut in
        let here : is_undecided history p ≡ true = stands.alike.same p ∙ undecided_p in
        covered.undecided key p value here (ap (λ (o : Option Entry). version_in o key) (stands.alike.prepares p here) ∙ there)

    undone_there : (key : List ℕ) (p : ℕ) (value : Option (List ℕ)) → undone_last full ≡ Some p → entry_version full (length full) key ≡ Some value → version_at versions key (length full) ≡ Some value
    undone_there key p value undone there =
        let stands = stands_for history c versions (legal_naming history legal.each) cut in
        let here : undone_last history ≡ Some p = stands.alike.undone ∙ undone in
        elim (cases_lt c.base (length history)) [
          | inl behind ↦
              let its : entry_version history (length history) key ≡ Some value =
              ap (λ (o : Option Entry). version_in o key) (agree.entries (length history) behind) ∙ ap (λ (n : ℕ). entry_version full n key) agree.long ∙ there in
              ap (version_at versions key) (sym agree.long) ∙ covered.undone key p value here its
          | inr all ↦ let none : undone_last history ≡ None = ap undone_last (sym (take_all c.base history all)) ∙ cut.whole in absurd cc
        ]

    pub reopened : IsReopened history c versions numbers from
    reopened = record {
      legal = legal_cut;
      below = below history c versions legal cut covered.part;
      full = full_legal;
      values = base_is;
      agree = agree;
      covered = record {
        part = part;
        undecided = undecided_there;
        undone = undone_there;
        listed = λ key n listed. gives key n (far.above n listed) (far.within n listed) (covered.listed key n listed);
        later = λ key n above within. let le = far.later in gives key n (omega (arith, le, above)) (omega (arith, within, agree.long)) (covered.later key n above (omega (arith, within, agree.long)));
      };
    }
