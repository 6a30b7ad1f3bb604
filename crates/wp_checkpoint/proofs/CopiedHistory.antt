-- The list that stands for a copy is legal, and its versions cover it.
use Rattle.std.proofs.Common.{◌≡◌, inl, inr, ℕ, ◌<◌, ◌-◌, true, true≢false, List, [], ◌∷◌, ◌++◌, length, map, take, drop, Option, None, Some, refl, sym, ap, ◌∙◌, subst, arith}
use Rattle.std.specs.Prelude.{is_some}
use Rattle.std.specs.List.{AllByRecursion}
use Rattle.std.proofs.Math.Seq.{take-length}
use Rattle.std.proofs.lemmas.List.{append-nil, drop_all}
use Rattle.wp_model.specs.declared.carried.Carried.{Carried}
use Rattle.wp_model.specs.declared.entry.Entry.{Entry}
use Rattle.wp_model.specs.declared.row.Row.{Row}
use Rattle.wp_model.specs.declared.version.Version.{Version}
use Rattle.wp_model.specs.Covered.{IsCovered}
use Rattle.wp_model.specs.Decision.{IsCommittedAt, entry_version, version_in}
use Rattle.wp_model.specs.Flushed.{IsEditCovered, later_versions, versions_after}
use Rattle.wp_model.specs.History.{is_changed, is_undecided, value_at}
use Rattle.wp_model.specs.Legal.{IsLegal, log_end, undone_last}
use Rattle.wp_model.specs.Rows.{pair_of}
use Rattle.wp_model.specs.Versions.{AreInOrder, version_at}
use Rattle.wp_model.proofs.Tests.{none_some}
use Rattle.wp_cuts.specs.Copied.{AreCopied}
use Rattle.wp_cuts.specs.Cut.{Cut, IsCut, base_value, carried_at, is_carried, is_fixed, value_in}
use Rattle.wp_cuts.specs.LegalCut.{AreApart, AreBelow, AreNumbered, IsLegalCut, IsOrderlyCut}
use Rattle.wp_cuts.proofs.Copying.{copy_covers}
use Rattle.wp_cuts.proofs.Fixed.{committed_fixed, fixed_committed, is_carried_is}
use Rattle.wp_cuts.proofs.FullLegal.{full_is_legal}
use Rattle.wp_cuts.proofs.FullList.{base_newest, full_carried, full_is_cut, full_long, full_value}
use Rattle.wp_cuts.proofs.Versions.{changes_to, found_some, newest_passing}
use Rattle.wp_cuts.proofs.Whole.{full_fixed, full_rest, full_undone}
use Rattle.wp_checkpoint.specs.Copy.{MayBeCopied, copied_cut, copied_history, copied_versions, edit_with}
use Rattle.wp_checkpoint.proofs.RowLists.{Ascend}
use Rattle.wp_checkpoint.proofs.CopiedVersions as of

module _ (at : ℕ) (carried : List Carried) (rows : List Row) (small : at < log_end) (numbered : AreNumbered (copied_cut at carried)) (apart : AreApart (copied_cut at carried)) (ascend : Ascend (map pair_of rows))
    (each : AllByRecursion (MayBeCopied at carried) rows) where
  abbrev c : Cut
  c = copied_cut at carried

  abbrev all : List Version
  all = copied_versions rows carried

  abbrev history : List Entry
  history = copied_history at rows carried

  in_order : AreInOrder all
  in_order = of.in_order at carried rows numbered ascend each

  -- ---- it is legal

  pub orderly : IsOrderlyCut c
  orderly = record { few = omega (arith, small); numbered = numbered; apart = apart; each = λ n entry e. absurd cc }

  pub below : AreBelow c all
  below key q p value x there fixed found changed =
      let r = of.fixed_row at carried rows numbered ascend each key q value fixed there in
      let lt = r.passes.below p x found (ap (is_changed x.batch) r.of_key ∙ changed) in
      let same = r.numbered in
      omega (arith, lt, same)

  pub legal_cut : IsLegalCut c (base_value c all)
  legal_cut = record { orderly = orderly; restores = λ n entry e. absurd cc }

  pub legal : IsLegal history
  legal = full_is_legal c all in_order below legal_cut

  cut : IsCut history c
  cut = full_is_cut c all numbered

  pub long : length history ≡ at
  long = omega (arith, full_long c all)

  ended : undone_last history ≡ None
  ended = full_undone c all

  -- ---- its versions are a copy of it

  part : (key : List ℕ) (p : ℕ) (value : Option (List ℕ)) → version_at all key p ≡ Some value → entry_version history p key ≡ Some value
  part key p value there = by (of.whose_number at carried rows numbered ascend each key p value there)
    where
      by : of.IsRowsOrPrepares at carried rows numbered ascend each p → entry_version history p key ≡ Some value
      by (inl fixed) = ap (λ (o : Option Entry). version_in o key) (full_fixed c all p fixed) ∙ changes_to all p key ∙ there
      by (inr (x, found)) = ap (λ (o : Option Entry). version_in o key) (full_carried c all p x numbered found) ∙ sym (of.at_prepare at carried rows numbered ascend each key p x found) ∙ there

  undecided_there : (key : List ℕ) (p : ℕ) (value : Option (List ℕ)) → is_undecided history p ≡ true → entry_version history p key ≡ Some value → version_at all key p ≡ Some value
  undecided_there key p value undecided is = by (carried_at c p) refl
    where
      carried_too : is_carried c p ≡ true
      carried_too =
          is_carried_is history c all legal cut part p
          ∙ ap (λ (n : ℕ). is_undecided (take n history) p) (sym long)
          ∙ ap (λ (h : List Entry). is_undecided h p) (take-length history)
          ∙ undecided

      by : (o : Option Carried) → carried_at c p ≡ o → version_at all key p ≡ Some value
      by None e = absurd (true≢false (sym carried_too ∙ ap is_some e))
      by (Some x) e = of.at_prepare at carried rows numbered ascend each key p x e ∙ sym (ap (λ (o : Option Entry). version_in o key) (full_carried c all p x numbered e)) ∙ is

  -- what is committed at the end has a fixed number
  fixed_at_end : (key : List ℕ) (p : ℕ) (value : Option (List ℕ)) → version_at all key p ≡ Some value → IsCommittedAt history p (length history) → is_fixed c p ≡ true
  fixed_at_end key p value there committed = committed_fixed history c all legal cut part key p value there (subst (IsCommittedAt history p) long committed)

  value_is : (key : List ℕ) → value_at history key (length history) ≡ base_value c all key
  value_is key = ap (value_at history key) long ∙ full_value c all key numbered in_order

  there_by : (key value : List ℕ) → value_at history key (length history) ≡ Some value → (p : ℕ) × IsCommittedAt history p (length history) × (version_at all key p ≡ Some (Some value))
  there_by key value is = by (newest_passing (is_fixed c) key all) refl
    where
      by : (o : Option Version) → newest_passing (is_fixed c) key all ≡ o → (p : ℕ) × IsCommittedAt history p (length history) × (version_at all key p ≡ Some (Some value))
      by None e = absurd (none_some (base_value c all key) value (ap value_in e) (sym (value_is key) ∙ is))
      by (Some v) e =
          let newest = found_some (is_fixed c) key all v in_order e in
          let has : v.value ≡ Some value = sym (ap value_in e) ∙ sym (value_is key) ∙ is in (
            v.number,
            subst (IsCommittedAt history v.number) (sym long) (fixed_committed history c all legal cut part key v.number v.value newest.passing newest.there),
            newest.there ∙ ap (λ (value : Option (List ℕ)). Some value) has,
          )

  copied : AreCopied history all
  copied = record {
    order = in_order;
    part = part;
    undecided = undecided_there;
    there = there_by;
    alone = λ key p q value other there also one two.
        of.fixed_alone at carried rows numbered ascend each key p q value other (fixed_at_end key p value there one) (fixed_at_end key q other also two) there also;
    shown = λ key p value there committed.
        value_is key ∙ base_newest c all key p (Some value) in_order (of.newest_fixed at carried rows numbered ascend each key p (Some value) (fixed_at_end key p (Some value) there committed) there);
    values = λ key p there committed.
        let r = of.fixed_row at carried rows numbered ascend each key p None (fixed_at_end key p None there committed) there in
        let has = r.has in absurd cc;
  }

  covered : IsCovered all history (at ∷ []) (length history)
  covered = subst (λ (n : ℕ). IsCovered all history (n ∷ []) (length history)) long (copy_covers history all legal ended copied)

  none_later : later_versions history at ≡ []
  none_later = ap (versions_after at) (full_rest c all at (omega arith) ∙ nothing (at - at))
    where
      nothing : (n : ℕ) → drop n (let none : List Entry = [] in none) ≡ []
      nothing n = drop_all n [] (omega arith)

  pub edit_covered : IsEditCovered history (edit_with at all)
  edit_covered = record {
    base = omega arith;
    flushed = omega (arith, long);
    covered = subst (λ (vs : List Version). IsCovered vs history (at ∷ []) (length history)) (sym (ap (λ (later : List Version). all ++ later) none_later ∙ append-nil all)) covered;
  }
