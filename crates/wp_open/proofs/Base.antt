-- What tables show at a base, of the list that stands for a cut and them.
use Rattle.std.proofs.Common.{◌≡◌, ℕ, ◌≤◌, Bool, true, false, ◌&&◌, not, List, [], ◌∷◌, ◌++◌, length, take, Option, Some, None, refl, sym, ap, ◌∙◌, subst, inl, inr, arith}
use Rattle.std.specs.Prelude.{is_some, nat_le}
use Rattle.std.specs.List.{AllByRecursion}
use Rattle.std.specs.Option.{option_or}
use Rattle.std.proofs.lemmas.Bool.{leb-true}
use Rattle.wp_model.specs.declared.carried.Carried.{Carried}
use Rattle.wp_model.specs.declared.entry.Entry.{Entry}
use Rattle.wp_model.specs.declared.entry.Entry.TheVariants.{Write, Prepare, Commit, Undo, Close}
use Rattle.wp_model.specs.declared.version.Version.{Version}
use Rattle.wp_model.specs.Covered.{GivesStore, IsCovered}
use Rattle.wp_model.specs.Decision.{IsCommittedAt, entry_version, version_in}
use Rattle.wp_model.specs.Flushed.{later_versions}
use Rattle.wp_model.specs.History.{entry_at, is_prepare}
use Rattle.wp_model.specs.Legal.{IsLegal, undone_last}
use Rattle.wp_model.specs.Versions.{AreInOrder, version_at}
use Rattle.wp_history_laws.proofs.Listed.{only_listed}
use Rattle.wp_cuts.specs.Cut.{Cut, IsCut, carried_at, full_of, is_start, value_in}
use Rattle.wp_cuts.specs.Cut as cut
use Rattle.wp_cuts.specs.LegalCut.{AreNumbered}
use Rattle.wp_cuts.proofs.FullList.{full_carried, full_is_cut, full_value, fixed_from, fixed_parts}
use Rattle.wp_cuts.proofs.Fixed.{committed_fixed, fixed_committed}
use Rattle.wp_cuts.proofs.UpTo.{gives_by_same, later_above, same_with_later}
use Rattle.wp_cuts.proofs.Versions.{changes_to, newest_passing, found_none, found_some}
use Rattle.wp_cuts.proofs.Whole.{full_fixed}
use Rattle.wp_history.specs.History.{RoomyHistory}
use Rattle.wp_cover.specs.Sources.{AreFixed, is_fixed}
use Rattle.wp_cover.proofs.Places.{none_later, or_none}
use Rattle.wp_merge.specs.Merge.{joined}
use Rattle.wp_merge.proofs.Sorted.{at_append, at_sorted, in_order_sorted}
use Rattle.wp_contents.specs.Opens.{all_in, history_over}

-- ---- a base

-- no undo ends what begins a list from a base on
pub starts_undone : (entries : List Entry) → AllByRecursion (λ entry. is_start entry ≡ true) entries → undone_last entries ≡ None
starts_undone [] starts = refl
starts_undone (Write batch ∷ []) starts = refl
starts_undone (Write batch ∷ second ∷ others) starts = starts_undone (second ∷ others) starts.1
starts_undone (Prepare name batch ∷ []) starts = refl
starts_undone (Prepare name batch ∷ second ∷ others) starts = starts_undone (second ∷ others) starts.1
starts_undone (Commit p ∷ entries) starts = let no = starts.0 in absurd cc
starts_undone (Undo p batch ∷ entries) starts = let no = starts.0 in absurd cc
starts_undone (Close p ∷ entries) starts = let no = starts.0 in absurd cc

pub has_cut : (h : RoomyHistory) → h.base ≤ length h.entries → AllByRecursion (λ entry. is_start entry ≡ true) (take h.base h.entries) → IsCut h.entries (cut.cut_at h.entries h.base)
has_cut h within starts = record { within = within; whole = starts_undone (take h.base h.entries) starts; is = refl }

-- ---- fixed numbers

-- a number is fixed by what stands there, and by what is carried
pub same_fixed : (h : RoomyHistory) (c : Cut) (versions : List Version) (p : ℕ) → AreNumbered c → h.base ≡ c.base → h.entries ≡ full_of c versions → is_fixed h p ≡ cut.is_fixed c p
same_fixed h c versions p numbered base_is entries_are =
    (λ i. nat_le 1 p && (nat_le p (base_is i) && not (is_prepare (entry_at (entries_are i) p))))
    ∙ by (nat_le 1 p) refl (nat_le p c.base) refl
  where
    carries : 1 ≤ p → p ≤ c.base → (o : Option Carried) → carried_at c p ≡ o → is_prepare (entry_at (full_of c versions) p) ≡ cut.is_carried c p
    carries low le None e = ap is_prepare (full_fixed c versions p (fixed_from c p low le (ap is_some e))) ∙ sym (ap is_some e)
    carries low le (Some x) e = ap is_prepare (full_carried c versions p x numbered e) ∙ sym (ap is_some e)

    by : (a : Bool) → nat_le 1 p ≡ a → (b : Bool) → nat_le p c.base ≡ b → (a && (b && not (is_prepare (entry_at (full_of c versions) p)))) ≡ (a && (b && not (cut.is_carried c p)))
    by false low b e = refl
    by true low false e = refl
    by true low true e = ap not (carries (leb-true 1 p low) (leb-true p c.base e) (carried_at c p) refl)

module _ (c : Cut) (parts : List (List Version)) (numbered : AreNumbered c) where
  abbrev all : List Version
  all = all_in parts

  abbrev full : List Entry
  full = history_over c parts

  order : AreInOrder all
  order = in_order_sorted (joined parts)

  -- what the tables have under fixed numbers is the list's
  pub fixed_own : (h : RoomyHistory) (flushed : ℕ) → h.base ≡ c.base → h.entries ≡ full → c.base ≤ flushed → AreFixed h (joined parts ++ later_versions h.entries flushed)
  fixed_own h flushed base_is entries_are low key p value fixed there =
      let its : cut.is_fixed c p ≡ true = sym (same_fixed h c all p numbered base_is entries_are) ∙ fixed in
      let within = (fixed_parts c p its).within in
      let none = none_later h.entries flushed key p (omega (arith, within, low)) in
      let here : version_at (joined parts) key p ≡ Some value =
      sym (or_none (version_at (joined parts) key p))
      ∙ ap (option_or (version_at (joined parts) key p)) (sym none)
      ∙ sym (at_append (joined parts) (later_versions h.entries flushed) key p)
      ∙ there in
      ap (λ (es : List Entry). entry_version es p key) entries_are
      ∙ ap (λ (o : Option Entry). version_in o key) (full_fixed c all p its)
      ∙ changes_to all p key
      ∙ at_sorted (joined parts) key p
      ∙ here

  -- ---- readers at the base

  module _ (legal : IsLegal full) (part : (key : List ℕ) (p : ℕ) (value : Option (List ℕ)) → version_at all key p ≡ Some value → entry_version full p key ≡ Some value) where
    only_fixed : (key : List ℕ) (p : ℕ) → (cut.is_fixed c p ≡ true → version_at all key p ≡ None) → IsCommittedAt full p c.base → version_at all key p ≡ None
    only_fixed key p none committed = by (version_at all key p) refl
      where
        by : (o : Option (Option (List ℕ))) → version_at all key p ≡ o → version_at all key p ≡ None
        by None e = e
        by (Some value) e = none (committed_fixed full c all legal (full_is_cut c all numbered) part key p value e committed)

    gives_at_base : (key : List ℕ) → GivesStore all full key c.base
    gives_at_base key = by (newest_passing (cut.is_fixed c) key all) refl
      where
        by : (o : Option Version) → newest_passing (cut.is_fixed c) key all ≡ o → GivesStore all full key c.base
        by None e = inr (record {
          none = λ p committed. only_fixed key p (found_none (cut.is_fixed c) key all e p) committed;
          missing = full_value c all key numbered order ∙ ap value_in e;
        })
        by (Some v) e =
            let it = found_some (cut.is_fixed c) key all v order e in
            inl (record {
              number = v.number;
              value = v.value;
              there = it.there;
              committed = fixed_committed full c all legal (full_is_cut c all numbered) part key v.number v.value it.passing it.there;
              newest = λ q above committed. only_fixed key q (it.newest q above) committed;
              stored = full_value c all key numbered order ∙ ap value_in e;
            })

    -- with later versions too
    gives_with_later : (flushed : ℕ) (key : List ℕ) → c.base ≤ flushed → GivesStore (all ++ later_versions full flushed) full key c.base
    gives_with_later flushed key low =
        let cuts = full_is_cut c all numbered in
        gives_by_same full all (all ++ later_versions full flushed) c.base key legal cuts.within
        (λ k p le. sym (same_with_later c.base all (later_versions full flushed) (later_above full c.base flushed low) k p le))
        (gives_at_base key)

  -- so what covers the end covers the base
  pub base_covered : (flushed : ℕ) → IsLegal full → c.base ≤ flushed → IsCovered (all ++ later_versions full flushed) full [] (length full) → IsCovered (all ++ later_versions full flushed) full (c.base ∷ []) (length full)
  base_covered flushed legal low covered = record {
    part = covered.part;
    undecided = covered.undecided;
    undone = covered.undone;
    listed = λ key n among. subst (GivesStore (all ++ later_versions full flushed) full key) (only_listed c.base n among) (gives_with_later legal part flushed key low);
    later = covered.later;
  }
    where
      found_first : (key : List ℕ) (p : ℕ) (value : Option (List ℕ)) → version_at all key p ≡ Some value → version_at (all ++ later_versions full flushed) key p ≡ Some value
      found_first key p value there = at_append all (later_versions full flushed) key p ∙ ap (λ o. option_or o (version_at (later_versions full flushed) key p)) there

      part : (key : List ℕ) (p : ℕ) (value : Option (List ℕ)) → version_at all key p ≡ Some value → entry_version full p key ≡ Some value
      part key p value there = covered.part key p value (found_first key p value there)
