-- What an edit covers, cut at the edit's base, opens again: to the list that stands for the cut and the edit's versions.
use Rattle.std.proofs.Common.{◌≡◌, ℕ, ◌<◌, ◌≤◌, Bool, true, false, true≢false, ◌⊎◌, ◌==◌, cond, nat_le, List, [], ◌∷◌, ◌++◌, length, map, drop, Option, Some, None, refl, sym, ap, ◌∙◌, subst, inl, inr, arith}
use Rattle.std.specs.List.{filter}
use Rattle.std.proofs.lemmas.Bool.{cases_lt, eq-eqb, eqb-true, le-leb, ne_eqb, or_cases, or_left}
use Rattle.wp_model.specs.declared.carried.Carried.{Carried}
use Rattle.wp_model.specs.declared.entry.Entry.{Entry}
use Rattle.wp_model.specs.declared.entry.Entry.TheVariants.{Write}
use Rattle.wp_model.specs.declared.version.Version.{Version}
use Rattle.wp_model.specs.Covered.{IsCovered, is_among}
use Rattle.wp_model.specs.Flushed.{InstalledEdit, IsEditCovered, later_versions, versions_after}
use Rattle.wp_model.specs.Legal.{IsLegal}
use Rattle.wp_model.specs.Versions.{AreInOrder, version_at}
use Rattle.wp_cuts.specs.Agree.{AgreeFrom}
use Rattle.wp_cuts.specs.Cut.{Cut, IsCut, carried_at, change_in, changes_at, front_entry, front_entry_of, full_of, is_fixed}
use Rattle.wp_cuts.specs.LegalCut.{IsOrderlyCut, AreBelow}
use Rattle.wp_cuts.specs.Reopened.{AreFromBase, IsReopened}
use Rattle.wp_cuts.specs.UpTo.{HaveSameUpTo}
use Rattle.wp_cuts.proofs.FullList.{full_is, full_is_cut, fixed_parts}
use Rattle.wp_cuts.proofs.Members.{some_order}
use Rattle.wp_cuts.proofs.Reopening.{reopened}
use Rattle.wp_cuts.proofs.Standing.{cut_numbered}
use Rattle.wp_cuts.proofs.UpTo.{later_above, map_within, same_with_later}
use Rattle.wp_merge.specs.Merge.{sorted_of}
use Rattle.wp_merge.proofs.Sorted.{at_sorted, in_order_same, in_order_sorted}
use Rattle.wp_core.specs.States.{up_to}
use Rattle.wp_core.proofs.PendingVersions.{covers_same}
use Rattle.wp_core.proofs.PublishesVersions.{up_to_past, up_to_within}

-- ---- what stands up to a number

-- lists in order with the same versions up to a number have the same of these
same_up_to : (n : ℕ) (one other : List Version) → AreInOrder one → AreInOrder other → HaveSameUpTo n one other → up_to n one ≡ up_to n other
same_up_to n one other order also same =
    in_order_same (up_to n one) (up_to n other) (some_order (λ v. nat_le v.number n) one order) (some_order (λ v. nat_le v.number n) other also) (λ key p. by key p (cases_lt n p))
  where
    by : (key : List ℕ) (p : ℕ) → (n < p) ⊎ (p ≤ n) → version_at (up_to n one) key p ≡ version_at (up_to n other) key p
    by key p (inl past) = up_to_past n one key p past ∙ sym (up_to_past n other key p past)
    by key p (inr low) = up_to_within n one key p low ∙ same key p low ∙ sym (up_to_within n other key p low)

-- those with one number are among those up to it
under_low : (n p : ℕ) (versions : List Version) → p ≤ n → filter (λ v. v.number == p) (up_to n versions) ≡ filter (λ v. v.number == p) versions
under_low n p [] low = refl
under_low n p (v ∷ versions) low = by (nat_le v.number n) refl (under_low n p versions low)
  where
    by : (b : Bool) → nat_le v.number n ≡ b → filter (λ w. w.number == p) (up_to n versions) ≡ filter (λ w. w.number == p) versions
        → filter (λ w. w.number == p) (cond b (v ∷ up_to n versions) (up_to n versions)) ≡ cond (v.number == p) (v ∷ filter (λ w. w.number == p) versions) (filter (λ w. w.number == p) versions)
    by true is rest = ap (λ (vs : List Version). cond (v.number == p) (v ∷ vs) vs) rest
    by false is rest = rw (ne_eqb v.number p (λ same. true≢false (sym (ap (λ m. nat_le m n) same ∙ le-leb p n low) ∙ is))) rest

same_changes : (n p : ℕ) (one other : List Version) → AreInOrder one → AreInOrder other → HaveSameUpTo n one other → p ≤ n → changes_at one p ≡ changes_at other p
same_changes n p one other order also same low =
    ap (map change_in) (sym (under_low n p one low) ∙ ap (filter (λ v. v.number == p)) (same_up_to n one other order also same) ∙ under_low n p other low)

same_front : (n p : ℕ) (one other : List Version) (o : Option Carried) → AreInOrder one → AreInOrder other → HaveSameUpTo n one other → p ≤ n → front_entry_of one p o ≡ front_entry_of other p o
same_front n p one other None order also same low = ap Write (same_changes n p one other order also same low)
same_front n p one other (Some x) order also same low = refl

-- so they stand for one list
same_full : (c : Cut) (one other : List Version) → AreInOrder one → AreInOrder other → HaveSameUpTo c.base one other → full_of c one ≡ full_of c other
same_full c one other order also same =
    full_is c one
    ∙ ap (λ (h : List Entry). h ++ c.entries) (map_within (front_entry c one) (front_entry c other) 1 c.base (λ p lt. same_front c.base p one other (carried_at c p) order also same (omega (arith, lt))))
    ∙ sym (full_is c other)

-- ---- an edit

only : (n m : ℕ) → is_among (n ∷ []) m ≡ true → n ≡ m
only n m h = elim (or_cases (n == m) false h) [
  | inl here ↦ eqb-true n m here
  | inr never ↦ absurd cc
]

-- The cut, with the edit's versions, opens: they stand for a legal list with this cut, which agrees with the history from the base on, and which the
-- edit covers.
pub record ReopensEdit (history : List Entry) (c : Cut) (edit : InstalledEdit) : Type 0 where
  pub orderly : IsOrderlyCut c
  pub entries : c.base ≡ 0 → IsLegal c.entries
  pub below : AreBelow c edit.versions
  pub cut : IsCut (full_of c edit.versions) c
  pub legal : IsLegal (full_of c edit.versions)
  pub agree : AgreeFrom history (full_of c edit.versions) c.base
  pub covered : IsEditCovered (full_of c edit.versions) edit

module _ (history : List Entry) (c : Cut) (edit : InstalledEdit) (legal : IsLegal history) (cut : IsCut history c) (based : c.base ≡ edit.segment.base) (order : AreInOrder edit.versions) (k : IsEditCovered history edit) where
  abbrev flushed : ℕ
  flushed = edit.flushed

  abbrev later : List Version
  later = later_versions history flushed

  -- all versions, in order
  abbrev all : List Version
  all = sorted_of (edit.versions ++ later)

  at_all : (key : List ℕ) (p : ℕ) → version_at all key p ≡ version_at (edit.versions ++ later) key p
  at_all key p = at_sorted (edit.versions ++ later) key p

  low : c.base ≤ flushed
  low = subst (λ (n : ℕ). n ≤ flushed) (sym based) k.base

  within : c.base ≤ length history
  within = let fits = k.flushed in omega (arith, low, fits)

  from_base : AreFromBase history c.base (c.base ∷ []) (length history)
  from_base = record {
    listed = or_left (c.base == c.base) false (eq-eqb c.base c.base refl);
    above = λ n listed. let same = only c.base n listed in omega (arith, same);
    within = λ n listed. let same = only c.base n listed in omega (arith, same, within);
    later = within;
  }

  all_cover : IsCovered all history (c.base ∷ []) (length history)
  all_cover =
      covers_same (edit.versions ++ later) all history (c.base ∷ []) (length history) at_all
      (subst (λ (n : ℕ). IsCovered (edit.versions ++ later) history (n ∷ []) (length history)) (sym based) k.covered)

  of_all : IsReopened history c all (c.base ∷ []) (length history)
  of_all = reopened history c all legal cut (in_order_sorted (edit.versions ++ later)) (c.base ∷ []) (length history) from_base all_cover

  same_low : HaveSameUpTo c.base all edit.versions
  same_low key p le = at_all key p ∙ same_with_later c.base edit.versions later (later_above history c.base flushed low) key p le

  -- the later versions stand for nothing up to the base
  one_list : full_of c all ≡ full_of c edit.versions
  one_list = same_full c all edit.versions (in_order_sorted (edit.versions ++ later)) order same_low

  agree_full : AgreeFrom history (full_of c edit.versions) c.base
  agree_full = subst (λ (h : List Entry). AgreeFrom history h c.base) one_list of_all.agree

  -- the entries behind the flushed number are the same, and so are their versions
  same_later : later_versions (full_of c edit.versions) flushed ≡ later
  same_later =
      let fits = k.flushed in
      ap (versions_after flushed) (sym (ap (λ (d : Cut). d.entries) (agree_full.cuts flushed low fits)))

  covered_full : IsEditCovered (full_of c edit.versions) edit
  covered_full = record {
    base = k.base;
    flushed = let fits = k.flushed in omega (arith, fits, agree_full.long);
    covered = subst (λ (x : List Version × ℕ × ℕ). IsCovered (edit.versions ++ x.0) (full_of c edit.versions) (x.1 ∷ []) x.2) (λ i. (sym same_later i, based i, agree_full.long i))
        (covers_same all (edit.versions ++ later) (full_of c edit.versions) (c.base ∷ []) (length history) (λ key p. sym (at_all key p))
        (subst (λ (h : List Entry). IsCovered all h (c.base ∷ []) (length history)) one_list of_all.covered));
  }

  pub reopens_edit : ReopensEdit history c edit
  reopens_edit = record {
    orderly = of_all.legal.orderly;
    entries = λ none. subst IsLegal (sym (ap (λ (d : Cut). d.entries) cut.is ∙ ap (λ n. drop n history) none)) legal;
    below = λ key q p value x there in_step carried changes. of_all.below key q p value x (same_low key q (in_step_low q in_step) ∙ there) in_step carried changes;
    cut = full_is_cut c edit.versions (cut_numbered history c cut);
    legal = subst IsLegal one_list of_all.full;
    agree = agree_full;
    covered = covered_full;
  }
    where
      in_step_low : (q : ℕ) → is_fixed c q ≡ true → q ≤ c.base
      in_step_low q in_step = (fixed_parts c q in_step).within
