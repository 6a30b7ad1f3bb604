-- What is under each key and number of a copy's versions.
use Rattle.std.proofs.Common.{◌≡◌, ◌⊎◌, inl, inr, ℕ, ◌<◌, ◌≤◌, ◌^◌, ◌==◌, Bool, true, false, cond, List, [], ◌∷◌, ◌++◌, length, map, Option, None, Some, refl, sym, ap, ◌∙◌, arith}
use Rattle.std.specs.Prelude.{nat_le, nat_lt, is_some}
use Rattle.std.specs.List.{AllByRecursion, find, list_all}
use Rattle.std.specs.Option.{option_or}
use Rattle.std.proofs.lemmas.Bool.{and_from, eqb-true, le-leb, lt-ltb}
use Rattle.wp_model.specs.declared.carried.Carried.{Carried}
use Rattle.wp_model.specs.declared.row.Row.{Row}
use Rattle.wp_model.specs.declared.version.Version.{Version}
use Rattle.wp_model.specs.Batch.{change_to}
use Rattle.wp_model.specs.Legal.{log_end}
use Rattle.wp_model.specs.Rows.{pair_of}
use Rattle.wp_model.specs.Versions.{AreInOrder, version_at}
use Rattle.wp_model.proofs.Rows.{found}
use Rattle.wp_model.proofs.VersionLists.{IsBefore, in_order_parts}
use Rattle.wp_cuts.specs.Cut.{Cut, base_value, carried_at, is_carried, is_fixed}
use Rattle.wp_cuts.specs.Kept.{carried_versions}
use Rattle.wp_cuts.specs.LegalCut.{AreNumbered}
use Rattle.wp_cuts.proofs.FullList.{base_newest, base_none, fixed_parts}
use Rattle.wp_cuts.proofs.Versions.{IsNewestPassing}
use Rattle.wp_table.specs.Table.{is_flushed, is_numbered}
use Rattle.wp_merge.proofs.Merged.{is_here, missing}
use Rattle.wp_merge.proofs.Sorted.{at_append, at_sorted, in_order_sorted, own_value}
use Rattle.wp_checkpoint.specs.Copy.{MayBeCopied, copied_cut, copied_versions, version_of}
use Rattle.wp_checkpoint.proofs.RowLists.{Ascend, RowAt, no_row, one_row, row_at, row_of}
use Rattle.wp_checkpoint.proofs.Prepared.{at_carried, change_of, or_none}

-- what each version in order has, where it is found
all_found : (P : Version → Bool) (versions : List Version) → AreInOrder versions → ((v : Version) → version_at versions v.key v.number ≡ Some v.value → P v ≡ true) → list_all P versions ≡ true
all_found P [] in_order passes = refl
all_found P (v ∷ versions) in_order passes =
    let parts = in_order_parts v versions in_order in
    let here : P v ≡ true = passes v (own_value v versions) in
    let rest : list_all P versions ≡ true = all_found P versions parts.1 (λ w there. passes w (by w there (is_here w.key w.number v) refl parts.0)) in
    rw (here, rest) refl
  where
    by : (w : Version) → version_at versions w.key w.number ≡ Some w.value → (b : Bool) → is_here w.key w.number v ≡ b → IsBefore v versions → version_at (v ∷ versions) w.key w.number ≡ Some w.value
    by w there true is before = let none = missing w.key w.number v versions before is in absurd cc
    by w there false is before = ap (λ (b : Bool). cond b (Some v.value) (version_at versions w.key w.number)) is ∙ there

-- a carried prepare's number is from 1 to the base
carried_within : (base : ℕ) (xs : List Carried) (p : ℕ) (x : Carried) → AllByRecursion (λ (y : Carried). (1 ≤ y.number) × (y.number ≤ base)) xs → find (λ y. y.number == p) xs ≡ Some x → (1 ≤ p) × (p ≤ base)
carried_within base [] p x within e = absurd cc
carried_within base (y ∷ ys) p x within e = by (carried_within base ys p x within.1) (y.number == p) refl e
  where
    by : (find (λ z. z.number == p) ys ≡ Some x → (1 ≤ p) × (p ≤ base)) → (b : Bool) → (y.number == p) ≡ b → cond b (Some y) (find (λ z. z.number == p) ys) ≡ Some x → (1 ≤ p) × (p ≤ base)
    by again true here is = let same : y.number ≡ p = eqb-true y.number p here in let low = within.0.0 in let top = within.0.1 in (omega (arith, same, low), omega (arith, same, top))
    by again false other is = again is

module _ (at : ℕ) (carried : List Carried) (rows : List Row) (numbered : AreNumbered (copied_cut at carried)) (ascend : Ascend (map pair_of rows)) (each : AllByRecursion (MayBeCopied at carried) rows) where
  abbrev c : Cut
  c = copied_cut at carried

  abbrev own : List Version
  own = map version_of rows

  abbrev all : List Version
  all = copied_versions rows carried

  pub in_order : AreInOrder all
  in_order = in_order_sorted (own ++ carried_versions carried)

  at_all : (key : List ℕ) (n : ℕ) → version_at all key n ≡ option_or (version_at own key n) (change_of (carried_at c n) key)
  at_all key n = at_sorted (own ++ carried_versions carried) key n ∙ at_append own (carried_versions carried) key n ∙ ap (option_or (version_at own key n)) (at_carried carried key n numbered.ascend)

  row_there : (key : List ℕ) (n : ℕ) (value : Option (List ℕ)) → version_at own key n ≡ Some value → RowAt (MayBeCopied at carried) rows key n value
  row_there key n value there = row_at (MayBeCopied at carried) rows key n value ascend each there

  row_fixed : (key : List ℕ) (n : ℕ) (value : Option (List ℕ)) → version_at own key n ≡ Some value → is_fixed c n ≡ true
  row_fixed key n value there = let r = row_there key n value there in ap (is_fixed c) (sym r.numbered) ∙ r.passes.fixed

  -- ---- what is under a number that is no prepare's, and under a prepare's

  pub at_fixed : (key : List ℕ) (n : ℕ) → is_fixed c n ≡ true → version_at all key n ≡ version_at own key n
  at_fixed key n fixed = at_all key n ∙ by (carried_at c n) refl
    where
      by : (o : Option Carried) → carried_at c n ≡ o → option_or (version_at own key n) (change_of (carried_at c n) key) ≡ version_at own key n
      by (Some x) e = let other = (fixed_parts c n fixed).other in let some : is_carried c n ≡ true = ap is_some e in absurd cc
      by None e = ap (λ (o : Option Carried). option_or (version_at own key n) (change_of o key)) e ∙ or_none (version_at own key n)

  pub at_prepare : (key : List ℕ) (p : ℕ) (x : Carried) → carried_at c p ≡ Some x → version_at all key p ≡ change_to x.batch key
  at_prepare key p x found = at_all key p ∙ by (version_at own key p) refl
    where
      by : (o : Option (Option (List ℕ))) → version_at own key p ≡ o → option_or (version_at own key p) (change_of (carried_at c p) key) ≡ change_to x.batch key
      by (Some value) e = let other = (fixed_parts c p (row_fixed key p value e)).other in let some : is_carried c p ≡ true = ap is_some found in absurd cc
      by None e = ap (λ o. option_or o (change_of (carried_at c p) key)) e ∙ ap (λ (o : Option Carried). change_of o key) found

  -- the number of a version is fixed, or a prepare's
  abbrev pub IsRowsOrPrepares : ℕ → Type 0
  IsRowsOrPrepares n = (is_fixed c n ≡ true) ⊎ ((x : Carried) × (carried_at c n ≡ Some x))

  pub whose_number : (key : List ℕ) (n : ℕ) (value : Option (List ℕ)) → version_at all key n ≡ Some value → IsRowsOrPrepares n
  whose_number key n value there = by (carried_at c n) refl
    where
      by : (o : Option Carried) → carried_at c n ≡ o → IsRowsOrPrepares n
      by (Some x) e = inr (x, e)
      by None e = inl (row_fixed key n value (sym (at_all key n ∙ ap (λ (o : Option Carried). option_or (version_at own key n) (change_of o key)) e ∙ or_none (version_at own key n)) ∙ there))

  pub numbers : (key : List ℕ) (n : ℕ) (value : Option (List ℕ)) → version_at all key n ≡ Some value → (1 ≤ n) × (n ≤ at)
  numbers key n value there = by (whose_number key n value there)
    where
      by : IsRowsOrPrepares n → (1 ≤ n) × (n ≤ at)
      by (inl fixed) = let s = fixed_parts c n fixed in (s.low, s.within)
      by (inr (x, found)) = carried_within at carried n x numbered.within found

  -- ---- of the rows

  -- a version with a fixed number is a row's
  pub fixed_row : (key : List ℕ) (n : ℕ) (value : Option (List ℕ)) → is_fixed c n ≡ true → version_at all key n ≡ Some value → RowAt (MayBeCopied at carried) rows key n value
  fixed_row key n value fixed there = row_there key n value (sym (at_fixed key n fixed) ∙ there)

  pub fixed_alone : (key : List ℕ) (p q : ℕ) (value other : Option (List ℕ)) → is_fixed c p ≡ true → is_fixed c q ≡ true → version_at all key p ≡ Some value → version_at all key q ≡ Some other → p ≡ q
  fixed_alone key p q value other one two there also = one_row rows key p q value other ascend (sym (at_fixed key p one) ∙ there) (sym (at_fixed key q two) ∙ also)

  pub newest_fixed : (key : List ℕ) (n : ℕ) (value : Option (List ℕ)) → is_fixed c n ≡ true → version_at all key n ≡ Some value → IsNewestPassing (is_fixed c) key all n value
  newest_fixed key n value fixed there = record {
    passing = fixed;
    there = there;
    newest = λ q lt passes. by q lt passes (version_at all key q) refl;
  }
    where
      by : (q : ℕ) → n < q → is_fixed c q ≡ true → (o : Option (Option (List ℕ))) → version_at all key q ≡ o → o ≡ None
      by q lt passes None e = refl
      by q lt passes (Some other) e = let same = fixed_alone key n q value other fixed passes there e in absurd (omega (arith, lt, same))

  pub values : (key : List ℕ) → base_value c all key ≡ found key (map pair_of rows)
  values key = by (found key (map pair_of rows)) refl
    where
      by : (o : Option (List ℕ)) → found key (map pair_of rows) ≡ o → base_value c all key ≡ o
      by (Some value) e =
          let row = row_of rows key value e in
          let fixed = row_fixed key row.0 (Some value) row.1 in
          base_newest c all key row.0 (Some value) in_order (newest_fixed key row.0 (Some value) fixed (at_fixed key row.0 fixed ∙ row.1))
      by None e = base_none c all key in_order (λ q passes. at_fixed key q passes ∙ no_row rows key q ascend e)

  -- ---- they may be in a table

  pub all_numbered : at < log_end → list_all is_numbered all ≡ true
  all_numbered small = all_found is_numbered all in_order (λ v there. let n = numbers v.key v.number v.value there in let low = n.0 in let top = n.1 in
      and_from (nat_le 1 v.number) (nat_lt v.number (2 ^ 56)) (le-leb 1 v.number low) (lt-ltb v.number (2 ^ 56) (omega (arith, small, top))))

  pub all_flushed : list_all (is_flushed at) all ≡ true
  all_flushed = all_found (is_flushed at) all in_order (λ v there. let n = numbers v.key v.number v.value there in le-leb v.number at n.1)

  -- where there are any, the number is from 1 on
  pub some_low : (vs : List Version) → vs ≡ all → 1 ≤ length vs → 1 ≤ at
  some_low [] is some = absurd (omega arith)
  some_low (v ∷ vs) is some =
      let n = numbers v.key v.number v.value (ap (λ (l : List Version). version_at l v.key v.number) (sym is) ∙ own_value v vs) in
      let low = n.0 in let top = n.1 in omega (arith, low, top)
