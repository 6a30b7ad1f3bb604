-- A version beside the carried prepare that has its key.
use Rattle.std.proofs.Common.{◌≡◌, ℕ, suc, ◌<◌, Bool, true, false, ◌&&◌, ◌||◌, not, cond, List, [], ◌∷◌, Option, Some, None, refl, sym, ap, ◌∙◌, arith}
use Rattle.std.specs.Prelude.{nat_lt, option_map, slice_get}
use Rattle.std.specs.BTreeMap.{get}
use Rattle.std.specs.List.{find, list_all}
use Rattle.std.proofs.lemmas.Bool.{false≢true}
use Rattle.wp_model.specs.declared.carried.Carried.{Carried}
use Rattle.wp_model.specs.declared.version.Version.{Version}
use Rattle.wp_model.specs.Batch.{key_cmp}
use Rattle.wp_model.specs.History.{is_changed}
use Rattle.wp_history.specs.History.{RoomyHistory}
use Rattle.wp_history.specs.Holders.{Holds, key_holder}
use Rattle.wp_history.specs.Outline.{cut_in}
use Rattle.wp_history.specs.declared.holders.Holders.{Holders}
use Rattle.wp_history.proofs.Holding.{never_both}
use Rattle.wp_cover.specs.Sources.{is_fixed}
use Rattle.wp_open.specs.Standing.{fits, is_under}

module _ (v : Version) where
  -- no two of them have its key
  abbrev AreAlone : List Carried → Type 0
  AreAlone xs = (i j : ℕ) (x y : Carried) → i < j → slice_get xs i ≡ Some x → slice_get xs j ≡ Some y → is_changed x.batch v.key ≡ true → is_changed y.batch v.key ≡ true → ⊥

  all_free : (xs : List Carried) → ((j : ℕ) (z : Carried) → slice_get xs j ≡ Some z → is_changed z.batch v.key ≡ false) → list_all (is_under v) xs ≡ true
  all_free [] free = refl
  all_free (x ∷ xs) free = rw (free 0 x refl) (all_free xs (λ j z at. free (suc j) z at))

  not_also : (x : Carried) (xs : List Carried) → AreAlone (x ∷ xs) → is_changed x.batch v.key ≡ true → (j : ℕ) (z : Carried) → slice_get xs j ≡ Some z → (b : Bool) → is_changed z.batch v.key ≡ b → b ≡ false
  not_also x xs alone changed j z at true e = absurd (alone 0 (suc j) x z (omega arith) refl at changed e)
  not_also x xs alone changed j z at false e = refl

  and_true : (b : Bool) → (b && true) ≡ b
  and_true true = refl
  and_true false = refl

  -- it is below the prepare with that number, if one has its key
  abbrev below_holder : Option ℕ → Bool
  below_holder None = true
  below_holder (Some number) = nat_lt v.number number

  under_by : (xs : List Carried) → AreAlone xs → below_holder (key_holder xs v.key) ≡ list_all (is_under v) xs
  under_by [] alone = refl
  under_by (x ∷ xs) alone = by (is_changed x.batch v.key) refl (under_by xs (λ i j y z lt at there. alone (suc i) (suc j) y z (omega (arith, lt)) at there))
    where
      by : (b : Bool) → is_changed x.batch v.key ≡ b → below_holder (key_holder xs v.key) ≡ list_all (is_under v) xs
          → below_holder (option_map (λ (y : Carried). y.number) (cond b (Some x) (find (λ y. is_changed y.batch v.key) xs))) ≡ ((not b || nat_lt v.number x.number) && list_all (is_under v) xs)
      by true e rest =
          let others : list_all (is_under v) xs ≡ true = all_free xs (λ j z at. not_also x xs alone e j z at (is_changed z.batch v.key) refl) in
          sym (ap (λ (b : Bool). nat_lt v.number x.number && b) others ∙ and_true (nat_lt v.number x.number))
      by false e rest = rest

  module _ (xs : List Carried) (holders : Holders) (holds : Holds xs holders) where
    is_below : (o : Option ℕ) → o ≡ get key_cmp holders.keys v.key → below_holder o ≡ list_all (is_under v) xs
    is_below o found = ap below_holder (found ∙ holds.keys.each v.key) ∙ under_by xs (λ i j x y lt at there one other. never_both xs i j x y v.key holds.apart lt at there one other)

    pub under_one : (number : ℕ) → Some number ≡ get key_cmp holders.keys v.key → nat_lt v.number number ≡ list_all (is_under v) xs
    under_one number found = is_below (Some number) found

    pub under_none : None ≡ get key_cmp holders.keys v.key → true ≡ list_all (is_under v) xs
    under_none found = is_below None found

-- ---- where no version has a fixed number

pub free_fit : (h : RoomyHistory) (vs : List Version) → true ≡ list_all (λ v. not (is_fixed h v.number)) vs → true ≡ list_all (fits h) vs
free_fit h [] free = refl
free_fit h (v ∷ vs) free = by (is_fixed h v.number) (free_fit h vs) free
  where
    by : (b : Bool) → (true ≡ list_all (λ v. not (is_fixed h v.number)) vs → true ≡ list_all (fits h) vs) → true ≡ (not b && list_all (λ v. not (is_fixed h v.number)) vs)
        → true ≡ ((not b || list_all (is_under v) (cut_in h).carried) && list_all (fits h) vs)
    by true rest free = absurd (false≢true (sym free))
    by false rest free = rest free
