-- Versions between bounds of their numbers.
use Rattle.std.proofs.Common.{◌≡◌, ℕ, ◌<◌, ◌≤◌, ◌==◌, ◌&&◌, ◌||◌, not, max, min, ne_eqb, nat_lt, Bool, true, false, cond, List, [], ◌∷◌, length, map, filter, Option, Some, inl, inr, refl, sym, ap, ◌∙◌, arith}
use Rattle.std.specs.List.{list_any}
use Rattle.std.specs.Option.{option_or}
use Rattle.std.specs.Str.{bytes_eq}
use Rattle.std.proofs.lemmas.Bool.{cases_lt, lt-ltb, le-ltb, eq-eqb, eqb-true}
use Rattle.std.proofs.lemmas.List.Kept.{IsStrictlySortedBy-filter}
use Rattle.std.proofs.lemmas.Slice.Eq.{bytes_eq-Decides}
use Rattle.wp_model.specs.declared.change.Change.{Change}
use Rattle.wp_model.specs.Batch.{change_to}
use Rattle.wp_model.specs.declared.version.Version.{Version}
use Rattle.wp_model.specs.Versions.{AreInOrder, version_at, version_cmp}
use Rattle.wp_memtable.specs.declared.bounds.Bounds.{Bounds}
use Rattle.wp_memtable.specs.Bounds.{is_between, between, AreWithin}
use Rattle.wp_memtable.specs.KeyVersions.{Numbered}
use Rattle.wp_memtable.specs.Memtable.{HasChanges, numbered_of, above}

-- ---- a bound moves

pub raised_more : (a n m : ℕ) → nat_lt (max a n) m ≡ (nat_lt n m && nat_lt a m)
raised_more a n m = elim (cases_lt n m) [
  | inl here ↦ elim (cases_lt a m) [
    | inl there ↦ rw (lt-ltb n m here, lt-ltb a m there, lt-ltb (max a n) m (omega (arith, here, there))) refl
    | inr apart ↦ rw (lt-ltb n m here, le-ltb a m apart, le-ltb (max a n) m (omega (arith, apart))) refl
  ]
  | inr apart ↦ rw (le-ltb n m apart, le-ltb (max a n) m (omega (arith, apart))) refl
]

pub lowered_more : (b n m : ℕ) → nat_lt m (min b n) ≡ (nat_lt m n && nat_lt m b)
lowered_more b n m = elim (cases_lt m n) [
  | inl here ↦ elim (cases_lt m b) [
    | inl there ↦ rw (lt-ltb m n here, lt-ltb m b there, lt-ltb m (min b n) (omega (arith, here, there))) refl
    | inr apart ↦ rw (lt-ltb m n here, le-ltb m b apart, le-ltb m (min b n) (omega (arith, apart))) refl
  ]
  | inr apart ↦ rw (le-ltb m n apart, le-ltb m (min b n) (omega (arith, apart))) refl
]

pub and_more : (x y z : Bool) → ((x && y) && z) ≡ (x && (y && z))
and_more true y z = refl
and_more false y z = refl

pub and_swapped : (x y z : Bool) → (x && (y && z)) ≡ (y && (x && z))
and_swapped true true z = refl
and_swapped true false z = refl
and_swapped false true z = refl
and_swapped false false z = refl

pub and_true : (x : Bool) → x ≡ (x && true)
and_true true = refl
and_true false = refl

-- ---- lists

-- versions that pass as the others do
pub filters_same : (p q : ℕ → Bool) (vs : List Version) → ((m : ℕ) → p m ≡ q m) → filter (λ v. p v.number) vs ≡ filter (λ v. q v.number) vs
filters_same p q [] same = refl
filters_same p q (v ∷ vs) same = (λ i. cond (same v.number i) (v ∷ filters_same p q vs same i) (filters_same p q vs same i))

-- what passes one test and then the other passes both
pub filters_both : (p q : ℕ → Bool) (vs : List Version) → filter (λ v. p v.number) (filter (λ v. q v.number) vs) ≡ filter (λ v. p v.number && q v.number) vs
filters_both p q [] = refl
filters_both p q (v ∷ vs) = by (q v.number) (p v.number) refl (filters_both p q vs)
  where
    by : (b a : Bool) → p v.number ≡ a → filter (λ w. p w.number) (filter (λ w. q w.number) vs) ≡ filter (λ w. p w.number && q w.number) vs
        → filter (λ w. p w.number) (cond b (v ∷ filter (λ w. q w.number) vs) (filter (λ w. q w.number) vs)) ≡ cond (a && b) (v ∷ filter (λ w. p w.number && q w.number) vs) (filter (λ w. p w.number && q w.number) vs)
    by true true is rest = rw is (ap (λ (ws : List Version). v ∷ ws) rest)
    by true false is rest = rw is rest
    by false true is rest = rest
    by false false is rest = rest

-- all pass
pub filter_all : (p : ℕ → Bool) (vs : List Version) → ((m : ℕ) → p m ≡ true) → filter (λ v. p v.number) vs ≡ vs
filter_all p [] all = refl
filter_all p (v ∷ vs) all = rw (all v.number) (ap (λ (ws : List Version). v ∷ ws) (filter_all p vs all))

-- those of a key that pass
pub numbered_filter : (p : ℕ → Bool) (key : List ℕ) (vs : List Version) → numbered_of key (filter (λ v. p v.number) vs) ≡ filter (λ e. p e.0) (numbered_of key vs)
numbered_filter p key [] = refl
numbered_filter p key (v ∷ vs) = by (p v.number) (bytes_eq v.key key) refl refl (numbered_filter p key vs)
  where
    by : (a b : Bool) → p v.number ≡ a → bytes_eq v.key key ≡ b → numbered_of key (filter (λ w. p w.number) vs) ≡ filter (λ e. p e.0) (numbered_of key vs)
        → numbered_of key (cond a (v ∷ filter (λ w. p w.number) vs) (filter (λ w. p w.number) vs)) ≡ filter (λ e. p e.0) (map (λ (w : Version). (w.number, w.value)) (cond b (v ∷ filter (λ w. bytes_eq w.key key) vs) (filter (λ w. bytes_eq w.key key) vs)))
    by true true passes here rest = rw (here, passes) (ap (λ (ps : Numbered). (v.number, v.value) ∷ ps) rest)
    by true false passes here rest = rw here rest
    by false true passes here rest = rw passes rest
    by false false passes here rest = rest

pub in_order_between : (b : Bounds) (vs : List Version) → AreInOrder vs → AreInOrder (between b vs)
in_order_between b vs h = IsStrictlySortedBy-filter version_cmp (λ v. is_between b v.number) vs h

-- none passes, or some do
pub some_left : (p : ℕ → Bool) (vs : List Version) → (length (filter (λ v. p v.number) vs) == 0) ≡ not (list_any (λ v. p v.number) vs)
some_left p [] = refl
some_left p (v ∷ vs) = by (p v.number) (some_left p vs)
  where
    by : (a : Bool) → (length (filter (λ w. p w.number) vs) == 0) ≡ not (list_any (λ w. p w.number) vs)
        → (length (cond a (v ∷ filter (λ w. p w.number) vs) (filter (λ w. p w.number) vs)) == 0) ≡ not (a || list_any (λ w. p w.number) vs)
    by true rest = ne_eqb (length (v ∷ filter (λ w. p w.number) vs)) 0 (λ same. absurd (omega (arith, same)))
    by false rest = rest

-- ---- the least and the greatest number

-- a version in the list is found there, it or another of its place
stands_there : (v : Version) (vs : List Version) (key : List ℕ) (n : ℕ) (value : Option (List ℕ)) → version_at vs key n ≡ Some value → (found : Option (List ℕ)) × (version_at (v ∷ vs) key n ≡ Some found)
stands_there v vs key n value is = by (bytes_eq v.key key && (v.number == n))
  where
    by : (b : Bool) → (found : Option (List ℕ)) × (cond b (Some v.value) (version_at vs key n) ≡ Some found)
    by true = (v.value, refl)
    by false = (value, is)

pub within_rest : (least greatest : ℕ) (v : Version) (vs : List Version) → AreWithin least greatest (v ∷ vs) → AreWithin least greatest vs
within_rest least greatest v vs within key n value is = let f = stands_there v vs key n value is in within key n f.0 f.1

itself : (v : Version) (vs : List Version) → version_at (v ∷ vs) v.key v.number ≡ Some v.value
itself v vs = rw ((bytes_eq-Decides v.key v.key).1 refl, eq-eqb v.number v.number refl) refl

-- none has a lesser number
pub none_up_to : (least greatest n : ℕ) (vs : List Version) → AreWithin least greatest vs → n < least → above n vs ≡ vs
none_up_to least greatest n [] within low = refl
none_up_to least greatest n (v ∷ vs) within low =
    let here = (within v.key v.number v.value (itself v vs)).0 in
    rw (lt-ltb n v.number (omega (arith, here, low))) (ap (λ (ws : List Version). v ∷ ws) (none_up_to least greatest n vs (within_rest least greatest v vs within) low))

-- none lies between the bounds
pub none_between : (b : Bounds) (least greatest : ℕ) (vs : List Version) → AreWithin least greatest vs → ((n : ℕ) → n ≤ greatest → is_between b n ≡ false) → list_any (λ v. is_between b v.number) vs ≡ false
none_between b least greatest [] within past = refl
none_between b least greatest (v ∷ vs) within past =
    let here = (within v.key v.number v.value (itself v vs)).1 in
    rw (past v.number here) (none_between b least greatest vs (within_rest least greatest v vs within) past)

-- a version that passes a test was found before
found_before : (p : ℕ → Bool) (vs : List Version) (key : List ℕ) (n : ℕ) (value : Option (List ℕ)) → version_at (filter (λ v. p v.number) vs) key n ≡ Some value → (found : Option (List ℕ)) × (version_at vs key n ≡ Some found)
found_before p [] key n value is = absurd cc
found_before p (v ∷ vs) key n value is = by (p v.number) (bytes_eq v.key key && (v.number == n)) refl (found_before p vs key n value) is
  where
    by : (a b : Bool) → (bytes_eq v.key key && (v.number == n)) ≡ b → (version_at (filter (λ w. p w.number) vs) key n ≡ Some value → (found : Option (List ℕ)) × (version_at vs key n ≡ Some found))
        → version_at (cond a (v ∷ filter (λ w. p w.number) vs) (filter (λ w. p w.number) vs)) key n ≡ Some value → (found : Option (List ℕ)) × (cond b (Some v.value) (version_at vs key n) ≡ Some found)
    by a true here rest is = (v.value, refl)
    by true false here rest is = rest (ap (λ x. cond x (Some v.value) (version_at (filter (λ w. p w.number) vs) key n)) (sym here) ∙ is)
    by false false here rest is = rest is

pub within_filter : (least greatest : ℕ) (p : ℕ → Bool) (vs : List Version) → AreWithin least greatest vs → AreWithin least greatest (filter (λ v. p v.number) vs)
within_filter least greatest p vs within key n value is = let f = found_before p vs key n value is in within key n f.0 f.1

-- a batch comes under a number
pub within_changes : (least greatest n : ℕ) (changes : List Change) (old new : List Version) → HasChanges n changes old new → AreWithin least greatest old → AreWithin (min least n) (max greatest n) new
within_changes least greatest n changes old new has within key m value is = by (m == n) refl (sym (has.each key m) ∙ is)
  where
    by : (b : Bool) → (m == n) ≡ b → cond b (option_or (change_to changes key) (version_at old key m)) (version_at old key m) ≡ Some value → (min least n ≤ m) × (m ≤ max greatest n)
    by true same is = let here = eqb-true m n same in (omega (arith, here), omega (arith, here))
    by false other is = let before = within key m value is in (omega (arith, before.0), omega (arith, before.1))
