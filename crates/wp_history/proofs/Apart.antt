-- Carried prepares of which none collides with one before it have no name and no key together.
use Rattle.std.proofs.Common.{◌≡◌, ℕ, zero, suc, ◌<◌, Bool, true, false, cond, List, [], ◌∷◌, ◌++◌, length, map, take, Option, Some, None, refl, sym, ap, ◌∙◌, subst, inl, inr, append_assoc, append-nil, arith}
use Rattle.std.specs.Prelude.{◌==◌, slice_get}
use Rattle.std.specs.List.{AllByRecursion, find, list_any}
use Rattle.std.specs.Str.{bytes_eq}
use Rattle.std.proofs.lemmas.Bool.{cases_order, cases_Bool, eqb-true, eq-eqb, ne_eqb, or_cases, or_left, or_right}
use Rattle.std.proofs.lemmas.Map.Keys.{any_passes_from_place}
use Rattle.std.proofs.lemmas.Option.{same_Some, slice_get_within}
use Rattle.std.proofs.lemmas.Slice.Eq.{bytes_eq-Decides}
use Rattle.wp_model.specs.declared.carried.Carried.{Carried}
use Rattle.wp_model.specs.declared.change.Change.{Change}
use Rattle.wp_model.specs.Batch.{key_of, are_ascending}
use Rattle.wp_model.specs.History.{is_changed}
use Rattle.wp_history_laws.specs.Growth.{AreAscending}
use Rattle.wp_cuts.specs.Cut.{Cut, carried_at}
use Rattle.wp_cuts.specs.LegalCut.{AreNumbered, AreApart}
use Rattle.wp_history.specs.History.{cut_of}
use Rattle.wp_history.specs.Outline.{collides, collision_behind, collision_of}

-- ---- no collision

pub clear_by : (b : Bool) (n : ℕ) (rest : Option ℕ) → cond b (Some n) rest ≡ None → (b ≡ false) × (rest ≡ None)
clear_by true n rest none = absurd cc
clear_by false n rest none = (refl, none)

-- each has none before it
clear_at : (before xs : List Carried) (i : ℕ) (x : Carried) → collision_behind before xs ≡ None → slice_get xs i ≡ Some x → list_any (collides x) (before ++ take i xs) ≡ false
clear_at before [] i x none at = absurd cc
clear_at before (y ∷ ys) zero x none at =
    let here = (clear_by (list_any (collides y) before) y.number (collision_behind (before ++ y ∷ []) ys) none).0 in
    ap (list_any (collides x)) (append-nil before) ∙ subst (λ (z : Carried). list_any (collides z) before ≡ false) (same_Some y x at) here
clear_at before (y ∷ ys) (suc i) x none at =
    let rest = (clear_by (list_any (collides y) before) y.number (collision_behind (before ++ y ∷ []) ys) none).1 in
    ap (list_any (collides x)) (sym (append_assoc before (y ∷ []) (take i ys))) ∙ clear_at (before ++ y ∷ []) ys i x rest at

at_front : (xs : List Carried) (i j : ℕ) (x : Carried) → i < j → slice_get xs i ≡ Some x → slice_get (take j xs) i ≡ Some x
at_front [] i j x lt at = absurd cc
at_front (y ∷ ys) i zero x lt at = absurd (omega (arith, lt))
at_front (y ∷ ys) zero (suc j) x lt at = at
at_front (y ∷ ys) (suc i) (suc j) x lt at = at_front ys i j x (omega (arith, lt)) at

-- so of two places the later does not collide with the earlier
pub none_collides : (xs : List Carried) (i j : ℕ) (x y : Carried) → collision_of xs ≡ None → i < j → slice_get xs i ≡ Some x → slice_get xs j ≡ Some y → collides y x ≡ true → ⊥
none_collides xs i j x y none lt at there collide =
    let never = clear_at [] xs j y none there in
    let any : list_any (collides y) (take j xs) ≡ true = any_passes_from_place (collides y) (take j xs) i x (at_front xs i j x lt at) collide in
    absurd cc

-- ---- where a carried one stands

record IsThere (xs : List Carried) (p : ℕ) (x : Carried) : Type 0 where
  i : ℕ
  at : slice_get xs i ≡ Some x
  number : x.number ≡ p

there : (xs : List Carried) (p : ℕ) (x : Carried) → find (λ y. y.number == p) xs ≡ Some x → IsThere xs p x
there [] p x found = absurd cc
there (y ∷ ys) p x found = by (y.number == p) refl found (there ys p x)
  where
    by : (b : Bool) → (y.number == p) ≡ b → cond b (Some y) (find (λ z. z.number == p) ys) ≡ Some x → (find (λ z. z.number == p) ys ≡ Some x → IsThere ys p x) → IsThere (y ∷ ys) p x
    by true here is rest = record { i = 0; at = is; number = ap (λ (z : Carried). z.number) (sym (same_Some y x is)) ∙ eqb-true y.number p here }
    by false other is rest = let it = rest is in record { i = suc it.i; at = it.at; number = it.number }

ascends_at : (xs : List Carried) (i : ℕ) (x : Carried) → AllByRecursion (λ (y : Carried). are_ascending y.batch ≡ true) xs → slice_get xs i ≡ Some x → are_ascending x.batch ≡ true
ascends_at [] i x all at = absurd cc
ascends_at (y ∷ ys) zero x all at = ap (λ (z : Carried). are_ascending z.batch) (sym (same_Some y x at)) ∙ all.0
ascends_at (y ∷ ys) (suc i) x all at = ascends_at ys i x all.1 at

-- ---- a key of both

pub shares : (changes : List Change) (key : List ℕ) (test : List ℕ → Bool) → is_changed changes key ≡ true → test key ≡ true → list_any (λ change. test (key_of change)) changes ≡ true
shares [] key test changed passes = absurd cc
shares (change ∷ changes) key test changed passes = elim (cases_Bool (bytes_eq (key_of change) key)) [
  | inl here ↦ or_left (test (key_of change)) (list_any (λ c. test (key_of c)) changes) (ap test ((bytes_eq-Decides (key_of change) key).0 here) ∙ passes)
  | inr other ↦ or_right (test (key_of change)) (list_any (λ c. test (key_of c)) changes) (shares changes key test (rw other at changed) passes)
]

pub by_name : (x y : Carried) → y.name ≡ x.name → collides y x ≡ true
by_name x y same = or_left (bytes_eq y.name x.name) (list_any (λ change. is_changed x.batch (key_of change)) y.batch) ((bytes_eq-Decides y.name x.name).1 same)

pub by_key : (x y : Carried) (key : List ℕ) → is_changed y.batch key ≡ true → is_changed x.batch key ≡ true → collides y x ≡ true
by_key x y key changed its = or_right (bytes_eq y.name x.name) (list_any (λ change. is_changed x.batch (key_of change)) y.batch) (shares y.batch key (is_changed x.batch) changed its)

-- ---- together

module _ (base : ℕ) (xs : List Carried) (ascending : AllByRecursion (λ (x : Carried). are_ascending x.batch ≡ true) xs) (none : collision_of xs ≡ None) where
  abbrev carries : Cut
  carries = cut_of base xs []

  -- two that would collide either way are one
  one_of_two : (p q : ℕ) (x y : Carried) → carried_at carries p ≡ Some x → carried_at carries q ≡ Some y → collides y x ≡ true → collides x y ≡ true → p ≡ q
  one_of_two p q x y found too collide back =
      let one = there xs p x found in
      let other = there xs q y too in
      elim (cases_order one.i other.i) [
        | inl same ↦
            let it : x ≡ y = same_Some x y (sym one.at ∙ ap (slice_get xs) same ∙ other.at) in
            sym one.number ∙ ap (λ (z : Carried). z.number) it ∙ other.number
        | inr apart ↦ elim apart [
          | inl below ↦ absurd (none_collides xs one.i other.i x y none below one.at other.at collide)
          | inr above ↦ absurd (none_collides xs other.i one.i y x none above other.at one.at back)
        ]
      ]

  pub are_apart : AreApart carries
  are_apart = record {
    ascending = λ p x found. let it = there xs p x found in ascends_at xs it.i x ascending it.at;
    names = λ p q x y found too same. one_of_two p q x y found too (by_name x y (sym same)) (by_name y x same);
    keys = λ p q x y key found too changed its. one_of_two p q x y found too (by_key x y key its changed) (by_key y x key changed its);
  }

-- ---- the other way round

none_any : (test : Carried → Bool) (xs : List Carried) → ((i : ℕ) (x : Carried) → slice_get xs i ≡ Some x → test x ≡ false) → list_any test xs ≡ false
none_any test [] each = refl
none_any test (x ∷ xs) each = rw (each 0 x refl) (none_any test xs (λ i y at. each (suc i) y at))

-- of two the later does not collide with the earlier
abbrev AreClear : List Carried → Type 0
AreClear xs = (i j : ℕ) (y x : Carried) → i < j → slice_get xs i ≡ Some y → slice_get xs j ≡ Some x → collides x y ≡ false

at_front_of : (before xs : List Carried) (i : ℕ) (y : Carried) → slice_get before i ≡ Some y → slice_get (before ++ xs) i ≡ Some y
at_front_of [] xs i y at = absurd cc
at_front_of (z ∷ before) xs zero y at = at
at_front_of (z ∷ before) xs (suc i) y at = at_front_of before xs i y at

at_seam : (before : List Carried) (x : Carried) (xs : List Carried) → slice_get (before ++ x ∷ xs) (length before) ≡ Some x
at_seam [] x xs = refl
at_seam (y ∷ before) x xs = at_seam before x xs

clear_behind : (before xs : List Carried) → AreClear (before ++ xs) → collision_behind before xs ≡ None
clear_behind before [] clear = refl
clear_behind before (x ∷ xs) clear =
    let here : list_any (collides x) before ≡ false = none_any (collides x) before (λ i y at. clear i (length before) y x (slice_get_within before i y at) (at_front_of before (x ∷ xs) i y at) (at_seam before x xs)) in
    rw here (clear_behind (before ++ x ∷ []) xs (subst AreClear (sym (append_assoc before (x ∷ []) xs)) clear))

-- a key of both
record IsShared (changes : List Change) (test : List ℕ → Bool) : Type 0 where
  key : List ℕ
  changed : is_changed changes key ≡ true
  passes : test key ≡ true

shared : (changes : List Change) (test : List ℕ → Bool) → list_any (λ change. test (key_of change)) changes ≡ true → IsShared changes test
shared [] test any = absurd cc
shared (change ∷ changes) test any = elim (or_cases (test (key_of change)) (list_any (λ c. test (key_of c)) changes) any) [
  | inl here ↦ record { key = key_of change; changed = rw ((bytes_eq-Decides (key_of change) (key_of change)).1 refl) refl; passes = here }
  | inr behind ↦
      let it = shared changes test behind in
      record { key = it.key; changed = still it.key it.changed (bytes_eq (key_of change) it.key) refl; passes = it.passes }
]
  where
    still : (key : List ℕ) → is_changed changes key ≡ true → (b : Bool) → bytes_eq (key_of change) key ≡ b → is_changed (change ∷ changes) key ≡ true
    still key changed true e = rw e refl
    still key changed false e = rw e changed

-- each is found by its number, and one before it has a lower one
number_above : (n : ℕ) (ys : List Carried) (i : ℕ) (x : Carried) → AllByRecursion (λ m. n < m) (map (λ (y : Carried). y.number) ys) → slice_get ys i ≡ Some x → n < x.number
number_above n [] i x above at = absurd cc
number_above n (y ∷ ys) zero x above at = let lt = above.0 in let same = ap (λ (z : Carried). z.number) (same_Some y x at) in omega (arith, lt, same)
number_above n (y ∷ ys) (suc i) x above at = number_above n ys i x above.1 at

found_at : (xs : List Carried) (i : ℕ) (x : Carried) → AreAscending (map (λ (y : Carried). y.number) xs) → slice_get xs i ≡ Some x → find (λ y. y.number == x.number) xs ≡ Some x
found_at [] i x ascend at = absurd cc
found_at (y ∷ ys) zero x ascend at = let same = same_Some y x at in rw (eq-eqb y.number x.number (ap (λ (z : Carried). z.number) same)) at
found_at (y ∷ ys) (suc i) x ascend at = rw (ne_eqb y.number x.number (λ same. let above = number_above y.number ys i x ascend.0 at in absurd (omega (arith, same, above)))) (found_at ys i x ascend.1 at)

lower_before : (xs : List Carried) (i j : ℕ) (y x : Carried) → AreAscending (map (λ (z : Carried). z.number) xs) → i < j → slice_get xs i ≡ Some y → slice_get xs j ≡ Some x → y.number < x.number
lower_before [] i j y x ascend lt at there = absurd cc
lower_before (z ∷ zs) i zero y x ascend lt at there = absurd (omega (arith, lt))
lower_before (z ∷ zs) zero (suc j) y x ascend lt at there = let above = number_above z.number zs j x ascend.0 there in let same = ap (λ (w : Carried). w.number) (same_Some z y at) in omega (arith, above, same)
lower_before (z ∷ zs) (suc i) (suc j) y x ascend lt at there = lower_before zs i j y x ascend.1 (omega (arith, lt)) at there

pub none_collide : (c : Cut) → AreNumbered c → AreApart c → collision_of c.carried ≡ None
none_collide c numbered apart = clear_behind [] c.carried (λ i j y x lt at there. clear i j y x lt at there (collides x y) refl)
  where
    clear : (i j : ℕ) (y x : Carried) → i < j → slice_get c.carried i ≡ Some y → slice_get c.carried j ≡ Some x → (b : Bool) → collides x y ≡ b → b ≡ false
    clear i j y x lt at there false e = refl
    clear i j y x lt at there true e =
        let lower = lower_before c.carried i j y x numbered.ascend lt at there in
        let one = found_at c.carried j x numbered.ascend there in
        let other = found_at c.carried i y numbered.ascend at in
        elim (or_cases (bytes_eq x.name y.name) (list_any (λ change. is_changed y.batch (key_of change)) x.batch) e) [
          | inl same ↦ let equal = apart.names x.number y.number x y one other ((bytes_eq-Decides x.name y.name).0 same) in absurd (omega (arith, lower, equal))
          | inr any ↦
              let it = shared x.batch (is_changed y.batch) any in
              let equal = apart.keys x.number y.number x y it.key one other it.changed it.passes in
              absurd (omega (arith, lower, equal))
        ]
