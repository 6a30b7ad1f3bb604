-- The queue of the prepared heap: what its order is worth, and what it stands for as numbers come and go.
use Rattle.std.proofs.Common.{◌≡◌, ℕ, zero, suc, ◌+◌, ◌<◌, ◌≤◌, Bool, true, false, cond, not, List, [], ◌∷◌, ◌++◌, length, get_or, set, drop, Result, Ok, Err, MatchResult, MatchOption, inl, inr, refl, sym, ap, subst, ◌∙◌, append_assoc, arith}
use Rattle.std.specs.Cmp.{nat_cmp_total}
use Rattle.std.specs.Ordering.{nat_cmp, ordering_index}
use Rattle.std.specs.Result.{result_ok}
use Rattle.std.specs.List.Sorted.{IsSearchInRange, IsBinarySearchResult}
use Rattle.std.specs.FinSet.{FinSet, contains, empty, insert, remove, len, contains-empty, len-empty, len-insert}
use Rattle.std.proofs.lemmas.Bool.{both_ways, cond_both, cases_eq, cases_lt}
use Rattle.std.proofs.lemmas.Bool.Decides.{nat_tests}
use Rattle.std.proofs.lemmas.Cmp.{ranked}
use Rattle.std.proofs.lemmas.List.Sorted.{IsNonDecreasingBy-from_default}
use Rattle.wp_prepared.specs.declared.heap.Queued.{Queued}
use Rattle.wp_prepared.specs.Least.{IsLeast, AreBelow}
use Rattle.wp_prepared.specs.Queue.{standing, AreAbove, AreRising, AreErased, FirstStands, LastStands, IsAt, AreApart}
use Rattle.wp_prepared.proofs.Members.{inserted, removed}
use Rattle.wp_model.proofs.Numbers.{in_inserted, in_inserted_else}

-- ---- one number before others

-- the numbers with n before them, where it is erased or not
abbrev before : Bool → ℕ → FinSet nat_cmp → FinSet nat_cmp
before erased n s = cond erased s (insert s n)

before_other : (erased : Bool) (n q : ℕ) (s : FinSet nat_cmp) → (q ≡ n → ⊥) → contains (before erased n s) q ≡ contains s q
before_other true n q s apart = refl
before_other false n q s apart = in_inserted_else s n q apart

before_here : (erased : Bool) (n q : ℕ) (s : FinSet nat_cmp) → q ≡ n → contains s q ≡ false → contains (before erased n s) q ≡ not erased
before_here true n q s same none = none
before_here false n q s same none = ap (contains (insert s n)) same ∙ in_inserted s n

-- before two sets that say the same of q, the same is said of q
before_same : (erased : Bool) (n q : ℕ) (s t : FinSet nat_cmp) → contains s q ≡ contains t q → contains (before erased n s) q ≡ contains (before erased n t) q
before_same true n q s t same = same
before_same false n q s t same = elim (cases_eq q n) [
  | inl here ↦ ap (contains (insert s n)) here ∙ in_inserted s n ∙ sym (ap (contains (insert t n)) here ∙ in_inserted t n)
  | inr apart ↦ in_inserted_else s n q apart ∙ same ∙ sym (in_inserted_else t n q apart)
]

-- a number is there before others where it is among them
before_more : (erased : Bool) (n q : ℕ) (s : FinSet nat_cmp) → contains s q ≡ true → contains (before erased n s) q ≡ true
before_more true n q s there = there
before_more false n q s there = elim (cases_eq q n) [ inl same ↦ ap (contains (insert s n)) same ∙ in_inserted s n | inr apart ↦ in_inserted_else s n q apart ∙ there ]

-- ---- numbers that are not there

pub none_apart : (xs : List Queued) (q : ℕ) → AreApart q xs → contains (standing xs) q ≡ false
none_apart [] q apart = contains-empty nat_cmp q
none_apart (x ∷ xs) q apart = before_other x.erased x.number q (standing xs) apart.0 ∙ none_apart xs q apart.1

above_apart : (n : ℕ) (xs : List Queued) (q : ℕ) → AreAbove n xs → q ≤ n → AreApart q xs
above_apart n [] q above le = tt
above_apart n (x ∷ xs) q above le = (λ e. omega (arith, above.0, e, le), above_apart n xs q above.1 le)

none_below : (n : ℕ) (xs : List Queued) (q : ℕ) → AreAbove n xs → q ≤ n → contains (standing xs) q ≡ false
none_below n xs q above le = none_apart xs q (above_apart n xs q above le)

-- ---- a number at its place

above_at : (n : ℕ) (xs : List Queued) (p i : ℕ) → AreAbove n xs → IsAt xs p i → n < p
above_at n [] p i above at = absurd at
above_at n (x ∷ xs) p zero above at = omega (arith, above.0, at)
above_at n (x ∷ xs) p (suc i) above at = above_at n xs p i above.1 at

pub at_within : (xs : List Queued) (p i : ℕ) → IsAt xs p i → i < length xs
at_within [] p i at = absurd at
at_within (x ∷ xs) p zero at = omega arith
at_within (x ∷ xs) p (suc i) at = omega (arith, at_within xs p i at)

pub number_at : (xs : List Queued) (p i : ℕ) (d : Queued) → IsAt xs p i → (get_or xs i d).number ≡ p
number_at [] p i d at = absurd at
number_at (x ∷ xs) p zero d at = at
number_at (x ∷ xs) p (suc i) d at = number_at xs p i d at

-- a number at a place is in the heap where it is not erased there
pub contains_at : (xs : List Queued) (p i : ℕ) (d : Queued) → AreRising xs → IsAt xs p i → contains (standing xs) p ≡ not (get_or xs i d).erased
contains_at [] p i d rising at = absurd at
contains_at (x ∷ xs) p zero d rising at = before_here x.erased x.number p (standing xs) (sym at) (none_below x.number xs p rising.0 (omega (arith, at)))
contains_at (x ∷ xs) p (suc i) d rising at =
    let high = above_at x.number xs p i rising.0 at in
    before_other x.erased x.number p (standing xs) (λ e. omega (arith, e, high)) ∙ contains_at xs p i d rising.1 at

-- ---- a number that is marked

module _ (p : ℕ) (w : Queued) (erased : w.erased ≡ true) (number : w.number ≡ p) where
  marked_other : (xs : List Queued) (i q : ℕ) → IsAt xs p i → (q ≡ p → ⊥) → contains (standing (set xs i w)) q ≡ contains (standing xs) q
  marked_other [] i q at apart = absurd at
  marked_other (x ∷ xs) zero q at apart = before_other w.erased w.number q (standing xs) (λ e. apart (e ∙ number)) ∙ sym (before_other x.erased x.number q (standing xs) (λ e. apart (e ∙ at)))
  marked_other (x ∷ xs) (suc i) q at apart = before_same x.erased x.number q _ _ (marked_other xs i q at apart)

  marked_here : (xs : List Queued) (i : ℕ) → AreRising xs → IsAt xs p i → contains (standing (set xs i w)) p ≡ false
  marked_here [] i rising at = absurd at
  marked_here (x ∷ xs) zero rising at = ap (λ b. contains (before b w.number (standing xs)) p) erased ∙ none_below x.number xs p rising.0 (omega (arith, at))
  marked_here (x ∷ xs) (suc i) rising at =
      let high = above_at x.number xs p i rising.0 at in
      before_other x.erased x.number p (standing (set xs i w)) (λ e. omega (arith, e, high)) ∙ marked_here xs i rising.1 at

  pub standing-mark : (xs : List Queued) (i : ℕ) → AreRising xs → IsAt xs p i → standing (set xs i w) ≡ remove (standing xs) p
  standing-mark xs i rising at = removed (standing xs) _ p (marked_here xs i rising at) (λ q apart. marked_other xs i q at apart)

  above-mark : (n : ℕ) (xs : List Queued) (i : ℕ) → n < p → AreAbove n xs → AreAbove n (set xs i w)
  above-mark n [] i low above = tt
  above-mark n (x ∷ xs) zero low above = (omega (arith, low, number), above.1)
  above-mark n (x ∷ xs) (suc i) low above = (above.0, above-mark n xs i low above.1)

  pub rising-mark : (xs : List Queued) (i : ℕ) → AreRising xs → IsAt xs p i → AreRising (set xs i w)
  rising-mark [] i rising at = absurd at
  rising-mark (x ∷ xs) zero rising at = (subst (λ n. AreAbove n xs) (at ∙ sym number) rising.0, rising.1)
  rising-mark (x ∷ xs) (suc i) rising at = (above-mark x.number xs i (above_at x.number xs p i rising.0 at) rising.0, rising-mark xs i rising.1 at)

-- where p has no place, the heap lacks it already
pub standing-absent : (xs : List Queued) (p : ℕ) → AreApart p xs → standing xs ≡ remove (standing xs) p
standing-absent xs p apart = removed (standing xs) _ p (none_apart xs p apart) (λ q other. refl)

-- ---- erased numbers at an end

pub standing-behind : (gone xs : List Queued) → AreErased gone → standing (gone ++ xs) ≡ standing xs
standing-behind [] xs erased = refl
standing-behind (x ∷ gone) xs erased = ap (λ b. before b x.number (standing (gone ++ xs))) erased.0 ∙ standing-behind gone xs erased.1

pub rising-behind : (gone xs : List Queued) → AreRising (gone ++ xs) → AreRising xs
rising-behind [] xs rising = rising
rising-behind (x ∷ gone) xs rising = rising-behind gone xs rising.1

pub last-behind : (gone xs : List Queued) → LastStands (gone ++ xs) → LastStands xs
last-behind gone [] last = tt
last-behind [] (x ∷ xs) last = last
last-behind (y ∷ []) (x ∷ xs) last = last
last-behind (y ∷ z ∷ gone) (x ∷ xs) last = last-behind (z ∷ gone) (x ∷ xs) last

none_standing : (gone : List Queued) → AreErased gone → standing gone ≡ empty
none_standing [] erased = refl
none_standing (x ∷ gone) erased = ap (λ b. before b x.number (standing gone)) erased.0 ∙ none_standing gone erased.1

pub standing-before : (xs gone : List Queued) → AreErased gone → standing (xs ++ gone) ≡ standing xs
standing-before [] gone erased = none_standing gone erased
standing-before (x ∷ xs) gone erased = ap (before x.erased x.number) (standing-before xs gone erased)

above-before : (n : ℕ) (xs gone : List Queued) → AreAbove n (xs ++ gone) → AreAbove n xs
above-before n [] gone above = tt
above-before n (x ∷ xs) gone above = (above.0, above-before n xs gone above.1)

pub rising-before : (xs gone : List Queued) → AreRising (xs ++ gone) → AreRising xs
rising-before [] gone rising = tt
rising-before (x ∷ xs) gone rising = (above-before x.number xs gone rising.0, rising-before xs gone rising.1)

pub first-before : (xs gone : List Queued) → FirstStands (xs ++ gone) → FirstStands xs
first-before [] gone first = tt
first-before (x ∷ xs) gone first = first

-- one more of the erased numbers at the back
pub erased-push : (gone : List Queued) (x : Queued) → x.erased ≡ true → AreErased gone → AreErased (gone ++ x ∷ [])
erased-push [] x erased all = (erased, tt)
erased-push (y ∷ gone) x erased all = (all.0, erased-push gone x erased all.1)

-- ---- a new number at the back

module _ (w : Queued) (stands : w.erased ≡ false) where
  added_other : (xs : List Queued) (q : ℕ) → (q ≡ w.number → ⊥) → contains (standing (xs ++ w ∷ [])) q ≡ contains (standing xs) q
  added_other [] q apart = before_other w.erased w.number q empty apart
  added_other (x ∷ xs) q apart = before_same x.erased x.number q _ _ (added_other xs q apart)

  added_here : (xs : List Queued) → contains (standing (xs ++ w ∷ [])) w.number ≡ true
  added_here [] = ap (λ b. contains (before b w.number empty) w.number) stands ∙ in_inserted empty w.number
  added_here (x ∷ xs) = before_more x.erased x.number w.number _ (added_here xs)

  pub standing-push : (xs : List Queued) → standing (xs ++ w ∷ []) ≡ insert (standing xs) w.number
  standing-push xs = inserted (standing xs) _ w.number (added_here xs) (added_other xs)

  above_last : (n : ℕ) (xs : List Queued) → AreAbove n (xs ++ w ∷ []) → n < w.number
  above_last n [] above = above.0
  above_last n (x ∷ xs) above = above_last n xs above.1

  above-push : (n : ℕ) (xs : List Queued) → AreAbove n xs → n < w.number → AreAbove n (xs ++ w ∷ [])
  above-push n [] above low = (low, tt)
  above-push n (x ∷ xs) above low = (above.0, above-push n xs above.1 low)

  -- the last number stands, so what is above all standing numbers is above the erased ones too
  pub rising-push : (xs : List Queued) → AreRising xs → LastStands xs → AreBelow (standing xs) w.number → AreRising (xs ++ w ∷ [])
  rising-push [] rising last below = (tt, tt)
  rising-push (x ∷ []) rising last below =
      let there = ap (λ b. contains (before b x.number empty) x.number) last ∙ in_inserted empty x.number in
      ((below x.number there, tt), (tt, tt))
  rising-push (x ∷ y ∷ ys) rising last below =
      let rest = rising-push (y ∷ ys) rising.1 last (λ q there. below q (before_more x.erased x.number q _ there)) in
      let low : x.number < w.number = omega (arith, rising.0.0, above_last y.number ys rest.0) in
      (above-push x.number (y ∷ ys) rising.0 low, rest)

  pub last-push : (xs : List Queued) → LastStands (xs ++ w ∷ [])
  last-push [] = stands
  last-push (x ∷ []) = stands
  last-push (x ∷ y ∷ ys) = last-push (y ∷ ys)

  pub first-push : (xs : List Queued) → FirstStands xs → FirstStands (xs ++ w ∷ [])
  first-push [] first = stands
  first-push (x ∷ xs) first = first

-- ---- the first number

pub least_of_queue : (x : Queued) (xs : List Queued) → AreRising (x ∷ xs) → x.erased ≡ false → IsLeast (standing (x ∷ xs)) x.number
least_of_queue x xs rising stands = record {
  member = ap (λ b. contains (before b x.number (standing xs)) x.number) stands ∙ in_inserted (standing xs) x.number;
  least = λ q there. elim (cases_lt q x.number) [
    | inl low ↦ absurd (both_ways _ (before_other x.erased x.number q (standing xs) (λ e. omega (arith, e, low)) ∙ none_below x.number xs q rising.0 (omega (arith, low))) there)
    | inr high ↦ high
  ];
}

-- without its first number the queue lacks the least one
pub standing-pop : (xs : List Queued) (p : ℕ) → AreRising xs → FirstStands xs → IsLeast (standing xs) p → standing (drop 1 xs) ≡ remove (standing xs) p
standing-pop [] p rising first least = absurd (both_ways _ (contains-empty nat_cmp p) least.member)
standing-pop (x ∷ xs) p rising first least =
    let here = least_of_queue x xs rising first in
    let same : p ≡ x.number = omega (arith, least.least x.number here.member, here.least p least.member) in
    removed (standing (x ∷ xs)) _ p (none_below x.number xs p rising.0 (omega (arith, same))) (λ q apart. sym (before_other x.erased x.number q (standing xs) (λ e. apart (e ∙ sym same))))

pub rising-pop : (xs : List Queued) → AreRising xs → AreRising (drop 1 xs)
rising-pop [] rising = tt
rising-pop (x ∷ xs) rising = rising.1

pub last-pop : (xs : List Queued) → LastStands xs → LastStands (drop 1 xs)
last-pop [] last = tt
last-pop (x ∷ xs) last = last-behind (x ∷ []) xs last

-- ---- how many

pub len-standing : (xs : List Queued) → len (standing xs) ≤ length xs
len-standing [] = omega (arith, len-empty nat_cmp)
len-standing (x ∷ xs) = by x.erased (len-standing xs)
  where
    by : (erased : Bool) → len (standing xs) ≤ length xs → len (before erased x.number (standing xs)) ≤ length (x ∷ xs)
    by true le = omega (arith, le)
    by false le =
        let more = len-insert nat_cmp_total (standing xs) x.number in
        rw more (cond_both (contains (standing xs) x.number) (len (standing xs)) (len (standing xs) + 1) (λ n. n ≤ length (x ∷ xs)) (λ _. omega (arith, le)) (λ _. omega (arith, le)))

-- ---- what a search finds

rising_at : (xs : List Queued) (i j : ℕ) (d : Queued) → AreRising xs → i < j → j < length xs → (get_or xs i d).number < (get_or xs j d).number
rising_at [] i j d rising lt fits = absurd (omega arith)
rising_at (x ∷ xs) zero zero d rising lt fits = absurd (omega arith)
rising_at (x ∷ xs) zero (suc j) d rising lt fits = above_index xs j rising.0 (omega arith)
  where
    above_index : (ys : List Queued) (k : ℕ) → AreAbove x.number ys → k < length ys → x.number < (get_or ys k d).number
    above_index [] k above fits = absurd (omega arith)
    above_index (y ∷ ys) zero above fits = above.0
    above_index (y ∷ ys) (suc k) above fits = above_index ys k above.1 (omega arith)
rising_at (x ∷ xs) (suc i) zero d rising lt fits = absurd (omega arith)
rising_at (x ∷ xs) (suc i) (suc j) d rising lt fits = rising_at xs i j d rising.1 (omega arith) (omega arith)

at_index : (xs : List Queued) (p i : ℕ) (d : Queued) → i < length xs → (get_or xs i d).number ≡ p → IsAt xs p i
at_index [] p i d fits is = absurd (omega arith)
at_index (x ∷ xs) p zero d fits is = is
at_index (x ∷ xs) p (suc i) d fits is = at_index xs p i d (omega arith) is

apart_index : (xs : List Queued) (p : ℕ) (d : Queued) → ((k : ℕ) → k < length xs → (get_or xs k d).number ≡ p → ⊥) → AreApart p xs
apart_index [] p d apart = tt
apart_index (x ∷ xs) p d apart = (λ e. apart 0 (omega arith) (sym e), apart_index xs p d (λ k fits e. apart (suc k) (omega arith) e))

blank : Queued
blank = record { number = 0; erased = false }

-- a search by number ends at p, or p is not there
pub searched : (xs : List Queued) (p : ℕ) (r : Result ℕ ℕ) → AreRising xs → IsSearchInRange r (length xs) → IsBinarySearchResult (λ x. nat_cmp x.number p) xs r → MatchResult r (IsAt xs p) (λ i. AreApart p xs)
searched xs p (Ok i) rising within found = at_index xs p i blank within (ranked _ p _ (sym (found blank)))
searched xs p (Err i) rising within parted =
    let rise = IsNonDecreasingBy-from_default (λ x. ordering_index (nat_cmp x.number p)) xs blank (λ k j le fits.
    let numbers : (get_or xs k blank).number ≤ (get_or xs j blank).number = elim (cases_eq k j) [
      | inl same ↦ omega (arith, ap (λ n. (get_or xs n blank).number) same)
      | inr apart ↦ omega (arith, rising_at xs k j blank rising (omega (arith, le, apart)) fits)
    ] in grind (arith, nat_tests)) in
    let parts = parted rise in
    apart_index xs p blank (λ k fits e. elim (cases_lt k i) [
      | inl low ↦ let lt : (get_or xs k blank).number < p = ranked _ p _ (sym (parts.0 k blank (omega (arith, low)) low)) in omega (arith, lt, e)
      | inr high ↦ let gt : p < (get_or xs k blank).number = ranked _ p _ (sym (parts.1 k blank high fits)) in omega (arith, gt, e)
    ])

-- the same, as an Option
pub place_or_none : (xs : List Queued) (p : ℕ) (r : Result ℕ ℕ) → MatchResult r (IsAt xs p) (λ i. AreApart p xs) → MatchOption (result_ok r) (AreApart p xs) (IsAt xs p)
place_or_none xs p (Ok i) found = found
place_or_none xs p (Err i) found = found

-- ---- an end that is looked at

-- one more erased number at the front
pub erased_at_front : (old gone xs : List Queued) (x : Queued) → AreErased gone → old ≡ gone ++ xs → 0 < length xs → x ≡ get_or xs 0 x → x.erased ≡ true → (more : List Queued) × AreErased more × (old ≡ more ++ drop 1 xs)
erased_at_front old gone [] x all is some here erased = absurd (omega arith)
erased_at_front old gone (y ∷ ys) x all is some here erased =
    (gone ++ y ∷ [], erased-push gone y (ap (λ z. z.erased) (sym here) ∙ erased) all, is ∙ sym (append_assoc gone (y ∷ []) ys))

pub stands_at_back : (xs : List Queued) (i : ℕ) (x : Queued) → length xs ≡ i + 1 → x ≡ get_or xs i x → x.erased ≡ false → LastStands xs
stands_at_back [] i x last here stands = tt
stands_at_back (y ∷ []) zero x last here stands = ap (λ z. z.erased) (sym here) ∙ stands
stands_at_back (y ∷ []) (suc i) x last here stands = absurd (omega arith)
stands_at_back (y ∷ z ∷ zs) zero x last here stands = absurd (omega arith)
stands_at_back (y ∷ z ∷ zs) (suc i) x last here stands = stands_at_back (z ∷ zs) i x (omega arith) here stands

pub least_at_front : (xs : List Queued) (x : Queued) → AreRising xs → FirstStands xs → 0 < length xs → x ≡ get_or xs 0 x → IsLeast (standing xs) x.number
least_at_front [] x rising first some here = absurd (omega arith)
least_at_front (y ∷ ys) x rising first some here = subst (λ z. IsLeast (standing (y ∷ ys)) z.number) (sym here) (least_of_queue y ys rising first)

pub none_in_empty : (xs : List Queued) → length xs ≤ 0 → (q : ℕ) → contains (standing xs) q ≡ false
none_in_empty [] empty q = contains-empty nat_cmp q
none_in_empty (x ∷ xs) empty q = absurd (omega arith)
