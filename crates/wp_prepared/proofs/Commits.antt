-- The commits of delayed numbers, as numbers and commits come and go.
use Rattle.std.proofs.Common.{◌≡◌, ℕ, zero, suc, ◌<◌, ◌≤◌, nat_le, Bool, true, false, cond, ◌||◌, List, [], ◌∷◌, ◌++◌, map, length, get_or, set, inl, inr, Option, Some, None, refl, sym, subst, ap, ◌∙◌, arith, take, option_map, MatchOption}
use Rattle.std.specs.Cmp.{unsigned_tied}
use Rattle.std.specs.Ordering.{nat_cmp, eq_by_cmp}
use Rattle.std.specs.List.{insert, remove, IsDistinct, slice_get}
use Rattle.std.specs.List.Sorted.{IsStrictlyIncreasing}
use Rattle.std.specs.FinMap.{get}
use Rattle.std.specs.FinSet.{contains}
use Rattle.std.proofs.lemmas.Bool.{cases_eq, eq-eqb, ne_eqb, eqb-true, both_ways, leb-true, leb-false}
use Rattle.std.proofs.lemmas.List.Folds.{list_any_at}
use Rattle.std.proofs.lemmas.Map.Keys.{sorted_from_strictly_increasing, below_from_sorted, IsDistinct-head, IsDistinct-tail}
use Rattle.std.proofs.lemmas.List.{take_all}
use Rattle.wp_prepared.specs.declared.delayed.Delayed.{Delayed}
use Rattle.wp_prepared.specs.DelayedSet.{numbers_in, commits_in, with_commit, first_passed, passed_or, IsFrom, AreFrom, number_of}
use Rattle.wp_prepared.specs.Passed.{NonePassed, IsFirstPassed}
use Rattle.wp_prepared.specs.Least.{IsLeastOrNone}
use Rattle.wp_prepared.proofs.Ascending.{distinct_from_rising}
use Rattle.wp_prepared.proofs.Maps.{value_of_number, map_of, get-map_of, none_of_entries}
use Rattle.wp_prepared.proofs.Numbered.{bare, count_numbers}
use Rattle.wp_prepared.proofs.Sets.{has, has_none, none_of_list, set_of_numbers, empty_of_none}
use Rattle.wp_prepared.proofs.Firsts.{least_of_rising}

-- ---- equal numbers, and what is known

eq_here : (q p : ℕ) → q ≡ p → eq_by_cmp nat_cmp q p ≡ true
eq_here q p same = unsigned_tied q p ∙ eq-eqb q p same

eq_other : (q p : ℕ) → (q ≡ p → ⊥) → eq_by_cmp nat_cmp q p ≡ false
eq_other q p apart = unsigned_tied q p ∙ ne_eqb q p apart

is_same : (q p : ℕ) → eq_by_cmp nat_cmp q p ≡ true → q ≡ p
is_same q p e = eqb-true q p (sym (unsigned_tied q p) ∙ e)

same_number : (a b : ℕ) → Some a ≡ Some b → a ≡ b
same_number a b h = cc

same_pair : (a b : ℕ × ℕ) → Some a ≡ Some b → a ≡ b
same_pair a b h = cc

-- ---- one number before others

-- the commit that q has among these
abbrev pub commit_in : List Delayed → ℕ → Option ℕ
commit_in xs q = value_of_number (commits_in xs) q

-- what q has behind the number n with its commit, where the others have this for it
abbrev value_before : ℕ → Option ℕ → Option ℕ → ℕ → Option ℕ
value_before n None others q = others
value_before n (Some c) others q = cond (eq_by_cmp nat_cmp q n) (Some c) others

head_of : (n : ℕ) (o : Option ℕ) (es : List (ℕ × ℕ)) (q : ℕ) → value_of_number (with_commit n o es) q ≡ value_before n o (value_of_number es q) q
head_of n None es q = refl
head_of n (Some c) es q = refl

head_is : (x : Delayed) (xs : List Delayed) (q : ℕ) → commit_in (x ∷ xs) q ≡ value_before x.number x.commit (commit_in xs q) q
head_is x xs q = head_of x.number x.commit (commits_in xs) q

before_not : (n : ℕ) (o others : Option ℕ) (q : ℕ) → eq_by_cmp nat_cmp q n ≡ false → value_before n o others q ≡ others
before_not n None others q apart = refl
before_not n (Some c) others q apart = ap (λ (b : Bool). cond b (Some c) others) apart

before_at : (n : ℕ) (o others : Option ℕ) (q : ℕ) → eq_by_cmp nat_cmp q n ≡ true → others ≡ None → value_before n o others q ≡ o
before_at n None others q same none = none
before_at n (Some c) others q same none = ap (λ (b : Bool). cond b (Some c) others) same

-- what is put for a number that is another passes through it
pass : (n : ℕ) (o : Option ℕ) (b : Bool) (put others : Option ℕ) (q : ℕ) → (b ≡ true → eq_by_cmp nat_cmp q n ≡ false) → value_before n o (cond b put others) q ≡ cond b put (value_before n o others q)
pass n o true put others q apart = before_not n o put q (apart refl)
pass n o false put others q apart = refl

-- ---- numbers that are not there

neither : (a b : Bool) → (a || b) ≡ false → (a ≡ false) × (b ≡ false)
neither true b e = let no : true ≡ false = e in absurd (cc)
neither false b e = (refl, e)

pub none_there : (xs : List Delayed) (q : ℕ) → has (numbers_in xs) q ≡ false → commit_in xs q ≡ None
none_there [] q apart = refl
none_there (x ∷ xs) q apart =
    let parts = neither (eq_by_cmp nat_cmp q x.number) (has (numbers_in xs) q) apart in
    head_is x xs q ∙ before_not x.number x.commit (commit_in xs q) q parts.0 ∙ none_there xs q parts.1

-- in a list without a number twice
abbrev pub AreDistinct : List Delayed → Type 0
AreDistinct xs = IsDistinct (eq_by_cmp nat_cmp) (numbers_in xs)

once : (x : Delayed) (xs : List Delayed) → AreDistinct (x ∷ xs) → has (numbers_in xs) x.number ≡ false
once x xs d = has_none x.number (numbers_in xs) (IsDistinct-head (eq_by_cmp nat_cmp) x.number (numbers_in xs) d)

others_of : (x : Delayed) (xs : List Delayed) → AreDistinct (x ∷ xs) → AreDistinct xs
others_of x xs d = IsDistinct-tail (eq_by_cmp nat_cmp) x.number (numbers_in xs) d

pub has_at : (xs : List ℕ) (i p : ℕ) → i < length xs → get_or xs i 0 ≡ p → has xs p ≡ true
has_at xs i p lt at = list_any_at (eq_by_cmp nat_cmp p) xs i 0 lt (eq_here p (get_or xs i 0) (sym at))

-- a number behind another is not that
not_first : (x : Delayed) (xs : List Delayed) (i p : ℕ) → AreDistinct (x ∷ xs) → i < length (numbers_in xs) → get_or (numbers_in xs) i 0 ≡ p → x.number ≡ p → ⊥
not_first x xs i p d lt at same = both_ways (has (numbers_in xs) p) (ap (has (numbers_in xs)) (sym same) ∙ once x xs d) (has_at (numbers_in xs) i p lt at)

passes : (x : Delayed) (xs : List Delayed) (i p q : ℕ) → AreDistinct (x ∷ xs) → i < length (numbers_in xs) → get_or (numbers_in xs) i 0 ≡ p → eq_by_cmp nat_cmp p q ≡ true → eq_by_cmp nat_cmp q x.number ≡ false
passes x xs i p q d lt at e = eq_other q x.number (λ f. not_first x xs i p d lt at (sym (is_same p q e ∙ f)))

-- ---- changes

pub commits-insert : (xs : List Delayed) (i p : ℕ) → commits_in (insert xs i (record { number = p; commit = None })) ≡ commits_in xs
commits-insert [] zero p = refl
commits-insert [] (suc i) p = refl
commits-insert (x ∷ xs) zero p = refl
commits-insert (x ∷ xs) (suc i) p = ap (with_commit x.number x.commit) (commits-insert xs i p)

pub commits-bare : (ns : List ℕ) → commits_in (map bare ns) ≡ []
commits-bare [] = refl
commits-bare (n ∷ ns) = commits-bare ns

pub commit-at : (xs : List Delayed) (i p : ℕ) (other : Delayed) → AreDistinct xs → i < length (numbers_in xs) → get_or (numbers_in xs) i 0 ≡ p → commit_in xs p ≡ (get_or xs i other).commit
commit-at [] i p other d lt at = absurd (omega arith)
commit-at (x ∷ xs) zero p other d lt at =
    head_is x xs p ∙ before_at x.number x.commit (commit_in xs p) p (eq_here p x.number (sym at)) (none_there xs p (ap (has (numbers_in xs)) (sym at) ∙ once x xs d))
commit-at (x ∷ xs) (suc i) p other d lt at =
    let low : i < length (numbers_in xs) = omega arith in
    head_is x xs p ∙ before_not x.number x.commit (commit_in xs p) p (passes x xs i p p d low at (eq_here p p refl)) ∙ commit-at xs i p other (others_of x xs d) low at

pub commit-set : (xs : List Delayed) (i p c q : ℕ) → AreDistinct xs → i < length (numbers_in xs) → get_or (numbers_in xs) i 0 ≡ p → commit_in (set xs i (record { number = p; commit = Some c })) q ≡ cond (eq_by_cmp nat_cmp p q) (Some c) (commit_in xs q)
commit-set [] i p c q d lt at = absurd (omega arith)
commit-set (x ∷ xs) zero p c q d lt at =
    elim (cases_eq q p) [
      | inl same ↦ ap (λ (b : Bool). cond b (Some c) (commit_in xs q)) (eq_here q p same) ∙ sym (ap (λ (b : Bool). cond b (Some c) (commit_in (x ∷ xs) q)) (eq_here p q (sym same)))
      | inr other ↦
          ap (λ (b : Bool). cond b (Some c) (commit_in xs q)) (eq_other q p other)
          ∙ sym (head_is x xs q ∙ before_not x.number x.commit (commit_in xs q) q (eq_other q x.number (λ e. other (e ∙ at))))
          ∙ sym (ap (λ (b : Bool). cond b (Some c) (commit_in (x ∷ xs) q)) (eq_other p q (λ e. other (sym e))))
    ]
commit-set (x ∷ xs) (suc i) p c q d lt at =
    let low : i < length (numbers_in xs) = omega arith in
    head_is x (set xs i (record { number = p; commit = Some c })) q
    ∙ ap (λ (o : Option ℕ). value_before x.number x.commit o q) (commit-set xs i p c q (others_of x xs d) low at)
    ∙ pass x.number x.commit (eq_by_cmp nat_cmp p q) (Some c) (commit_in xs q) q (passes x xs i p q d low at)
    ∙ ap (cond (eq_by_cmp nat_cmp p q) (Some c)) (sym (head_is x xs q))

pub commit-remove : (xs : List Delayed) (i p q : ℕ) → AreDistinct xs → i < length (numbers_in xs) → get_or (numbers_in xs) i 0 ≡ p → commit_in (remove xs i) q ≡ cond (eq_by_cmp nat_cmp p q) None (commit_in xs q)
commit-remove [] i p q d lt at = absurd (omega arith)
commit-remove (x ∷ xs) zero p q d lt at =
    elim (cases_eq q p) [
      | inl same ↦ none_there xs q (ap (has (numbers_in xs)) (same ∙ sym at) ∙ once x xs d) ∙ sym (ap (λ (b : Bool). cond b None (commit_in (x ∷ xs) q)) (eq_here p q (sym same)))
      | inr other ↦
          sym (head_is x xs q ∙ before_not x.number x.commit (commit_in xs q) q (eq_other q x.number (λ e. other (e ∙ at))))
          ∙ sym (ap (λ (b : Bool). cond b None (commit_in (x ∷ xs) q)) (eq_other p q (λ e. other (sym e))))
    ]
commit-remove (x ∷ xs) (suc i) p q d lt at =
    let low : i < length (numbers_in xs) = omega arith in
    head_is x (remove xs i) q
    ∙ ap (λ (o : Option ℕ). value_before x.number x.commit o q) (commit-remove xs i p q (others_of x xs d) low at)
    ∙ pass x.number x.commit (eq_by_cmp nat_cmp p q) None (commit_in xs q) q (passes x xs i p q d low at)
    ∙ ap (cond (eq_by_cmp nat_cmp p q) None) (sym (head_is x xs q))

-- where p is not, it has no commit that could go
pub commit-absent : (xs : List Delayed) (p q : ℕ) → has (numbers_in xs) p ≡ false → commit_in xs q ≡ cond (eq_by_cmp nat_cmp p q) None (commit_in xs q)
commit-absent xs p q absent =
    elim (cases_eq q p) [
      | inl same ↦ none_there xs q (ap (has (numbers_in xs)) same ∙ absent) ∙ sym (ap (λ (b : Bool). cond b None (commit_in xs q)) (eq_here p q (sym same)))
      | inr other ↦ sym (ap (λ (b : Bool). cond b None (commit_in xs q)) (eq_other p q (λ e. other (sym e))))
    ]

-- ---- the least commit

from_lower : (a b : ℕ) (o : Option ℕ) → a ≤ b → IsFrom b o → IsFrom a o
from_lower a b None le is = tt
from_lower a b (Some c) le is = omega (arith, le, is)

pub lower : (a b : ℕ) (xs : List Delayed) → a ≤ b → AreFrom b xs → AreFrom a xs
lower a b [] le are = tt
lower a b (x ∷ xs) le are = (from_lower a b x.commit le are.0, lower a b xs le are.1)

pub from-push : (least new : ℕ) (xs : List Delayed) (x : Delayed) → new ≤ least → IsFrom new x.commit → AreFrom least xs → AreFrom new (xs ++ x ∷ [])
from-push least new [] x le is are = (is, tt)
from-push least new (y ∷ ys) x le is are = (from_lower new least y.commit le are.0, from-push least new ys x le is are.1)

pub from-bare : (least : ℕ) (ns : List ℕ) → AreFrom least (map bare ns)
from-bare least [] = tt
from-bare least (n ∷ ns) = (tt, from-bare least ns)

pub from-insert : (least : ℕ) (xs : List Delayed) (i p : ℕ) → AreFrom least xs → AreFrom least (insert xs i (record { number = p; commit = None }))
from-insert least [] zero p are = (tt, tt)
from-insert least [] (suc i) p are = (tt, tt)
from-insert least (x ∷ xs) zero p are = (tt, are)
from-insert least (x ∷ xs) (suc i) p are = (are.0, from-insert least xs i p are.1)

pub from-set : (least : ℕ) (xs : List Delayed) (i p c : ℕ) → least ≤ c → AreFrom least xs → AreFrom least (set xs i (record { number = p; commit = Some c }))
from-set least [] i p c le are = tt
from-set least (x ∷ xs) zero p c le are = (le, are.1)
from-set least (x ∷ xs) (suc i) p c le are = (are.0, from-set least xs i p c le are.1)

pub from-remove : (least : ℕ) (xs : List Delayed) (i : ℕ) → AreFrom least xs → AreFrom least (remove xs i)
from-remove least [] zero are = tt
from-remove least [] (suc i) are = tt
from-remove least (x ∷ xs) zero are = are.1
from-remove least (x ∷ xs) (suc i) are = (are.0, from-remove least xs i are.1)

above_value : (least m n : ℕ) (o others : Option ℕ) (q d : ℕ) → m < least → IsFrom least o → (others ≡ Some d → m < d) → value_before n o others q ≡ Some d → m < d
above_value least m n None others q d low is rest e = rest e
above_value least m n (Some c) others q d low is rest e = by_test (eq_by_cmp nat_cmp q n) e
  where
    by_test : (b : Bool) → cond b (Some c) others ≡ Some d → m < d
    by_test true h = let same = same_number c d h in omega (arith, same, low, is)
    by_test false h = rest h

-- where the least is above m, each commit is
pub all_above : (least m : ℕ) (xs : List Delayed) (q d : ℕ) → m < least → AreFrom least xs → commit_in xs q ≡ Some d → m < d
all_above least m [] q d low are e = let no : None ≡ Some d = e in absurd (cc)
all_above least m (x ∷ xs) q d low are e =
    above_value least m x.number x.commit (commit_in xs q) q d low are.0 (λ h. all_above least m xs q d low are.1 h) (sym (head_is x xs q) ∙ e)

-- ---- the first that is passed

not_none : (a : ℕ × ℕ) → Some a ≡ None → ⊥
not_none a e = cc

above_or : (m n : ℕ) (o : Option ℕ) (found : Option (ℕ × ℕ)) (others : Option ℕ) (q d : ℕ) → (found ≡ None → others ≡ Some d → m < d) → passed_or m n o found ≡ None → value_before n o others q ≡ Some d → m < d
above_or m n None found others q d rest r k = rest r k
above_or m n (Some c) found others q d rest r k = by_tests (nat_le c m) (eq_by_cmp nat_cmp q n) refl r k
  where
    by_tests : (low same : Bool) → nat_le c m ≡ low → cond low (Some (n, c)) found ≡ None → cond same (Some c) others ≡ Some d → m < d
    by_tests true same is f h = absurd (not_none (n, c) f)
    by_tests false true is f h = let at = same_number c d h in let above = leb-false c m is in omega (arith, at, above)
    by_tests false false is f h = rest f h

-- where none is at most m, each commit is above
none_passed : (m : ℕ) (xs : List Delayed) → first_passed m xs ≡ None → (q d : ℕ) → commit_in xs q ≡ Some d → m < d
none_passed m [] none q d e = let no : None ≡ Some d = e in absurd (cc)
none_passed m (x ∷ xs) none q d e = above_or m x.number x.commit (first_passed m xs) (commit_in xs q) q d (λ r k. none_passed m xs r q d k) none (sym (head_is x xs q) ∙ e)

-- each number that has a commit is among the numbers
there_has : (xs : List Delayed) (q d : ℕ) → commit_in xs q ≡ Some d → has (numbers_in xs) q ≡ true
there_has xs q d e = by_test (has (numbers_in xs) q) refl
  where
    by_test : (b : Bool) → has (numbers_in xs) q ≡ b → has (numbers_in xs) q ≡ true
    by_test true is = is
    by_test false is = let none = none_there xs q is in let no : Some d ≡ None = sym e ∙ none in absurd (cc)

-- numbers behind the first of ascending ones are above it
abbrev pub AreBehind : ℕ → List Delayed → Type 0
AreBehind n [] = Unit {0}
AreBehind n (x ∷ xs) = (n < x.number) × AreBehind n xs

abbrev pub IsAscending : List Delayed → Type 0
IsAscending [] = Unit {0}
IsAscending (x ∷ xs) = AreBehind x.number xs × IsAscending xs

has_above : (n : ℕ) (xs : List Delayed) (q : ℕ) → AreBehind n xs → has (numbers_in xs) q ≡ true → n < q
has_above n [] q are e = let no : false ≡ true = e in absurd (cc)
has_above n (x ∷ xs) q are e = by_test (eq_by_cmp nat_cmp q x.number) refl (λ h. has_above n xs q are.1 h) e
  where
    by_test : (b : Bool) → eq_by_cmp nat_cmp q x.number ≡ b → (has (numbers_in xs) q ≡ true → n < q) → (b || has (numbers_in xs) q) ≡ true → n < q
    by_test true is rest h = let same = is_same q x.number is in omega (arith, same, are.0)
    by_test false is rest h = rest h

-- r is the first of them whose commit is at most m
abbrev pub IsFirstIn : ℕ → List Delayed → ℕ × ℕ → Type 0
IsFirstIn m xs r = (commit_in xs r.0 ≡ Some r.1) × (r.1 ≤ m) × ((q d : ℕ) → commit_in xs q ≡ Some d → d ≤ m → r.0 ≤ q)

-- the first number's own commit is that of it
commit_first : (x : Delayed) (xs : List Delayed) (c q : ℕ) → x.commit ≡ Some c → q ≡ x.number → commit_in (x ∷ xs) q ≡ Some c
commit_first x xs c q is same =
    head_is x xs q ∙ ap (λ (z : Option ℕ). value_before x.number z (commit_in xs q) q) is ∙ ap (λ (b : Bool). cond b (Some c) (commit_in xs q)) (eq_here q x.number same)

-- it is not the first number, where that has no commit that is at most m
first_behind : (m : ℕ) (x : Delayed) (xs : List Delayed) (r : ℕ × ℕ) → AreBehind x.number xs → ((c : ℕ) → x.commit ≡ Some c → m < c) → IsFirstIn m xs r → IsFirstIn m (x ∷ xs) r
first_behind m x xs r behind high k =
    let above = has_above x.number xs r.0 behind (there_has xs r.0 r.1 k.0) in (
      head_is x xs r.0 ∙ before_not x.number x.commit (commit_in xs r.0) r.0 (eq_other r.0 x.number (λ same. omega (arith, same, above))) ∙ k.0,
      k.1,
      λ q d there low. elim (cases_eq q x.number) [
        | inl same ↦ at_first x.commit refl q d same there low
        | inr other ↦ k.2 q d (sym (before_not x.number x.commit (commit_in xs q) q (eq_other q x.number other)) ∙ sym (head_is x xs q) ∙ there) low
      ],
    )
  where
    at_first : (o : Option ℕ) → x.commit ≡ o → (q d : ℕ) → q ≡ x.number → commit_in (x ∷ xs) q ≡ Some d → d ≤ m → r.0 ≤ q
    at_first None is q d same there low = k.2 q d (sym (head_is x xs q ∙ ap (λ (z : Option ℕ). value_before x.number z (commit_in xs q) q) is) ∙ there) low
    at_first (Some c) is q d same there low =
        let at = same_number c d (sym (commit_first x xs c q is same) ∙ there) in let more = high c is in absurd (omega (arith, at, more, low))

-- it is the first number, where that has one
first_here : (m c : ℕ) (x : Delayed) (xs : List Delayed) → AreBehind x.number xs → x.commit ≡ Some c → c ≤ m → IsFirstIn m (x ∷ xs) (x.number, c)
first_here m c x xs behind is low = (commit_first x xs c x.number is refl, low, λ q d there le. not_below q (eq_by_cmp nat_cmp q x.number) refl (there_has (x ∷ xs) q d there))
  where
    not_below : (q : ℕ) (b : Bool) → eq_by_cmp nat_cmp q x.number ≡ b → (b || has (numbers_in xs) q) ≡ true → x.number ≤ q
    not_below q true same f = omega (arith, is_same q x.number same)
    not_below q false same f = omega (arith, has_above x.number xs q behind f)

first_by : (m : ℕ) (x : Delayed) (xs : List Delayed) (r : ℕ × ℕ) (o : Option ℕ) → AreBehind x.number xs → x.commit ≡ o → (first_passed m xs ≡ Some r → IsFirstIn m xs r) → passed_or m x.number o (first_passed m xs) ≡ Some r → IsFirstIn m (x ∷ xs) r
first_by m x xs r None behind is rest e = first_behind m x xs r behind (λ c has_one. let no : None ≡ Some c = sym is ∙ has_one in absurd (cc)) (rest e)
first_by m x xs r (Some c) behind is rest e = by_test (nat_le c m) refl e
  where
    by_test : (b : Bool) → nat_le c m ≡ b → cond b (Some (x.number, c)) (first_passed m xs) ≡ Some r → IsFirstIn m (x ∷ xs) r
    by_test false low f = first_behind m x xs r behind (λ d has_one. let at = same_number c d (sym is ∙ has_one) in let above = leb-false c m low in omega (arith, at, above)) (rest f)
    by_test true low f = subst (IsFirstIn m (x ∷ xs)) (same_pair (x.number, c) r f) (first_here m c x xs behind is (leb-true c m low))

first_is : (m : ℕ) (xs : List Delayed) (r : ℕ × ℕ) → IsAscending xs → first_passed m xs ≡ Some r → IsFirstIn m xs r
first_is m [] r ascending e = let no : None ≡ Some r = e in absurd (cc)
first_is m (x ∷ xs) r ascending e = first_by m x xs r x.commit ascending.0 refl (λ f. first_is m xs r ascending.1 f) e

-- ---- in a map

rises_behind : (n : ℕ) (xs : List Delayed) → ((k : ℕ) → k < length (numbers_in xs) → n < get_or (numbers_in xs) k 0) → AreBehind n xs
rises_behind n [] above = tt
rises_behind n (x ∷ xs) above = (above 0 (omega arith), rises_behind n xs (λ k lt. above (suc k) (omega arith)))

ascending_by : (xs : List Delayed) → ((i j : ℕ) → i < j → j < length (numbers_in xs) → get_or (numbers_in xs) i 0 < get_or (numbers_in xs) j 0) → IsAscending xs
ascending_by [] up = tt
ascending_by (x ∷ xs) up = (rises_behind x.number xs (λ k lt. up 0 (suc k) (omega arith) (omega arith)), ascending_by xs (λ i j lt fits. up (suc i) (suc j) (omega arith) (omega arith)))

pub ascending : (xs : List Delayed) → IsStrictlyIncreasing (numbers_in xs) → IsAscending xs
ascending xs rising = ascending_by xs (λ i j lt fits. below_from_sorted (numbers_in xs) i j 0 (sorted_from_strictly_increasing (numbers_in xs) rising) lt fits)

pub distinct : (xs : List Delayed) → IsStrictlyIncreasing (numbers_in xs) → AreDistinct xs
distinct xs rising = distinct_from_rising (numbers_in xs) rising

in_list : (xs : List Delayed) (q d : ℕ) → get (map_of (commits_in xs)) q ≡ Some d → commit_in xs q ≡ Some d
in_list xs q d there = sym (get-map_of (commits_in xs) q) ∙ there

pub none_by_least : (least m : ℕ) (xs : List Delayed) → m < least → AreFrom least xs → NonePassed (map_of (commits_in xs)) m
none_by_least least m xs low are = λ q d there. all_above least m xs q d low are (in_list xs q d there)

none_by_search : (m : ℕ) (xs : List Delayed) → first_passed m xs ≡ None → NonePassed (map_of (commits_in xs)) m
none_by_search m xs none = λ q d there. none_passed m xs none q d (in_list xs q d there)

first_by_search : (m : ℕ) (xs : List Delayed) (r : ℕ × ℕ) → IsStrictlyIncreasing (numbers_in xs) → first_passed m xs ≡ Some r → IsFirstPassed (map_of (commits_in xs)) m r
first_by_search m xs r rising found =
    let k = first_is m xs r (ascending xs rising) found in
    record {
      there = get-map_of (commits_in xs) r.0 ∙ k.0;
      passed = k.1;
      first = λ q d there low. k.2 q d (in_list xs q d there) low;
    }

pub passed_by_search : (m : ℕ) (xs : List Delayed) (o : Option (ℕ × ℕ)) → IsStrictlyIncreasing (numbers_in xs) → first_passed m xs ≡ o → MatchOption o (NonePassed (map_of (commits_in xs)) m) (IsFirstPassed (map_of (commits_in xs)) m)
passed_by_search m xs None rising found = none_by_search m xs found
passed_by_search m xs (Some r) rising found = first_by_search m xs r rising found

-- nothing is there just where the list is empty
pub empty_none : (xs : List Delayed) → length xs ≡ 0 → ((p : ℕ) → contains (set_of_numbers (numbers_in xs)) p ≡ false) × ((p : ℕ) → get (map_of (commits_in xs)) p ≡ None)
empty_none [] empty = (none_of_list [] refl, none_of_entries [] refl)
empty_none (x ∷ xs) empty = absurd (omega arith)

pub none_empty : (xs : List Delayed) → ((p : ℕ) → contains (set_of_numbers (numbers_in xs)) p ≡ false) → length xs ≡ 0
none_empty xs none = let size = count_numbers xs in let empty = empty_of_none (numbers_in xs) none in omega (arith, size, empty)

-- ---- of numbers without a commit, and of the first

pub all_bare : (i : ℕ) (ns : List ℕ) (xs : List Delayed) → xs ≡ map bare (take i ns) → length ns ≤ i → xs ≡ map bare ns
all_bare i ns xs is all = is ∙ ap (map bare) (take_all i ns all)

pub first_least : (xs : List Delayed) → IsStrictlyIncreasing (numbers_in xs) → IsLeastOrNone (set_of_numbers (numbers_in xs)) (option_map number_of (slice_get xs 0))
first_least xs rising = subst (IsLeastOrNone (set_of_numbers (numbers_in xs))) (first_number xs) (least_of_rising (numbers_in xs) rising)
  where
    first_number : (ys : List Delayed) → slice_get (numbers_in ys) 0 ≡ option_map number_of (slice_get ys 0)
    first_number [] = refl
    first_number (y ∷ ys) = refl
