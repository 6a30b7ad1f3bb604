-- Lists: what one of them has, and what all of them count.
use Rattle.std.proofs.Common.{◌≡◌, ◌≢◌, inl, inr, ℕ, zero, suc, ◌+◌, ◌≤◌, Bool, true, false, true≢false, cond, List, [], ◌∷◌, ◌++◌, length, refl, sym, ap, ◌∙◌, arith}
use Rattle.std.specs.Prelude.{◌&&◌, ◌==◌, count_by}
use Rattle.std.specs.List.{filter, list_any}
use Rattle.std.proofs.lemmas.Bool.{cases_Bool, or_cases, or_left, or_right}
use Rattle.std.proofs.lemmas.List.Sums.{sum_by-cons, sum_by-append}
use mathlib.Core.Option.{some, some-injective, some-ne-none}
use lib.ListN.{get_elem?}
use Rattle.wp_core.specs.Lists.{IsIn, one_if, total}
use Rattle.wp_core.specs.Sound.Actors.{times}
use Rattle.wp_model.proofs.Tests.{both}

pub both_so : (a b : Bool) → a ≡ true → b ≡ true → (a && b) ≡ true
both_so a b first second = rw first second

-- ---- one of them

pub any_at : {A : Type 0} (p : A → Bool) (xs : List A) (i : ℕ) (x : A) → get_elem? xs i ≡ some x → p x ≡ true → list_any p xs ≡ true
any_at p [] i x at is = absurd (some-ne-none x (sym at))
any_at p (y ∷ xs) zero x at is = or_left (p y) (list_any p xs) (ap p (some-injective y x at) ∙ is)
any_at p (y ∷ xs) (suc i) x at is = or_right (p y) (list_any p xs) (any_at p xs i x at is)

-- one of the others
pub any_other : {A : Type 0} (p : A → Bool) (before : List A) (own : A) (after : List A) (i : ℕ) (x : A) → get_elem? (before ++ own ∷ after) i ≡ some x → i ≢ length before → p x ≡ true → list_any p (before ++ after) ≡ true
any_other p [] own after zero x at ne is = absurd (ne refl)
any_other p [] own after (suc i) x at ne is = any_at p after i x at is
any_other p (b ∷ before) own after zero x at ne is = or_left (p b) (list_any p (before ++ after)) (ap p (some-injective b x at) ∙ is)
any_other p (b ∷ before) own after (suc i) x at ne is = or_right (p b) (list_any p (before ++ after)) (any_other p before own after i x at (λ (e : i ≡ length before). ne (omega arith)) is)

pub any_wider : {A : Type 0} (p q : A → Bool) (xs : List A) → ((x : A) → p x ≡ true → q x ≡ true) → list_any p xs ≡ true → list_any q xs ≡ true
any_wider p q [] f is = is
any_wider p q (x ∷ xs) f is = elim (or_cases (p x) (list_any p xs) is) [
  | inl here ↦ or_left (q x) (list_any q xs) (f x here)
  | inr later ↦ or_right (q x) (list_any q xs) (any_wider p q xs f later)
]

pub any_filter : {A : Type 0} (p q : A → Bool) (xs : List A) → list_any (λ x. q x && p x) xs ≡ true → list_any p (filter q xs) ≡ true
any_filter p q [] is = is
any_filter p q (x ∷ xs) is = elim (or_cases (q x && p x) (list_any (λ y. q y && p y) xs) is) [
  | inl here ↦ let k = both (q x) (p x) here in rw k.0 (or_left (p x) (list_any p (filter q xs)) k.1)
  | inr later ↦ elim (cases_Bool (q x)) [
    | inl kept ↦ rw kept (or_right (p x) (list_any p (filter q xs)) (any_filter p q xs later))
    | inr dropped ↦ rw dropped (any_filter p q xs later)
  ]
]

-- which one it is
pub any_in : {A : Type 0} (p : A → Bool) (xs : List A) → list_any p xs ≡ true → (x : A) × IsIn x xs × (p x ≡ true)
any_in p [] is = absurd (true≢false (sym is))
any_in p (x ∷ xs) is = elim (or_cases (p x) (list_any p xs) is) [
  | inl here ↦ (x, inl refl, here)
  | inr later ↦ let k = any_in p xs later in (k.0, inr k.1, k.2)
]

-- ---- counts

-- where some are counted, there is one
pub count_any : {A : Type 0} (p : A → Bool) (xs : List A) → 1 ≤ count_by p xs → list_any p xs ≡ true
count_any p [] some_there = absurd (omega arith)
count_any p (x ∷ xs) some_there = elim (cases_Bool (p x)) [
  | inl here ↦ or_left (p x) (list_any p xs) here
  | inr other ↦
      let whole : count_by p (x ∷ xs) ≡ cond (p x) 1 0 + count_by p xs = sum_by-cons (λ y. cond (p y) 1 0) x xs in
      let none : ◌≡◌ {A = ℕ} (cond (p x) 1 0) 0 = rw other refl in
      or_right (p x) (list_any p xs) (count_any p xs (omega (arith, some_there, whole, none)))
]

pub count_append : {A : Type 0} (p : A → Bool) (xs ys : List A) → count_by p (xs ++ ys) ≡ count_by p xs + count_by p ys
count_append p xs ys = sum_by-append (λ x. cond (p x) 1 0) xs ys

pub count_times : (n : ℕ) (numbers : List ℕ) → count_by (λ m. m == n) numbers ≡ times n numbers
count_times n [] = refl
count_times n (m ∷ numbers) =
    let whole : count_by (λ k. k == n) (m ∷ numbers) ≡ cond (m == n) 1 0 + count_by (λ k. k == n) numbers = sum_by-cons (λ k. cond (k == n) 1 0) m numbers in
    let others = count_times n numbers in whole ∙ ap (λ (k : ℕ). cond (m == n) 1 0 + k) others

-- what is counted at least once is there
pub counted_in : {A : Type 0} (p : A → Bool) (xs : List A) → 1 ≤ total (λ x. one_if (p x)) xs → (x : A) × IsIn x xs × (p x ≡ true)
counted_in p [] some_there = absurd (omega arith)
counted_in p (x ∷ xs) some_there = elim (cases_Bool (p x)) [
  | inl here ↦ (x, inl refl, here)
  | inr other ↦
      let none : ◌≡◌ {A = ℕ} (one_if (p x)) 0 = rw other refl in
      let k = counted_in p xs (omega (arith, some_there, none)) in (k.0, inr k.1, k.2)
]
