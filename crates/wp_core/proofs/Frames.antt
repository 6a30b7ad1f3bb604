-- What a step of one actor leaves of facts on lists of actors.
use Rattle.std.proofs.Common.{◌≡◌, ◌≢◌, ◌⊎◌, ⊎_elim, arith, ℕ, zero, suc, Bool, true, false, cond, inl, inr, true≢false, List, [], ◌∷◌, map, filter, set, refl, sym, subst, ap, ◌∙◌}
use mathlib.Core.Option.{some, some-injective, some-ne-none}
use lib.ListN.{get_elem?}
use Rattle.wp_core.specs.Lists.{EachAt, IsIn}

-- what a list has once a place is set: the new item there, and elsewhere what it had
pub at_set : {X : Type 0} (xs : List X) (i j : ℕ) (x y : X) → get_elem? (set xs i x) j ≡ some y → ((j ≡ i) × (x ≡ y)) ⊎ ((j ≢ i) × (get_elem? xs j ≡ some y))
at_set [] i j x y e = absurd (some-ne-none y (sym e))
at_set (z ∷ zs) zero zero x y e = inl (refl, some-injective x y e)
at_set (z ∷ zs) zero (suc j) x y e = inr ((λ h. omega arith), e)
at_set (z ∷ zs) (suc i) zero x y e = inr ((λ h. omega arith), e)
at_set (z ∷ zs) (suc i) (suc j) x y e = ⊎_elim (λ t. inl (ap suc t.0, t.1)) (λ t. let n = t.0 in inr ((λ h. n (omega arith)), t.1)) (at_set zs i j x y e)

pub set_else : {X : Type 0} (xs : List X) (i j : ℕ) (x : X) → j ≢ i → get_elem? (set xs i x) j ≡ get_elem? xs j
set_else [] i j x n = refl
set_else (z ∷ zs) zero zero x n = absurd (n refl)
set_else (z ∷ zs) zero (suc j) x n = refl
set_else (z ∷ zs) (suc i) zero x n = refl
set_else (z ∷ zs) (suc i) (suc j) x n = set_else zs i j x (λ e. n (ap suc e))

-- a projection that one actor's change leaves alone
pub kept_map : {A B : Type 0} (f : A → B) (xs : List A) (by : ℕ) (a b : A) → get_elem? xs by ≡ some a → f b ≡ f a → map f (set xs by b) ≡ map f xs
kept_map f [] by a b at same = refl
kept_map f (x ∷ xs) zero a b at same = λ i. (same ∙ ap f (sym (some-injective x a at))) i ∷ map f xs
kept_map f (x ∷ xs) (suc by) a b at same = λ i. f x ∷ kept_map f xs by a b at same i

pub map_set : {A B : Type 0} (f : A → B) (xs : List A) (by : ℕ) (b : A) → map f (set xs by b) ≡ set (map f xs) by (f b)
map_set f [] by b = refl
map_set f (x ∷ xs) zero b = refl
map_set f (x ∷ xs) (suc by) b = λ i. f x ∷ map_set f xs by b i

-- each item, once one of them changed
pub each_set : {X : Type 0} (P : ℕ → X → Type 0) (xs : List X) (by : ℕ) (y : X) → P by y → ((j : ℕ) (x : X) → j ≢ by → get_elem? xs j ≡ some x → P j x) → EachAt P (set xs by y)
each_set {X} P xs by y is others j x at =
    ⊎_elim (λ (t : (j ≡ by) × (y ≡ x)). subst (λ (z : ℕ × X). P z.0 z.1) (λ i. (sym t.0 i, t.1 i)) is) (λ (t : (j ≢ by) × (get_elem? xs j ≡ some x)). others j x t.0 t.1) (at_set xs by j y x at)

-- the same of a projection
pub each_map_set : {A X : Type 0} (f : A → X) (P : ℕ → X → Type 0) (xs : List A) (by : ℕ) (b : A) → P by (f b) → ((j : ℕ) (x : X) → j ≢ by → get_elem? (map f xs) j ≡ some x → P j x) → EachAt P (map f (set xs by b))
each_map_set f P xs by b is others = subst (EachAt P) (sym (map_set f xs by b)) (each_set P (map f xs) by (f b) is others)

pub at_map : {A B : Type 0} (f : A → B) (xs : List A) (i : ℕ) (a : A) → get_elem? xs i ≡ some a → get_elem? (map f xs) i ≡ some (f a)
at_map f [] i a e = absurd (some-ne-none a (sym e))
at_map f (x ∷ xs) zero a e = ap (λ y. some (f y)) (some-injective x a e)
at_map f (x ∷ xs) (suc i) a e = at_map f xs i a e

one_test : {X : Type 0} (p : X → Bool) (x y : X) (ys : List X) (b : Bool) → p y ≡ b → (IsIn x (filter p ys) → IsIn x ys × (p x ≡ true)) → IsIn x (cond b (y ∷ filter p ys) (filter p ys)) → IsIn x (y ∷ ys) × (p x ≡ true)
one_test p x y ys true e others h = ⊎_elim (λ (q : y ≡ x). (inl q, ap p (sym q) ∙ e)) (λ (r : IsIn x (filter p ys)). let t = others r in (inr t.0, t.1)) h
one_test p x y ys false e others h = let t = others h in (inr t.0, t.1)

-- what passes a test stood in the list, and passes
pub in_filter : {X : Type 0} (p : X → Bool) (x : X) (xs : List X) → IsIn x (filter p xs) → IsIn x xs × (p x ≡ true)
in_filter p x [] h = absurd h
in_filter p x (y ∷ ys) h = one_test p x y ys (p y) refl (in_filter p x ys) h

one_kept : {X : Type 0} (p : X → Bool) (x y : X) (ys : List X) (b : Bool) → p y ≡ b → p x ≡ true → (IsIn x ys → IsIn x (filter p ys)) → IsIn x (y ∷ ys) → IsIn x (cond b (y ∷ filter p ys) (filter p ys))
one_kept p x y ys true e px others h = ⊎_elim (λ (q : y ≡ x). inl q) (λ (r : IsIn x ys). inr (others r)) h
one_kept p x y ys false e px others h = ⊎_elim (λ (q : y ≡ x). let t : true ≡ false = sym px ∙ (ap p (sym q) ∙ e) in absurd (true≢false t)) (λ (r : IsIn x ys). others r) h

pub filter_in : {X : Type 0} (p : X → Bool) (x : X) (xs : List X) → p x ≡ true → IsIn x xs → IsIn x (filter p xs)
filter_in p x [] px h = absurd h
filter_in p x (y ∷ ys) px h = one_kept p x y ys (p y) refl px (filter_in p x ys px) h

-- an item that is there is there after its place is set
pub here : {X : Type 0} (xs : List X) (by : ℕ) (a b : X) → get_elem? xs by ≡ some a → get_elem? (set xs by b) by ≡ some b
here [] by a b at = absurd (some-ne-none a (sym at))
here (x ∷ xs) zero a b at = refl
here (x ∷ xs) (suc by) a b at = here xs by a b at
