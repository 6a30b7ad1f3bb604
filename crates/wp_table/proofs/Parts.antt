-- Parts of a table that hold for every field: tests, lists of tests.
use Rattle.std.proofs.Common.{◌≡◌, Bool, true, false, ◌&&◌, List, [], ◌∷◌, filter, Ok, refl}
use Rattle.std.specs.List.{list_all}
use Rattle.std.proofs.lemmas.Bool.{and_parts, and_from, cond_both}
use Rattle.wp_fields.proofs.Results.{ok_is}
use Rattle.wp_table.specs.declared.error.TableError.{TableError}
use Rattle.wp_table.specs.Reading.{if_right}

-- what was read was right
pub was_right : {X : Type 0} (right : Bool) (fault : TableError) (read x : X) → if_right right fault read ≡ Ok x → (right ≡ true) × (read ≡ x)
was_right true fault read x e = (refl, ok_is {E = TableError} read x e)
was_right false fault read x e = absurd cc

pub list_all-both : {X : Type 0} (p q : X → Bool) (xs : List X) → list_all p xs ≡ true → list_all q xs ≡ true → list_all (λ x. p x && q x) xs ≡ true
list_all-both p q [] h k = refl
list_all-both p q (x ∷ xs) h k =
    let hs = and_parts (p x) (list_all p xs) h in
    let ks = and_parts (q x) (list_all q xs) k in
    and_from _ _ (and_from _ _ hs.0 ks.0) (list_all-both p q xs hs.1 ks.1)

-- where both tests hold of each, the first does
pub list_all-first : {X : Type 0} (p q : X → Bool) (xs : List X) → list_all (λ x. p x && q x) xs ≡ true → list_all p xs ≡ true
list_all-first p q [] h = refl
list_all-first p q (x ∷ xs) h =
    let hs = and_parts (p x && q x) (list_all (λ y. p y && q y) xs) h in
    and_from _ _ (and_parts (p x) (q x) hs.0).0 (list_all-first p q xs hs.1)

-- what holds of each holds of each that passes
pub list_all-filter : {X : Type 0} (p f : X → Bool) (xs : List X) → list_all p xs ≡ true → list_all p (filter f xs) ≡ true
list_all-filter p f [] h = refl
list_all-filter p f (x ∷ xs) h =
    let hs = and_parts (p x) (list_all p xs) h in
    let rest = list_all-filter p f xs hs.1 in
    cond_both (f x) (x ∷ filter f xs) (filter f xs) (λ ys. list_all p ys ≡ true) (λ _. and_from _ _ hs.0 rest) (λ _. rest)
