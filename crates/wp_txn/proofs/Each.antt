-- Lists of prepared transactions: what holds of each of them, and how their names differ.
use Rattle.std.proofs.Common.{◌≡◌, ◌≢◌, ⊎_elim, inl, inr, ℕ, suc, ◌+◌, ◌<◌, List, [], ◌∷◌, ◌++◌, length, map, take, refl, sym, subst, ap, ◌∙◌, arith}
use Rattle.std.proofs.lemmas.List.{take_more, map_push}
use Rattle.std.specs.Prelude.{AllPairs, slice_index_or}
use Rattle.std.specs.List.{AllByRecursion}
use Rattle.wp_core.specs.Lists.{IsIn}
use Rattle.wp_open_txns.specs.Txn.{PreparedState}
use Rattle.wp_txn.specs.Groups.{names_of}

pub all_in : {X : Type 0} (P : X → Type 0) (xs : List X) (x : X) → AllByRecursion P xs → IsIn x xs → P x
all_in P [] x each there = absurd there
all_in P (first ∷ others) x each there = ⊎_elim (λ (e : first ≡ x). subst P e each.0) (λ (k : IsIn x others). all_in P others x each.1 k) there

pub all_of : {X : Type 0} (P : X → Type 0) (xs : List X) → ((x : X) → IsIn x xs → P x) → AllByRecursion P xs
all_of P [] each = tt
all_of P (first ∷ others) each = (each first (inl refl), all_of P others (λ x there. each x (inr there)))

-- what is so of each that has something
pub all_with : {X : Type 0} (P Q : X → Type 0) (xs : List X) → ((x : X) → P x → Q x) → AllByRecursion P xs → AllByRecursion Q xs
all_with P Q xs weaker each = all_of Q xs (λ x there. weaker x (all_in P xs x each there))

pub in_mapped : {X Y : Type 0} (f : X → Y) (xs : List X) (x : X) → IsIn x xs → IsIn (f x) (map f xs)
in_mapped f [] x there = absurd there
in_mapped f (first ∷ others) x there = ⊎_elim (λ (e : first ≡ x). inl (ap f e)) (λ (k : IsIn x others). inr (in_mapped f others x k)) there

pub mapped_next : {X Y : Type 0} (f : X → Y) (xs : List X) (i : ℕ) (x : X) → i < length xs → x ≡ slice_index_or xs i x → map f (take (i + 1) xs) ≡ map f (take i xs) ++ f x ∷ []
mapped_next f xs i x lt is = ap (map f) (take_more xs i x lt ∙ ap (λ y. take i xs ++ y ∷ []) (sym is)) ∙ map_push f (take i xs) x

-- none has the name of an earlier one
abbrev pub HaveOtherNames : List PreparedState → Type 0
HaveOtherNames [] = Unit {0}
HaveOtherNames (first ∷ others) = AllByRecursion (λ x. first.name ≢ x.name) others × HaveOtherNames others

other_name : (name : List ℕ) (xs : List PreparedState) → ((j : ℕ) (d : List ℕ) → j < length (names_of xs) → name ≢ slice_index_or (names_of xs) j d) → AllByRecursion (λ x. name ≢ x.name) xs
other_name name [] each = tt
other_name name (first ∷ others) each = (each 0 [] (omega arith), other_name name others (λ j d low. each (suc j) d (omega (arith, low))))

pub other_names : (xs : List PreparedState) → AllPairs ◌≢◌ (names_of xs) → HaveOtherNames xs
other_names [] apart = tt
other_names (first ∷ others) apart =
    (other_name first.name others (λ j d low. apart 0 (suc j) d (omega arith) (omega (arith, low))), other_names others (λ i j d low high. apart (suc i) (suc j) d (omega (arith, low)) (omega (arith, high))))
