-- The finite set or map that a list stands for.
use Rattle.std.proofs.Common.{◌≡◌, ℕ, Bool, true, false, cond, not, ◌||◌, ◌&&◌, List, [], ◌∷◌, length, inl, inr, refl, sym, ap, ◌∙◌, arith}
use Rattle.std.specs.Cmp.{nat_cmp_total, eq_by_cmp_equiv, unsigned_tied}
use Rattle.std.specs.Ordering.{nat_cmp, eq_by_cmp}
use Rattle.std.proofs.lemmas.Bool.{cases_eq, eq-eqb, ne_eqb, both_ways}
use Rattle.std.specs.List.{list_any, AllByRecursion}
use Rattle.std.specs.FinSet.{FinSet, from_list, contains, insert, remove, contains-from_list, contains-insert, contains-remove, same_set, nat_cmp-IsAntisymmetric}

-- whether a list has the number q
abbrev pub has : List ℕ → ℕ → Bool
has ks q = list_any (eq_by_cmp nat_cmp q) ks

-- the set of the list's numbers
abbrev pub set_of_numbers : List ℕ → FinSet nat_cmp
set_of_numbers ks = from_list ks

pub same_either_way : (a b : ℕ) → eq_by_cmp nat_cmp a b ≡ eq_by_cmp nat_cmp b a
same_either_way a b = (eq_by_cmp_equiv nat_cmp_total).symm a b

or_cond : (a b : Bool) → cond a true b ≡ (a || b)
or_cond true b = refl
or_cond false b = refl

and_cond : (a b : Bool) → cond a false b ≡ (not a && b)
and_cond true b = refl
and_cond false b = refl

pub from_list_same : (ks : List ℕ) (s : FinSet nat_cmp) → ((q : ℕ) → has ks q ≡ contains s q) → set_of_numbers ks ≡ s
from_list_same ks s same = same_set nat_cmp_total nat_cmp-IsAntisymmetric _ _ (λ q. contains-from_list nat_cmp_total ks q ∙ same q)

pub from_list_inserted : (ks ns : List ℕ) (k : ℕ) → ((q : ℕ) → has ns q ≡ cond (eq_by_cmp nat_cmp k q) true (has ks q)) → set_of_numbers ns ≡ insert (set_of_numbers ks) k
from_list_inserted ks ns k is =
    from_list_same ns _ (λ q.
    is q
    ∙ or_cond (eq_by_cmp nat_cmp k q) (has ks q)
    ∙ ap (λ b. b || has ks q) (same_either_way k q)
    ∙ ap (λ b. eq_by_cmp nat_cmp q k || b) (sym (contains-from_list nat_cmp_total ks q))
    ∙ sym (contains-insert nat_cmp_total (set_of_numbers ks) k q))

pub from_list_removed : (ks ns : List ℕ) (k : ℕ) → ((q : ℕ) → has ns q ≡ cond (eq_by_cmp nat_cmp k q) false (has ks q)) → set_of_numbers ns ≡ remove (set_of_numbers ks) k
from_list_removed ks ns k is =
    from_list_same ns _ (λ q.
    is q
    ∙ and_cond (eq_by_cmp nat_cmp k q) (has ks q)
    ∙ ap (λ b. not b && has ks q) (same_either_way k q)
    ∙ ap (λ b. not (eq_by_cmp nat_cmp q k) && b) (sym (contains-from_list nat_cmp_total ks q))
    ∙ sym (contains-remove nat_cmp_total (set_of_numbers ks) k q))

-- a list in which no number equals k lacks it
pub has_none : (k : ℕ) (ks : List ℕ) → AllByRecursion (λ y. eq_by_cmp nat_cmp k y ≡ false) ks → has ks k ≡ false
has_none k [] apart = refl
has_none k (y ∷ ks) apart = ap (λ b. b || has ks k) apart.0 ∙ has_none k ks apart.1

-- what a list has besides the number p at its head, where that is there once
pub has-tail : (p q : ℕ) (rest : List ℕ) → has rest p ≡ false → has rest q ≡ cond (eq_by_cmp nat_cmp p q) false (has (p ∷ rest) q)
has-tail p q rest once =
    elim (cases_eq p q) [
      | inl same ↦ rw (unsigned_tied p q, eq-eqb p q same) (ap (has rest) (sym same) ∙ once)
      | inr apart ↦ rw (unsigned_tied p q, ne_eqb p q apart, unsigned_tied q p, ne_eqb q p (λ e. apart (sym e))) refl
    ]

-- what a list says of p it says of each number that equals p
pub has_in_step : (xs : List ℕ) (p : ℕ) {b : Bool} → has xs p ≡ b → (q : ℕ) → has xs q ≡ cond (eq_by_cmp nat_cmp p q) b (has xs q)
has_in_step xs p in_step q =
    elim (cases_eq p q) [
      | inl same ↦ rw (unsigned_tied p q, eq-eqb p q same) (ap (has xs) (sym same) ∙ in_step)
      | inr apart ↦ rw (unsigned_tied p q, ne_eqb p q apart) refl
    ]

-- a set has nothing just where its list is empty
pub none_of_list : (ks : List ℕ) → length ks ≡ 0 → (p : ℕ) → contains (set_of_numbers ks) p ≡ false
none_of_list [] empty p = contains-from_list nat_cmp_total [] p
none_of_list (k ∷ ks) empty p = absurd (omega arith)

pub empty_of_none : (ks : List ℕ) → ((p : ℕ) → contains (set_of_numbers ks) p ≡ false) → length ks ≡ 0
empty_of_none [] none = refl
empty_of_none (k ∷ ks) none = absurd (both_ways _ (none k) (contains-from_list nat_cmp_total (k ∷ ks) k ∙ ap (λ b. b || has ks k) (unsigned_tied k k ∙ eq-eqb k k refl)))
