-- Sets and maps of numbers, with one number more or less.
use Rattle.std.proofs.Common.{◌≡◌, ◌≢◌, ℕ, ◌||◌, ◌&&◌, not, true, false, cond, refl, ap, ◌∙◌, Some, None}
use Rattle.std.proofs.lemmas.Bool.{eq-eqb, ne_eqb}
use Rattle.std.specs.Cmp.{nat_cmp_total, unsigned_tied}
use Rattle.std.specs.Ordering.{nat_cmp, eq_by_cmp}
use Rattle.std.specs.FinSet as finset
use Rattle.std.specs.FinMap as finite

eq_here : (p : ℕ) → eq_by_cmp nat_cmp p p ≡ true
eq_here p = unsigned_tied p p ∙ eq-eqb p p refl

eq_else : (q p : ℕ) → q ≢ p → eq_by_cmp nat_cmp q p ≡ false
eq_else q p ne = unsigned_tied q p ∙ ne_eqb q p ne

pub in_inserted : (s : finset.FinSet nat_cmp) (p : ℕ) → finset.contains (finset.insert s p) p ≡ true
in_inserted s p = finset.contains-insert nat_cmp_total s p p ∙ ap (λ b. b || finset.contains s p) (eq_here p)

pub in_inserted_else : (s : finset.FinSet nat_cmp) (p q : ℕ) → q ≢ p → finset.contains (finset.insert s p) q ≡ finset.contains s q
in_inserted_else s p q ne = finset.contains-insert nat_cmp_total s p q ∙ ap (λ b. b || finset.contains s q) (eq_else q p ne)

pub in_removed : (s : finset.FinSet nat_cmp) (p : ℕ) → finset.contains (finset.remove s p) p ≡ false
in_removed s p = finset.contains-remove nat_cmp_total s p p ∙ ap (λ b. not b && finset.contains s p) (eq_here p)

pub in_removed_else : (s : finset.FinSet nat_cmp) (p q : ℕ) → q ≢ p → finset.contains (finset.remove s p) q ≡ finset.contains s q
in_removed_else s p q ne = finset.contains-remove nat_cmp_total s p q ∙ ap (λ b. not b && finset.contains s q) (eq_else q p ne)

pub get_inserted : {X : Type 0} (m : finite.FinMap nat_cmp X) (p : ℕ) (c : X) → finite.get (finite.insert m p c) p ≡ Some c
get_inserted m p c = finite.get-insert nat_cmp_total m p c p ∙ ap (λ b. cond b (Some c) (finite.get m p)) (eq_here p)

pub get_inserted_else : {X : Type 0} (m : finite.FinMap nat_cmp X) (p : ℕ) (c : X) (q : ℕ) → q ≢ p → finite.get (finite.insert m p c) q ≡ finite.get m q
get_inserted_else m p c q ne = finite.get-insert nat_cmp_total m p c q ∙ ap (λ b. cond b (Some c) (finite.get m q)) (eq_else q p ne)

pub get_removed : {X : Type 0} (m : finite.FinMap nat_cmp X) (p : ℕ) → finite.get (finite.remove m p) p ≡ None
get_removed m p = finite.get-remove nat_cmp_total m p p ∙ ap (λ b. cond b None (finite.get m p)) (eq_here p)

pub get_removed_else : {X : Type 0} (m : finite.FinMap nat_cmp X) (p q : ℕ) → q ≢ p → finite.get (finite.remove m p) q ≡ finite.get m q
get_removed_else m p q ne = finite.get-remove nat_cmp_total m p q ∙ ap (λ b. cond b None (finite.get m q)) (eq_else q p ne)
