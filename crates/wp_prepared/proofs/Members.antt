-- A set is known by its numbers.
use Rattle.std.proofs.Common.{◌≡◌, ℕ, true, false, inl, inr, sym, ap, ◌∙◌}
use Rattle.std.specs.Cmp.{nat_cmp_total}
use Rattle.std.specs.Ordering.{nat_cmp}
use Rattle.std.specs.FinSet.{FinSet, contains, insert, remove, same_set, nat_cmp-IsAntisymmetric}
use Rattle.std.proofs.lemmas.Bool.{cases_eq}
use Rattle.wp_model.proofs.Numbers.{in_inserted, in_inserted_else, in_removed, in_removed_else}

-- two sets that have the same numbers are equal
same_members : (s t : FinSet nat_cmp) → ((q : ℕ) → contains s q ≡ contains t q) → s ≡ t
same_members s t = same_set nat_cmp_total nat_cmp-IsAntisymmetric s t

-- t is s with p, where it has p and has each other number just as s
pub inserted : (s t : FinSet nat_cmp) (p : ℕ) → contains t p ≡ true → ((q : ℕ) → (q ≡ p → ⊥) → contains t q ≡ contains s q) → t ≡ insert s p
inserted s t p here apart =
    same_members t (insert s p) (λ q. elim (cases_eq q p) [
      | inl same ↦ ap (contains t) same ∙ here ∙ sym (in_inserted s p) ∙ ap (contains (insert s p)) (sym same)
      | inr other ↦ apart q other ∙ sym (in_inserted_else s p q other)
    ])

-- t is s without p, where it lacks p and has each other number just as s
pub removed : (s t : FinSet nat_cmp) (p : ℕ) → contains t p ≡ false → ((q : ℕ) → (q ≡ p → ⊥) → contains t q ≡ contains s q) → t ≡ remove s p
removed s t p here apart =
    same_members t (remove s p) (λ q. elim (cases_eq q p) [
      | inl same ↦ ap (contains t) same ∙ here ∙ sym (in_removed s p) ∙ ap (contains (remove s p)) (sym same)
      | inr other ↦ apart q other ∙ sym (in_removed_else s p q other)
    ])
