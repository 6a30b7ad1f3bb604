-- The finite set that a hash set's keys stand for.
use Rattle.std.proofs.Common.{◌≡◌, ℕ, Bool, true, false, cond, ◌||◌, nat_eq, List, [], ◌∷◌, refl, sym, ◌∙◌}
use Rattle.std.specs.Cmp.{nat_cmp_total, unsigned_tied, nat_eq_equiv}
use Rattle.std.specs.Ordering.{nat_cmp}
use Rattle.std.specs.List.{list_any}
use Rattle.std.specs.FinSet.{FinSet, from_list, contains, insert, contains-empty, contains-insert, same_set, nat_cmp-IsAntisymmetric}

-- the set of the list's numbers
abbrev pub old_commit_set : List ℕ → FinSet nat_cmp
old_commit_set ks = from_list ks

pub contains-old_commit_set : (ks : List ℕ) (q : ℕ) → contains (old_commit_set ks) q ≡ list_any (nat_eq q) ks
contains-old_commit_set [] q = contains-empty nat_cmp q
contains-old_commit_set (k ∷ ks) q = contains-insert nat_cmp_total (old_commit_set ks) k q ∙ (λ i. unsigned_tied q k i || contains-old_commit_set ks q i)

set_of_same : (ks : List ℕ) (s : FinSet nat_cmp) → ((q : ℕ) → list_any (nat_eq q) ks ≡ contains s q) → old_commit_set ks ≡ s
set_of_same ks s same = same_set nat_cmp_total nat_cmp-IsAntisymmetric _ _ (λ q. contains-old_commit_set ks q ∙ same q)

pub set_of_reordered : (ks ns : List ℕ) → ((q : ℕ) → list_any (nat_eq q) ns ≡ list_any (nat_eq q) ks) → old_commit_set ns ≡ old_commit_set ks
set_of_reordered ks ns same = set_of_same ns (old_commit_set ks) (λ q. same q ∙ sym (contains-old_commit_set ks q))

pub set_of_inserted : (ks ns : List ℕ) (k : ℕ) → ((q : ℕ) → list_any (nat_eq q) ns ≡ cond (nat_eq k q) true (list_any (nat_eq q) ks)) → old_commit_set ns ≡ insert (old_commit_set ks) k
set_of_inserted ks ns k is =
    set_of_same ns _ (λ q.
    is q
    ∙ or_cond (nat_eq k q) (list_any (nat_eq q) ks)
    ∙ (λ i. (nat_eq_equiv.symm k q ∙ sym (unsigned_tied q k)) i || sym (contains-old_commit_set ks q) i)
    ∙ sym (contains-insert nat_cmp_total (old_commit_set ks) k q))
  where
    or_cond : (a b : Bool) → cond a true b ≡ (a || b)
    or_cond true b = refl
    or_cond false b = refl
