-- Of each prepared number the pair is in its word, if it is decided at the bound or before.
use Rattle.std.proofs.Common.{◌≡◌, ℕ, nat_eq, Bool, true, false, ◌||◌, List, [], ◌∷◌, refl, sym, ◌∙◌, subst}
use Rattle.std.specs.Ordering.{nat_cmp}
use Rattle.std.specs.List.{list_any}
use Rattle.std.specs.FinSet as set
use Rattle.std.proofs.lemmas.Bool.{eqb-true}
use Rattle.wp_model.specs.declared.entry.Entry.{Entry}
use Rattle.wp_model.specs.PreparedSets.{PreparedSets}
use Rattle.wp_core.specs.Sound.Views.{NoneWaits}
use Rattle.wp_machine_permits.specs.Each.{Each}
use Rattle.wp_machine_permits.specs.Waiting.{IsInWord}

each_any : (P : ℕ → Type 0) (numbers : List ℕ) (p : ℕ) → Each P numbers → list_any (λ y. nat_eq y p) numbers ≡ true → P p
each_any P [] p each found = absurd cc
each_any P (x ∷ xs) p each found = by (nat_eq x p) refl (each_any P xs p each.1) found
  where
    by : (b : Bool) → nat_eq x p ≡ b → (list_any (λ y. nat_eq y p) xs ≡ true → P p) → (b || list_any (λ y. nat_eq y p) xs) ≡ true → P p
    by true is others found = subst P (eqb-true x p is) each.0
    by false is others found = others found

each_in_set : (P : ℕ → Type 0) (numbers : List ℕ) → Each P numbers → (p : ℕ) → set.contains (set.from_list {R = nat_cmp} numbers) p ≡ true → P p
each_in_set P numbers each p found = each_any P numbers p each (sym (set.contains-from_list_nat numbers p) ∙ found)

either : (P : Type 0) (a b : Bool) → (a || b) ≡ true → (a ≡ true → P) → (b ≡ true → P) → P
either P true b e one two = one refl
either P false b e one two = two e

pub none_wait : (history : List Entry) (t : PreparedSets) (cache : List ℕ) (max : ℕ) (heap delayed : List ℕ) → t.heap ≡ set.from_list heap → t.delayed ≡ set.from_list delayed → Each (IsInWord history cache max) heap → Each (IsInWord history cache max) delayed
    → NoneWaits history t cache max
none_wait history t cache max heap delayed one two first second p c there decided low =
    either (IsInWord history cache max p) (set.contains t.heap p) (set.contains t.delayed p) there
    (λ has. each_in_set (IsInWord history cache max) heap first p (subst (λ (s : set.FinSet nat_cmp). set.contains s p ≡ true) one has))
    (λ has. each_in_set (IsInWord history cache max) delayed second p (subst (λ (s : set.FinSet nat_cmp). set.contains s p ≡ true) two has))
    c decided low
