-- One number moves from the heap to the delayed set.
use Rattle.std.proofs.Common.{◌≡◌, ℕ, ◌+◌, ◌-◌, ◌≤◌, Bool, true, false, cond, inl, inr, ◌&&◌, ◌||◌, nat_lt, nat_le, Result, Ok, Err, OnOk, OnErr, refl, sym, ap, ◌∙◌, arith}
use Rattle.std.specs.Cmp.{nat_cmp_total}
use Rattle.std.specs.Ordering.{nat_cmp}
use Rattle.std.specs.declared.alloc.AllocError.{AllocError}
use Rattle.std.specs.FinSet.{FinSet, contains, insert, remove, len, contains-empty, len-insert, len-remove, empty_of_len}
use Rattle.std.proofs.lemmas.Bool.{cases_eq, le-ltb, le-leb, both_ways, cond_both}
use Rattle.wp_model.proofs.Numbers.{in_inserted, in_inserted_else, in_removed_else}

and-false : (b : Bool) → (b && false) ≡ false
and-false true = refl
and-false false = refl

or-true : (b : Bool) → (b || true) ≡ true
or-true true = refl
or-true false = refl

-- what is above m stays in the heap
pub above_stays : (heap : FinSet nat_cmp) (p m : ℕ) → p ≤ m → (q : ℕ) → (contains (remove heap p) q && nat_lt m q) ≡ (contains heap q && nat_lt m q)
above_stays heap p m low q =
    elim (cases_eq q p) [
      | inl same ↦ rw (le-ltb m q (omega arith)) (and-false _ ∙ sym (and-false _))
      | inr apart ↦ ap (λ b. b && nat_lt m q) (in_removed_else heap p q apart)
    ]

-- what is up to m in the heap, or is delayed, is delayed in the end
pub delayed_grows : (heap delayed : FinSet nat_cmp) (p m : ℕ) → contains heap p ≡ true → p ≤ m → (q : ℕ) → (contains (insert delayed p) q || (contains (remove heap p) q && nat_le q m)) ≡ (contains delayed q || (contains heap q && nat_le q m))
delayed_grows heap delayed p m there low q =
    elim (cases_eq q p) [
      | inl same ↦ rw (ap (contains (insert delayed p)) same ∙ in_inserted delayed p, le-leb q m (omega arith), ap (contains heap) same ∙ there) (sym (or-true (contains delayed q)))
      | inr apart ↦ rw (in_inserted_else delayed p q apart, in_removed_else heap p q apart) refl
    ]

-- a set that has p has one more number than without it
pub len-without : (s : FinSet nat_cmp) (p : ℕ) → contains s p ≡ true → len (remove s p) + 1 ≡ len s
len-without s p there =
    let some : len s ≡ 0 → ⊥ = λ none. both_ways (contains s p) (ap (λ t. contains t p) (empty_of_len s none) ∙ contains-empty nat_cmp p) there in
    let less = len-remove nat_cmp_total s p ∙ ap (λ b. cond b (len s - 1) (len s)) there in
    omega arith

pub len-remove_le : (s : FinSet nat_cmp) (p : ℕ) → len (remove s p) ≤ len s
len-remove_le s p = rw (len-remove nat_cmp_total s p) (cond_both (contains s p) (len s - 1) (len s) (λ n. n ≤ len s) (λ _. omega arith) (λ _. omega arith))

-- memory for one number more serves the heap with p, and also without it
pub added_fits : (old new : FinSet nat_cmp) (p most room : ℕ) (r : Result (Unit {0}) AllocError) → len old ≤ most → most + 1 ≤ room → OnOk r (new ≡ insert old p) → OnErr r (new ≡ old) → len new ≤ room
added_fits old new p most room (Ok done) le fits ok err =
    let more = ap len ok ∙ len-insert nat_cmp_total old p in
    rw more (cond_both (contains old p) (len old) (len old + 1) (λ n. n ≤ room) (λ _. omega (arith, le, fits)) (λ _. omega (arith, le, fits)))
added_fits old new p most room (Err why) le fits ok err = omega (arith, ap len err, le, fits)
