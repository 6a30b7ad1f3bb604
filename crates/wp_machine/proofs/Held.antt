-- What an actor holds, where the state of a turn changes.
use Rattle.std.proofs.Common.{◌≡◌, ℕ, suc, ◌+◌, ◌<◌, ◌≤◌, ◌-◌, Bool, true, false, nat_eq, cond, List, [], ◌∷◌, length, set, Option, Some, None, refl, ap, arith}
use Rattle.wp_core.specs.States.{Content, turn_of}
use Rattle.wp_core.specs.Changes.{turn_index, held_with}
use Rattle.wp_machine.specs.HeldTables.{place_from}

-- a change of the content is one at that place, where the list begins at place i
abbrev pub Places : ℕ → List Content → Content → Option ℕ → Type 0
Places i held c None = held ≡ held_with held c
Places i held c (Some n) = (i ≤ n) × (n < i + length held) × (set held (n - i) c ≡ held_with held c)

places_next : (i : ℕ) (first : Content) (held : List Content) (c : Content) (o : Option ℕ) → nat_eq (turn_index (turn_of first)) (turn_index (turn_of c)) ≡ false → Places (i + 1) held c o → Places i (first ∷ held) c o
places_next i first held c None apart p = rw apart (ap (λ xs. first ∷ xs) p)
places_next i first held c (Some n) apart p =
    let low = p.0 in
    let one : n - i ≡ suc (n - (i + 1)) = omega arith in
    rw (apart, one) (omega arith, omega arith, ap (λ xs. first ∷ xs) p.2)

places_here : (i : ℕ) (first : Content) (held : List Content) (c : Content) → Places (i + 1) held c (place_from (turn_of c) (i + 1) held) → (b : Bool) → nat_eq (turn_index (turn_of first)) (turn_index (turn_of c)) ≡ b → Places i (first ∷ held) c (cond b (Some i) (place_from (turn_of c) (i + 1) held))
places_here i first held c p true e = let z : i - i ≡ 0 = omega arith in rw (e, z) (omega arith, omega arith, refl)
places_here i first held c p false e = places_next i first held c _ e p

pub places : (i : ℕ) (held : List Content) (c : Content) → Places i held c (place_from (turn_of c) i held)
places i [] c = refl
places i (first ∷ held) c = places_here i first held c (places (i + 1) held c) _ refl
