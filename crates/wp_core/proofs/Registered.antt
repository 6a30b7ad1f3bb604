-- A snapshot that an actor registered is live, and its number is at most the published one.
use Rattle.std.proofs.Common.{◌≡◌, ⊎_elim, ℕ, zero, suc, ◌≤◌, ◌==◌, eq-eqb, true, List, [], ◌∷◌, length, refl, sym, ap, ◌∙◌, Option, Some, None, IsSome, subst, arith}
use mathlib.Core.Option.{some, some-injective, some-ne-none}
use lib.ListN.{get_elem?}
use Rattle.std.specs.FinMap as finite
use Rattle.wp_model.specs.declared.entry.Entry.{Entry}
use Rattle.wp_model.specs.Snapshots.{LiveSnapshot, Snapshots, IsLive}
use Rattle.wp_core.specs.Lists.{IsIn, one_if, total}
use Rattle.wp_core.specs.Reading.{Registration}
use Rattle.wp_core.specs.World.{Actor}
use Rattle.wp_core.specs.Sound.Actors.{participants_of}
use Rattle.wp_core.specs.Sound.Snapshots.{AreRegistered, count_of, registered_of}
use Rattle.std.proofs.Common.{map}
use Rattle.wp_core.proofs.Frames.{at_map}

pub total_at : {X : Type 0} (f : X → ℕ) (xs : List X) (j : ℕ) (x : X) → get_elem? xs j ≡ some x → f x ≤ total f xs
total_at f [] j x e = absurd (some-ne-none x (sym e))
total_at f (y ∷ ys) zero x e = let q : f y ≡ f x = ap f (some-injective y x e) in omega arith
total_at f (y ∷ ys) (suc j) x e = let k = total_at f ys j x e in omega arith

in_total : (s : ℕ) (r : Registration) (rs : List Registration) → r.number ≡ s → IsIn r rs → 1 ≤ total (λ x. one_if (x.number == s)) rs
in_total s r [] is there = absurd there
in_total s r (x ∷ xs) is there =
    ⊎_elim
    (λ (q : x ≡ r). let t : (x.number == s) ≡ true = eq-eqb x.number s (ap (λ (z : Registration). z.number) q ∙ is) in let u : one_if (x.number == s) ≡ 1 = ap one_if t in omega arith)
    (λ (k : IsIn r xs). let t = in_total s r xs is k in omega arith) there

pub some_counted : (o : Option LiveSnapshot) → 1 ≤ count_of o → (x : LiveSnapshot) × (o ≡ Some x)
some_counted None k = absurd (omega arith)
some_counted (Some x) k = (x, refl)

-- what the snapshots have of a registered number
pub registered_there : (history : List Entry) (snapshots : Snapshots) (actors : List Actor) (by : ℕ) (a : Actor) (r : Registration) → get_elem? actors by ≡ some a → IsIn r a.participant.registered → AreRegistered history snapshots (map (participants_of registered_of) actors)
    → (x : LiveSnapshot) × (finite.get snapshots r.number ≡ Some x)
registered_there history snapshots actors by a r at there k =
    let f : List Registration → ℕ = total (λ x. one_if (x.number == r.number)) in
    let mine : 1 ≤ f a.participant.registered = in_total r.number r a.participant.registered refl there in
    let all = total_at (total f) (map (participants_of registered_of) actors) by (participants_of registered_of a) (at_map (participants_of registered_of) actors by a at) in
    let count = k.counted r.number in
    some_counted (finite.get snapshots r.number) (omega arith)

pub registered_live : (history : List Entry) (snapshots : Snapshots) (actors : List Actor) (by : ℕ) (a : Actor) (r : Registration) → get_elem? actors by ≡ some a → IsIn r a.participant.registered → AreRegistered history snapshots (map (participants_of registered_of) actors)
    → IsLive snapshots r.number × (r.number ≤ length history)
registered_live history snapshots actors by a r at there k =
    let x = registered_there history snapshots actors by a r at there k in
    (subst IsSome (sym x.1) refl, (k.live r.number x.0 x.1).1)
