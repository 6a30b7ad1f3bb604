-- What a change of one actor's own participant leaves of facts on all participants, and of sums over them.
use Rattle.std.proofs.Common.{◌≡◌, ℕ, zero, suc, ◌+◌, List, [], ◌∷◌, map, set, sym, ap, ◌∙◌, arith}
use mathlib.Core.Option.{some, some-injective, some-ne-none}
use lib.ListN.{get_elem?}
use Rattle.wp_core.specs.Lists.{total}
use Rattle.wp_core.specs.World.{Actor, Participant}
use Rattle.wp_core.specs.Sound.Actors.{participants_of, EachParticipant, total_participants}
use Rattle.wp_core.proofs.AllParticipants.{each_apart}

module _ {X : Type 0} (f : Participant → X) where
  -- each of the participants, once one actor's own participant changed
  pub each_person_set : (P : X → Type 0) (xs : List Actor) (by : ℕ) (a b : Actor) → get_elem? xs by ≡ some a → P (f b.participant) → b.joined ≡ a.joined → EachParticipant P (map (participants_of f) xs) → EachParticipant P (map (participants_of f) (set xs by b))
  each_person_set P xs by a b at new same old = each_apart f xs by a b at same P new (λ j i x elsewhere there. old j i x there)

  -- the sum over all participants, once one actor's own participant changed
  pub total_person_set : (F : X → ℕ) (xs : List Actor) (by : ℕ) (a b : Actor) → get_elem? xs by ≡ some a → b.joined ≡ a.joined
      → total_participants F (map (participants_of f) (set xs by b)) + F (f a.participant) ≡ total_participants F (map (participants_of f) xs) + F (f b.participant)
  total_person_set F [] by a b at same = absurd (some-ne-none a (sym at))
  total_person_set F (x ∷ xs) zero a b at same =
      let is : x ≡ a = some-injective x a at in
      let first : F (f x.participant) ≡ F (f a.participant) = ap (λ (z : Actor). F (f z.participant)) is in
      let rest : total F (map f b.joined) ≡ total F (map f x.joined) = ap (λ (z : List Participant). total F (map f z)) (same ∙ sym (ap (λ (z : Actor). z.joined) is)) in omega arith
  total_person_set F (x ∷ xs) (suc by) a b at same = let k = total_person_set F xs by a b at same in omega arith
