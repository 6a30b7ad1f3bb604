-- What all pasts have, once one actor's past has an event more.
use Rattle.std.proofs.Common.{◌≡◌, ◌⊎◌, ⊎_elim, inl, inr, ℕ, ◌+◌, Bool, List, [], ◌∷◌, ◌++◌, map, set, refl, sym, subst, ap, ◌∙◌, arith}
use mathlib.Core.Option.{some}
use lib.ListN.{get_elem?}
use Rattle.wp_core.specs.Lists.{IsIn, one_if, total}
use Rattle.wp_core.specs.Views.{Event}
use Rattle.wp_core.specs.World.{Actor}
use Rattle.wp_core.specs.Sound.Actors.{participants_of, IsParticipantAt}
use Rattle.wp_core.specs.Sound.Pasts.{past_of, HasDone, IsPast, times_past}
use Rattle.wp_core.proofs.AllParticipants.{mine_now, was, at_before, who_is}
use Rattle.wp_core.proofs.Participants.{total_person_set}

pub in_front : {X : Type 0} (x : X) (xs ys : List X) → IsIn x xs → IsIn x (xs ++ ys)
in_front x [] ys k = absurd k
in_front x (y ∷ xs) ys (inl e) = inl e
in_front x (y ∷ xs) ys (inr k) = inr (in_front x xs ys k)

pub in_last : {X : Type 0} (x : X) (xs : List X) → IsIn x (xs ++ x ∷ [])
in_last x [] = inl refl
in_last x (y ∷ xs) = inr (in_last x xs)

pub in_either : {X : Type 0} (x y : X) (xs : List X) → IsIn x (xs ++ y ∷ []) → IsIn x xs ⊎ (y ≡ x)
in_either x y [] (inl e) = inr e
in_either x y [] (inr k) = absurd k
in_either x y (z ∷ xs) (inl e) = inl (inl e)
in_either x y (z ∷ xs) (inr k) = ⊎_elim (λ (t : IsIn x xs). inl (inr t)) (λ (t : y ≡ x). inr t) (in_either x y xs k)

pub total_more : {X : Type 0} (f : X → ℕ) (xs : List X) (x : X) → total f (xs ++ x ∷ []) ≡ total f xs + f x
total_more f [] x = omega arith
total_more f (y ∷ xs) x = let k = total_more f xs x in omega arith

-- what is so at a place that is this one
pub at_place : (P : ℕ → ℕ → Type 0) (j i k l : ℕ) → k ≡ j → l ≡ i → P k l → P j i
at_place P j i k l row place h = subst (λ (n : ℕ). P n i) row (subst (P k) place h)

module _ (xs : List Actor) (by : ℕ) (a b : Actor) (e : Event) (at : get_elem? xs by ≡ some a) (same : b.joined ≡ a.joined) (grown : b.participant.past ≡ a.participant.past ++ e ∷ []) where
  abbrev before : List (List (List Event))
  before = map (participants_of past_of) xs

  abbrev after : List (List (List Event))
  after = map (participants_of past_of) (set xs by b)

  pub done_last : HasDone after by 0 e
  done_last = (b.participant.past, mine_now past_of xs by a b at same, subst (IsIn e) (sym grown) (in_last e a.participant.past))

  pub done_still : (j i : ℕ) (x : Event) → HasDone before j i x → HasDone after j i x
  done_still j i x (past, there, k) =
      let R : List Event → List Event → Type 0 = λ p q. (y : Event) → IsIn y p → IsIn y q in
      let u = who_is past_of xs by a b at same R (λ p y h. h) (λ y h. subst (IsIn y) (sym grown) (in_front y a.participant.past (e ∷ []) h)) j i past there in
      (u.0, u.1, u.2 x k)

  pub done_before : (j i : ℕ) (x : Event) → HasDone after j i x → HasDone before j i x ⊎ ((j ≡ by) × (i ≡ 0) × (e ≡ x))
  done_before j i x (past, there, k) = ⊎_elim
      (λ (t : (j ≡ by) × (i ≡ 0) × (past ≡ b.participant.past)). ⊎_elim
      (λ (u : IsIn x a.participant.past). inl (a.participant.past, at_before past_of xs by a b at same j i t.0 t.1, u))
      (λ (u : e ≡ x). inr (t.0, t.1, u))
      (in_either x e a.participant.past (subst (IsIn x) (t.2 ∙ grown) k)))
      (λ (t : IsParticipantAt before j i past). inl (past, t, k))
      (was past_of xs by a b at same j i past there)

  pub past_still : (x : Event) → IsPast before x → IsPast after x
  past_still x (j, i, k) = (j, i, done_still j i x k)

  pub past_last : IsPast after e
  past_last = (by, 0, done_last)

  pub past_before : (x : Event) → IsPast after x → IsPast before x ⊎ (e ≡ x)
  past_before x (j, i, k) = ⊎_elim (λ (t : HasDone before j i x). inl (j, i, t)) (λ (t : (j ≡ by) × (i ≡ 0) × (e ≡ x)). inr t.2) (done_before j i x k)

  pub times_more : (test : Event → Bool) → times_past test after ≡ times_past test before + one_if (test e)
  times_more test =
      let k = total_person_set past_of (total (λ (x : Event). one_if (test x))) xs by a b at same in
      let m : total (λ (x : Event). one_if (test x)) b.participant.past ≡ total (λ (x : Event). one_if (test x)) a.participant.past + one_if (test e) = ap (total (λ (x : Event). one_if (test x))) grown ∙ total_more (λ (x : Event). one_if (test x)) a.participant.past e in
      omega arith
