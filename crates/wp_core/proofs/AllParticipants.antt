-- Which participants there are, once one actor's own participant changed.
use Rattle.std.proofs.Common.{◌≡◌, ◌≢◌, ◌⊎◌, ⊎_elim, inl, inr, ℕ, zero, suc, List, map, set, refl, sym, ap, ◌∙◌, arith, subst}
use mathlib.Core.Option.{some, some-injective}
use mathlib.Core.Logic.{dite}
use native.Mathlib.Decide.{ℕ_discrete}
use lib.ListN.{get_elem?}
use Rattle.wp_core.proofs.Frames.{at_set, set_else, map_set, at_map, here}
use Rattle.wp_core.specs.World.{Actor, Participant}
use Rattle.wp_core.specs.Sound.Actors.{participants_of, IsParticipantAt, EachParticipant}

module _ {X : Type 0} (f : Participant → X) (xs : List Actor) (by : ℕ) (a b : Actor) (at : get_elem? xs by ≡ some a) (same : b.joined ≡ a.joined) where
  pub mine : IsParticipantAt (map (participants_of f) xs) by 0 (f a.participant)
  mine = (participants_of f a, at_map (participants_of f) xs by a at, refl)

  pub mine_now : IsParticipantAt (map (participants_of f) (set xs by b)) by 0 (f b.participant)
  mine_now = (participants_of f b, at_map (participants_of f) (set xs by b) by b (here xs by a b at), refl)

  first_or_other : (i : ℕ) (y : X) → get_elem? (participants_of f b) i ≡ some y → ((i ≡ 0) × (y ≡ f b.participant)) ⊎ ((i ≢ 0) × (get_elem? (participants_of f a) i ≡ some y))
  first_or_other zero y e = inl (refl, sym (some-injective (f b.participant) y e))
  first_or_other (suc i) y e = inr ((λ z. omega arith), ap (λ (z : List Participant). get_elem? (map f z) i) (sym same) ∙ e)

  -- one that is there is the changed one, or was there at another place
  pub was_apart : (j i : ℕ) (y : X) → IsParticipantAt (map (participants_of f) (set xs by b)) j i y → ((j ≡ by) × (i ≡ 0) × (y ≡ f b.participant)) ⊎ (((j ≢ by) ⊎ (i ≢ 0)) × IsParticipantAt (map (participants_of f) xs) j i y)
  was_apart j i y k =
      let there : get_elem? (set (map (participants_of f) xs) by (participants_of f b)) j ≡ some k.0 = ap (λ (z : List (List X)). get_elem? z j) (sym (map_set (participants_of f) xs by b)) ∙ k.1 in
      ⊎_elim
      (λ (t : (j ≡ by) × (participants_of f b ≡ k.0)). ⊎_elim
      (λ (u : (i ≡ 0) × (y ≡ f b.participant)). inl (t.0, u.0, u.1))
      (λ (u : (i ≢ 0) × (get_elem? (participants_of f a) i ≡ some y)). inr (inr u.0, (participants_of f a, ap (get_elem? (map (participants_of f) xs)) t.0 ∙ at_map (participants_of f) xs by a at, u.1)))
      (first_or_other i y (ap (λ (z : List X). get_elem? z i) t.1 ∙ k.2)))
      (λ (t : (j ≢ by) × (get_elem? (map (participants_of f) xs) j ≡ some k.0)). inr (inl t.0, (k.0, t.1, k.2)))
      (at_set (map (participants_of f) xs) by j (participants_of f b) k.0 there)

  -- one that is there is the changed one, or was there
  pub was : (j i : ℕ) (y : X) → IsParticipantAt (map (participants_of f) (set xs by b)) j i y → ((j ≡ by) × (i ≡ 0) × (y ≡ f b.participant)) ⊎ IsParticipantAt (map (participants_of f) xs) j i y
  was j i y k = ⊎_elim
      (λ (t : (j ≡ by) × (i ≡ 0) × (y ≡ f b.participant)). inl t)
      (λ (t : ((j ≢ by) ⊎ (i ≢ 0)) × IsParticipantAt (map (participants_of f) xs) j i y). inr t.1) (was_apart j i y k)

  first_or_still : (i : ℕ) (y : X) → get_elem? (participants_of f a) i ≡ some y → ((i ≡ 0) × (y ≡ f a.participant)) ⊎ (get_elem? (participants_of f b) i ≡ some y)
  first_or_still zero y e = inl (refl, sym (some-injective (f a.participant) y e))
  first_or_still (suc i) y e = inr (ap (λ (z : List Participant). get_elem? (map f z) i) same ∙ e)

  -- one that was there is the changed one, or is there
  pub still : (j i : ℕ) (y : X) → IsParticipantAt (map (participants_of f) xs) j i y → ((j ≡ by) × (i ≡ 0) × (y ≡ f a.participant)) ⊎ IsParticipantAt (map (participants_of f) (set xs by b)) j i y
  still j i y k = dite (ℕ_discrete j by)
      (λ (e : j ≡ by).
      let is : k.0 ≡ participants_of f a = some-injective k.0 (participants_of f a) (sym k.1 ∙ (ap (get_elem? (map (participants_of f) xs)) e ∙ at_map (participants_of f) xs by a at)) in
      ⊎_elim
      (λ (u : (i ≡ 0) × (y ≡ f a.participant)). inl (e, u.0, u.1))
      (λ (u : get_elem? (participants_of f b) i ≡ some y). inr (participants_of f b, ap (get_elem? (map (participants_of f) (set xs by b))) e ∙ at_map (participants_of f) (set xs by b) by b (here xs by a b at), u))
      (first_or_still i y (ap (λ (z : List X). get_elem? z i) (sym is) ∙ k.2)))
      (λ (ne : j ≢ by). inr (k.0, ap (λ (z : List (List X)). get_elem? z j) (map_set (participants_of f) xs by b) ∙ (set_else (map (participants_of f) xs) by j (participants_of f b) ne ∙ k.1), k.2))

  abbrev before : List (List X)
  before = map (participants_of f) xs

  abbrev after : List (List X)
  after = map (participants_of f) (set xs by b)

  -- the changed one, at its place as it is written
  pub at_before : (j i : ℕ) → j ≡ by → i ≡ 0 → IsParticipantAt before j i (f a.participant)
  at_before j i q r = subst (λ (n : ℕ). IsParticipantAt before n i (f a.participant)) (sym q) (subst (λ (n : ℕ). IsParticipantAt before by n (f a.participant)) (sym r) mine)

  pub at_after : (j i : ℕ) → j ≡ by → i ≡ 0 → IsParticipantAt after j i (f b.participant)
  at_after j i q r = subst (λ (n : ℕ). IsParticipantAt after n i (f b.participant)) (sym q) (subst (λ (n : ℕ). IsParticipantAt after by n (f b.participant)) (sym r) mine_now)

  -- who is there was there, and is to what it was as the changed one is to what that was
  pub who_was : (R : X → X → Type 0) → ((x : X) → R x x) → R (f b.participant) (f a.participant) → (j i : ℕ) (x : X) → IsParticipantAt after j i x → (y : X) × IsParticipantAt before j i y × R x y
  who_was R same_of changed j i x there = ⊎_elim
      (λ (t : (j ≡ by) × (i ≡ 0) × (x ≡ f b.participant)). (f a.participant, at_before j i t.0 t.1, subst (λ (z : X). R z (f a.participant)) (sym t.2) changed))
      (λ (t : IsParticipantAt before j i x). (x, t, same_of x)) (was j i x there)

  -- who was there is there
  pub who_is : (R : X → X → Type 0) → ((x : X) → R x x) → R (f a.participant) (f b.participant) → (j i : ℕ) (x : X) → IsParticipantAt before j i x → (y : X) × IsParticipantAt after j i y × R x y
  who_is R same_of changed j i x there = ⊎_elim
      (λ (t : (j ≡ by) × (i ≡ 0) × (x ≡ f a.participant)). (f b.participant, at_after j i t.0 t.1, subst (λ (z : X). R z (f b.participant)) (sym t.2) changed))
      (λ (t : IsParticipantAt after j i x). (x, t, same_of x)) (still j i x there)

  -- what is so of each, from what is so of the changed one and of each that is elsewhere
  pub each_apart : (P : X → Type 0) → P (f b.participant) → ((j i : ℕ) (x : X) → (j ≢ by) ⊎ (i ≢ 0) → IsParticipantAt before j i x → P x) → EachParticipant P after
  each_apart P changed others j i x there = ⊎_elim
      (λ (t : (j ≡ by) × (i ≡ 0) × (x ≡ f b.participant)). subst P (sym t.2) changed)
      (λ (t : ((j ≢ by) ⊎ (i ≢ 0)) × IsParticipantAt before j i x). others j i x t.0 t.1) (was_apart j i x there)

  -- no two have such a thing, where the changed one has it as before, or nobody had it
  pub still_apart : (Q : X → Type 0) → (Q (f b.participant) → Q (f a.participant) ⊎ ((j i : ℕ) (x : X) → IsParticipantAt before j i x → Q x → ⊥))
      → ((j i k l : ℕ) (x y : X) → IsParticipantAt before j i x → IsParticipantAt before k l y → Q x → Q y → (j ≡ k) × (i ≡ l))
      → (j i k l : ℕ) (x y : X) → IsParticipantAt after j i x → IsParticipantAt after k l y → Q x → Q y → (j ≡ k) × (i ≡ l)
  still_apart Q now k j i l m x y here there first second = each_way (was j i x here) (was l m y there)
    where
      Changed : ℕ → ℕ → X → Type 0
      Changed = λ u v z. (u ≡ by) × (v ≡ 0) × (z ≡ f b.participant)

      with_changed : (u v n r : ℕ) (z o : X) → Changed u v z → IsParticipantAt before n r o → Q z → Q o → (u ≡ n) × (v ≡ r)
      with_changed u v n r z o changed old has also = ⊎_elim
          (λ (q : Q (f a.participant)). let s = k by 0 n r (f a.participant) o mine old q also in (changed.0 ∙ s.0, changed.1 ∙ s.1))
          (λ (none : (d c : ℕ) (p : X) → IsParticipantAt before d c p → Q p → ⊥). absurd (none n r o old also)) (now (subst Q changed.2 has))

      each_way : Changed j i x ⊎ IsParticipantAt before j i x → Changed l m y ⊎ IsParticipantAt before l m y → (j ≡ l) × (i ≡ m)
      each_way (inl u) (inl v) = (u.0 ∙ sym v.0, u.1 ∙ sym v.1)
      each_way (inl u) (inr v) = with_changed j i l m x y u v first second
      each_way (inr u) (inl v) = let s = with_changed l m j i y x v u second first in (sym s.0, sym s.1)
      each_way (inr u) (inr v) = k j i l m x y u v first second
