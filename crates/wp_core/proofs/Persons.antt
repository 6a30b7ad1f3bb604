-- The participants themselves, where actors come and go: each keeps what it has, at its old place or at another.
use Rattle.std.proofs.Common.{◌≡◌, ◌≢◌, ◌⊎◌, ⊎_elim, inl, inr, ℕ, ◌+◌, List, [], ◌∷◌, map, refl, sym, subst, ap, ◌∙◌, arith}
use mathlib.Core.Option.{some, some-injective}
use mathlib.Core.Logic.{dite}
use native.Mathlib.Decide.{ℕ_discrete}
use lib.ListN.{get_elem?}
use Rattle.wp_model.specs.declared.entry.Entry.{Entry}
use Rattle.wp_core.specs.Lists.{total}
use Rattle.wp_core.specs.World.{Actor, Participant, new_participant}
use Rattle.wp_core.specs.Sound.Actors.{participants_of, IsParticipantAt, total_participants, StartsWith}
use Rattle.wp_core.proofs.Frames.{at_map}
use Rattle.wp_core.proofs.KeepsRemembered.{from_map}

-- this one is the i-th of the participants of the actor j
pub record IsPersonAt (actors : List Actor) (j i : ℕ) (p : Participant) : Type 0 where
  pub actor : Actor
  pub there : get_elem? actors j ≡ some actor
  pub person : get_elem? (actor.participant ∷ actor.joined) i ≡ some p

-- it did nothing, and has nothing
abbrev pub IsNone : Participant → Type 0
IsNone p = p ≡ new_participant p.client p.seen

abbrev pub sum_of : (Participant → ℕ) → Actor → ℕ
sum_of F a = F a.participant + total F a.joined

-- it was there before, at a place that has become this one
pub record Came (row place : ℕ → ℕ → ℕ) (actors : List Actor) (j i : ℕ) (p : Participant) : Type 0 where
  pub at : ℕ
  pub at_place : ℕ
  pub person : IsPersonAt actors at at_place p
  pub row_is : row at at_place ≡ j
  pub place_is : place at at_place ≡ i

-- Each participant of the first actors that has something is among the second ones, at its new place, and no two have the
-- same. Of the second ones each was there, or has nothing.
pub record Moves (row place : ℕ → ℕ → ℕ) (history : List Entry) (before after : List Actor) : Type 0 where
  pub apart : (j i k l : ℕ) → row j i ≡ row k l → place j i ≡ place k l → (j ≡ k) × (i ≡ l)
  pub still : (j i : ℕ) (p : Participant) → IsPersonAt before j i p → IsPersonAt after (row j i) (place j i) p ⊎ IsNone p
  pub was : (j i : ℕ) (p : Participant) → IsPersonAt after j i p → Came row place before j i p ⊎ (IsNone p × StartsWith history p.seen)
  pub sums : (F : Participant → ℕ) → ((p : Participant) → IsNone p → F p ≡ 0) → total (sum_of F) after ≡ total (sum_of F) before

-- ---- of what the participants have

pub total_map : {A X : Type 0} (f : A → X) (F : X → ℕ) (xs : List A) → total F (map f xs) ≡ total (λ (x : A). F (f x)) xs
total_map f F [] = refl
total_map f F (x ∷ xs) = let k = total_map f F xs in omega arith

module _ {X : Type 0} (f : Participant → X) where
  pub at_person : (xs : List Actor) (j i : ℕ) (x : X) → IsParticipantAt (map (participants_of f) xs) j i x → (p : Participant) × IsPersonAt xs j i p × (f p ≡ x)
  at_person xs j i x k =
      let a = from_map (participants_of f) xs j k.0 k.1 in
      let p = from_map f (a.0.participant ∷ a.0.joined) i x (ap (λ (z : List X). get_elem? z i) a.2 ∙ k.2) in
      (p.0, record { actor = a.0; there = a.1; person = p.1 }, p.2)

  pub person_at : (xs : List Actor) (j i : ℕ) (p : Participant) → IsPersonAt xs j i p → IsParticipantAt (map (participants_of f) xs) j i (f p)
  person_at xs j i p k = (participants_of f k.actor, at_map (participants_of f) xs j k.actor k.there, at_map f (k.actor.participant ∷ k.actor.joined) i p k.person)

  total_persons : (F : X → ℕ) (xs : List Actor) → total_participants F (map (participants_of f) xs) ≡ total (sum_of (λ (p : Participant). F (f p))) xs
  total_persons F [] = refl
  total_persons F (x ∷ xs) = let k = total_persons F xs in let l = total_map f F x.joined in omega arith

-- one place, one participant
pub same_there : {X : Type 0} (ps : List (List X)) (j i : ℕ) (x y : X) → IsParticipantAt ps j i x → IsParticipantAt ps j i y → x ≡ y
same_there {X} ps j i x y h k =
    let same : h.0 ≡ k.0 = some-injective h.0 k.0 (sym h.1 ∙ k.1) in
    some-injective x y (sym h.2 ∙ (ap (λ (z : List X). get_elem? z i) same ∙ k.2))

module _ (row place : ℕ → ℕ → ℕ) (history : List Entry) (xs ys : List Actor) (m : Moves row place history xs ys) where
  -- two places that were apart are apart
  pub apart_still : (j i k l : ℕ) → (k ≢ j) ⊎ (l ≢ i) → (row k l ≢ row j i) ⊎ (place k l ≢ place j i)
  apart_still j i k l ne = dite (ℕ_discrete (row k l) (row j i))
      (λ (e : row k l ≡ row j i). inr (λ q. let same = m.apart k l j i e q in ⊎_elim (λ (n : k ≢ j). n same.0) (λ (n : l ≢ i). n same.1) ne))
      (λ (n : row k l ≢ row j i). inl n)

  module _ {X : Type 0} (f : Participant → X) where
    -- one that has this was there
    pub record CameWith (j i : ℕ) (x : X) : Type 0 where
      pub at : ℕ
      pub at_place : ℕ
      pub there : IsParticipantAt (map (participants_of f) xs) at at_place x
      pub row_is : row at at_place ≡ j
      pub place_is : place at at_place ≡ i

    -- or is of one that has nothing
    pub record IsOfNone (x : X) : Type 0 where
      pub person : Participant
      pub none : IsNone person
      pub has : f person ≡ x

    pub came_from : (j i : ℕ) (x : X) → IsParticipantAt (map (participants_of f) ys) j i x → CameWith j i x ⊎ ((n : IsOfNone x) × StartsWith history n.person.seen)
    came_from j i x k =
        let p = at_person f ys j i x k in
        ⊎_elim
        (λ (c : Came row place xs j i p.0). inl (record { at = c.at; at_place = c.at_place; there = subst (IsParticipantAt (map (participants_of f) xs) c.at c.at_place) p.2 (person_at f xs c.at c.at_place p.0 c.person); row_is = c.row_is; place_is = c.place_is }))
        (λ (n : IsNone p.0 × StartsWith history p.0.seen). inr (record { person = p.0; none = n.0; has = p.2 }, n.1))
        (m.was j i p.0 p.1)

    pub goes_to : (j i : ℕ) (x : X) → IsParticipantAt (map (participants_of f) xs) j i x → IsParticipantAt (map (participants_of f) ys) (row j i) (place j i) x ⊎ IsOfNone x
    goes_to j i x k =
        let p = at_person f xs j i x k in
        ⊎_elim
        (λ (c : IsPersonAt ys (row j i) (place j i) p.0). inl (subst (IsParticipantAt (map (participants_of f) ys) (row j i) (place j i)) p.2 (person_at f ys (row j i) (place j i) p.0 c)))
        (λ (n : IsNone p.0). inr (record { person = p.0; none = n; has = p.2 }))
        (m.still j i p.0 p.1)

    pub total_same : (F : X → ℕ) → ((p : Participant) → IsNone p → F (f p) ≡ 0) → total_participants F (map (participants_of f) ys) ≡ total_participants F (map (participants_of f) xs)
    total_same F none = total_persons f F ys ∙ (m.sums (λ (p : Participant). F (f p)) none ∙ sym (total_persons f F xs))
