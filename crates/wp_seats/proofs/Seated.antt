-- The first seat, and those that it made for the other clients.
use Rattle.std.proofs.Common.{◌≡◌, ℕ, ◌<◌, true, List, [], ◌∷◌, ◌++◌, length, min, ◌-◌, take, drop, refl, sym, subst, ap, ◌∙◌, arith}
use Rattle.std.proofs.lemmas.List.{take_all}
use Rattle.wp_text.specs.declared.script.Part.{Part}
use Rattle.wp_core.specs.World.{new_actor}
use Rattle.wp_shared.specs.Ending.{AreAll}
use Rattle.wp_shared.specs.Seats.{SharedState, SeatState}
use Rattle.wp_seats.specs.New.{IsNew, AreNew, clients_of, others_of, having_made, first_seat, IsFirst}

pub none_there : {X : Type 0} (xs : List X) → length xs ≡ 0 → xs ≡ []
none_there [] e = refl
none_there (x ∷ xs) e = absurd (omega (arith, e))

-- the parts from the second on are the others'
pub others_behind : (parts : List Part) (k : ℕ) → k ≡ min (length parts) 1 → clients_of (take (length parts - k) (drop k parts)) ≡ others_of parts
others_behind [] k e = let zero : k ≡ 0 = omega (arith, e) in subst (λ (n : ℕ). clients_of (take (0 - n) (drop n [])) ≡ []) (sym zero) refl
others_behind (p ∷ parts) k e =
    let one : k ≡ 1 = omega (arith, e) in
    subst (λ (n : ℕ). clients_of (take (length (p ∷ parts) - n) (drop n (p ∷ parts))) ≡ clients_of parts) (sym one) (ap clients_of (take_all (length (p ∷ parts) - 1) parts (omega arith)))

module _ {D : Type 0} (z : SharedState D) where
  -- a seat that the first one made
  pub made_new : (client name : List ℕ) (made : ℕ) (first s : SeatState) → first ≡ having_made z client made → s.table ≡ z.table → s.turns ≡ [] → s.knows ≡ new_actor true name first.knows.participant.seen → IsNew z name s
  made_new client name made first s is table turns knows = record { table = table; turns = turns; made = 0; knows = knows ∙ ap (λ (f : SeatState). new_actor true name f.knows.participant.seen) is }

  pub one_more_new : (names : List (List ℕ)) (seats : List SeatState) (name : List ℕ) (s : SeatState) → AreNew z names seats → IsNew z name s → AreNew z (names ++ name ∷ []) (seats ++ s ∷ [])
  one_more_new [] [] name s all new = (new, tt)
  one_more_new (n ∷ names) (x ∷ seats) name s all new = (all.0, one_more_new names seats name s all.1 new)
  one_more_new [] (x ∷ seats) name s all new = absurd all
  one_more_new (n ∷ names) [] name s all new = absurd all

  same_count : (names : List (List ℕ)) (seats : List SeatState) → AreNew z names seats → length seats ≡ length names
  same_count [] [] all = refl
  same_count (n ∷ names) (s ∷ seats) all = let k = same_count names seats all.1 in omega (arith, k)
  same_count [] (s ∷ seats) all = absurd all
  same_count (n ∷ names) [] all = absurd all

  module _ (client : List ℕ) (names : List (List ℕ)) (first : SeatState) (seats : List SeatState) (is : first ≡ having_made z client (length names)) (others : AreNew z names seats) where
    pub all_new : AreNew z (client ∷ names) (first ∷ seats)
    all_new = (record { table = ap (λ (s : SeatState). s.table) is; turns = ap (λ (s : SeatState). s.turns) is; made = length names; knows = ap (λ (s : SeatState). s.knows) is }, others)

    pub all_made : AreAll (first ∷ seats)
    all_made = (ap (λ (s : SeatState). s.by) is, ap (λ (s : SeatState). s.knows.joined) is, ap (λ (s : SeatState). s.knows.made) is ∙ sym (same_count names seats others))

  pub own_first : (parts : List Part) (first : SeatState) → IsFirst z parts first → first ≡ first_seat z first.knows.participant.client
  own_first [] first (client, is) = is ∙ ap (first_seat z) (sym (ap (λ (s : SeatState). s.knows.participant.client) is))
  own_first (part ∷ parts) first is = is ∙ ap (first_seat z) (sym (ap (λ (s : SeatState). s.knows.participant.client) is))

  -- with a part, they are the seats of the script's clients
  pub parts_new : (parts : List Part) (first : SeatState) (names : List (List ℕ)) (seats : List SeatState) → IsFirst z parts first → 0 < length parts → names ≡ others_of parts → AreNew z (first.knows.participant.client ∷ names) seats → AreNew z (clients_of parts) seats
  parts_new [] first names seats is some same new = absurd (omega (arith, some))
  parts_new (part ∷ parts) first names seats is some same new = subst (λ (x : List ℕ × List (List ℕ)). AreNew z (x.0 ∷ x.1) seats) (λ i. (ap (λ (s : SeatState). s.knows.participant.client) is i, same i)) new

  -- with none, it is anybody's
  pub nobodys : (parts : List Part) (first : SeatState) → IsFirst z parts first → length parts ≡ 0 → (client : List ℕ) × (first ≡ first_seat z client)
  nobodys [] first is none = is
  nobodys (part ∷ parts) first is none = absurd (omega (arith, none))
