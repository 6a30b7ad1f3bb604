-- Seats that are handed in one by one.
use Rattle.std.proofs.Common.{◌≡◌, map, List, [], ◌∷◌, ◌++◌, ℕ, suc, length, refl, sym, subst, ap, ◌∙◌, arith}
use Rattle.std.specs.Prelude.{slice_index_or}
use Rattle.std.specs.List.{remove}
use Rattle.atomic_table.specs.Seated.{TableId}
use Rattle.wp_core.specs.Turns.{Turn}
use Rattle.wp_core.specs.World.{Actor}
use Rattle.wp_rule.specs.Shows.{Leaves}
use Rattle.wp_parts.specs.declared.turn_value.TurnValue.{TurnValue}
use Rattle.wp_parts.specs.Parts.{content, tells}
use Rattle.wp_shared.specs.Seats.{SharedState, SeatState, IsFree, turns_of, place_at, participant_of}
use Rattle.wp_shared.specs.Ending.{AllFree, AreAll, all_joined, Remains}

pub none_carried : {D : Type 0} (cs : List (ℕ × TurnValue D)) → turns_of cs ≡ [] → cs ≡ []
none_carried [] e = refl
none_carried (c ∷ cs) e = absurd cc

pub last_free : (table : TableId) (seats : List SeatState) (s : SeatState) → AllFree table (seats ++ s ∷ []) → AllFree table seats × IsFree table s
last_free table [] s free = (tt, free.0)
last_free table (t ∷ seats) s free = let k = last_free table seats s free.1 in ((free.0, k.0), k.1)

-- the first of all the seats, and the others
pub record Leads (table : TableId) (seats : List SeatState) (first : SeatState) (others : List SeatState) : Type 0 where
  pub all : seats ≡ first ∷ others
  pub free : IsFree table first
  pub others_free : AllFree table others
  pub by : first.by ≡ 0
  pub joined : first.knows.joined ≡ []
  pub made : first.knows.made ≡ length others

pub leads : (table : TableId) (seats others : List SeatState) (first : SeatState) → AllFree table seats → AreAll seats → first ≡ slice_index_or seats 0 first → others ≡ remove seats 0 → Leads table seats first others
leads table [] others first free all e e' = absurd all
leads table (s ∷ seats) others first free all e e' = record {
  all = λ i. sym e i ∷ sym e' i;
  free = subst (IsFree table) (sym e) free.0;
  others_free = subst (AllFree table) (sym e') free.1;
  by = ap (λ (x : SeatState). x.by) e ∙ all.0;
  joined = ap (λ (x : SeatState). x.knows.joined) e ∙ all.1;
  made = ap (λ (x : SeatState). x.knows.made) e ∙ (all.2 ∙ sym (ap length e'));
}

pub none_left : (seats : List SeatState) → length seats ≡ 0 → seats ≡ []
none_left [] e = refl
none_left (s ∷ seats) e = absurd (omega (arith, e))

count_joined : (seats : List SeatState) → length (map participant_of seats ++ []) ≡ length seats
count_joined [] = refl
count_joined (s ∷ seats) = ap suc (count_joined seats)

-- once it took in all of them, it took in as many as it made
pub all_made : (a first : Actor) (others gone : List SeatState) → a ≡ all_joined first gone → others ≡ gone → first.joined ≡ [] → first.made ≡ length others → a.made ≡ length a.joined
all_made a first others gone is same none made =
    let joined : a.joined ≡ map participant_of gone ++ [] = ap (λ (x : Actor). x.joined) is ∙ ap (λ x. map participant_of gone ++ x) none in
    ap (λ (x : Actor). x.made) is ∙ (made ∙ (ap length same ∙ (sym (count_joined gone) ∙ sym (ap length joined))))

pub remains : {D : Type 0} (y z : SharedState D) (seats others : List SeatState) (first : SeatState) (a : Actor) (parts : Turn → TurnValue D) → y ≡ z → seats ≡ first ∷ others → a ≡ all_joined first.knows others
    → Leaves content (tells y.first) y.first (place_at y 0) a parts → Remains z seats parts
remains {D} y z seats others first a parts store all same l =
    subst (λ (x : SharedState D × List SeatState). Remains x.0 x.1 parts) (λ i. (store i, sym all i)) (subst (λ (b : Actor). Leaves content (tells y.first) y.first (place_at y 0) b parts) same l)
