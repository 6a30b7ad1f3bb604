-- What a compaction pins, and that it is released again.
use Rattle.std.proofs.Common.{◌≡◌, inl, inr, ℕ, suc, ◌≤◌, true, List, [], ◌∷◌, ◌++◌, append_assoc, length, length-append, take, refl, sym, subst, ap, ◌∙◌, Option, Some, None, is_some, arith}
use Rattle.std.proofs.lemmas.List.{take-append-le}
use Rattle.std.specs.FinMap as finite
use Rattle.std.specs.List.{Contains}
use Rattle.wp_model.specs.declared.entry.Entry.{Entry}
use Rattle.wp_model.specs.Snapshots.{LiveSnapshot, Snapshots, IsLive}
use Rattle.wp_core.specs.Lists.{IsIn}
use Rattle.wp_core.specs.Reading.{Registration}
use Rattle.wp_core.specs.Sound.Actors.{StartsWith}
use Rattle.wp_core.specs.World.{Participant, World}
use Rattle.wp_rule.proofs.Knows.{at_sound}
use Rattle.wp_shared.specs.Calls.{Continues}
use Rattle.wp_shared.specs.Seats.{SharedState, SeatState, IsFree, place_at}
use Rattle.wp_shared.proofs.Onward.{starts_same, continues_then}
use Rattle.wp_read.specs.Registers.{IsPinned, numbers_of}

-- ---- the last registration

abbrev tail_of : List Registration → List Registration
tail_of [] = []
tail_of (r ∷ rs) = rs

abbrev head_of : Registration → List Registration → Registration
head_of d [] = d
head_of d (r ∷ rs) = r

-- it is among them
pub in_middle : (r : Registration) (front back : List Registration) → IsIn r (front ++ r ∷ back)
in_middle r [] back = inl refl
in_middle r (x ∷ front) back = inr (in_middle r front back)

-- the last place of the last one is the last
pub last_one : (xs front back : List Registration) (r : Registration) → xs ++ r ∷ [] ≡ front ++ r ∷ back → (IsIn r back → ⊥) → front ++ back ≡ xs
last_one [] [] back r e none = sym (ap tail_of e)
last_one [] (y ∷ front) back r e none =
    let l = ap (λ (rs : List Registration). length rs) e in let m = length-append front (r ∷ back) in absurd (omega (arith, l, m))
last_one (x ∷ xs) [] back r e none = absurd (none (subst (IsIn r) (ap tail_of e) (in_middle r xs [])))
last_one (x ∷ xs) (y ∷ front) back r e none = let rest = last_one xs front back r (ap tail_of e) none in λ i. sym (ap (head_of x) e) i ∷ rest i

-- ---- one less

module _ {D : Type 0} (z : SharedState D) (s t u : SeatState) (front : List Registration) (r : Registration) (p : Participant) where
  -- the registration was the seat's last, and is released
  pub released_last : Continues z s t (record p { registered = front ++ r ∷ [] })
      → (f : List Registration) × (b : List Registration) × (t.knows.participant.registered ≡ f ++ r ∷ b) × (IsIn r b → ⊥) × Continues z t u (record t.knows.participant { registered = f ++ b })
      → Continues z s u (record p { registered = front })
  released_last first k =
      let had : t.knows.participant.registered ≡ front ++ r ∷ [] = ap (λ (q : Participant). q.registered) first.participant in
      let left : k.0 ++ k.1 ≡ front = last_one front k.0 k.1 r (sym had ∙ k.2) k.3 in
      continues_then z s t u (record p { registered = front ++ r ∷ [] }) (λ q. record q { registered = front }) (λ q h k. refl) first (subst (λ (rs : List Registration). Continues z t u (record t.knows.participant { registered = rs })) left k.4)

-- the registrations of the seat are these
pub continues_with : {D : Type 0} (z : SharedState D) (s : SeatState) (registered : List Registration) → IsFree z.table s → s.knows.participant.registered ≡ registered → Continues z s s (record s.knows.participant { registered = registered })
continues_with z s registered free is =
    record { free = free; same_by = refl; seen = starts_same s.knows.participant.seen; participant = ap (λ (rs : List Registration). record s.knows.participant { registered = rs }) is; notes = λ fact guard there. there; made = refl; joined = refl }

module _ {D : Type 0} (z : SharedState D) (s t : SeatState) (p : Participant) (front rest live : List Registration) (r : Registration) (is : live ≡ rest ++ r ∷ []) (k : Continues z s t (record p { registered = front ++ live })) where
  -- the last of them stands behind the others
  pub before_last : Continues z s t (record p { registered = (front ++ rest) ++ r ∷ [] })
  before_last = subst (λ (rs : List Registration). Continues z s t (record p { registered = rs })) (ap (λ (l : List Registration). front ++ l) is ∙ sym (append_assoc front rest (r ∷ []))) k

  pub last_there : IsIn r t.knows.participant.registered
  last_there = subst (IsIn r) (sym (ap (λ (q : Participant). q.registered) before_last.participant)) (in_middle r (front ++ rest) [])

pub none_left : (live : List Registration) → length live ≡ 0 → live ≡ []
none_left [] none = refl
none_left (r ∷ live) none = absurd (omega (arith, none))

-- ---- what is live is not above the floor

low_live : (world : World) (s : ℕ) (o : Option LiveSnapshot) → ((x : LiveSnapshot) → finite.get world.snapshots s ≡ Some x → s ≤ length world.writes.history) → finite.get world.snapshots s ≡ o → is_some o ≡ true → s ≤ length world.writes.history
low_live world s None low is live = absurd cc
low_live world s (Some x) low is live = low x is

number_in : (r : Registration) (rs : List Registration) → IsIn r rs → IsIn r.number (numbers_of rs)
number_in r [] none = absurd none
number_in r (x ∷ rs) (inl same) = inl (ap (λ (y : Registration). y.number) same)
number_in r (x ∷ rs) (inr rest) = inr (number_in r rs rest)

pub pinned_low : {D : Type 0} (z : SharedState D) (old : SeatState) (history : List Entry) (floor : Registration) (live : List Registration) → IsPinned z old history floor live → (r : Registration) → IsIn r live → r.number ≤ floor.number
pinned_low z old history floor live k r there =
    let taken = k.taken in
    let sound = at_sound (place_at z old.by) taken.actor taken.world taken.there in
    let is_live : IsLive taken.world.snapshots r.number = subst (λ (m : Snapshots). IsLive m r.number) (sym taken.live) ((k.are_live.each r.number).0 (contained r.number (numbers_of live) (number_in r live there))) in
    let low = low_live taken.world r.number (finite.get taken.world.snapshots r.number) (λ x is. (sound.registrations.live r.number x is).1) refl is_live in
    subst (λ (n : ℕ). r.number ≤ n) (sym taken.number) low
  where
    contained : (n : ℕ) (ns : List ℕ) → IsIn n ns → Contains ns n
    contained n [] k = absurd k
    contained n (m ∷ ns) (inl e) = (0, omega arith, e)
    contained n (m ∷ ns) (inr rest) = let k = contained n ns rest in (suc k.0, (let lt = k.1 in omega arith), k.2)

-- ---- what is pinned stays pinned

take_all : (h : List Entry) (n : ℕ) → n ≡ length h → (more : List Entry) → take n (h ++ more) ≡ h
take_all [] n is more = ap (λ (m : ℕ). take m more) is
take_all (x ∷ h) n is more = ap (λ (m : ℕ). take m (x ∷ (h ++ more))) is ∙ ap (λ (l : List Entry). x ∷ l) (take_all h (length h) refl more)

pub take_seen : (n : ℕ) (h more : List Entry) → n ≡ length h → StartsWith more h → take n more ≡ h
take_seen n h more is starts = ap (take n) starts.1 ∙ take_all h n is starts.0

-- what was seen up to a number that was seen stays so
pub take_grown : (n : ℕ) (h more : List Entry) → n ≤ length h → StartsWith more h → take n more ≡ take n h
take_grown n h more low starts = ap (take n) starts.1 ∙ take-append-le n h starts.0 low

pub grown_length : (h grown : List Entry) → StartsWith grown h → length h ≤ length grown
grown_length h grown starts = let l = length-append h starts.0 in let q = ap (λ (x : List Entry). length x) starts.1 in omega (arith, l, q)
