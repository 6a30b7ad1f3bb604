-- A pin that comes to an open transaction, and goes.
use Rattle.std.proofs.Common.{◌≡◌, ◌⊎◌, inl, inr, ℕ, ◌≤◌, List, [], ◌∷◌, ◌++◌, length, refl, sym, subst, ap, ◌∙◌, Option, Some, None, arith}
use Rattle.std.specs.Prelude.{Ok}
use Rattle.std.specs.FinMap as finite
use Rattle.wp_model.specs.declared.entry.Entry.{Entry}
use Rattle.wp_model.specs.declared.holder.Holder.TheVariants.{Txn}
use Rattle.wp_model.proofs.Tests.{same_some}
use Rattle.wp_core.specs.Lists.{IsIn}
use Rattle.wp_core.specs.Reading.{Registration}
use Rattle.wp_core.specs.Views.{locked, unchanged, unprepared}
use Rattle.wp_core.specs.World.{Participant}
use Rattle.wp_core.proofs.KeepsSeen.{shorter}
use Rattle.wp_core.proofs.PastsGrow.{in_front, in_last, in_either}
use Rattle.wp_read.specs.Registers.{before_last, behind_last, without_last, unregistering, IsTakenWithLeast}
use Rattle.wp_read.proofs.Registers.{split_last}
use Rattle.wp_shared.specs.Calls.{Continues}
use Rattle.wp_shared.specs.Seats.{SharedState, SeatState}
use Rattle.wp_shared.proofs.Onward.{starts_on}
use Rattle.wp_open_txns.specs.Calls.{without_transaction, Frees, Abandons, Pins}
use Rattle.wp_open_txns.specs.Txn.{OpenState, HasLocked, IsSince, HasOpen}

-- ---- what is left of registrations

in_back : {X : Type 0} (x : X) (xs ys : List X) → IsIn x ys → IsIn x (xs ++ ys)
in_back x [] ys there = there
in_back x (y ∷ xs) ys there = inr (in_back x xs ys there)

-- the one that came last is there still, where one that was there before goes
last_left : (q r : Registration) (rs front back : List Registration) → rs ++ r ∷ [] ≡ front ++ q ∷ back → IsIn q rs → IsIn r (front ++ back)
last_left q r [] front back e there = absurd there
last_left q r (y ∷ rs) [] back e there = let e' : rs ++ r ∷ [] ≡ back = cc in subst (IsIn r) e' (in_last r rs)
last_left q r (y ∷ rs) (f ∷ front) back e there =
    let first : y ≡ f = cc in let e' : rs ++ r ∷ [] ≡ front ++ q ∷ back = cc in
    by first (λ k. last_left q r rs front back e' k) (in_either q r rs (subst (IsIn q) (sym e') (in_back q front (q ∷ back) (inl refl)))) there
  where
    by : y ≡ f → (IsIn q rs → IsIn r (front ++ back)) → IsIn q rs ⊎ (r ≡ q) → (y ≡ q) ⊎ IsIn q rs → IsIn r (f ∷ (front ++ back))
    by first rest (inl k) at = inr (rest k)
    by first rest (inr last) (inl here) = inl (sym first ∙ (here ∙ sym last))
    by first rest (inr last) (inr k) = inr (rest k)

pub pin_left : (pin : Option Registration) (rs : List Registration) (r : Registration) → ((q : Registration) → pin ≡ Some q → IsIn q rs) → IsIn r (without_last pin (rs ++ r ∷ []))
pin_left None rs r there = in_last r rs
pin_left (Some q) rs r there =
    let was = there q refl in let all : List Registration = rs ++ r ∷ [] in
    last_left q r rs (before_last q all) (behind_last q all) (split_last q all (in_front q rs (r ∷ []) was)) was

-- ---- a pin is released

module _ {D : Type 0} (z : SharedState D) (old new : SeatState) (r : Registration) (front back : List Registration) (are : front ++ back ≡ without_last (Some r) old.knows.participant.registered) where
  pub pin_released : Continues z old new (record old.knows.participant { registered = front ++ back }) → Continues z old new (unregistering (Some r) old.knows.participant)
  pin_released goes = subst (λ (rs : List Registration). Continues z old new (record old.knows.participant { registered = rs })) are goes

  pub just_released : new.knows.participant ≡ record old.knows.participant { registered = front ++ back } → new.knows.participant ≡ unregistering (Some r) old.knows.participant
  just_released same = same ∙ ap (λ (rs : List Registration). record old.knows.participant { registered = rs }) are

-- ---- a new pin is registered, and the old one goes

abbrev pub registering : Registration → Participant → Participant
registering r p = record p { registered = p.registered ++ r ∷ [] }

module _ {D : Type 0} (z : SharedState D) (old s : SeatState) (txn : OpenState) (r : Registration) (h : HasOpen old txn) (took : Continues z old s (registering r old.knows.participant)) where
  -- the old one is there still
  pub pinned_then : (q : Registration) → txn.pin ≡ Some q → IsIn q s.knows.participant.registered
  pinned_then q pin = subst (IsIn q) (sym (ap (λ (p : Participant). p.registered) took.participant)) (in_front q old.knows.participant.registered (r ∷ []) (h.pinned q pin).0)

  module _ (new : SeatState) (number : r.number ≡ length s.knows.participant.seen) (gone : Continues z s new (unregistering txn.pin s.knows.participant)) (exact : new.knows.participant ≡ unregistering txn.pin s.knows.participant) where
    repinned : Continues z old new (unregistering txn.pin (registering r old.knows.participant))
    repinned = record {
      free = gone.free;
      same_by = gone.same_by ∙ took.same_by;
      seen = starts_on old.knows.participant.seen s.knows.participant.seen new.knows.participant.seen took.seen gone.seen;
      participant = gone.participant ∙ ap (λ (p : Participant). record (unregistering txn.pin p) { seen = new.knows.participant.seen }) took.participant;
      notes = λ fact loose there. gone.notes fact loose (took.notes fact loose there);
      made = gone.made ∙ took.made;
      joined = gone.joined ∙ took.joined;
    }

    seen_is : new.knows.participant.seen ≡ s.knows.participant.seen
    seen_is = ap (λ (p : Participant). p.seen) exact

    number_is : r.number ≡ length new.knows.participant.seen
    number_is = number ∙ ap (λ (es : List Entry). length es) (sym seen_is)

    open_pinned : HasOpen new (record txn { pin = Some r })
    open_pinned = record {
      transaction = h.transaction;
      has = ap (λ (p : Participant). finite.get p.transactions txn.name) repinned.participant ∙ h.has;
      batch_is = h.batch_is;
      keys = h.keys;
      noted = repinned.notes (unprepared txn.name) refl h.noted;
      few = h.few;
      came = λ key has. subst (λ (p : Participant). IsIn (locked key (Txn txn.name)) p.past) (sym repinned.participant) (h.came key has);
      since = λ key has. since_pinned key (h.since key has);
      pinned = λ q is. subst (λ (x : Registration). IsIn x new.knows.participant.registered × (x.number ≤ length new.knows.participant.seen)) (same_some r q is)
          (subst (IsIn r) (sym (ap (λ (p : Participant). p.registered) repinned.participant)) (pin_left txn.pin old.knows.participant.registered r (λ x pin. (h.pinned x pin).0)), (let n = number_is in omega (arith, n)));
    }
      where
        since_pinned : (key : List ℕ) → IsSince old txn.name key txn.pin → IsSince new txn.name key (Some r)
        since_pinned key k = let long = shorter new.knows.participant.seen old.knows.participant.seen repinned.seen in let low = k.seen in let n = number_is in record {
          number = k.number;
          noted = repinned.notes (unchanged txn.name key k.number) refl k.noted;
          seen = omega (arith, long, low);
          pinned = λ q is. subst (λ (x : Registration). k.number ≤ x.number) (same_some r q is) (omega (arith, long, low, n));
        }

    pub pins : IsTakenWithLeast z old s.knows.participant.seen r → Pins z old txn (Ok r.number) new (record txn { pin = Some r })
    pins taken = (r, refl, open_pinned, refl, number_is, subst (λ (es : List Entry). IsTakenWithLeast z old es r) (sym seen_is) taken, repinned)

-- ---- the transaction is dropped with its pin

module _ {D : Type 0} (z : SharedState D) (old u : SeatState) (txn : OpenState) (h : HasOpen old txn) (gone : Continues z old u (unregistering txn.pin old.knows.participant)) where
  pub locked_unpinned : HasLocked u txn.name txn.batch txn.locked
  locked_unpinned = record { transaction = h.transaction; has = ap (λ (p : Participant). finite.get p.transactions txn.name) gone.participant ∙ h.has; keys = h.keys }

  pub abandoned : (new : SeatState) → Frees z u new txn.name → Abandons z old new txn
  abandoned new frees = let k = frees.gives_up in record {
    free = k.free;
    same_by = k.same_by ∙ gone.same_by;
    seen = starts_on old.knows.participant.seen u.knows.participant.seen new.knows.participant.seen gone.seen k.seen;
    participant = k.participant ∙ ap (λ (p : Participant). record (without_transaction txn.name p) { seen = new.knows.participant.seen }) gone.participant;
    notes = λ fact apart there. k.notes fact apart (gone.notes fact apart.0 there);
    made = k.made ∙ gone.made;
    joined = k.joined ∙ gone.joined;
  }
