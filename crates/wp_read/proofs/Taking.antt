-- Snapshots were taken, or refused.
use Rattle.std.proofs.Common.{◌≡◌, ℕ, List, ◌++◌, refl, subst}
use Rattle.std.specs.Prelude.{Result, Ok, Err, IfOk, OnErr}
use Rattle.wp_model.specs.Snapshots.{Snapshots}
use Rattle.wp_model.specs.declared.entry.Entry.{Entry}
use Rattle.wp_core.specs.Reading.{Registration}
use Rattle.wp_core.specs.States.{Content}
use Rattle.wp_core.specs.Views.{Fact}
use Rattle.wp_shared.specs.Calls.{Continues}
use Rattle.wp_shared.specs.Seats.{SharedState, SeatState}
use Rattle.wp_shared.proofs.Onward.{IsBlind}
use Rattle.wp_read.specs.Registers.{HasLeast, IsTakenAt, IsPinned, registered_by}

-- a part of the call takes it: the call began with the same seat but for what that holds and noted, and the seat has seen no more in the end
module _ {D : Type 0} (z : SharedState D) (old mid : SeatState) (held : List Content) (turns : List ℕ) (notes : List Fact) (is : mid ≡ record old { knows = record old.knows { held = held; notes = notes }; turns = turns }) (history seen : List Entry) (all : history ≡ seen) where
  abbrev taken_by : (r : Registration) (m : Snapshots) → IsTakenAt z (record old { knows = record old.knows { held = held; notes = notes }; turns = turns }) seen r m → IsTakenAt z old seen r m
  taken_by r m k = record {
    world = k.world;
    actor = k.actor;
    there = k.there;
    participant = k.participant;
    made = k.made;
    joined = k.joined;
    held = k.held;
    live = k.live;
    history_is = k.history_is;
    number = k.number;
  }

  pub taken_since : (r : Registration) (m : Snapshots) → IsTakenAt z mid history r m → IsTakenAt z old seen r m
  taken_since r m k = taken_by r m (subst (λ (x : SeatState × List Entry). IsTakenAt z x.0 x.1 r m) (λ i. (is i, all i)) k)

  -- with the least number that was prepared then
  pub least_since : (r : Registration) (m : Snapshots) → (k : IsTakenAt z mid history r m) × HasLeast k.world r → (k : IsTakenAt z old seen r m) × HasLeast k.world r
  least_since r m k = let there = subst (λ (x : SeatState × List Entry). (j : IsTakenAt z x.0 x.1 r m) × HasLeast j.world r) (λ i. (is i, all i)) k in (taken_by r m there.0, there.1)

  pub pinned_since : (floor : Registration) (live : List Registration) → IsPinned z mid history floor live → IsPinned z old seen floor live
  pinned_since floor live k = let taken = least_since floor k.before (k.taken, k.least) in record { before = k.before; taken = taken.0; least = taken.1; are_again = k.are_again; are_live = k.are_live }

-- what an answer adds to the registrations does not hang on what was seen
pub registered_blind : {A E : Type 0} (adds : A → List Registration) (result : Result A E) → IsBlind (registered_by adds result)
registered_blind adds (Ok a) p h k = refl
registered_blind adds (Err error) p h k = refl

module _ {D A E : Type 0} (z : SharedState D) (s t : SeatState) (adds : A → List Registration) where
  pub taken_ok : (result : Result A E) → Continues z s t (registered_by adds result s.knows.participant) → IfOk result (λ r. Continues z s t (record s.knows.participant { registered = s.knows.participant.registered ++ adds r }))
  taken_ok (Ok r) k = k
  taken_ok (Err error) k = tt

  pub refused_err : (result : Result A E) → Continues z s t (registered_by adds result s.knows.participant) → OnErr result (Continues z s t s.knows.participant)
  refused_err (Ok r) k = tt
  refused_err (Err error) k = k
