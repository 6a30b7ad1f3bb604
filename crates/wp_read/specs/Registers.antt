-- How a snapshot is registered and released.
use Rattle.std.specs.Prelude.{◌≡◌, ◌⊎◌, ◌↔◌, ℕ, suc, ◌≤◌, true, List, [], ◌∷◌, ◌++◌, length, map, fold, unwrap_or, Option, Some, None, Result, Ok, Err, MatchOption, if◌then◌else◌}
use Rattle.std.specs.FinMap as finite
use Rattle.std.specs.List.{Contains, list_any}
use Rattle.std.specs.List.Sorted.{IsStrictlyIncreasing}
use Rattle.wp_model.specs.declared.entry.Entry.{Entry}
use Rattle.wp_model.specs.Covered.{is_among}
use Rattle.wp_model.specs.PreparedSets.{PreparedSets, IsSmallest, NonePrepared}
use Rattle.wp_model.specs.Snapshots as snaps
use Rattle.wp_model.specs.Snapshots.{Snapshots, IsLive}
use Rattle.wp_core.specs.Changes.{sees, registers, releases, held_with, is_same_registration, with_registered, with_released}
use Rattle.wp_core.specs.Lists.{IsIn}
use Rattle.wp_core.specs.Reading.{Registration}
use Rattle.wp_core.specs.Steps.{Step, register_again, note}
use Rattle.wp_core.specs.States.{Content, prepared, snapshots}
use Rattle.wp_core.specs.Views.{live_listed}
use Rattle.wp_core.specs.World.{Participant, Actor, World, published}
use Rattle.wp_rule.specs.Words.{IsAt}
use Rattle.wp_shared.specs.Calls.{IsAny, GoesOnWith}
use Rattle.wp_shared.specs.Seats.{SharedState, SeatState, place_at}
use Rattle.wp_shared.specs.Turns.{HoldsTurn}

-- ---- a place in a list of registrations

abbrev pub all_but_last_of : Registration → List Registration → List Registration
all_but_last_of r [] = []
all_but_last_of r (s ∷ others) = r ∷ all_but_last_of s others

-- all but the last, where there is one
abbrev pub all_but_last : List Registration → List Registration
all_but_last [] = []
all_but_last (r ∷ others) = all_but_last_of r others

-- the last of them, where the first is this one
abbrev pub last_of : Registration → List Registration → Registration
last_of r [] = r
last_of r (s ∷ others) = last_of s others

-- those before the last place of this one, where it is among them
abbrev pub before_last : Registration → List Registration → List Registration
before_last r [] = []
before_last r (s ∷ others) = if list_any (is_same_registration r) others then (s ∷ before_last r others) else []

-- those behind the last place of this one, where it is among them
abbrev pub behind_last : Registration → List Registration → List Registration
behind_last r [] = []
behind_last r (s ∷ others) = if list_any (is_same_registration r) others then behind_last r others else others

-- all but the last of this one, where one is given
abbrev pub without_last : Option Registration → List Registration → List Registration
without_last None registered = registered
without_last (Some r) registered = before_last r registered ++ behind_last r registered

-- the participant without that registration
abbrev pub unregistering : Option Registration → Participant → Participant
unregistering r p = record p { registered = without_last r p.registered }

-- ---- steps

-- the number that was published, with the smallest that was found, or the next number where none was
abbrev pub registration_of : ℕ → Option ℕ → Registration
registration_of number smallest = record { number = number; smallest = unwrap_or smallest (suc number) }

-- A snapshot may be registered with this smallest by who holds these states: 1, or the least number that is prepared in one of them,
-- or none where none is.
abbrev pub MayRegister : List Content → Option ℕ → Type 0
MayRegister held smallest = (smallest ≡ Some 1) ⊎ ((t : PreparedSets) × IsIn (prepared t) held × MatchOption smallest (NonePrepared t) (IsSmallest t))

-- The number that is published was loaded and registered, with this smallest: the seat has seen the history then. These are
-- the live snapshots that it held.
pub record Registers {D : Type 0} (z : SharedState D) (old new : SeatState) (number : ℕ) (smallest : Option ℕ) (m : Snapshots) : Type 0 where
  pub world : World
  pub there : IsAt (place_at z old.by) old.knows world
  pub number_is : number ≡ published world
  pub seat : new ≡ record old { knows = record (registers (sees world.writes.history old.knows) (registration_of number smallest)) { held = held_with old.knows.held (snapshots (with_registered m number)) } }

-- the registration went from between these of the seat; it was live in the snapshots that the seat held
pub record Unregisters (old new : SeatState) (front back : List Registration) (r : Registration) (m : Snapshots) : Type 0 where
  pub live : IsLive m r.number
  pub seat : new ≡ record old { knows = record (releases old.knows (front ++ back)) { held = held_with old.knows.held (snapshots (with_released m r.number)) } }

-- ---- under the snapshots turn

-- The seat goes on as this participant, with all that it noted, and has these live snapshots in place of those that it held, with
-- what else it holds.
pub record ChangesSnapshots {D : Type 0} (z : SharedState D) (old new : SeatState) (after : Participant) (m : Snapshots) (others : List Content) (beneath : List ℕ) : Type 0 where
  pub goes : GoesOnWith IsAny old new after
  pub holds : HoldsTurn z new (snapshots m) others beneath

-- the participant once it was answered this: an answer that is no refusal adds these registrations
abbrev pub registered_by : {A E : Type 0} → (A → List Registration) → Result A E → Participant → Participant
registered_by adds (Ok a) p = record p { registered = p.registered ++ adds a }
registered_by adds (Err error) p = p

-- ---- calls

-- The snapshot was taken in a world of the store with this history, while the seat held the snapshots turn with these live
-- snapshots, and had done no more than before the call. Its number is the one that was published.
pub record IsTakenAt {D : Type 0} (z : SharedState D) (old : SeatState) (history : List Entry) (snapshot : Registration) (m : Snapshots) : Type 0 where
  pub world : World
  pub actor : Actor
  pub there : IsAt (place_at z old.by) actor world
  pub participant : actor.participant ≡ old.knows.participant
  pub made : actor.made ≡ old.knows.made
  pub joined : actor.joined ≡ old.knows.joined
  pub held : IsIn (snapshots m) actor.held
  pub live : world.snapshots ≡ m
  pub history_is : world.writes.history ≡ history
  pub number : snapshot.number ≡ published world

-- the snapshot was taken in a world of the store with this history
abbrev pub IsTaken : {D : Type 0} → SharedState D → SeatState → List Entry → Registration → Type 0
IsTaken z old history snapshot = (m : Snapshots) × IsTakenAt z old history snapshot m

-- its smallest is the world's least prepared number, or the next number where none is prepared
abbrev pub HasLeast : World → Registration → Type 0
HasLeast w snapshot = (NonePrepared w.prepared × (snapshot.smallest ≡ suc snapshot.number)) ⊎ IsSmallest w.prepared snapshot.smallest

-- the snapshot was taken with the least number that was prepared then
abbrev pub IsTakenWithLeast : {D : Type 0} → SharedState D → SeatState → List Entry → Registration → Type 0
IsTakenWithLeast z old history snapshot = (m : Snapshots) × (taken : IsTakenAt z old history snapshot m) × HasLeast taken.world snapshot

-- ---- all that is live

-- a live number that is registered once more, of which nothing better is known than that no version is below 1
abbrev pub again : ℕ → Registration
again number = record { number = number; smallest = 1 }

abbrev pub numbers_of : List Registration → List ℕ
numbers_of registered = map (λ r. r.number) registered

-- each of the numbers is registered once more
abbrev pub with_each : Snapshots → List ℕ → Snapshots
with_each m numbers = fold with_registered m numbers

-- each live number is registered at least once
abbrev pub AreCounted : Snapshots → Type 0
AreCounted m = (s : ℕ) (x : snaps.LiveSnapshot) → finite.get m s ≡ Some x → 1 ≤ x.registrations

-- the numbers are just the live ones, ascending, each once
pub record AreLive (m : Snapshots) (numbers : List ℕ) : Type 0 where
  pub ascending : IsStrictlyIncreasing numbers
  pub each : (s : ℕ) → Contains numbers s ↔ IsLive m s

-- The numbers are live, and were seen. Each live number is one of them, or from the floor on, which was seen too.
pub record MayPin (seen : List Entry) (m : Snapshots) (floor : ℕ) (numbers : List ℕ) : Type 0 where
  pub floor_seen : floor ≤ length seen
  pub live : (n : ℕ) → IsIn n numbers → IsLive m n × (n ≤ length seen)
  pub all : (n : ℕ) → IsLive m n → (is_among numbers n ≡ true) ⊎ (floor ≤ n)

-- each of the numbers is registered once more, and it is noted that they, and the numbers from the floor on, are all that is live
abbrev pub pinning : ℕ → List ℕ → List Step
pinning floor numbers = map register_again numbers ++ note (live_listed floor numbers) ∷ []

-- the seat then, where it held these live snapshots, and these other states
abbrev pub pinned : SeatState → ℕ → List ℕ → Snapshots → List Content → SeatState
pinned s floor numbers m others = record s {
  knows = record s.knows {
    participant = record s.knows.participant { registered = s.knows.participant.registered ++ map again numbers };
    held = snapshots (with_each m numbers) ∷ others;
    notes = live_listed floor numbers ∷ s.knows.notes;
  };
}

-- All that was live was registered once more, in one world of the store with this history: the floor is the snapshot that was
-- taken then, and the others have just the numbers that were live before, ascending, each once.
pub record IsPinned {D : Type 0} (z : SharedState D) (old : SeatState) (history : List Entry) (floor : Registration) (live : List Registration) : Type 0 where
  pub before : Snapshots
  pub taken : IsTakenAt z old history floor before
  pub least : HasLeast taken.world floor
  pub are_again : live ≡ map again (numbers_of live)
  pub are_live : AreLive before (numbers_of live)
