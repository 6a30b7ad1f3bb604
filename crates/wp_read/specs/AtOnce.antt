-- A read as of now, under the snapshots turn.
use Rattle.std.specs.Prelude.{◌≡◌, ℕ, false, List, [], ◌∷◌, ◌++◌, length}
use Rattle.wp_model.specs.declared.entry.Entry.{Entry}
use Rattle.wp_model.specs.History.{value_at}
use Rattle.wp_core.specs.Lists.{IsIn}
use Rattle.wp_core.specs.Reading.{Registration}
use Rattle.wp_core.specs.Turns.{store_turn}
use Rattle.wp_core.specs.Views.{Fact}
use Rattle.wp_shared.specs.Calls.{Continues}
use Rattle.wp_shared.specs.Notes.{is_under}
use Rattle.wp_shared.specs.Seats.{SharedState, SeatState}
use Rattle.wp_read.specs.declared.at_once.Begun.{Begun}
use Rattle.wp_read.specs.declared.at_once.Begun.TheVariants.{Read, Registered}
use Rattle.wp_read.specs.Registers.{IsTaken}

-- the store turn does not guard it
abbrev pub IsNotOfStore : Fact → Type 0
IsNotOfStore fact = is_under store_turn fact ≡ false

-- The seat is as it was but for what it reads, and for its notes: of those that the store turn does not guard none is gone.
pub record ReadsOn (old new : SeatState) : Type 0 where
  pub same : new ≡ record old { knows = record old.knows { reading = new.knows.reading; notes = new.knows.notes } }
  pub noted : (fact : Fact) → IsNotOfStore fact → IsIn fact old.knows.notes → IsIn fact new.knows.notes

-- the registrations that it leaves
abbrev pub kept_by : Begun → List Registration
kept_by (Read value n) = []
kept_by (Registered snapshot) = snapshot ∷ []

-- The value was read at a snapshot that was taken in a world of the store with this history, and given back: it is what all of the
-- history leaves. Or such a snapshot was registered.
abbrev pub IsBegun : {D : Type 0} → SharedState D → SeatState → List Entry → List ℕ → Begun → Type 0
IsBegun z old history key (Read value n) = (r : Registration) × IsTaken z old history r × (r.number ≡ n) × (n ≡ length history) × (value ≡ value_at history key n)
IsBegun z old history key (Registered snapshot) = IsTaken z old history snapshot × (snapshot.number ≡ length history)

-- The seat goes on as it was, but for what it has seen; or with the snapshot registered.
abbrev pub BeginsRead : {D : Type 0} → SharedState D → SeatState → SeatState → List ℕ → Begun → Type 0
BeginsRead z old new key begun =
    Continues z old new (record old.knows.participant { registered = old.knows.participant.registered ++ kept_by begun }) × IsBegun z old new.knows.participant.seen key begun
