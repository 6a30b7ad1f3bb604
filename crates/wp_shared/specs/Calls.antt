-- What the calls of the crates above leave of a seat.
use Rattle.std.specs.Prelude.{◌≡◌, List, ◌++◌, None}
use Rattle.wp_core.specs.Lists.{IsIn}
use Rattle.wp_core.specs.Views.{Event, Fact}
use Rattle.wp_core.specs.World.{Participant}
use Rattle.wp_core.specs.Sound.Actors.{StartsWith}
use Rattle.wp_core.specs.Sound.Views.{guarded_by}
use Rattle.wp_shared.specs.Seats.{SharedState, SeatState, IsFree}

-- it remembers these events too
abbrev pub with_events : List Event → Participant → Participant
with_events events p = record p { past = p.past ++ events }

-- it needs no turn: what is noted so stays when turns are given
abbrev pub IsLoose : Fact → Type 0
IsLoose fact = guarded_by fact ≡ None

-- any
abbrev pub IsAny : Fact → Type 0
IsAny fact = Unit {0}

-- The seat goes on in its place. It has seen no less than before, and is this participant but for that; of what it noted it has
-- these facts still. It made and took in no other.
pub record GoesOnWith (Stays : Fact → Type 0) (old new : SeatState) (after : Participant) : Type 0 where
  pub same_table : new.table ≡ old.table
  pub same_by : new.by ≡ old.by
  pub live : new.knows.live ≡ old.knows.live
  pub seen : StartsWith new.knows.participant.seen old.knows.participant.seen
  pub participant : new.knows.participant ≡ record after { seen = new.knows.participant.seen }
  pub notes : (fact : Fact) → Stays fact → IsIn fact old.knows.notes → IsIn fact new.knows.notes
  pub made : new.knows.made ≡ old.knows.made
  pub joined : new.knows.joined ≡ old.knows.joined

-- ... with all that it noted without a turn
abbrev pub GoesOnAs : SeatState → SeatState → Participant → Type 0
GoesOnAs old new after = GoesOnWith IsLoose old new after

-- The seat is free again, in its place. It has seen no less than before, and is this participant but for that; of what it
-- noted it has these facts still. It made and took in no other.
pub record ContinuesWith {D : Type 0} (Stays : Fact → Type 0) (z : SharedState D) (old new : SeatState) (after : Participant) : Type 0 where
  pub free : IsFree z.table new
  pub same_by : new.by ≡ old.by
  pub seen : StartsWith new.knows.participant.seen old.knows.participant.seen
  pub participant : new.knows.participant ≡ record after { seen = new.knows.participant.seen }
  pub notes : (fact : Fact) → Stays fact → IsIn fact old.knows.notes → IsIn fact new.knows.notes
  pub made : new.knows.made ≡ old.knows.made
  pub joined : new.knows.joined ≡ old.knows.joined

-- ... with all that it noted without a turn
abbrev pub Continues : {D : Type 0} → SharedState D → SeatState → SeatState → Participant → Type 0
Continues z old new after = ContinuesWith IsLoose z old new after
