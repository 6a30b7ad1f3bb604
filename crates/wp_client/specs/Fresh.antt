-- That a fresh read, a snapshot and a number that is told or heard are of the store as it was while the command ran.
use Rattle.std.specs.Prelude.{◌≡◌, ℕ, true, List, length, Some}
use Rattle.std.specs.FinMap as finite
use Rattle.std.specs.FinSet as set
use Rattle.wp_text.specs.declared.script.Command.{Command}
use Rattle.wp_text.specs.declared.script.Command.TheVariants as command
use Rattle.wp_text.specs.declared.reply.Reply.{Reply}
use Rattle.wp_text.specs.declared.reply.Reply.TheVariants as reply
use Rattle.wp_core.specs.Sound.Actors.{StartsWith}
use Rattle.wp_core.specs.World.{Transaction, Participant}
use Rattle.wp_read.specs.Fresh.{WasPublished}
use Rattle.wp_shared.specs.Seats.{SharedState, SeatState}
use Rattle.wp_open_txns.specs.Calls.{WasHistory}

-- the participant has a transaction of this name, which has the key locked
abbrev pub HasKeyLocked : Participant → (name key : List ℕ) → Type 0
HasKeyLocked p name key = (x : Transaction) × (finite.get p.transactions name ≡ Some x) × (set.contains x.locked key ≡ true)

-- In a world of the store in which the seat had done no more than before so many entries were published, just those that it has
-- seen now.
abbrev pub CountsPublished : {D : Type 0} → SharedState D → SeatState → SeatState → ℕ → Type 0
CountsPublished z old new n = (n ≡ length new.knows.participant.seen) × WasHistory z old new.knows.participant.seen

-- The number was published likewise behind a lock: in a world of the store in which the seat had the key locked for a transaction of its
-- own, as it has it locked still.
pub record WasReadLocked {D : Type 0} (z : SharedState D) (old new : SeatState) (key : List ℕ) (n : ℕ) : Type 0 where
  pub behind : SeatState
  pub by : behind.by ≡ old.by
  pub onward : StartsWith behind.knows.participant.seen old.knows.participant.seen
  pub name : List ℕ
  pub then_locked : HasKeyLocked behind.knows.participant name key
  pub published : WasPublished z behind new n
  pub still_locked : HasKeyLocked new.knows.participant name key

-- A fresh read or scan, a snapshot and a pin have such a number, a read by `lock` has one that was published once the key was locked, and what is told and heard is one. Of other replies nothing
-- is asked.
abbrev pub NamesSeen : {D : Type 0} → SharedState D → SeatState → SeatState → Command → Reply → Type 0
NamesSeen z old new (command.Get key) (reply.Got value n) = WasPublished z old new n
NamesSeen z old new (command.Get key) (reply.Missing n) = WasPublished z old new n
NamesSeen z old new (command.Scan from to) (reply.Rows pairs n) = WasPublished z old new n
NamesSeen z old new (command.Snap label) (reply.Snapped n) = WasPublished z old new n
NamesSeen z old new command.Pin (reply.Pinned n) = WasPublished z old new n
NamesSeen z old new (command.Lock key) (reply.Got value n) = WasReadLocked z old new key n
NamesSeen z old new (command.Lock key) (reply.Missing n) = WasReadLocked z old new key n
NamesSeen z old new (command.Tell label) (reply.Told n) = CountsPublished z old new n
NamesSeen z old new (command.Hear label) (reply.Heard n) = CountsPublished z old new n
NamesSeen z old new command answer = Unit {0}
