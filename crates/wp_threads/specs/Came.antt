-- How far the commands of a session were answered.
use Rattle.std.specs.Prelude.{◌≡◌, ℕ, Bool, true, false, List, [], ◌∷◌, ◌++◌}
use Rattle.wp_text.specs.declared.script.Command.{Command}
use Rattle.wp_text.specs.declared.reply.Reply.{Reply}
use Rattle.wp_shared.specs.Seats.{SharedState, SeatState}
use Rattle.wp_replies.specs.Known.{StoredState}
use Rattle.wp_client.specs.Answers.{Answers, IsDueAlone}
use Rattle.wp_client.specs.Holdings.{HoldingsState, client_of, Holds}
use Rattle.wp_answers.specs.Fresh.{NamesPublished}
use Rattle.wp_answers.specs.Uncalled.{LeavesDevices}
use Rattle.wp_threads.specs.SoFar.{IsSessionSoFar}
use Rattle.wp_threads.specs.Over.{Answered, BreaksOffBefore}

-- The command was answered, with one reply more, whose number was published meanwhile; or memory was wanting for it, and no device was
-- called.
abbrev pub TakesNext : {D : Type 0} → SharedState D → SeatState → SeatState → HoldingsState → HoldingsState → Command → List Reply → List Reply → Bool → Type 0
TakesNext z old new was now command before after true =
    (reply : Reply) × (after ≡ before ++ reply ∷ []) × Answers z old new (client_of was) (client_of now) command reply
    × IsDueAlone z old new (client_of was) (client_of now) command reply × NamesPublished z old new command reply
TakesNext z old new was now command before after false =
    (after ≡ before) × ((others : List Command) → BreaksOffBefore old new (client_of was).txn (command ∷ others)) × LeavesDevices z old new command was.txn

-- All commands were answered, or the first of them. There the session went on, or memory was wanting for the next one.
pub record HasComeTo {D : Type 0} (z : SharedState D) (found : StoredState) (name : List ℕ) (asked : List Command) (answered : Answered) (s : SeatState) (h : HoldingsState) : Type 0 where
  pub done : List Command
  pub rest : List Command
  pub commands : asked ≡ done ++ rest
  pub all : answered.whole ≡ true → rest ≡ []
  pub last : SeatState
  pub had : HoldingsState
  pub goes : IsSessionSoFar z found name done answered.replies last had
  pub ends : BreaksOffBefore last s (client_of had).txn rest
  pub holds : Holds z s h
