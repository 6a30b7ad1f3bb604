-- A client takes several prepared transactions to commit them all, and leaves them again where that is refused.
use Rattle.std.specs.Prelude.{◌≡◌, ◌⊎◌, ℕ, false, List, [], ◌∷◌, ◌++◌, map, Some, None, Err}
use Rattle.std.specs.FinMap as finite
use Rattle.wp_core.specs.Lists.{IsIn}
use Rattle.wp_core.specs.Views.{Event, Fact, took}
use Rattle.wp_core.specs.World.{Transactions, Participant}
use Rattle.wp_shared.specs.Calls.{IsLoose, ContinuesWith, Continues}
use Rattle.wp_shared.specs.Notes.{is_about}
use Rattle.wp_shared.specs.Seats.{SharedState, SeatState, IsFree}
use Rattle.wp_open_txns.specs.declared.error.TxnError.{TxnError}
use Rattle.wp_open_txns.specs.declared.error.TxnError.TheVariants.{Memory}
use Rattle.wp_open_txns.specs.Calls.{TakesPrepared}
use Rattle.wp_open_txns.specs.Txn.{PreparedState}
use Rattle.wp_txn.specs.Groups.{names_of, numbers_of, ArePrepared, CommitsAll, RefusesAll}
use Rattle.wp_txn.specs.Writes.{RefusesBeforeLog}
use Rattle.wp_replies.specs.Replies.{AreNamed}

-- The seat is free and writes nothing directly. It has these prepared transactions, and no other.
pub record HoldsTxns {D : Type 0} (z : SharedState D) (s : SeatState) (txns : List PreparedState) : Type 0 where
  pub free : IsFree z.table s
  pub direct : s.knows.participant.direct ≡ None
  pub have : ArePrepared s txns
  pub only : (name : List ℕ) → (IsIn name (names_of txns) → ⊥) → finite.get s.knows.participant.transactions name ≡ None

-- ---- they are taken

-- what it remembers that took transactions of these names
abbrev pub takes_of : List (List ℕ) → List Event
takes_of names = map (λ name. took name) names

-- the participant once it took them, where it has these transactions then
abbrev pub having_taken : List (List ℕ) → Transactions → Participant → Participant
having_taken names transactions p = record p { past = p.past ++ takes_of names; transactions = transactions }

-- The seat, which had none, took the prepared transactions of these names, in order.
pub record HasTaken {D : Type 0} (z : SharedState D) (old : SeatState) (names : List (List ℕ)) (txns : List PreparedState) (new : SeatState) : Type 0 where
  pub goes_on : Continues z old new (having_taken names new.knows.participant.transactions old.knows.participant)
  pub holds : HoldsTxns z new txns
  pub names_are : names_of txns ≡ names

-- ... and each was undecided in what it has seen by then
pub record TakesAll {D : Type 0} (z : SharedState D) (old : SeatState) (names : List (List ℕ)) (txns : List PreparedState) (new : SeatState) : Type 0 where
  pub taken : HasTaken z old names txns new
  pub named : AreNamed new.knows.participant.seen names (numbers_of txns)

-- ---- they are left

-- a fact that is noted without a turn, and is about no transaction
abbrev pub IsOfNone : Fact → Type 0
IsOfNone fact = IsLoose fact × ((name : List ℕ) → is_about (Some name) fact ≡ false)

-- The seat gave transactions up, saw no more, and has these left.
pub record GivesUpTo {D : Type 0} (z : SharedState D) (old new : SeatState) (left : List PreparedState) : Type 0 where
  pub gives_up : ContinuesWith IsOfNone z old new (record old.knows.participant { transactions = new.knows.participant.transactions })
  pub same : new.knows.participant ≡ record old.knows.participant { transactions = new.knows.participant.transactions }
  pub holds : HoldsTxns z new left

-- ---- refusals

-- The names before one were taken. That one was refused, and they were left again.
pub record RefusesOne {D : Type 0} (z : SharedState D) (old : SeatState) (names : List (List ℕ)) (why : TxnError) (new : SeatState) : Type 0 where
  pub before : List (List ℕ)
  pub name : List ℕ
  pub after : List (List ℕ)
  pub place : names ≡ before ++ name ∷ after
  pub txns : List PreparedState
  pub mid : SeatState
  pub taken : HasTaken z old before txns mid
  pub behind : SeatState
  pub refused : TakesPrepared z mid name (Err why) behind
  pub named : AreNamed behind.knows.participant.seen before (numbers_of txns)
  pub leaves : GivesUpTo z behind new []

-- ... or memory was wanting before any was taken
abbrev pub RefusesTakes : {D : Type 0} → SharedState D → SeatState → List (List ℕ) → TxnError → SeatState → Type 0
RefusesTakes z old names why new = ((why ≡ Memory) × (new ≡ old)) ⊎ RefusesOne z old names why new

-- All of them are committed, and the seat has none.
pub record SettlesThem {D : Type 0} (z : SharedState D) (old : SeatState) (txns : List PreparedState) (n : ℕ) (new : SeatState) : Type 0 where
  pub commits : CommitsAll z old txns n new
  pub holds : HoldsTxns z new []

-- None of them is committed, and they were left again.
pub record RefusesThem {D : Type 0} (z : SharedState D) (old : SeatState) (txns : List PreparedState) (why : TxnError) (new : SeatState) : Type 0 where
  pub behind : SeatState
  pub refused : RefusesAll z old txns why behind
  pub before_log : RefusesBeforeLog z old.knows.participant old why behind
  pub leaves : GivesUpTo z behind new []
