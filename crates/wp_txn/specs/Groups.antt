-- Prepared transactions that one record decides, and what the commit of a group answers and leaves of the seat.
use Rattle.std.specs.Prelude.{◌≡◌, ◌≢◌, ℕ, suc, ◌<◌, ◌≤◌, true, List, [], ◌∷◌, ◌++◌, length, map, Some, AllPairs}
use Rattle.std.specs.FinMap as finite
use Rattle.std.specs.List.{AllByRecursion}
use Rattle.wp_model.specs.CachePlace.{NoneShare, IsFirstCrowded}
use Rattle.wp_model.specs.declared.entry.Entry.{Entry}
use Rattle.wp_model.specs.declared.entry.Entry.TheVariants.{Commit}
use Rattle.wp_model.specs.Decision.{decision_of}
use Rattle.wp_judge.specs.Words.{fits, seq_end}
use Rattle.wp_core.specs.Lists.{IsIn}
use Rattle.wp_core.specs.Views.{Fact, has_left, unprepared}
use Rattle.wp_core.specs.World.{Transactions, Participant}
use Rattle.wp_records.specs.Records.{putting}
use Rattle.wp_shared.specs.Calls.{IsLoose, ContinuesWith}
use Rattle.wp_shared.specs.Notes.{with_participant}
use Rattle.wp_shared.specs.Seats.{SharedState, SeatState}
use Rattle.wp_open_txns.specs.declared.error.TxnError.{TxnError}
use Rattle.wp_open_txns.specs.declared.error.TxnError.TheVariants.{Memory, Crowded}
use Rattle.wp_open_txns.specs.Calls.{Keeps, LocksAre, IsFreeName, without_transaction}
use Rattle.wp_open_txns.specs.Turns.{IsApartFrom}
use Rattle.wp_open_txns.specs.Txn.{PreparedState, HasLocked, HasPrepared}
use Rattle.wp_txn.specs.Writes.{HasPut, Refuses, SawNoMore, StayUnchanged}

abbrev pub names_of : List PreparedState → List (List ℕ)
names_of txns = map (λ txn. txn.name) txns

-- the numbers of their prepares
abbrev pub numbers_of : List PreparedState → List ℕ
numbers_of txns = map (λ txn. txn.number) txns

-- the entries that commit them, in order
abbrev pub their_commits : List PreparedState → List Entry
their_commits txns = map (λ p. Commit p) (numbers_of txns)

-- The seat has each of them, and their names differ.
abbrev pub ArePrepared : SeatState → List PreparedState → Type 0
ArePrepared s txns = AllByRecursion (HasPrepared s) txns × AllPairs ◌≢◌ (names_of txns)

-- the transactions but for those of these names
abbrev pub without_each : List (List ℕ) → Transactions → Transactions
without_each [] ts = ts
without_each (name ∷ names) ts = without_each names (finite.remove ts name)

-- the participant without them
abbrev pub without_transactions : List (List ℕ) → Participant → Participant
without_transactions names p = record p { transactions = without_each names p.transactions }

-- a fact that is noted without a turn, and is about none of these transactions
abbrev pub AreApartFrom : List (List ℕ) → Fact → Type 0
AreApartFrom names fact = IsLoose fact × AllByRecursion (λ name. IsApartFrom name fact) names

-- of each of them the keys are unchanged since its prepare, in the history with the Commits before its own
abbrev pub StayUnchangedEach : List PreparedState → List Entry → Type 0
StayUnchangedEach [] history = Unit {0}
StayUnchangedEach (txn ∷ txns) history = StayUnchanged txn history × StayUnchangedEach txns (history ++ Commit txn.number ∷ [])

-- They are decided by the entries behind so many, in order. Of each whose pair fits a word the seat noted that the number left the prepared
-- heap and the delayed set, for good.
abbrev pub HaveLeft : ℕ → ℕ → List PreparedState → SeatState → Type 0
HaveLeft cells n [] s = Unit {0}
HaveLeft cells n (txn ∷ txns) s = (fits cells (record { number = txn.number; decision = suc n }) ≡ true → IsIn (has_left txn.number) s.knows.notes) × HaveLeft cells (suc n) txns s

-- The seat was this participant, and gave up its transactions of these names, one after another. As it left the locks of each, the name
-- and its keys were free; another client may have claimed them before the next was given up.
abbrev pub FreesEach : {D : Type 0} → SharedState D → SeatState → Participant → List (List ℕ) → Type 0
FreesEach z old p [] = Unit {0}
FreesEach z old p (name ∷ names) = LocksAre z (with_participant (without_transaction name p) old) (IsFreeName name) × FreesEach z old (without_transaction name p) names

-- ---- they end

-- The seat has a transaction of this name, with just these keys, and its prepare is decided by the entry with this number.
pub record IsDecidedBy (s : SeatState) (decision : ℕ) (txn : PreparedState) : Type 0 where
  pub has : HasLocked s txn.name txn.batch txn.locked
  pub noted : IsIn (unprepared txn.name) s.knows.notes
  pub decided : (decision_of s.knows.participant.seen txn.number ≡ Some decision) × (txn.number ≤ decision) × (decision < seq_end)

-- ... each of them, by the entries behind so many, in order
abbrev pub AreDecidedBehind : SeatState → ℕ → List PreparedState → Type 0
AreDecidedBehind s n [] = Unit {0}
AreDecidedBehind s n (txn ∷ txns) = IsDecidedBy s (suc n) txn × AreDecidedBehind s (suc n) txns

-- The transactions are gone from the seat, which has seen no more.
pub record EndsEach {D : Type 0} (z : SharedState D) (old : SeatState) (txns : List PreparedState) (n : ℕ) (new : SeatState) : Type 0 where
  pub gives_up : ContinuesWith (AreApartFrom (names_of txns)) z old new (without_transactions (names_of txns) old.knows.participant)
  pub same : new.knows.participant ≡ without_transactions (names_of txns) old.knows.participant
  pub gone : HaveLeft z.cells n txns new
  pub freed : FreesEach z old old.knows.participant (names_of txns)

-- ---- the commit of a group

-- They are committed by entries one behind another, in order, the last of which has this number; no two of their numbers have one place in
-- the commit cache. The seat has none of them any more.
pub record CommitsAll {D : Type 0} (z : SharedState D) (old : SeatState) (txns : List PreparedState) (n : ℕ) (new : SeatState) : Type 0 where
  pub number : n ≡ length new.knows.participant.seen
  pub none_share : NoneShare z.cells (numbers_of txns)
  pub history : List Entry
  pub put : HasPut (AreApartFrom (names_of txns)) z old new old.knows.participant (without_transactions (names_of txns) old.knows.participant) history (their_commits txns)
  pub unchanged : StayUnchangedEach txns history
  pub gone : HaveLeft z.cells (length history) txns new
  pub freed : FreesEach z old (putting history (their_commits txns) old.knows.participant) (names_of txns)

-- Why they are no group: two have one place in a cache of so many words, or memory is wanting.
abbrev pub AreNoGroup : ℕ → List PreparedState → TxnError → Type 0
AreNoGroup cells txns Memory = Unit {0}
AreNoGroup cells txns (Crowded p q) = IsFirstCrowded cells (numbers_of txns) p q
AreNoGroup cells txns other = ⊥

-- Why none of them is committed. Two have one place in the commit cache, and the call took no turn; or none have, and the record is not
-- there; or memory was wanting.
abbrev pub RefusesAll : {D : Type 0} → SharedState D → SeatState → List PreparedState → TxnError → SeatState → Type 0
RefusesAll z old txns Memory new = Keeps z old new
RefusesAll z old txns (Crowded p q) new = IsFirstCrowded z.cells (numbers_of txns) p q × Keeps z old new × SawNoMore old new
RefusesAll z old txns why new =
    NoneShare z.cells (numbers_of txns) × Refuses z old new (length txns) (λ asked. asked ≡ their_commits txns) old.knows.participant old.knows.participant why

-- they are refused, and are as they were
abbrev pub RefusesGroup : {D : Type 0} → SharedState D → SeatState → List PreparedState → List PreparedState → TxnError → SeatState → Type 0
RefusesGroup z old txns left why new = (left ≡ txns) × ArePrepared new left × RefusesAll z old txns why new
