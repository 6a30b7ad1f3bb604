-- What a client has between two of its commands, and that its seat has just this.
use Rattle.std.specs.Prelude.{◌≡◌, ℕ, ◌+◌, Bool, false, List, [], ◌∷◌, length, map, Option, Some, None}
use Rattle.std.specs.Option.{option_map}
use Rattle.std.specs.Str.{bytes_eq}
use Rattle.std.specs.FinMap as finite
use Rattle.wp_core.specs.Changes.{is_same_registration}
use Rattle.wp_core.specs.Lists.{one_if, total}
use Rattle.wp_core.specs.Reading.{Registration}
use Rattle.wp_shared.specs.Seats.{SharedState, SeatState, IsFree}
use Rattle.wp_open_txns.specs.Txn.{OpenState, HasOpen, HasPrepared}
use Rattle.wp_replies.specs.declared.client.LabelledSnapshot.{LabelledSnapshot}
use Rattle.wp_replies.specs.Txn.{Staged, Txn, Idle, Open, Prepared}
use Rattle.wp_replies.specs.Client.{Client, number_of, AreWithin}
use Rattle.wp_client.specs.declared.holdings.HeldTxn.{HeldTxn}
use Rattle.wp_client.specs.declared.holdings.HeldTxn.TheVariants as held
use Rattle.wp_client.specs.declared.holdings.HeldSnapshot.{HeldSnapshot}

pub record HoldingsState : Type 0 where
  pub txn : HeldTxn
  pub snapshots : List HeldSnapshot

-- as each session begins and ends
abbrev pub no_holdings : HoldingsState
no_holdings = record { txn = held.Idle; snapshots = [] }

-- ---- as the table of replies sees it

abbrev pub staged_of : OpenState → Staged
staged_of t = record { name = t.name; batch = t.batch; locked = t.locked; pin = option_map (λ r. r.number) t.pin }

abbrev pub txn_of : HeldTxn → Txn
txn_of held.Idle = Idle
txn_of (held.Open t) = Open (staged_of t)
txn_of (held.Prepared t) = Prepared t.number

abbrev pub labelled : HeldSnapshot → LabelledSnapshot
labelled s = record { label = s.label; number = s.snapshot.number }

abbrev pub client_of : HoldingsState → Client
client_of h = record { txn = txn_of h.txn; snapshots = map labelled h.snapshots }

-- ---- as the seat has it

abbrev pub HasTxn : SeatState → HeldTxn → Type 0
HasTxn s held.Idle = Unit {0}
HasTxn s (held.Open t) = HasOpen s t
HasTxn s (held.Prepared t) = HasPrepared s t

-- the transaction has this name
abbrev pub is_named : HeldTxn → List ℕ → Bool
is_named held.Idle name = false
is_named (held.Open t) name = bytes_eq t.name name
is_named (held.Prepared t) name = bytes_eq t.name name

-- how often a snapshot is among these
abbrev pub times_registered : Registration → List Registration → ℕ
times_registered r registered = total (λ s. one_if (is_same_registration r s)) registered

abbrev pub snapshot_of : HeldSnapshot → Registration
snapshot_of s = s.snapshot

-- the registration, if there is one
abbrev pub registration_if : Option Registration → List Registration
registration_if None = []
registration_if (Some r) = r ∷ []

-- the pin of an open transaction
abbrev pub pin_in : HeldTxn → Option Registration
pin_in (held.Open t) = t.pin
pin_in other = None

-- no label is there twice
abbrev pub AreDistinct : List LabelledSnapshot → Type 0
AreDistinct [] = Unit {0}
AreDistinct (first ∷ others) = (number_of others first.label ≡ None) × AreDistinct others

-- The seat is free and writes nothing directly. It has the client's transaction, and no other.
pub record HoldsTxn {D : Type 0} (z : SharedState D) (s : SeatState) (t : HeldTxn) : Type 0 where
  pub free : IsFree z.table s
  pub direct : s.knows.participant.direct ≡ None
  pub has : HasTxn s t
  pub only : (name : List ℕ) → is_named t name ≡ false → finite.get s.knows.participant.transactions name ≡ None

-- Just the client's snapshots are registered too, and its transaction's pin. Their numbers are those of entries that the seat has seen.
pub record Holds {D : Type 0} (z : SharedState D) (s : SeatState) (h : HoldingsState) : Type 0 where
  pub txn : HoldsTxn z s h.txn
  pub registered : (r : Registration) → times_registered r s.knows.participant.registered ≡ times_registered r (map snapshot_of h.snapshots) + times_registered r (registration_if (pin_in h.txn))
  pub within : AreWithin (length s.knows.participant.seen) (map labelled h.snapshots)
  pub distinct : AreDistinct (map labelled h.snapshots)

-- whatever the client's snapshots are, where its transaction was this and is that now
abbrev pub HoldsFrom : {D : Type 0} → SharedState D → SeatState → SeatState → HeldTxn → HeldTxn → Type 0
HoldsFrom z old new was now = (h : HoldingsState) → h.txn ≡ was → Holds z old h → Holds z new (record h { txn = now })
