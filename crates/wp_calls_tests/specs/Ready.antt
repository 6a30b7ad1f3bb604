-- What two clients have between two steps.
use Rattle.std.specs.Prelude.{◌≡◌, ◌≢◌, ℕ, true, List, [], ◌∷◌, Option, None, IfSome}
use Rattle.wp_core.specs.Lists.{IsIn}
use Rattle.wp_core.specs.Reading.{Registration}
use Rattle.wp_core.specs.Sound.Snapshots.{has_versions_at}
use Rattle.wp_shared.specs.Seats.{SharedState, SeatState, IsFree}
use Rattle.wp_open_txns.specs.Txn.{OpenState, PreparedState, HasOpen, HasPrepared}

-- The seat is free and writes nothing directly. It has the client's open transaction, and its prepared one.
pub record IsWriter {D : Type 0} (z : SharedState D) (s : SeatState) (begun : Option OpenState) (prepared : Option PreparedState) : Type 0 where
  pub free : IsFree z.table s
  pub direct : s.knows.participant.direct ≡ None
  pub has_begun : IfSome begun (HasOpen s)
  pub has_prepared : IfSome prepared (HasPrepared s)

-- these are two prepared transactions of the seat's, of different names
pub record HasBoth (s : SeatState) (txns : List PreparedState) : Type 0 where
  pub first : PreparedState
  pub second : PreparedState
  pub are : txns ≡ first ∷ second ∷ []
  pub has_first : HasPrepared s first
  pub has_second : HasPrepared s second
  pub apart : second.name ≢ first.name

-- The seat is free and writes nothing directly. The client's snapshot is registered, and the entry with its version's number has versions.
pub record IsReader {D : Type 0} (z : SharedState D) (s : SeatState) (snapshot : Option Registration) (version : Option ℕ) : Type 0 where
  pub free : IsFree z.table s
  pub direct : s.knows.participant.direct ≡ None
  pub registered : IfSome snapshot (λ r. IsIn r s.knows.participant.registered)
  pub has_version : IfSome version (λ p. has_versions_at s.knows.participant.seen p ≡ true)

-- The first seat of a store, which made two others and took none in, between two calls.
pub record IsFirst {D : Type 0} (z : SharedState D) (s : SeatState) : Type 0 where
  pub free : IsFree z.table s
  pub first : s.by ≡ 0
  pub made : s.knows.made ≡ 2
  pub joined : s.knows.joined ≡ []

-- it is, and the snapshot is its own
abbrev pub HasSnapshot : {D : Type 0} → SharedState D → SeatState × Registration → Type 0
HasSnapshot z p = IsFirst z p.0 × IsIn p.1 p.0.knows.participant.registered
