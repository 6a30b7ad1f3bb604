-- A client that has given its transaction up has none.
use Rattle.std.proofs.Common.{◌≡◌, false, List, ℕ, Option, Some, None, refl, ap, ◌∙◌, arith}
use Rattle.std.specs.Prelude.{◌+◌}
use Rattle.std.specs.Str.{bytes_eq}
use Rattle.std.specs.FinMap as finite
use Rattle.wp_core.specs.Views.{Fact}
use Rattle.wp_core.specs.World.{Participant, Transactions}
use Rattle.wp_shared.specs.Calls.{ContinuesWith}
use Rattle.wp_shared.specs.Seats.{SharedState, SeatState}
use Rattle.wp_core.specs.Reading.{Registration}
use Rattle.wp_core.specs.Lists.{IsIn}
use Rattle.wp_read.specs.Registers.{without_last, unregistering}
use Rattle.wp_open_txns.specs.Calls.{without_transaction, GivesUp, Abandons}
use Rattle.wp_open_txns.specs.Txn.{OpenState, PreparedState}
use Rattle.wp_client.specs.declared.holdings.HeldTxn.{HeldTxn}
use Rattle.wp_client.specs.declared.holdings.HeldTxn.TheVariants as held
use Rattle.wp_client.specs.Holdings.{times_registered, registration_if, HoldsTxn, HoldsFrom}
use Rattle.wp_client.proofs.Labelled.{times_without}
use Rattle.wp_client.proofs.Staying.{Repins, none_left, has_now, holds_now}

-- the registrations without a pin that is among them
pub without_pin : (txn : OpenState) (registered : List Registration) → ((r : Registration) → txn.pin ≡ Some r → IsIn r registered) → Repins registered (without_last txn.pin registered) (held.Open txn) held.Idle
without_pin txn registered there r = by txn.pin refl
  where
    by : (pin : Option Registration) → txn.pin ≡ pin → times_registered r (without_last txn.pin registered) + times_registered r (registration_if txn.pin) ≡ times_registered r registered + 0
    by None is = rw is (omega arith)
    by (Some q) is = let k = times_without r q registered (there q is) in rw is (omega (arith, k))

module _ {D : Type 0} (z : SharedState D) (old new : SeatState) where
  -- the transaction of this name is gone, which was the only one
  pub gone : (Kept : Fact → Type 0) (after : Participant) (t : HeldTxn) (name : List ℕ) → ContinuesWith Kept z old new after → after.transactions ≡ (without_transaction name old.knows.participant).transactions → after.direct ≡ old.knows.participant.direct → Repins old.knows.participant.registered after.registered t held.Idle
      → HoldsTxn z old t → ((other : List ℕ) → bytes_eq name other ≡ false → finite.get old.knows.participant.transactions other ≡ None) → HoldsFrom z old new t held.Idle
  gone Kept after t name goes ts direct registered has others =
      holds_now Kept z old new after goes t held.Idle registered (has_now Kept z old new after goes t held.Idle direct has tt
      (λ other free. ap (λ (x : Transactions). finite.get x other) ts ∙ none_left old.knows.participant.transactions name others other))

  pub given_up_open : (txn : OpenState) → HoldsTxn z old (held.Open txn) → Abandons z old new txn → HoldsFrom z old new (held.Open txn) held.Idle
  given_up_open txn has goes =
      gone _ (without_transaction txn.name (unregistering txn.pin old.knows.participant)) (held.Open txn) txn.name goes refl refl (without_pin txn old.knows.participant.registered (λ r is. (has.has.pinned r is).0)) has has.only

  pub given_up_prepared : (txn : PreparedState) → HoldsTxn z old (held.Prepared txn) → GivesUp z old new txn.name → HoldsFrom z old new (held.Prepared txn) held.Idle
  given_up_prepared txn has goes = gone _ (without_transaction txn.name old.knows.participant) (held.Prepared txn) txn.name goes refl refl (λ r. refl) has has.only
