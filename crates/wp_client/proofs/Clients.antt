-- A clause that speaks of whatever client has this transaction, from what is so of its snapshots.
use Rattle.std.proofs.Common.{◌≡◌, List, sym, subst}
use Rattle.wp_text.specs.declared.script.Command.{Command}
use Rattle.wp_text.specs.declared.reply.Reply.{Reply}
use Rattle.wp_shared.specs.Seats.{SharedState, SeatState}
use Rattle.wp_replies.specs.declared.client.LabelledSnapshot.{LabelledSnapshot}
use Rattle.wp_replies.specs.Txn.{Txn}
use Rattle.wp_replies.specs.Client.{Client}
use Rattle.wp_client.specs.declared.holdings.HeldTxn.{HeldTxn}
use Rattle.wp_client.specs.Answers.{BreaksOff, IsAnswered, AnswersFrom, BreaksOffFrom}
use Rattle.wp_client.specs.Holdings.{HoldingsState, txn_of, Holds, HoldsFrom}

-- the client with this transaction
abbrev pub having : Txn → List LabelledSnapshot → Client
having t snapshots = record { txn = t; snapshots = snapshots }

module _ {D : Type 0} (z : SharedState D) (old new : SeatState) where
  pub answers_from : (was now : HeldTxn) (c : Command) (r : Reply) → ((snapshots : List LabelledSnapshot) → IsAnswered z old new (having (txn_of was) snapshots) (having (txn_of now) snapshots) c r) → AnswersFrom z old new was now c r
  answers_from was now c r each client is = subst (λ (t : Txn). IsAnswered z old new (having t client.snapshots) (having (txn_of now) client.snapshots) c r) (sym is) (each client.snapshots)

  -- the transaction is as it was, and so the client has what it had
  pub holds_from : (t : HeldTxn) → ((h : HoldingsState) → Holds z old h → Holds z new h) → HoldsFrom z old new t t
  holds_from t each h is has = subst (λ (x : HeldTxn). Holds z new (record { txn = x; snapshots = h.snapshots })) is (each h has)

pub breaks_from : (old new : SeatState) (was now : HeldTxn) (c : Command) → now ≡ was → ((snapshots : List LabelledSnapshot) → BreaksOff old new (having (txn_of was) snapshots) c) → BreaksOffFrom old new was now c
breaks_from old new was now c same each = (same, λ client is. subst (λ (t : Txn). BreaksOff old new (having t client.snapshots) c) (sym is) (each client.snapshots))
