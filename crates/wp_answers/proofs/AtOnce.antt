-- What a client is answered that writes a change at once, whatever its snapshots are.
use Rattle.std.proofs.Common.{◌≡◌, ℕ, List, Some, None, true, refl, sym, subst, Ok, Err}
use Rattle.std.specs.Prelude.{◌≢◌, Result}
use Rattle.wp_model.specs.declared.change.Change.{Change}
use Rattle.wp_model.specs.declared.change.Change.TheVariants as change
use Rattle.wp_text.specs.declared.script.Command.{Command}
use Rattle.wp_text.specs.declared.script.Command.TheVariants as command
use Rattle.wp_text.specs.declared.reply.Reply.{Reply}
use Rattle.wp_text.specs.declared.reply.Reply.TheVariants as reply
use Rattle.wp_shared.specs.Seats.{SharedState, SeatState}
use Rattle.wp_open_txns.specs.declared.error.TxnError.{TxnError}
use Rattle.wp_open_txns.specs.declared.error.TxnError.TheVariants.{Silent}
use Rattle.wp_open_txns.specs.Txn.{PreparedState}
use Rattle.wp_txn.specs.Writes.{WritesDirect}
use Rattle.wp_client.specs.declared.holdings.HeldTxn.{HeldTxn}
use Rattle.wp_client.specs.declared.holdings.HeldTxn.TheVariants as held
use Rattle.wp_client.specs.Answers.{AnswersFrom, BreaksOffFrom}
use Rattle.wp_client.specs.Holdings.{HoldsTxn, HoldsFrom}
use Rattle.wp_client.specs.Replies.{asking, acknowledging, refusal}
use Rattle.wp_client.proofs.Clients.{answers_from, holds_from, breaks_from}
use Rattle.wp_client.proofs.States.{refused_as_it_was}
use Rattle.wp_answers.specs.Replies.{is_change}
use Rattle.wp_answers.proofs.Writes.{written_answers, not_written_answers, not_written_breaks, written_holds, not_written_holds}

module _ {D : Type 0} (z : SharedState D) (old new : SeatState) (c : Change) where
  pub at_once_holds : (answer : Result ℕ TxnError) → WritesDirect z old c answer new → HoldsFrom z old new held.Idle held.Idle
  at_once_holds (Ok n) w = written_holds z old new c n w
  at_once_holds (Err why) w = holds_from z old new held.Idle (λ h has. not_written_holds z old new c h has why w)

  pub at_once_named : (why : TxnError) → WritesDirect z old c (Err why) new → why ≢ Silent
  at_once_named why k is = (subst (λ (w : TxnError). WritesDirect z old c (Err w) new) is k).0

  -- the command asks for the change
  module _ (asked : Command) (same : asked ≡ asking c) where
    pub at_once_answers : (n : ℕ) → WritesDirect z old c (Ok n) new → AnswersFrom z old new held.Idle held.Idle asked (acknowledging c n)
    at_once_answers n w =
        subst (λ (x : Command). AnswersFrom z old new held.Idle held.Idle x (acknowledging c n)) (sym same)
        (answers_from z old new held.Idle held.Idle (asking c) (acknowledging c n) (λ snapshots. written_answers z old new c snapshots n w))

    pub at_once_refused : HoldsTxn z old held.Idle → (why : TxnError) (r : Reply) → refusal why ≡ Some r → WritesDirect z old c (Err why) new → AnswersFrom z old new held.Idle held.Idle asked r
    at_once_refused has why r is w =
        subst (λ (x : Command). AnswersFrom z old new held.Idle held.Idle x r) (sym same)
        (answers_from z old new held.Idle held.Idle (asking c) r (λ snapshots. not_written_answers z old new c snapshots has why r is w))

    pub at_once_breaks : (why : TxnError) → refusal why ≡ None → WritesDirect z old c (Err why) new → BreaksOffFrom old new held.Idle held.Idle asked
    at_once_breaks why none w =
        subst (λ (x : Command). BreaksOffFrom old new held.Idle held.Idle x) (sym same) (breaks_from old new held.Idle held.Idle (asking c) refl (λ snapshots. not_written_breaks z old new c snapshots why none w))

-- a prepared transaction takes no change
pub prepared_refuses : {D : Type 0} (z : SharedState D) (s : SeatState) (was : HeldTxn) (t : PreparedState) → was ≡ held.Prepared t → (c : Command) → is_change c ≡ true → HoldsTxn z s was → AnswersFrom z s s was was c reply.State
prepared_refuses z s was t is (command.Put key value) asked has = refused_as_it_was z s was (held.Prepared t) is (command.Put key value) has (λ snapshots. refl) refl (λ before. refl) (λ store snapshots. refl)
prepared_refuses z s was t is (command.Del key) asked has = refused_as_it_was z s was (held.Prepared t) is (command.Del key) has (λ snapshots. refl) refl (λ before. refl) (λ store snapshots. refl)
prepared_refuses z s was t is other asked has = absurd cc

-- ---- the command's change

pub acknowledging_put : (key value : List ℕ) (n : ℕ) (c : Change) → command.Put key value ≡ asking c → reply.Put n ≡ acknowledging c n
acknowledging_put key value n (change.Put k v) is = refl
acknowledging_put key value n (change.Del k) is = absurd cc

pub acknowledging_del : (key : List ℕ) (n : ℕ) (c : Change) → command.Del key ≡ asking c → reply.Del n ≡ acknowledging c n
acknowledging_del key n (change.Put k v) is = absurd cc
acknowledging_del key n (change.Del k) is = refl
