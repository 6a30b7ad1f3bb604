-- A command that the state of the client's transaction refuses.
use Rattle.std.proofs.Common.{◌≡◌, ℕ, ◌≤◌, List, length, Option, Some, None, refl, sym, subst}
use Rattle.std.specs.Prelude.{unwrap_or, IfSome}
use Rattle.wp_text.specs.declared.script.Command.{Command}
use Rattle.wp_text.specs.declared.script.Command.TheVariants as command
use Rattle.wp_text.specs.declared.reply.Reply.{Reply}
use Rattle.wp_text.specs.declared.reply.Reply.TheVariants as reply
use Rattle.wp_shared.specs.Seats.{SharedState, SeatState}
use Rattle.wp_replies.specs.declared.client.LabelledSnapshot.{LabelledSnapshot}
use Rattle.wp_replies.specs.Client.{Client}
use Rattle.wp_replies.specs.Due.{Store, due}
use Rattle.wp_replies.specs.Kind.{fresh_in}
use Rattle.wp_replies.specs.Progress.{heard_after}
use Rattle.wp_replies.specs.Replies.{Condition, UnlessRefused, refusal_of}
use Rattle.wp_open_txns.specs.Calls.{Keeps}
use Rattle.wp_client.proofs.Alone.ReadKeys.{state_alone}
use Rattle.wp_client.specs.declared.holdings.HeldTxn.{HeldTxn}
use Rattle.wp_client.specs.Answers.{Answers, AnswersFrom}
use Rattle.wp_client.specs.Holdings.{txn_of, HoldsTxn}
use Rattle.wp_client.proofs.Clients.{having, answers_from}
use Rattle.wp_client.proofs.Noting.{ComesNone}
use Rattle.wp_client.proofs.Reading.{keeps_answers, keeps_at_once}

-- no key comes with it
state_comes : (c : Command) → ComesNone c reply.State
state_comes (command.Begin name) = λ before. refl
state_comes (command.Put key value) = λ before. refl
state_comes c = λ before. refl

-- the reply is the state, whatever else is so
state_answers : {D : Type 0} (z : SharedState D) (old new : SeatState) (client : Client) (c : Command) → refusal_of client c ≡ Some reply.State → fresh_in c reply.State ≡ None → ((before : List (List ℕ)) → heard_after before c reply.State ≡ before) → Keeps z old new
    → Answers z old new client client c reply.State
state_answers z old new client c refused fresh labels goes =
    keeps_answers z old new client c reply.State goes (record { acknowledges = refl; tables = λ before. refl; labels = labels; log_failed = refl; tables_failed = refl; remembered = tt; keys = state_comes c }) refl
    (subst (λ (o : Option ℕ). IfSome o (λ n. length old.knows.participant.seen ≤ n)) (sym fresh) tt)
    (λ before low. subst (λ (o : Option ℕ). unwrap_or o before ≤ length new.knows.participant.seen) (sym fresh) low)
    (λ first is_first before p e agrees. subst (λ (o : Option Reply). UnlessRefused o reply.State (Condition e before client 0 c reply.State)) (sym refused) refl)

-- the transaction is this one, and stays so
module _ {D : Type 0} (z : SharedState D) (s : SeatState) (was t : HeldTxn) (is : was ≡ t) where
  module _ (c : Command) (has : HoldsTxn z s was) (refused : (snapshots : List LabelledSnapshot) → refusal_of (having (txn_of t) snapshots) c ≡ Some reply.State) (fresh : fresh_in c reply.State ≡ None) (labels : (before : List (List ℕ)) → heard_after before c reply.State ≡ before) (due_is : (store : Store) (snapshots : List LabelledSnapshot) → due store (having (txn_of t) snapshots) c ≡ reply.State) where
    here : AnswersFrom z s s t t c reply.State
    here = answers_from z s s t t c reply.State (λ snapshots. (
      state_answers z s s (having (txn_of t) snapshots) c (refused snapshots) fresh labels (keeps_at_once z s has.free),
      λ world stands only first is_first store so locks. state_alone z first s s only store so refl (having (txn_of t) snapshots) c (due_is store snapshots),
    ))

    pub refused_so : AnswersFrom z s s was t c reply.State
    refused_so = subst (λ (x : HeldTxn). AnswersFrom z s s x t c reply.State) (sym is) here

    pub refused_as_it_was : AnswersFrom z s s was was c reply.State
    refused_as_it_was = subst (λ (x : HeldTxn). AnswersFrom z s s x x c reply.State) (sym is) here
