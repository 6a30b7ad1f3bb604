-- What is so of a client, by what is so of its transaction.
use Rattle.std.proofs.Common.{List, refl, Ok, Err}
use Rattle.std.specs.Prelude.{Result, IfOk, OnErr}
use Rattle.std.proofs.lemmas.Result.{IfOk-weaker, on_err_weaker}
use Rattle.wp_text.specs.declared.script.Command.{Command}
use Rattle.wp_text.specs.declared.reply.Reply.{Reply}
use Rattle.wp_model.specs.Flushed.{InstalledEdit}
use Rattle.wp_core.specs.World.{World}
use Rattle.wp_rule.specs.Shows.{WasLast}
use Rattle.wp_parts.specs.Parts.{content}
use Rattle.wp_shared.specs.Seats.{SharedState, SeatState, Stands}
use Rattle.wp_replies.specs.Due.{Store}
use Rattle.wp_client.specs.Alone.{IsOnly, IsStoreOf, AreLockedIn, AnswersAlone}
use Rattle.wp_open_txns.specs.Calls.{Keeps}
use Rattle.wp_replies.specs.Client.{Client}
use Rattle.wp_client.specs.declared.holdings.HeldTxn.{HeldTxn}
use Rattle.wp_client.specs.declared.holdings.HeldSnapshot.{HeldSnapshot}
use Rattle.wp_client.specs.Answers.{Answers, IsAnswered, AnswersFrom, BreaksOff, BreaksOffFrom}
use Rattle.wp_client.specs.Holdings.{HoldingsState, client_of, Holds, HoldsFrom}
use Rattle.wp_client.proofs.Staying.{broke_off}

module _ {D E : Type 0} (z : SharedState D) (old new : SeatState) (c : Command) (r : Result Reply E) where
  -- its snapshots are as they were
  module _ (was now : HeldTxn) (snapshots : List HeldSnapshot) where
    abbrev before_it : HoldingsState
    before_it = record { txn = was; snapshots = snapshots }

    abbrev after_it : HoldingsState
    after_it = record { txn = now; snapshots = snapshots }

    pub whole_answers : IfOk r (AnswersFrom z old new was now c) → IfOk r (IsAnswered z old new (client_of before_it) (client_of after_it) c)
    whole_answers = IfOk-weaker r (AnswersFrom z old new was now c) (IsAnswered z old new (client_of before_it) (client_of after_it) c) (λ answer k. k (client_of before_it) refl)

    pub whole_breaks : OnErr r (BreaksOffFrom old new was now c) → OnErr r (BreaksOff old new (client_of before_it) c)
    whole_breaks = on_err_weaker r (λ k. k.1 (client_of before_it) refl)

  -- whatever client it is
  pub any_answers : (client : Client) → IfOk r (λ answer. (any : Client) → IsAnswered z old new any any c answer) → IfOk r (IsAnswered z old new client client c)
  any_answers client = IfOk-weaker r (λ answer. (any : Client) → IsAnswered z old new any any c answer) (IsAnswered z old new client client c) (λ answer k. k client)

  -- ... that has what the seat has
  pub held_answers : (h : HoldingsState) → Holds z old h → IfOk r (λ answer. (any : HoldingsState) → Holds z old any → IsAnswered z old new (client_of any) (client_of any) c answer) → IfOk r (IsAnswered z old new (client_of h) (client_of h) c)
  held_answers h has = IfOk-weaker r (λ answer. (any : HoldingsState) → Holds z old any → IsAnswered z old new (client_of any) (client_of any) c answer) (IsAnswered z old new (client_of h) (client_of h) c) (λ answer k. k h has)

  pub any_breaks : (client : Client) → OnErr r ((any : Client) → BreaksOff old new any c) → OnErr r (BreaksOff old new client c)
  any_breaks client = on_err_weaker r (λ k. k client)

-- the two sides of an answer
module _ {D E : Type 0} (z : SharedState D) (old new : SeatState) (c : Command) (r : Result Reply E) (was now : Client) where
  pub beside_others : IfOk r (IsAnswered z old new was now c) → IfOk r (Answers z old new was now c)
  beside_others = IfOk-weaker r (IsAnswered z old new was now c) (Answers z old new was now c) (λ answer k. k.0)

  -- where the seat stands in this world
  module _ (world : World) (stands : Stands z new world) where
    abbrev pub IsDueHere : Reply → Type 0
    IsDueHere answer = IsOnly old → (first : InstalledEdit) → WasLast content z.first first → (store : Store) → IsStoreOf z first old.knows.participant store → AreLockedIn z old was.txn store → AnswersAlone z first old new was now c answer store

    pub by_itself : IfOk r (IsAnswered z old new was now c) → IfOk r IsDueHere
    by_itself = IfOk-weaker r (IsAnswered z old new was now c) IsDueHere (λ answer k. k.1 world stands)

-- what is so anyhow
pub if_broken : {X E P : Type 0} (r : Result X E) → P → OnErr r P
if_broken (Ok answer) p = tt
if_broken (Err e) p = p

-- where the seat only went on, memory was wanting at most
pub kept_breaks : {D E : Type 0} (z : SharedState D) (old new : SeatState) (c : Command) (r : Result Reply E) (client : Client) → Keeps z old new → OnErr r (BreaksOff old new client c)
kept_breaks z old new c r client goes = if_broken r (broke_off z old new client c goes)

module _ {D : Type 0} (z : SharedState D) (old new : SeatState) (was now : HeldTxn) (snapshots : List HeldSnapshot) where
  pub whole_holds : HoldsFrom z old new was now → Holds z old (record { txn = was; snapshots = snapshots }) → Holds z new (record { txn = now; snapshots = snapshots })
  whole_holds from has = from (record { txn = was; snapshots = snapshots }) refl has
