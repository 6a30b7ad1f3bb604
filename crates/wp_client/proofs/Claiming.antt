-- What a client is answered that begins a transaction, or takes one.
use Rattle.std.proofs.Common.{◌≡◌, ℕ, false, List, [], ◌∷◌, length, take, Some, None, refl, sym, subst, ap, ◌∙◌, arith}
use Rattle.std.specs.Prelude.{◌≢◌, Ok, Err}
use Rattle.std.specs.Str.{bytes_eq}
use Rattle.std.specs.FinMap as finite
use Rattle.wp_model.specs.declared.entry.Entry.{Entry}
use Rattle.wp_model.specs.declared.holder.Holder.TheVariants as holder
use Rattle.wp_model.specs.History.{named}
use Rattle.wp_text.specs.declared.script.Command.TheVariants as command
use Rattle.wp_text.specs.declared.reply.Reply.{Reply}
use Rattle.wp_text.specs.declared.reply.Reply.TheVariants as reply
use Rattle.wp_core.specs.Lists.{IsIn}
use Rattle.wp_core.specs.Views.{Account, another, Event, claimed, took, found}
use Rattle.wp_core.specs.World.{Participant}
use Rattle.wp_core.proofs.KeepsSeen.{shorter}
use Rattle.wp_core.proofs.PastsGrow.{in_last}
use Rattle.wp_model.proofs.Tests.{same_some}
use Rattle.wp_rule.specs.Accounts.{account_of}
use Rattle.wp_shared.specs.Calls.{Continues, with_events}
use Rattle.wp_shared.specs.Seats.{SharedState, SeatState}
use Rattle.wp_open_txns.specs.declared.error.TxnError.{TxnError}
use Rattle.wp_open_txns.specs.declared.error.TxnError.TheVariants.{Memory, Taken, Silent, Unknown, InUse}
use Rattle.wp_open_txns.specs.Actors.{no_changes}
use Rattle.wp_open_txns.specs.Calls.{Finds, with_transaction, Begins, Takes, TakesPrepared}
use Rattle.wp_open_txns.specs.Txn.{OpenState, PreparedState, HasOpen}
use Rattle.wp_replies.specs.declared.client.LabelledSnapshot.{LabelledSnapshot}
use Rattle.wp_replies.specs.Txn.{Idle, Open, Prepared}
use Rattle.wp_replies.specs.Client.{Client}
use Rattle.wp_client.proofs.Alone.Names.{begun_alone, took_alone, taken_alone, unknown_alone, never_in_use}
use Rattle.wp_client.specs.declared.holdings.HeldTxn.TheVariants as held
use Rattle.wp_client.specs.Agrees.{KnowsHolder}
use Rattle.wp_client.specs.Answers.{AreNoted, IsExplained, Answers, BreaksOff, IsAnswered}
use Rattle.wp_client.specs.Holdings.{staged_of, HoldsTxn, HoldsFrom}
use Rattle.wp_client.specs.Replies.{refusal}
use Rattle.wp_client.proofs.Fitting.{else_answers}
use Rattle.wp_client.proofs.Clients.{having, holds_from}
use Rattle.wp_client.proofs.Growing.{of_one, seen_taken, was_undecided, last_still}
use Rattle.wp_client.proofs.Holders.{found_taken, of_another}
use Rattle.wp_client.proofs.Labels.{itself}
use Rattle.wp_client.proofs.Reading.{keeps_answers}
use Rattle.wp_client.proofs.Staying.{past_more, holds_still, keeps_holds, broke_off, only_this, has_now, holds_now}

module _ {D : Type 0} (z : SharedState D) (old new : SeatState) (name : List ℕ) (snapshots : List LabelledSnapshot) where
  abbrev it : Participant
  it = old.knows.participant

  abbrev me : Client
  me = having Idle snapshots

  -- the past has what the call found
  in_past : (event : Event) → Continues z old new (with_events (event ∷ []) it) → IsIn event new.knows.participant.past
  in_past event goes = subst (IsIn event) (sym (ap (λ (q : Participant). q.past) goes.participant)) (in_last event it.past)

  -- ---- a name is claimed

  pub begun_answers : (txn : OpenState) → Begins z old name (Ok txn) new → IsAnswered z old new me (having (Open (staged_of txn)) snapshots) (command.Begin name) reply.Begun
  begun_answers txn k = (
    else_answers z old new _ (with_events (claimed name ∷ []) (with_transaction name no_changes it)) (claimed name ∷ []) me (having (Open (staged_of txn)) snapshots) (command.Begin name) reply.Begun 0 k.2 refl refl refl
        (record { acknowledges = refl; tables = λ before. refl; labels = λ before. refl; log_failed = refl; log_stopped = refl; tables_failed = refl; once = omega arith; remembered = tt; explained = of_one (IsExplained it.client Idle (command.Begin name) (Some reply.Begun)) (claimed name) (itself name) })
        (ap (λ (x : OpenState). having (Open (staged_of x)) snapshots) k.0)
        (λ before low are. subst (λ (x : OpenState). AreNoted new (Open (staged_of x)) []) (sym k.0) (record { each = tt; all = λ key its. absurd cc }))
        (λ before low. low) (λ first is_first before p e agrees. tt),
    λ world stands only first is_first store so locks. begun_alone z first old new only store so (world, stands) snapshots name txn k,
  )

  -- the name is live
  taken_answers : HoldsTxn z old held.Idle → (other : List ℕ) → other ≡ name → Finds z old new None (holder.Txn name) → Answers z old new me me (command.Begin name) (reply.Taken other)
  taken_answers has other same f =
      let account : Account = account_of it f.world.locks f.published None (holder.Txn name) in let event : Event = found None (holder.Txn name) (length it.seen) account in
      else_answers z old new _ (with_events (event ∷ []) it) (event ∷ []) me me (command.Begin name) (reply.Taken other) 0 f.goes_on refl refl refl
      (record { acknowledges = refl; tables = λ before. refl; labels = λ before. refl; log_failed = refl; log_stopped = refl; tables_failed = refl; once = omega arith; remembered = tt; explained = of_one (IsExplained it.client Idle (command.Begin name) (Some (reply.Taken other))) event tt })
      refl (λ before low are. tt) (λ before low. low)
      (λ first is_first before p e agrees. (same, found_taken e before.last name it f.world.locks f.published p.last has.direct (has.only name refl) (agrees.past event (in_past event f.goes_on))))

  pub not_begun_answers : HoldsTxn z old held.Idle → (why : TxnError) (r : Reply) → refusal why ≡ Some r → Begins z old name (Err why) new → IsAnswered z old new me me (command.Begin name) r
  not_begun_answers has (Taken other) r is k = subst (IsAnswered z old new me me (command.Begin name)) (same_some (reply.Taken other) r is)
      (taken_answers has other k.0 k.1, λ world stands only first is_first store so locks. taken_alone z first old new only store so (world, stands) snapshots (λ own. has.only own refl) name other k)
  not_begun_answers has Memory r is k = absurd cc
  not_begun_answers has _ r is k = absurd k

  pub not_begun_named : (why : TxnError) → Begins z old name (Err why) new → why ≢ Silent
  not_begun_named why k is = subst (λ (w : TxnError). Begins z old name (Err w) new) is k

  pub not_begun_breaks : (why : TxnError) → refusal why ≡ None → Begins z old name (Err why) new → BreaksOff old new me (command.Begin name)
  not_begun_breaks Memory none k = broke_off z old new me (command.Begin name) k
  not_begun_breaks (Taken other) none k = absurd cc
  not_begun_breaks _ none k = absurd k

  -- ---- a prepared transaction is taken

  took_beside : (txn : PreparedState) → Takes z old name txn new → Answers z old new me (having (Prepared txn.number) snapshots) (command.Take name) reply.Took
  took_beside txn k =
      else_answers z old new _ (with_events (took name ∷ []) (with_transaction name k.has.transaction it)) (took name ∷ []) me (having (Prepared txn.number) snapshots) (command.Take name) reply.Took txn.number k.goes_on refl refl refl
      (record { acknowledges = refl; tables = λ before. refl; labels = λ before. refl; log_failed = refl; log_stopped = refl; tables_failed = refl; once = omega arith; remembered = tt; explained = of_one (IsExplained it.client Idle (command.Take name) (Some reply.Took)) (took name) (itself name) })
      refl (λ before low are. tt) (λ before low. low)
      (λ first is_first before p e agrees. was_undecided e.history new.knows.participant.seen before.last name txn.number agrees.seen (last_still first old Idle new.knows.participant before k.goes_on.seen p) k.number_is)

  pub took_answers : (txn : PreparedState) → Takes z old name txn new → IsAnswered z old new me (having (Prepared txn.number) snapshots) (command.Take name) reply.Took
  took_answers txn k = (took_beside txn k, λ world stands only first is_first store so locks. took_alone z first old new only store so (world, stands) snapshots name txn k)

  unknown_answers : (other : List ℕ) (n : ℕ) → TakesPrepared z old name (Err (Unknown other n)) new → Answers z old new me me (command.Take name) (reply.Unknown other n)
  unknown_answers other n k =
      keeps_answers z old new me (command.Take name) (reply.Unknown other n) k.3 (record { acknowledges = refl; tables = λ before. refl; labels = λ before. refl; log_failed = refl; tables_failed = refl; remembered = tt; keys = λ before. refl })
      refl (let is = k.1 in let more = shorter new.knows.participant.seen it.seen k.3.seen in omega (arith, is, more)) (λ before low. let is = k.1 in omega (arith, is))
      (λ first is_first before p e agrees. let seen = new.knows.participant.seen in let is = k.1 in let low = last_still first old Idle new.knows.participant before k.3.seen p in let high = shorter e.history seen agrees.seen in
      (k.0, (omega (arith, low, is), omega (arith, high, is)), ap (λ (h : List Entry). named h name) (ap (λ (m : ℕ). take m e.history) is ∙ seen_taken e.history seen agrees.seen) ∙ k.2))

  -- another client has it
  in_use_answers : HoldsTxn z old held.Idle → (other : List ℕ) → TakesPrepared z old name (Err (InUse other)) new → Answers z old new me me (command.Take name) (reply.InUse other)
  in_use_answers has other k = let f = k.1 in
      let account : Account = account_of it f.world.locks f.published None (holder.Txn name) in let event : Event = found None (holder.Txn name) (length it.seen) account in
      let of_other : account ≡ another = of_another it f.world.locks f.published name k.2.0 (has.only name refl) k.2.1 in
      else_answers z old new _ (with_events (event ∷ []) it) (event ∷ []) me me (command.Take name) (reply.InUse other) 0 f.goes_on refl refl refl
      (record { acknowledges = refl; tables = λ before. refl; labels = λ before. refl; log_failed = refl; log_stopped = refl; tables_failed = refl; once = omega arith; remembered = tt; explained = of_one (IsExplained it.client Idle (command.Take name) (Some (reply.InUse other))) event tt })
      refl (λ before low are. tt) (λ before low. low)
      (λ first is_first before p e agrees. (k.0, subst (KnowsHolder e None (holder.Txn name) (length it.seen)) of_other (agrees.past event (in_past event f.goes_on))))

  pub not_taken_answers : HoldsTxn z old held.Idle → (why : TxnError) (r : Reply) → refusal why ≡ Some r → TakesPrepared z old name (Err why) new → IsAnswered z old new me me (command.Take name) r
  not_taken_answers has (Unknown other at) r is k = subst (IsAnswered z old new me me (command.Take name)) (same_some (reply.Unknown other at) r is)
      (unknown_answers other at k, λ world stands only first is_first store so locks. unknown_alone z first old new only store so (world, stands) snapshots (λ own. has.only own refl) name other at k)
  not_taken_answers has (InUse other) r is k = subst (IsAnswered z old new me me (command.Take name)) (same_some (reply.InUse other) r is)
      (in_use_answers has other k, λ world stands only first is_first store so locks. absurd (never_in_use z old new only name other (has.only name refl) k))
  not_taken_answers has Memory r is k = absurd cc
  not_taken_answers has _ r is k = absurd k

  pub not_taken_named : (why : TxnError) → TakesPrepared z old name (Err why) new → why ≢ Silent
  not_taken_named why k is = subst (λ (w : TxnError). TakesPrepared z old name (Err w) new) is k

  pub not_taken_breaks : (why : TxnError) → refusal why ≡ None → TakesPrepared z old name (Err why) new → BreaksOff old new me (command.Take name)
  not_taken_breaks Memory none k = broke_off z old new me (command.Take name) k
  not_taken_breaks (Unknown other at) none k = absurd cc
  not_taken_breaks (InUse other) none k = absurd cc
  not_taken_breaks _ none k = absurd k

-- ---- what the client has then

module _ {D : Type 0} (z : SharedState D) (old new : SeatState) (name : List ℕ) (has : HoldsTxn z old held.Idle) where
  -- it has no other transaction
  none_else : (own other : List ℕ) → bytes_eq own other ≡ false → finite.get old.knows.participant.transactions other ≡ None
  none_else own other ne = has.only other refl

  pub begun_holds : (txn : OpenState) → Begins z old name (Ok txn) new → HoldsFrom z old new held.Idle (held.Open txn)
  begun_holds txn k = let is : OpenState = record { name = name; batch = []; locked = []; pin = None } in
      subst (λ (x : OpenState). HoldsFrom z old new held.Idle (held.Open x)) (sym k.0)
      (holds_now _ z old new _ k.2 held.Idle (held.Open is) (λ r. refl) (has_now _ z old new _ k.2 held.Idle (held.Open is) refl has (subst (HasOpen new) k.0 k.1) (only_this old.knows.participant.transactions name (none_else name) no_changes)))

  pub not_begun_holds : (why : TxnError) → Begins z old name (Err why) new → HoldsFrom z old new held.Idle held.Idle
  not_begun_holds (Taken other) k = holds_from z old new held.Idle (holds_still z old new _ refl refl refl k.1.goes_on (past_more _ _))
  not_begun_holds Memory k = holds_from z old new held.Idle (keeps_holds z old new k)
  not_begun_holds _ k = absurd k

  pub took_holds : (txn : PreparedState) → Takes z old name txn new → HoldsFrom z old new held.Idle (held.Prepared txn)
  took_holds txn k =
      holds_now _ z old new _ k.goes_on held.Idle (held.Prepared txn) (λ r. refl) (has_now _ z old new _ k.goes_on held.Idle (held.Prepared txn) refl has
      k.has
      (subst (λ (own : List ℕ). (other : List ℕ) → bytes_eq own other ≡ false → finite.get (finite.insert old.knows.participant.transactions name k.has.transaction) other ≡ None) (sym k.name_is)
      (only_this old.knows.participant.transactions name (none_else name) k.has.transaction)))

  pub not_taken_holds : (why : TxnError) → TakesPrepared z old name (Err why) new → HoldsFrom z old new held.Idle held.Idle
  not_taken_holds (Unknown other at) k = holds_from z old new held.Idle (keeps_holds z old new k.3)
  not_taken_holds (InUse other) k = holds_from z old new held.Idle (holds_still z old new _ refl refl refl k.1.goes_on (past_more _ _))
  not_taken_holds Memory k = holds_from z old new held.Idle (keeps_holds z old new k)
  not_taken_holds _ k = absurd k
