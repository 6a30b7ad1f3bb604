-- What a client is answered that reads.
use Rattle.std.proofs.Common.{◌≡◌, ℕ, ◌≤◌, false, List, [], length, Option, Some, None, refl, sym, subst, ap, ◌∙◌, arith}
use mathlib.Core.List.{append-nil}
use Rattle.wp_model.specs.declared.change.Change.{Change}
use Rattle.wp_model.specs.declared.entry.Entry.{Entry}
use Rattle.wp_model.specs.Batch.{change_to}
use Rattle.wp_model.specs.Flushed.{InstalledEdit}
use Rattle.wp_model.specs.History.{entry_at, prepared_batch, value_at, newest}
use Rattle.wp_model.proofs.Entries.{entry_at_old}
use Rattle.wp_text.specs.declared.script.Command.{Command}
use Rattle.wp_text.specs.declared.script.Command.TheVariants as command
use Rattle.wp_text.specs.declared.reply.Reply.{Reply}
use Rattle.wp_text.specs.declared.reply.Reply.TheVariants as reply
use Rattle.wp_core.specs.Lists.{one_if}
use Rattle.wp_core.specs.Sound.Actors.{StartsWith}
use Rattle.wp_core.proofs.KeepsSeen.{whole, shorter}
use Rattle.wp_model.proofs.Tests.{same_some}
use Rattle.wp_rule.specs.Shows.{WasLast}
use Rattle.wp_parts.specs.Parts.{content}
use Rattle.wp_shared.specs.Seats.{SharedState, SeatState, IsFree}
use Rattle.wp_shared.proofs.Onward.{starts_on}
use Rattle.wp_open_txns.specs.Calls.{Keeps}
use Rattle.wp_replies.specs.declared.client.LabelledSnapshot.{LabelledSnapshot}
use Rattle.wp_replies.specs.Client.{Client, own_batch, number_of}
use Rattle.wp_replies.specs.After.{after_reply}
use Rattle.wp_replies.specs.Kind.{acknowledged, kind, is_fault, is_tables_fault, is_renewal, last_after, tables_after}
use Rattle.wp_replies.specs.Plan.{read_reply}
use Rattle.wp_replies.specs.Progress.{Progress, heard_after}
use Rattle.wp_replies.specs.Replies.{Evidence, TxnIsWithin, OwnSays, IsFresh, Condition, Allows, UnlessRefused, unless_labelled}
use Rattle.wp_replies.specs.Due.{Store}
use Rattle.wp_client.specs.Alone.{IsOnly, IsStoreOf}
use Rattle.wp_client.proofs.Alone.Quiet.{never_stops}
use Rattle.wp_client.proofs.Alone.ReadKeys.{prepared_changes, got_own_alone, missing_own_alone, read_alone, read_at_alone, unknown_snapshot_alone}
use Rattle.wp_client.specs.declared.holdings.HeldTxn.{HeldTxn}
use Rattle.wp_client.specs.declared.holdings.HeldTxn.TheVariants as held
use Rattle.wp_client.specs.Agrees.{Agrees}
use Rattle.wp_client.specs.Answers.{IsProgress, IsRemembered, Answers, IsDue, IsAnswered}
use Rattle.wp_client.specs.Holdings.{txn_of, HasTxn, HoldsTxn}
use Rattle.wp_read.specs.Fresh.{ReadsFresh}
use Rattle.wp_client.specs.Replies.{batch_in, own_reply}
use Rattle.wp_client.proofs.Fitting.{else_answers}
use Rattle.wp_client.proofs.Clients.{having}
use Rattle.wp_client.proofs.Growing.{taken_old}
use Rattle.wp_client.proofs.Noting.{ComesNone, IsLater, noted_still}

-- a seat that did nothing goes on as it was
pub keeps_at_once : {D : Type 0} (z : SharedState D) (s : SeatState) → IsFree z.table s → Keeps z s s
keeps_at_once z s free = record { free = free; same_by = refl; seen = whole s.knows.participant.seen; participant = refl; notes = λ fact stays there. there; made = refl; joined = refl }

-- ---- a reply without an event

-- it speaks of no entry that it acknowledges, of no fault, table or label
pub record IsQuiet (c : Command) (r : Reply) : Type 0 where
  pub acknowledges : acknowledged r ≡ []
  pub tables : (before : ℕ) → tables_after before r ≡ before
  pub labels : (before : List (List ℕ)) → heard_after before c r ≡ before
  pub log_failed : is_fault r ≡ false
  pub tables_failed : is_tables_fault r ≡ false
  pub remembered : IsRemembered [] r
  pub keys : ComesNone c r

pub keeps_answers : {D : Type 0} (z : SharedState D) (old new : SeatState) (client : Client) (c : Command) (r : Reply) → Keeps z old new → IsQuiet c r → client ≡ after_reply 0 client c r → IsLater old c r
    → ((before : ℕ) → before ≤ length new.knows.participant.seen → last_after before c r ≤ length new.knows.participant.seen)
    → ((first : InstalledEdit) → WasLast content z.first first → (before : Progress) → IsProgress first old client.txn before → (e : Evidence) → Agrees e z new.knows.participant → Allows e before client 0 c r)
    → Answers z old new client client c r
keeps_answers z old new client c r goes quiet is later low allowed =
    else_answers z old new _ old.knows.participant [] client client c r 0 goes refl refl (sym (append-nil old.knows.participant.past))
    (record { acknowledges = quiet.acknowledges; tables = quiet.tables; labels = quiet.labels; log_failed = ap one_if (sym quiet.log_failed); log_stopped = ap one_if (sym (never_stops (is_renewal c) (kind r) quiet.log_failed quiet.tables_failed)); tables_failed = ap one_if (sym quiet.tables_failed); once = omega arith; remembered = quiet.remembered; explained = λ event there. absurd there })
    is (noted_still z old new old.knows.participant goes client.txn c r quiet.keys later) low allowed

-- ---- what the history has

pub value_old : (history seen : List Entry) (key : List ℕ) (n : ℕ) → StartsWith history seen → n ≤ length seen → value_at history key n ≡ value_at seen key n
value_old history seen key n starts low = ap (λ (h : List Entry). newest h key) (taken_old history seen n starts low)

-- the batch of the client's transaction, as the history has it
own_is : (s : SeatState) (t : HeldTxn) (history : List Entry) → HasTxn s t → StartsWith history s.knows.participant.seen → TxnIsWithin (length history) (txn_of t) × (own_batch history (txn_of t) ≡ batch_in t)
own_is s held.Idle history has starts = (tt, refl)
own_is s (held.Open t) history has starts = (tt, refl)
own_is s (held.Prepared t) history has starts = let low = has.seen in let more = shorter history s.knows.participant.seen starts in (
  omega (arith, low, more),
  ap prepared_batch (ap (λ (h : List Entry). entry_at h t.number) starts.1 ∙ (entry_at_old s.knows.participant.seen starts.0 t.number has.seen ∙ has.stands)),
)

own_says : (s : SeatState) (t : HeldTxn) (history : List Entry) (key : List ℕ) (said : Option (Option (List ℕ))) → HasTxn s t → StartsWith history s.knows.participant.seen → change_to (batch_in t) key ≡ said → OwnSays history (txn_of t) key said
own_says s t history key said has starts is = let k = own_is s t history has starts in (k.0, ap (λ (batch : List Change). change_to batch key) k.1 ∙ is)

-- ---- reads

module _ {D : Type 0} (z : SharedState D) (old new : SeatState) (t : HeldTxn) (key : List ℕ) (snapshots : List LabelledSnapshot) (has : HoldsTxn z old t) where
  abbrev me : Client
  me = having (txn_of t) snapshots

  -- the history begins with what the seat had seen
  starts : (e : Evidence) → Keeps z old new → Agrees e z new.knows.participant → StartsWith e.history old.knows.participant.seen
  starts e goes agrees = starts_on old.knows.participant.seen new.knows.participant.seen e.history goes.seen agrees.seen

  own_answers_by : (said : Option (Option (List ℕ))) (r : Reply) → change_to (batch_in t) key ≡ said → own_reply said ≡ Some r → Keeps z old new → Answers z old new me me (command.Get key) r
  own_answers_by None r at is goes = absurd cc
  own_answers_by (Some None) r at is goes = subst (Answers z old new me me (command.Get key)) (same_some reply.MissingOwn r is)
      (keeps_answers z old new me (command.Get key) reply.MissingOwn goes (record { acknowledges = refl; tables = λ before. refl; labels = λ before. refl; log_failed = refl; tables_failed = refl; remembered = tt; keys = λ before. refl })
      refl tt (λ before low. low) (λ first is_first before p e agrees. own_says old t e.history key (Some None) has.has (starts e goes agrees) at))
  own_answers_by (Some (Some value)) r at is goes = subst (Answers z old new me me (command.Get key)) (same_some (reply.GotOwn value) r is)
      (keeps_answers z old new me (command.Get key) (reply.GotOwn value) goes (record { acknowledges = refl; tables = λ before. refl; labels = λ before. refl; log_failed = refl; tables_failed = refl; remembered = tt; keys = λ before. refl })
      refl tt (λ before low. low) (λ first is_first before p e agrees. own_says old t e.history key (Some (Some value)) has.has (starts e goes agrees) at))

  -- the batch of the transaction, as the only client's store has it
  batch_is : (first : InstalledEdit) (only : IsOnly old) (store : Store) (so : IsStoreOf z first old.knows.participant store) (u : HeldTxn) → HasTxn old u → own_batch store.history (txn_of u) ≡ batch_in u
  batch_is first only store so held.Idle had = refl
  batch_is first only store so (held.Open u) had = refl
  batch_is first only store so (held.Prepared u) had = prepared_changes z first old new only store so u had

  own_due_by : (said : Option (Option (List ℕ))) (r : Reply) → change_to (batch_in t) key ≡ said → own_reply said ≡ Some r → new ≡ old → IsDue z old new me me (command.Get key) r
  own_due_by None r at is same = absurd cc
  own_due_by (Some None) r at is same = subst (IsDue z old new me me (command.Get key)) (same_some reply.MissingOwn r is)
      (λ world stands only first is_first store so locks. missing_own_alone z first old new only store so (txn_of t) snapshots (batch_in t) (batch_is first only store so t has.has) key same at)
  own_due_by (Some (Some value)) r at is same = subst (IsDue z old new me me (command.Get key)) (same_some (reply.GotOwn value) r is)
      (λ world stands only first is_first store so locks. got_own_alone z first old new only store so (txn_of t) snapshots (batch_in t) (batch_is first only store so t has.has) key same value at)

  -- what its own transaction says
  pub own_answers : (r : Reply) → own_reply (change_to (batch_in t) key) ≡ Some r → new ≡ old → Keeps z old new → IsAnswered z old new me me (command.Get key) r
  own_answers r is same goes = (own_answers_by (change_to (batch_in t) key) r refl is goes, own_due_by (change_to (batch_in t) key) r refl is same)

  no_own : (said : Option (Option (List ℕ))) → own_reply said ≡ None → said ≡ None
  no_own None is = refl
  no_own (Some None) is = absurd cc
  no_own (Some (Some value)) is = absurd cc

  fresh : (first : InstalledEdit) (before : Progress) (e : Evidence) (n : ℕ) (value : Option (List ℕ)) → IsProgress first old (txn_of t) before → Agrees e z new.knows.participant → ReadsFresh z old new key value n → IsFresh e.history before.last n
  fresh first before e n value p agrees read = let low = p.last in let from = read.fresh in let to = read.within in let high = shorter e.history new.knows.participant.seen agrees.seen in (omega (arith, low, from), omega (arith, to, high))

  -- what the store has
  fresh_beside : (value : Option (List ℕ)) (n : ℕ) → own_reply (change_to (batch_in t) key) ≡ None → ReadsFresh z old new key value n → Answers z old new me me (command.Get key) (read_reply value n)
  fresh_beside (Some value) n none read =
      keeps_answers z old new me (command.Get key) (reply.Got value n) read.goes_on (record { acknowledges = refl; tables = λ before. refl; labels = λ before. refl; log_failed = refl; tables_failed = refl; remembered = tt; keys = λ before. refl })
      refl read.fresh (λ before low. read.within) (λ first is_first before p e agrees. (
        own_says old t e.history key None has.has (starts e read.goes_on agrees) (no_own (change_to (batch_in t) key) none),
        fresh first before e n (Some value) p agrees read,
        value_old e.history new.knows.participant.seen key n agrees.seen read.within ∙ sym read.value_is,
      ))
  fresh_beside None n none read =
      keeps_answers z old new me (command.Get key) (reply.Missing n) read.goes_on (record { acknowledges = refl; tables = λ before. refl; labels = λ before. refl; log_failed = refl; tables_failed = refl; remembered = tt; keys = λ before. refl })
      refl read.fresh (λ before low. read.within) (λ first is_first before p e agrees. (
        own_says old t e.history key None has.has (starts e read.goes_on agrees) (no_own (change_to (batch_in t) key) none),
        fresh first before e n None p agrees read,
        value_old e.history new.knows.participant.seen key n agrees.seen read.within ∙ sym read.value_is,
      ))

  pub fresh_answers : (value : Option (List ℕ)) (n : ℕ) → own_reply (change_to (batch_in t) key) ≡ None → ReadsFresh z old new key value n → IsAnswered z old new me me (command.Get key) (read_reply value n)
  fresh_answers value n none read = (
    fresh_beside value n none read,
    λ world stands only first is_first store so locks. read_alone z first old new only store so (txn_of t) snapshots (batch_in t) (batch_is first only store so t has.has) key (world, stands) (no_own (change_to (batch_in t) key) none) value n read.goes_on read.fresh read.within read.value_is,
  )

-- ---- reads at a snapshot

module _ {D : Type 0} (z : SharedState D) (old new : SeatState) (client : Client) (key label : List ℕ) (goes : Keeps z old new) where
  with_label : (e : Evidence) (before : Progress) (n : ℕ) (r : Reply) → number_of client.snapshots label ≡ Some n → Condition e before client 0 (command.GetAt key label) r → Allows e before client 0 (command.GetAt key label) r
  with_label e before n r at condition = subst (λ (o : Option ℕ). UnlessRefused (unless_labelled o label) r (Condition e before client 0 (command.GetAt key label) r)) (sym at) condition

  within : (n : ℕ) (e : Evidence) → n ≤ length new.knows.participant.seen → Agrees e z new.knows.participant → n ≤ length e.history
  within n e low agrees = let high = shorter e.history new.knows.participant.seen agrees.seen in omega (arith, low, high)

  at_beside : (value : Option (List ℕ)) (n : ℕ) → number_of client.snapshots label ≡ Some n → n ≤ length new.knows.participant.seen → value ≡ value_at new.knows.participant.seen key n
      → Answers z old new client client (command.GetAt key label) (read_reply value n)
  at_beside (Some value) n at low is =
      keeps_answers z old new client (command.GetAt key label) (reply.Got value n) goes (record { acknowledges = refl; tables = λ before. refl; labels = λ before. refl; log_failed = refl; tables_failed = refl; remembered = tt; keys = λ before. refl })
      refl tt (λ before low. low) (λ first is_first before p e agrees. with_label e before n (reply.Got value n) at ((at, within n e low agrees), value_old e.history new.knows.participant.seen key n agrees.seen low ∙ sym is))
  at_beside None n at low is =
      keeps_answers z old new client (command.GetAt key label) (reply.Missing n) goes (record { acknowledges = refl; tables = λ before. refl; labels = λ before. refl; log_failed = refl; tables_failed = refl; remembered = tt; keys = λ before. refl })
      refl tt (λ before low. low) (λ first is_first before p e agrees. with_label e before n (reply.Missing n) at ((at, within n e low agrees), value_old e.history new.knows.participant.seen key n agrees.seen low ∙ sym is))

  pub at_answers : (value : Option (List ℕ)) (n : ℕ) → number_of client.snapshots label ≡ Some n → n ≤ length new.knows.participant.seen → value ≡ value_at new.knows.participant.seen key n
      → IsAnswered z old new client client (command.GetAt key label) (read_reply value n)
  at_answers value n at low is = (at_beside value n at low is, λ world stands only first is_first store so locks. read_at_alone z first old new only store so client.txn client.snapshots (world, stands) key label n at goes value is)

  -- the client has no such snapshot
  unknown_beside : number_of client.snapshots label ≡ None → Answers z old new client client (command.GetAt key label) (reply.UnknownSnapshot label)
  unknown_beside none =
      keeps_answers z old new client (command.GetAt key label) (reply.UnknownSnapshot label) goes (record { acknowledges = refl; tables = λ before. refl; labels = λ before. refl; log_failed = refl; tables_failed = refl; remembered = tt; keys = λ before. refl })
      refl tt (λ before low. low)
      (λ first is_first before p e agrees. subst (λ (o : Option ℕ). UnlessRefused (unless_labelled o label) (reply.UnknownSnapshot label) (Condition e before client 0 (command.GetAt key label) (reply.UnknownSnapshot label))) (sym none) refl)

  pub unknown_answers : new ≡ old → number_of client.snapshots label ≡ None → IsAnswered z old new client client (command.GetAt key label) (reply.UnknownSnapshot label)
  unknown_answers same none = (unknown_beside none, λ world stands only first is_first store so locks. unknown_snapshot_alone z first old new only store so client.txn client.snapshots same key label none)
