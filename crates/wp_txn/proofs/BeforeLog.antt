-- A refused call called no device, or made one append that failed.
use Rattle.std.proofs.Common.{◌≡◌, ◌⊎◌, ⊎_elim, inl, inr, ℕ, List, [], ◌∷◌, ◌++◌, filter, length, Some, refl, ap, ◌∙◌, append-nil}
use Rattle.std.specs.Prelude.{Result, Ok, Err, IfErr}
use Rattle.std.proofs.lemmas.List.Elements.{filter-append}
use Rattle.wp_model.specs.Batch.{key_of}
use Rattle.wp_model.specs.declared.change.Change.{Change}
use Rattle.wp_model.specs.declared.entry.Entry.{Entry}
use Rattle.wp_model.specs.declared.entry.Entry.TheVariants.{Write}
use Rattle.wp_model.specs.declared.holder.Holder.TheVariants.{Client}
use Rattle.wp_core.specs.Views.{Event, found, locked, log_failed, stopped, based_at}
use Rattle.wp_core.specs.World.{Participant}
use Rattle.wp_parts.specs.Log.{LogState}
use Rattle.wp_records.specs.declared.error.WriteError.{WriteError}
use Rattle.wp_records.specs.declared.error.WriteError.TheVariants as write_error
use Rattle.wp_records.specs.Records.{Puts, IsUncalled, FailsAppend}
use Rattle.wp_rule.specs.Accounts.{account_of}
use Rattle.wp_shared.specs.Calls.{Continues, with_events}
use Rattle.wp_shared.specs.Devices.{is_device_mark, device_marks, CalledNoDevice}
use Rattle.wp_shared.specs.Seats.{SharedState, SeatState}
use Rattle.wp_open_txns.specs.Calls.{Keeps}
use Rattle.wp_txn.specs.Writes.{Refuses, FailedOnce, LeavesDevice, MayLeaveDevice, RefusesBeforeLog, wrote_direct, writing_direct, KeyIsFree, WritesDirect}
use Rattle.wp_open_txns.specs.declared.error.TxnError.{TxnError}
use Rattle.wp_open_txns.specs.declared.error.TxnError.TheVariants as why

as_it_was : (p : Participant) → CalledNoDevice p p
as_it_was p = record { own = refl; marks = refl }

-- what it remembers else is no call of a device
remembers_more : (old p : Participant) (events : List Event) → filter is_device_mark events ≡ [] → CalledNoDevice old p → CalledNoDevice old (with_events events p)
remembers_more old p events none so = record {
  own = so.own;
  marks = filter-append is_device_mark p.past events ∙ ap (λ (es : List Event). device_marks p ++ es) none ∙ append-nil (device_marks p) ∙ so.marks;
}

goes_uncalled : {D : Type 0} (z : SharedState D) (old new : SeatState) (p : Participant) → CalledNoDevice old.knows.participant p → Continues z old new p → CalledNoDevice old.knows.participant new.knows.participant
goes_uncalled z old new p so goes = record { own = ap (λ (x : Participant). x.own) goes.participant ∙ so.own; marks = ap device_marks goes.participant ∙ so.marks }

pub refused_before : {D : Type 0} (z : SharedState D) (old new : SeatState) (needed : ℕ) (Asks : List Entry → Type 0) (first after : Participant) (reason : TxnError) → CalledNoDevice old.knows.participant after
    → Refuses z old new needed Asks first after reason → MayLeaveDevice z first old reason new → RefusesBeforeLog z first old reason new
refused_before z old new needed Asks first after why.Memory so c d = (goes_uncalled z old new after so c, d)
refused_before z old new needed Asks first after (why.Stopped n) so c d = (goes_uncalled z old new (with_events (stopped n ∷ []) after) (remembers_more old.knows.participant after (stopped n ∷ []) refl so) c.2, d)
refused_before z old new needed Asks first after (why.NumbersFull published limit) so c d =
    let events : List Event = based_at published c.2.world.installed.last.segment.base ∷ [] in (goes_uncalled z old new (with_events events after) (remembers_more old.knows.participant after events refl so) c.4, d)
refused_before z old new needed Asks first after why.LogFault so c d =
    let entries : List Entry = c.2.0 in let goes = c.2.2 in (
      entries,
      record {
        own = ap (λ (x : Participant). x.own) goes.participant ∙ so.own;
        marks = ap device_marks goes.participant ∙ filter-append is_device_mark after.past (log_failed entries ∷ []) ∙ ap (λ (es : List Event). es ++ log_failed entries ∷ []) so.marks;
      },
    )
refused_before z old new needed Asks first after other so c d = absurd c

-- of a transaction, which is as it was
pub refused_txn_before : {D : Type 0} (z : SharedState D) (old new : SeatState) (needed : ℕ) (Asks : List Entry → Type 0) (reason : TxnError) → Refuses z old new needed Asks old.knows.participant old.knows.participant reason → MayLeaveDevice z old.knows.participant old reason new
    → RefusesBeforeLog z old.knows.participant old reason new
refused_txn_before z old new needed Asks reason c d = let p = old.knows.participant in refused_before z old new needed Asks p p reason (as_it_was p) c d

-- of a direct write
module _ {D : Type 0} (z : SharedState D) (old new : SeatState) (change : Change) where
  abbrev was : Participant
  was = old.knows.participant

  abbrev wrote : Participant
  wrote = wrote_direct (key_of change) was

  abbrev writing : Participant
  writing = writing_direct (key_of change) was

  abbrev Asks : List Entry → Type 0
  Asks entries = entries ≡ Write (change ∷ []) ∷ []

  so_wrote : CalledNoDevice was wrote
  so_wrote = remembers_more was was (locked (key_of change) (Client was.client) ∷ []) refl (as_it_was was)

  also_refused : (reason : TxnError) → Refuses z old new 1 Asks writing wrote reason → MayLeaveDevice z writing old reason new → RefusesBeforeLog z writing old reason new
  also_refused reason c d = refused_before z old new 1 Asks writing wrote reason so_wrote c d

  pub written_before : (answer : Result ℕ TxnError) → WritesDirect z old change answer new → IfErr answer (λ reason. MayLeaveDevice z writing old reason new) → IfErr answer (λ reason. RefusesBeforeLog z writing old reason new)
  written_before (Ok n) c d = tt
  written_before (Err why.Memory) c d = (⊎_elim (λ (k : Keeps z old new). goes_uncalled z old new was (as_it_was was) k) (λ (k : Continues z old new wrote × KeyIsFree z old new (key_of change)). goes_uncalled z old new wrote so_wrote k.0) c, d)
  written_before (Err (why.Busy holder)) c d =
      let events : List Event = found (Some (key_of change)) holder (length was.seen) (account_of was c.world.locks c.published (Some (key_of change)) holder) ∷ [] in
      (goes_uncalled z old new (with_events events was) (remembers_more was was events refl (as_it_was was)) c.goes_on, d)
  written_before (Err (why.Stopped n)) c d = also_refused (why.Stopped n) c.0 d
  written_before (Err (why.NumbersFull published limit)) c d = also_refused (why.NumbersFull published limit) c.0 d
  written_before (Err why.LogFault) c d = also_refused why.LogFault c.0 d
  written_before (Err other) c d = absurd c.0

-- ---- what was refused called no device, or made one append that failed

pub refused_or_failed : {D : Type 0} (z : SharedState D) (by : Participant) (old new : SeatState) (reason : TxnError) → RefusesBeforeLog z by old reason new
    → (CalledNoDevice old.knows.participant new.knows.participant × LeavesDevice z by old new) ⊎ ((reason ≡ why.LogFault) × FailedOnce old.knows.participant new.knows.participant)
refused_or_failed z by old new why.LogFault r = inr (refl, r)
refused_or_failed z by old new other r = inl r

pub put_or_failed : {D : Type 0} (z : SharedState D) (old new : SeatState) (log left : LogState) (entries : List Entry) (reason : WriteError) → Puts z old log entries (Err reason) new left
    → IsUncalled log left ⊎ ((reason ≡ write_error.LogFault) × FailsAppend log entries left)
put_or_failed z old new log left entries write_error.Memory p = inl p.4
put_or_failed z old new log left entries write_error.LogFault p = inr (refl, p.1)

pub none_appended : {D : Type 0} (z : SharedState D) (by : Participant) (old new : SeatState) (reason : TxnError) → (new.knows.participant.own ≡ old.knows.participant.own → ⊥) → RefusesBeforeLog z by old reason new → ⊥
none_appended z by old new why.LogFault more r = more r.1.own
none_appended z by old new other more r = more r.0.own
