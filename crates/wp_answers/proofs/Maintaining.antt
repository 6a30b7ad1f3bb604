-- What a client is answered that flushes, or compacts.
use Rattle.std.proofs.Common.{◌≡◌, inl, inr, ℕ, ◌≤◌, true, false, List, [], ◌∷◌, length, take, Option, Some, None, refl, sym, subst, ap, ◌∙◌, arith}
use Rattle.std.specs.Prelude.{Result, Ok, Err, IfSome, unwrap_or}
use Rattle.std.proofs.lemmas.Bool.Decides.{nat_tests}
use Rattle.wp_model.specs.declared.entry.Entry.{Entry}
use Rattle.wp_model.specs.Flushed.{InstalledEdit, later_versions}
use Rattle.wp_text.specs.declared.script.Command.{Command}
use Rattle.wp_text.specs.declared.script.Command.TheVariants as command
use Rattle.wp_text.specs.declared.reply.Reply.{Reply}
use Rattle.wp_text.specs.declared.reply.Reply.TheVariants as reply
use Rattle.wp_core.specs.Lists.{IsIn, one_if}
use Rattle.wp_core.specs.Sound.Actors.{StartsWith}
use Rattle.wp_core.specs.Sound.Pasts.{tables_due}
use Rattle.wp_core.specs.States.{Installed}
use Rattle.wp_core.specs.Views.{Event, installed, tables_failed, found_edit}
use Rattle.wp_core.specs.World.{Participant}
use Rattle.wp_core.proofs.KeepsSeen.{shorter}
use Rattle.wp_model.proofs.Tests.{same_some}
use Rattle.wp_rule.specs.Shows.{WasLast}
use Rattle.wp_parts.specs.Parts.{content}
use Rattle.wp_shared.specs.Calls.{Continues, with_events}
use Rattle.wp_shared.specs.Seats.{SharedState, SeatState}
use Rattle.wp_maint.specs.declared.done.Done.{Done}
use Rattle.wp_maint.specs.declared.error.MaintError.{MaintError}
use Rattle.wp_maint.specs.declared.error.MaintError.TheVariants.{Memory, Nothing, TableFault, TablesStopped}
use Rattle.wp_maint.specs.Calls.{found_by, IsStopped, HasNothing, HasFailed, HasFlushed, NoneInMemory, Flushes}
use Rattle.wp_replies.specs.Client.{Client}
use Rattle.wp_replies.specs.Kind.{number_in, fresh_in, is_renewal, last_after}
use Rattle.wp_replies.specs.Progress.{Progress, heard_after}
use Rattle.wp_replies.specs.Replies.{Evidence, WasFlushed, IsKnown, IsHaltedAt, HasNothingToFlush, FailsFlush, refusal_of, Condition, UnlessRefused}
use Rattle.wp_replies.specs.After.{after_reply}
use Rattle.wp_replies.specs.Tables.{unflushed, after_flush}
use Rattle.wp_answers.proofs.Alone.Flushing.{flushed_alone, nothing_flushed_alone, flush_failed_alone, flush_halted_alone}
use Rattle.wp_client.specs.Agrees.{Agrees, Knows}
use Rattle.wp_client.specs.Answers.{IsProgress, IsExplained, Answers, BreaksOff, IsAnswered}
use Rattle.wp_client.specs.Holdings.{HoldingsState, Holds}
use Rattle.wp_answers.specs.Replies.{tables_refusal}
use Rattle.wp_client.proofs.Fitting.{Fits, else_answers}
use Rattle.wp_client.proofs.Growing.{in_back, of_one, of_two, taken_old, seen_taken, last_still}
use Rattle.wp_client.proofs.Noting.{ComesNone, noted_still}
use Rattle.wp_client.proofs.Staying.{past_more, holds_still, keeps_holds, broke_off}

-- the command is no other than a flush, a compaction or a renewal, as far as the client is concerned
pub record IsOfTables (c : Command) : Type 0 where
  pub free : (client : Client) → refusal_of client c ≡ None
  pub last : (before : ℕ) (r : Reply) → last_after before c r ≡ unwrap_or (number_in r) before
  pub labels : (before : List (List ℕ)) (r : Reply) → heard_after before c r ≡ before
  pub comes : (r : Reply) → ComesNone c r
  pub fresh : (r : Reply) → fresh_in c r ≡ number_in r
  pub halted : (e : Evidence) (before : Progress) (client : Client) (flushed : ℕ) → IsHaltedAt e flushed → Condition e before client 0 c (reply.Halted flushed)

pub flush_is : IsOfTables command.Flush
flush_is = record { free = λ client. refl; last = λ before r. refl; labels = λ before r. refl; comes = λ r before. refl; fresh = λ r. refl; halted = λ e before client flushed k. k }

pub compaction_is : IsOfTables command.Compact
compaction_is = record { free = λ client. refl; last = λ before r. refl; labels = λ before r. refl; comes = λ r before. refl; fresh = λ r. refl; halted = λ e before client flushed k. k }

pub renewal_is : IsOfTables command.Renew
renewal_is = record { free = λ client. refl; last = λ before r. refl; labels = λ before r. refl; comes = λ r before. refl; fresh = λ r. refl; halted = λ e before client flushed k. k }

module _ {D : Type 0} (z : SharedState D) (old new : SeatState) where
  abbrev it : Participant
  it = old.knows.participant

  abbrev seen : List Entry
  seen = new.knows.participant.seen

  -- what the seat remembers of the call is known
  pub known_of : (events : List Event) → Continues z old new (with_events events it) → (e : Evidence) → Agrees e z new.knows.participant → (event : Event) → IsIn event events → Knows e event
  known_of events goes e agrees event there = agrees.past event (subst (IsIn event) (sym (ap (λ (q : Participant). q.past) goes.participant)) (in_back event it.past events there))

  module _ (c : Command) (of : IsOfTables c) (client : Client) where
    -- the seat goes on as it was, but that it remembers these events
    pub tables_answers : (r : Reply) (events : List Event) → Continues z old new (with_events events it) → Fits c r [] events it.client client.txn → client ≡ after_reply 0 client c r
        → IfSome (number_in r) (λ n. length it.seen ≤ n) → ((before : ℕ) → before ≤ length seen → unwrap_or (number_in r) before ≤ length seen)
        → ((first : InstalledEdit) → WasLast content z.first first → (before : Progress) → IsProgress first old client.txn before → (e : Evidence) → Agrees e z new.knows.participant → Condition e before client 0 c r)
        → Answers z old new client client c r
    tables_answers r events goes fits is later low condition =
        else_answers z old new _ (with_events events it) events client client c r 0 goes refl refl refl fits is
        (noted_still z old new (with_events events it) goes client.txn c r (of.comes r) (subst (λ (o : Option ℕ). IfSome o (λ n. length it.seen ≤ n)) (sym (of.fresh r)) later))
        (λ before lower. subst (λ (n : ℕ). n ≤ length seen) (sym (of.last before r)) (low before lower))
        (λ first is_first before p e agrees. subst (λ (o : Option Reply). UnlessRefused o r (Condition e before client 0 c r)) (sym (of.free client)) (condition first is_first before p e agrees))

    -- a device had failed before
    pub halted_answers : (t : Installed) (flushed : ℕ) → IsStopped (Continues z old new) z old new t flushed → Answers z old new client client c (reply.Halted flushed)
    halted_answers t flushed k =
        let event : Event = found_by z old new t k.found in
        let same : event ≡ found_edit flushed t.last.segment.base t.last.tables (tables_due k.found.world.first_edit it.past) true = λ i. found_edit (sym k.flushed_is i) t.last.segment.base t.last.tables (tables_due k.found.world.first_edit it.past) (k.halted i) in
        tables_answers (reply.Halted flushed) (event ∷ []) k.goes_on
        (record { acknowledges = refl; tables = λ before. refl; labels = λ before. of.labels before (reply.Halted flushed); log_failed = refl; log_stopped = refl; tables_failed = refl; once = omega arith; remembered = (t.last.segment.base, t.last.tables, tables_due k.found.world.first_edit it.past, inl same); explained = of_one (IsExplained it.client client.txn c (Some (reply.Halted flushed))) event tt })
        refl tt (λ before low. low)
        (λ first is_first before p e agrees. let known = known_of (event ∷ []) k.goes_on e agrees event (inl refl) in
        of.halted e before client flushed (subst (IsHaltedAt e) (sym k.flushed_is) (known.2 k.halted)))

    -- there was nothing to do
    pub nothing_answers : (t : Installed) (Idle : InstalledEdit → Type 0) (k : HasNothing (Continues z old new) z old new t Idle)
        → ((first : InstalledEdit) → WasLast content z.first first → (before : Progress) → IsProgress first old client.txn before → (e : Evidence) → Agrees e z new.knows.participant → Knows e (found_by z old new t k.found) → Condition e before client 0 c reply.Nothing)
        → Answers z old new client client c reply.Nothing
    nothing_answers t Idle k condition = let event : Event = found_by z old new t k.found in
        tables_answers reply.Nothing (event ∷ []) k.goes_on
        (record { acknowledges = refl; tables = λ before. refl; labels = λ before. of.labels before reply.Nothing; log_failed = refl; log_stopped = refl; tables_failed = refl; once = omega arith; remembered = tt; explained = of_one (IsExplained it.client client.txn c (Some reply.Nothing)) event tt })
        refl tt (λ before low. low)
        (λ first is_first before p e agrees. condition first is_first before p e agrees (known_of (event ∷ []) k.goes_on e agrees event (inl refl)))

    -- a device failed, and the log takes entries on
    pub failed_answers : is_renewal c ≡ false → (t : Installed) (Busy : Type 0) (IsNext : InstalledEdit → Type 0) (k : HasFailed (Continues z old new) z old new t Busy IsNext)
        → ((before : Progress) → before.last ≤ length it.seen → (e : Evidence) → Agrees e z new.knows.participant → e.installed ≡ t.last → e.failed.edit ≡ k.asked → Condition e before client 0 c reply.FaultTables)
        → Answers z old new client client c reply.FaultTables
    failed_answers other t Busy IsNext k condition =
        let event : Event = found_by z old new t k.found in let fault : Event = tables_failed t.last k.asked in
        tables_answers reply.FaultTables (event ∷ fault ∷ []) k.goes_on
        (record { acknowledges = refl; tables = λ before. refl; labels = λ before. of.labels before reply.FaultTables; log_failed = refl; log_stopped = ap one_if (sym other); tables_failed = refl; once = omega arith; remembered = tt; explained = of_two (IsExplained it.client client.txn c (Some reply.FaultTables)) event fault tt tt })
        refl tt (λ before low. low)
        (λ first is_first before p e agrees. let known = known_of (event ∷ fault ∷ []) k.goes_on e agrees fault (inr (inl refl)) in
        condition before p.last e agrees known.0 known.1)

  -- ---- a flush

  module _ (client : Client) where
    flushed_condition : (t : Installed) (done : Done) (k : HasFlushed (Continues z old new) z old new t done) (before : Progress) → before.last ≤ length seen → (e : Evidence) → Agrees e z new.knows.participant → IsKnown e (WasFlushed t.last.flushed)
        → Condition e before client 0 command.Flush (reply.Flushed done.at done.versions)
    flushed_condition t done k before low e agrees known =
        let at = k.at in let high = shorter e.history seen agrees.seen in (
          (omega (arith, at, low), omega (arith, at, high)),
          k.some,
          (
            t.last.flushed,
            known,
            ap (λ (h : List Entry). length (later_versions h t.last.flushed)) (ap (λ (m : ℕ). take m e.history) k.at ∙ seen_taken e.history seen agrees.seen) ∙ sym k.versions,
          ),
        )

    flushed_beside : (done : Done) → Flushes z old (Ok done) new → Answers z old new client client command.Flush (reply.Flushed done.at done.versions)
    flushed_beside done (t, k) =
        let edit = after_flush seen t.last in let event : Event = found_by z old new t k.found in let made : Event = installed edit false in
        tables_answers command.Flush flush_is client (reply.Flushed done.at done.versions) (event ∷ made ∷ []) k.goes_on
        (record {
          acknowledges = refl;
          tables = λ before. omega arith;
          labels = λ before. refl;
          log_failed = refl;
          log_stopped = refl;
          tables_failed = refl;
          once = omega arith;
          remembered = (edit, sym k.at, inr (inl refl));
          explained = of_two (IsExplained it.client client.txn command.Flush (Some (reply.Flushed done.at done.versions))) event made tt (let at = k.at in grind (arith, nat_tests));
        })
        refl (let at = k.at in let more = shorter seen it.seen k.goes_on.seen in omega (arith, at, more)) (λ before low. let at = k.at in omega (arith, at))
        (λ first is_first before p e agrees. flushed_condition t done k before (last_still first old client.txn new.knows.participant before k.goes_on.seen p) e agrees (known_of (event ∷ made ∷ []) k.goes_on e agrees event (inl refl)).0)

    pub flushed_answers : (done : Done) → Flushes z old (Ok done) new → IsAnswered z old new client client command.Flush (reply.Flushed done.at done.versions)
    flushed_answers done k = (flushed_beside done k, λ world stands only first is_first store so locks. flushed_alone z first old new only store so (world, stands) is_first client done k)

    nothing_condition : (t : Installed) → NoneInMemory seen t.last → (before : Progress) → before.last ≤ length seen → (e : Evidence) → Agrees e z new.knows.participant → IsKnown e (WasFlushed t.last.flushed) → HasNothingToFlush e before.last
    nothing_condition t none before low e agrees known = let high = shorter e.history seen agrees.seen in
        (omega (arith, low, high), (t.last.flushed, known, ap (λ (h : List Entry). later_versions h t.last.flushed) (taken_old e.history seen before.last agrees.seen low) ∙ none before.last))

    fails_condition : (t : Installed) (asked : Option InstalledEdit) → 1 ≤ length (unflushed seen t.last) → IfSome asked (λ edit. edit ≡ after_flush seen t.last) → StartsWith seen it.seen → (before : Progress) → before.last ≤ length it.seen → (e : Evidence) → Agrees e z new.knows.participant
        → e.installed ≡ t.last → e.failed.edit ≡ asked → FailsFlush e before.last
    fails_condition t asked some next grown before low e agrees last failed = let there = seen_taken e.history seen agrees.seen in let more = shorter seen it.seen grown in record {
      at = length seen;
      fresh = (omega (arith, low, more), shorter e.history seen agrees.seen);
      some = subst (λ (x : InstalledEdit). 1 ≤ length (unflushed (take (length seen) e.history) x)) (sym last) (subst (λ (h : List Entry). 1 ≤ length (unflushed h t.last)) (sym there) some);
      edit = subst (λ (o : Option InstalledEdit). IfSome o (λ edit. edit ≡ after_flush (take (length seen) e.history) e.installed)) (sym failed)
          (subst (λ (x : InstalledEdit). IfSome asked (λ edit. edit ≡ after_flush (take (length seen) e.history) x)) (sym last)
          (subst (λ (h : List Entry). IfSome asked (λ edit. edit ≡ after_flush h t.last)) (sym there) next));
    }

    pub not_flushed_answers : (why : MaintError) (r : Reply) → tables_refusal why ≡ Some r → Flushes z old (Err why) new → IsAnswered z old new client client command.Flush r
    not_flushed_answers Memory r is f = absurd cc
    not_flushed_answers Nothing r is (t, (whole, k)) = subst (IsAnswered z old new client client command.Flush) (same_some reply.Nothing r is) (
      nothing_answers command.Flush flush_is client t (NoneInMemory seen) k (λ first is_first before p e agrees known. nothing_condition t k.idle before (last_still first old client.txn new.knows.participant before k.goes_on.seen p) e agrees known.0),
      λ world stands only first is_first store so locks. nothing_flushed_alone z first old new only store so (world, stands) is_first client (t, (whole, k)),
    )
    not_flushed_answers TableFault r is (t, (whole, k)) = subst (IsAnswered z old new client client command.Flush) (same_some reply.FaultTables r is) (
      failed_answers command.Flush flush_is client refl t (1 ≤ length (unflushed seen t.last)) (λ edit. edit ≡ after_flush seen t.last) k (fails_condition t k.asked k.busy k.next k.goes_on.seen),
      λ world stands only first is_first store so locks. flush_failed_alone z first old new only store so (world, stands) is_first client (t, (whole, k)),
    )
    not_flushed_answers (TablesStopped flushed) r is (t, k) = subst (IsAnswered z old new client client command.Flush) (same_some (reply.Halted flushed) r is) (
      halted_answers command.Flush flush_is client t flushed k,
      λ world stands only first is_first store so locks. flush_halted_alone z first old new only store so (world, stands) is_first client flushed (t, k),
    )

    pub not_flushed_breaks : (why : MaintError) → tables_refusal why ≡ None → Flushes z old (Err why) new → BreaksOff old new client command.Flush
    not_flushed_breaks Memory none (t, goes) = broke_off z old new client command.Flush goes
    not_flushed_breaks _ none f = absurd cc

  -- what the client has then: what it had
  pub flush_holds : (answer : Result Done MaintError) → Flushes z old answer new → (h : HoldingsState) → Holds z old h → Holds z new h
  flush_holds (Ok done) (t, k) = holds_still z old new _ refl refl refl k.goes_on (past_more _ _)
  flush_holds (Err Memory) (t, goes) = keeps_holds z old new goes
  flush_holds (Err Nothing) (t, (whole, k)) = holds_still z old new _ refl refl refl k.goes_on (past_more _ _)
  flush_holds (Err TableFault) (t, (whole, k)) = holds_still z old new _ refl refl refl k.goes_on (past_more _ _)
  flush_holds (Err (TablesStopped flushed)) (t, k) = holds_still z old new _ refl refl refl k.goes_on (past_more _ _)
