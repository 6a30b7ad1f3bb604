-- What a client is answered that renews the log.
use Rattle.std.proofs.Common.{◌≡◌, ◌⊎◌, inl, inr, ℕ, ◌<◌, ◌≤◌, ◌&&◌, Bool, List, [], ◌∷◌, length, take, Option, Some, None, refl, sym, subst, ap, ◌∙◌, arith, eq-eqb}
use Rattle.std.specs.Prelude.{Result, Ok, Err, IfSome}
use Rattle.wp_model.specs.declared.entry.Entry.{Entry}
use Rattle.wp_model.specs.Flushed.{InstalledEdit}
use Rattle.wp_model.specs.History.{undecided}
use Rattle.wp_text.specs.declared.script.Command.TheVariants as command
use Rattle.wp_text.specs.declared.reply.Reply.{Reply}
use Rattle.wp_text.specs.declared.reply.Reply.TheVariants as reply
use Rattle.wp_core.specs.Sound.Actors.{StartsWith}
use Rattle.wp_core.specs.States.{Installed, installed}
use Rattle.wp_core.specs.Views.{Event, log_failed, log_stopped, tables_failed, stopped}
use Rattle.wp_core.specs.Views as event
use Rattle.wp_core.specs.World.{Participant}
use Rattle.wp_core.proofs.KeepsSeen.{shorter}
use Rattle.wp_model.proofs.Tests.{same_some}
use Rattle.wp_rule.proofs.Knows.{held_is, one_was_first}
use Rattle.wp_rule.specs.Shows.{WasLast}
use Rattle.wp_shared.specs.Calls.{Continues}
use Rattle.wp_parts.specs.Parts.{content}
use Rattle.wp_shared.specs.Seats.{SharedState, SeatState, place_at}
use Rattle.wp_maint.specs.Calls.{Finds, found_by}
use Rattle.wp_maint.specs.declared.renewed.Renewed.{Renewed}
use Rattle.wp_maint.specs.declared.renewed.RenewError.{RenewError}
use Rattle.wp_maint.specs.declared.renewed.RenewError.TheVariants.{Memory, Nothing, TableFault, LogFault, Stopped, TablesStopped}
use Rattle.wp_maint.specs.Renewal.{HasRenewed, IsRenewed, IsClosed, HasBrokenOff, HasLogFault, Renews}
use Rattle.wp_replies.specs.Client.{Client}
use Rattle.wp_replies.specs.Progress.{Progress}
use Rattle.wp_replies.specs.Replies.{Evidence, WasBase, IsKnown, IsFresh, HasNothingToRenew, FailsRenewal, Condition}
use Rattle.wp_replies.specs.Tables.{after_renewal}
use Rattle.wp_replies.proofs.DueTables.{asks_none}
use Rattle.wp_answers.proofs.Alone.Renewing.{renewed_alone, nothing_renewed_alone, renew_halted_alone, renew_stopped_alone, renew_log_failed_alone, renew_failed_alone}
use Rattle.wp_client.specs.Agrees.{Agrees}
use Rattle.wp_client.specs.Answers.{HasBase, IsProgress, IsExplained, Answers, BreaksOff, IsAnswered}
use Rattle.wp_client.specs.Holdings.{HoldingsState, Holds}
use Rattle.wp_answers.specs.Replies.{renewal_refusal}
use Rattle.wp_client.proofs.Growing.{of_two, of_three, seen_taken, last_still}
use Rattle.wp_answers.proofs.Maintaining.{renewal_is, known_of, tables_answers, halted_answers, nothing_answers}
use Rattle.wp_answers.proofs.Risen.{base_between}
use Rattle.wp_client.proofs.Staying.{past_more, holds_still, keeps_holds, broke_off}

module _ {D : Type 0} (z : SharedState D) (old new : SeatState) where
  abbrev it : Participant
  it = old.knows.participant

  abbrev seen : List Entry
  seen = new.knows.participant.seen

  module _ (client : Client) where
    -- ---- rows

    -- the number is that of all that was seen
    fresh_end : (n : ℕ) → n ≡ length seen → (before : Progress) → before.last ≤ length seen → (e : Evidence) → Agrees e z new.knows.participant → IsFresh e.history before.last n
    fresh_end n is before low e agrees = let high = shorter e.history seen agrees.seen in (omega (arith, is, low), omega (arith, is, high))

    -- the base is no lower than the one that the client knows of
    base_risen : (t : Installed) (f : Finds z old new t) (first : InstalledEdit) → WasLast content z.first first → (before : Progress) → IsProgress first old client.txn before → before.base ≤ t.last.segment.base
    base_risen t f first is_first before p =
        let known = base_between first f.world f.there.reached old.by f.actor f.there.there (one_was_first content z.first f.world.first_edit first f.there.first_edit is_first) before.base
        (subst (λ (past : List Event). (before.base ≡ first.segment.base) ⊎ HasBase past before.base) (sym f.past_is) p.base) in
        let held : installed f.world.installed ≡ installed t = (held_is (place_at z old.by) f.actor f.world (installed t) f.there f.held).1 in
        let table : f.world.installed ≡ t = cc in
        let same : f.world.installed.last.segment.base ≡ t.last.segment.base = ap (λ (x : Installed). x.last.segment.base) table in
        omega (arith, known.1, same)

    renewed_condition : (t : Installed) (done : Renewed) (k : HasRenewed (Continues z old new) z old new t done) (first : InstalledEdit) → WasLast content z.first first → (before : Progress) → IsProgress first old client.txn before → (e : Evidence) → Agrees e z new.knows.participant → Condition e before client 0 command.Renew (reply.Renewed done.at done.carried)
    renewed_condition t done k first is_first before p e agrees = (
      fresh_end done.at k.at before (last_still first old client.txn new.knows.participant before k.goes_on.seen p) e agrees,
      (let risen = base_risen t k.found first is_first before p in let below = k.busy.below in let at = k.at in omega (arith, risen, below, at)),
      k.carried ∙ ap (λ (h : List Entry). length (undecided h)) (sym (ap (λ (m : ℕ). take m e.history) k.at ∙ seen_taken e.history seen agrees.seen)),
    )

    nothing_condition : (t : Installed) → t.last.segment.base ≡ length seen → (before : Progress) → before.last ≤ length seen → (e : Evidence) → IsKnown e (WasBase t.last.segment.base) → HasNothingToRenew e before.last
    nothing_condition t based before low e known = (t.last.segment.base, known, omega (arith, low, based))

    fails_condition : (t : Installed) (asked : Option InstalledEdit) (place : ℕ) → t.last.segment.base < length seen → IfSome asked (λ edit. edit ≡ after_renewal seen place t.last) → StartsWith seen it.seen → (before : Progress) → before.last ≤ length it.seen → (e : Evidence) → Agrees e z new.knows.participant
        → e.installed ≡ t.last → e.failed.edit ≡ asked → FailsRenewal e before.last
    fails_condition t asked place below next grown before low e agrees last failed = let more = shorter seen it.seen grown in record {
      at = length seen;
      fresh = fresh_end (length seen) refl before (omega (arith, low, more)) e agrees;
      behind = let base = ap (λ (x : InstalledEdit). x.segment.base) last in omega (arith, below, base);
      place = place;
      edit = subst (λ (o : Option InstalledEdit). IfSome o (λ edit. edit ≡ after_renewal (take (length seen) e.history) place e.installed)) (sym failed)
          (subst (λ (x : InstalledEdit). IfSome asked (λ edit. edit ≡ after_renewal (take (length seen) e.history) place x)) (sym last)
          (subst (λ (h : List Entry). IfSome asked (λ edit. edit ≡ after_renewal h place t.last)) (sym (seen_taken e.history seen agrees.seen)) next));
    }

    -- ---- what is answered

    renewed_beside : (done : Renewed) → Renews z old (Ok done) new → Answers z old new client client command.Renew (reply.Renewed done.at done.carried)
    renewed_beside done (t, k) =
        let edit = after_renewal seen k.place t.last in let found : Event = found_by z old new t k.found in let made : Event = event.renewed edit in
        tables_answers z old new command.Renew renewal_is client (reply.Renewed done.at done.carried) (found ∷ made ∷ []) k.goes_on
        (record {
          acknowledges = refl;
          tables = λ before. refl;
          labels = λ before. refl;
          log_failed = refl;
          log_stopped = refl;
          tables_failed = refl;
          once = omega arith;
          remembered = (edit, sym k.at, sym k.at, inr (inl refl));
          explained = of_two (IsExplained it.client client.txn command.Renew (Some (reply.Renewed done.at done.carried))) found made tt (ap (λ (b : Bool). b && b) (eq-eqb (length seen) done.at (sym k.at)));
        })
        refl (let at = k.at in let more = shorter seen it.seen k.goes_on.seen in omega (arith, at, more)) (λ before low. let at = k.at in omega (arith, at))
        (λ first is_first before p e agrees. renewed_condition t done k first is_first before p e agrees)

    nothing_beside : (t : Installed) → IsRenewed (Continues z old new) z old new t → Answers z old new client client command.Renew reply.Nothing
    nothing_beside t k =
        nothing_answers z old new command.Renew renewal_is client t (λ edit. edit.segment.base ≡ length seen) (record { found = k.found; running = k.running; idle = k.based; goes_on = k.goes_on })
        (λ first is_first before p e agrees known. nothing_condition t k.based before (last_still first old client.txn new.knows.participant before k.goes_on.seen p) e known.1)

    -- the log was closed before
    closed_beside : (t : Installed) (n : ℕ) → IsClosed (Continues z old new) z old new t n → Answers z old new client client command.Renew (reply.Stopped n)
    closed_beside t n k =
        let found : Event = found_by z old new t k.found in let events : List Event = found ∷ stopped n ∷ [] in
        tables_answers z old new command.Renew renewal_is client (reply.Stopped n) events k.goes_on
        (record {
          acknowledges = refl;
          tables = λ before. refl;
          labels = λ before. refl;
          log_failed = refl;
          log_stopped = refl;
          tables_failed = refl;
          once = omega arith;
          remembered = inr (inl refl);
          explained = of_two (IsExplained it.client client.txn command.Renew (Some (reply.Stopped n))) found (stopped n) tt tt;
        })
        refl tt (λ before low. low)
        (λ first is_first before p e agrees.
        (inr refl, fresh_end n k.number before (last_still first old client.txn new.knows.participant before k.goes_on.seen p) e agrees, known_of z old new events k.goes_on e agrees (stopped n) (inr (inl refl))))

    -- a device of the tables failed, and the log takes nothing more
    broken_beside : (t : Installed) → HasBrokenOff (Continues z old new) z old new t → Answers z old new client client command.Renew reply.FaultTables
    broken_beside t k =
        let found : Event = found_by z old new t k.found in let fault : Event = tables_failed t.last k.asked in let events : List Event = found ∷ fault ∷ log_stopped ∷ [] in
        tables_answers z old new command.Renew renewal_is client reply.FaultTables events k.goes_on
        (record {
          acknowledges = refl;
          tables = λ before. refl;
          labels = λ before. refl;
          log_failed = refl;
          log_stopped = refl;
          tables_failed = refl;
          once = omega arith;
          remembered = tt;
          explained = of_three (IsExplained it.client client.txn command.Renew (Some reply.FaultTables)) found fault log_stopped tt tt refl;
        })
        refl tt (λ before low. low)
        (λ first is_first before p e agrees. let known = known_of z old new events k.goes_on e agrees fault (inr (inl refl)) in
        fails_condition t k.asked k.survives.1.0 k.busy.below (subst (λ (x : InstalledEdit). IfSome k.asked (λ edit. edit ≡ x)) k.survives.1.1 k.survives.2) k.goes_on.seen before p.last e agrees known.0 known.1)

    -- the log's device failed
    log_fault_beside : (t : Installed) → HasLogFault (Continues z old new) z old new t → Answers z old new client client command.Renew reply.FaultLog
    log_fault_beside t k =
        let found : Event = found_by z old new t k.found in let fault : Event = log_failed [] in let events : List Event = found ∷ fault ∷ [] in
        tables_answers z old new command.Renew renewal_is client reply.FaultLog events k.goes_on
        (record {
          acknowledges = refl;
          tables = λ before. refl;
          labels = λ before. refl;
          log_failed = refl;
          log_stopped = refl;
          tables_failed = refl;
          once = omega arith;
          remembered = tt;
          explained = of_two (IsExplained it.client client.txn command.Renew (Some reply.FaultLog)) found fault tt tt;
        })
        refl tt (λ before low. low)
        (λ first is_first before p e agrees. let known = known_of z old new events k.goes_on e agrees fault (inr (inl refl)) in (asks_none e.history before.last client.txn e.failed.entries known.0, known.1 refl))

    pub renewed_answers : (done : Renewed) → Renews z old (Ok done) new → IsAnswered z old new client client command.Renew (reply.Renewed done.at done.carried)
    renewed_answers done k = (renewed_beside done k, λ world stands only first is_first store so locks. renewed_alone z first old new only store so (world, stands) is_first client done k)

    pub not_renewed_answers : (why : RenewError) (r : Reply) → renewal_refusal why ≡ Some r → Renews z old (Err why) new → IsAnswered z old new client client command.Renew r
    not_renewed_answers Memory r is f = absurd cc
    not_renewed_answers Nothing r is (t, k) = subst (IsAnswered z old new client client command.Renew) (same_some reply.Nothing r is)
        (nothing_beside t k, λ world stands only first is_first store so locks. nothing_renewed_alone z first old new only store so (world, stands) is_first client (t, k))
    not_renewed_answers TableFault r is (t, k) = subst (IsAnswered z old new client client command.Renew) (same_some reply.FaultTables r is)
        (broken_beside t k, λ world stands only first is_first store so locks. renew_failed_alone z first old new only store so (world, stands) is_first client (t, k))
    not_renewed_answers LogFault r is (t, k) = subst (IsAnswered z old new client client command.Renew) (same_some reply.FaultLog r is)
        (log_fault_beside t k, λ world stands only first is_first store so locks. renew_log_failed_alone z first old new only store so (world, stands) is_first client (t, k))
    not_renewed_answers (Stopped n) r is (t, k) = subst (IsAnswered z old new client client command.Renew) (same_some (reply.Stopped n) r is)
        (closed_beside t n k, λ world stands only first is_first store so locks. renew_stopped_alone z first old new only store so (world, stands) is_first client n (t, k))
    not_renewed_answers (TablesStopped flushed) r is (t, k) = subst (IsAnswered z old new client client command.Renew) (same_some (reply.Halted flushed) r is)
        (halted_answers z old new command.Renew renewal_is client t flushed k, λ world stands only first is_first store so locks. renew_halted_alone z first old new only store so (world, stands) is_first client flushed (t, k))

    pub not_renewed_breaks : (why : RenewError) → renewal_refusal why ≡ None → Renews z old (Err why) new → BreaksOff old new client command.Renew
    not_renewed_breaks Memory none (t, k) = broke_off z old new client command.Renew k.goes_on
    not_renewed_breaks _ none f = absurd cc

  -- what the client has then: what it had
  pub renewal_holds : (answer : Result Renewed RenewError) → Renews z old answer new → (h : HoldingsState) → Holds z old h → Holds z new h
  renewal_holds (Err Memory) (t, k) = keeps_holds z old new k.goes_on
  renewal_holds _ (t, k) = holds_still z old new _ refl refl refl k.goes_on (past_more _ _)
