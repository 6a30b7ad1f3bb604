-- From what the sessions of all clients leave to how a call ends.
use Rattle.std.specs.Prelude.{Result, Ok, Err, IfOk, OnErr}
use Rattle.std.specs.Global.{Vec}
use Rattle.std.specs.declared.alloc.AllocError.{AllocError}
use Rattle.std.proofs.Common.{◌≡◌, ℕ, ◌+◌, ◌≤◌, ◌^◌, min, Bool, true, List, [], ◌∷◌, length, Option, Some, None, refl, sym, subst, inl, inr, ap, ◌∙◌, arith}
use Rattle.wp_outside.specs.Disk.{IfKnown}
use Rattle.wp_fields.specs.declared.format.Format.TheVariants.{Two}
use Rattle.wp_entry.specs.Record.{last_number}
use Rattle.wp_model.specs.declared.entry.Entry.{Entry}
use Rattle.wp_model.specs.Flushed.{InstalledEdit}
use Rattle.wp_refused.specs.declared.error.OpenError.{OpenError}
use Rattle.wp_refused.specs.declared.error.OpenError.TheVariants as open_error
use Rattle.wp_contents.specs.Opens.{installed_of}
use Rattle.wp_text.specs.declared.script.Part.{Part}
use Rattle.wp_text.specs.declared.reply.Reply.{Reply}
use Rattle.wp_core.specs.Lists.{one_if}
use Rattle.wp_core.specs.World.{Actor}
use Rattle.wp_rule.specs.Words.{SawAll}
use Rattle.wp_rule.proofs.Knows.{one_was_first}
use Rattle.wp_shared.specs.Limits.{least_opened, opened_limit, renewed_limit}
use Rattle.wp_parts.specs.Parts.{content}
use Rattle.wp_wal.specs.Spelling.{IsInVersion}
use Rattle.wp_replies.specs.Exact.{IsExact}
use Rattle.wp_replies.specs.Explains.{Faults, Explains}
use Rattle.wp_replies.specs.Replies.{Limits}
use Rattle.wp_replies.specs.Kind.{is_fault, is_tables_fault}
use Rattle.wp_opened.specs.OpenedFrom.{IsOpenedFrom}
use Rattle.wp_shared.specs.Seats.{SharedState, SeatState, place_at}
use Rattle.wp_threads.specs.Explained.{found_in, left_in, failed_in, faults_in, HaveRun}
use Rattle.wp_seats.specs.New.{first_seat, IsFirst}
use Rattle.wp_threads.specs.Over.{Answered, replies_of}
use Rattle.wp_args.specs.Choice.{IsEntered, IsChoice, HasNumbers}
use Rattle.wp_args.specs.declared.choice.Action.{Action}
use Rattle.wp_args.specs.declared.choice.Action.TheVariants as action
use Rattle.wp_args.specs.declared.choice.Choice.{Choice}
use Rattle.wp_args.specs.declared.limits.TheConstants.{MOST_BITS}
use Rattle.wp_status.specs.declared.status.Status.{Status}
use Rattle.wp_status.specs.declared.status.Status.TheVariants as status
use Rattle.wp_run.specs.Run.{Call, CanMake, IsChoiceOf, IsChosen, IsUnread, IsReadAs, IsServed, Ends, IsOutcome}
use Rattle.wp_seats.specs.Seating.{IsFirstClient}
use Rattle.wp_run.specs.Headline.{Serving, Headline}
use Rattle.wp_run.specs.Met.{SharesWords}
use Rattle.wp_run.specs.Base.{AreLimits, IsBaseStore}
use Rattle.wp_run.specs.Serving.{nothing_more, exactly, AnswersScript, LacksMemory, faults_of, Serves, ServesExactly, HasEnded}
use Rattle.wp_status.specs.Unopened.{IsUnopened}
use Rattle.wp_status.specs.Status.{IsStatusOf}
use Rattle.wp_transcript.specs.Transcript.{text_of}
use Rattle.wp_transcript.specs.Answers.{are_whole, one_fails}
use Rattle.wp_status.specs.Written.{IsWritten}
use Rattle.wp_status.specs.Use.{SinkUse, AreUncalled, IsDurable, before, after}
use Rattle.wp_threads.proofs.Counted.{none_or_some}
use Rattle.wp_run.proofs.Stored.{at_most_one, was_opened, crash_leaves, is_stored}
use Rattle.wp_run.proofs.Whole.{all_ran, fails_counted}

-- ---- how a script was served

module _ {D : Type 0} (z : SharedState D) (s : Serving) (answered : List Answered) (history : List Entry) (base : ℕ) (store : List (List ℕ × List ℕ)) (cells : z.cells ≡ 2 ^ s.choice.store.bits) (limit : z.limit ≡ s.choice.store.limit) (low : s.choice.store.limit ≤ last_number Two) (first : Actor) (stands : SawAll (place_at z 0) first (length z.opened)) (seen : first.participant.seen ≡ z.opened) (opened : IsOpenedFrom s.choice.store.id (before s.disks) z) (run : HaveRun z s.script answered history (after s.disks)) (based : base ≡ run.ended.first_edit.segment.base) (store_is : IsBaseStore history base store) where
  -- the store was opened to one last edit
  same_edit : run.ended.first_edit ≡ installed_of opened.wal.segment.base opened.edits.edit opened.versions.tables
  same_edit = one_was_first content z.first run.ended.first_edit (installed_of opened.wal.segment.base opened.edits.edit opened.versions.tables) run.ended.first_is opened.last_is

  shares_words : SharesWords (2 ^ s.choice.store.bits) (found_in run.ended)
  shares_words =
      let there = stands.there in record {
        world = stands.world;
        reached = there.reached;
        opened = there.opened;
        history = stands.seen ∙ seen;
        edit = one_was_first content z.first stands.world.first_edit run.ended.first_edit there.first_edit run.ended.first_is;
        cache = there.cells ∙ cells;
      }

  abbrev limits : Limits
  limits = record { opened = opened_limit z; renewed = renewed_limit z; cells = z.cells }

  are_limits : AreLimits s.choice.store.limit s.choice.store.bits (found_in run.ended).edit.segment.place s.disks.log.before limits
  are_limits = record {
    format = opened.wal.format;
    found = subst (λ (e : InstalledEdit). IfKnown s.disks.log.before (λ m. IsInVersion opened.wal.format e.segment.place m.reads)) (sym same_edit) opened.parts.opened.version;
    opened = ap (least_opened z.limit) opened.log_is ∙ ap (λ (n : ℕ). min n (last_number opened.wal.format)) limit;
    renewed = (let same : min z.limit (last_number Two) ≡ s.choice.store.limit = omega (arith, limit, low) in same);
    cells = cells;
  }

  abbrev replies : List (List Reply)
  replies = replies_of answered

  -- what the commands came to that ran
  pub headline : (parts : List Part) → run.run ≡ parts → (h : Headline s (faults_in run.ended) parts) × exactly s (faults_in run.ended) parts h × (h.replies ≡ replies) × (h.left.history ≡ history) × (h.store ≡ store) × (h.found.edit.segment.base ≡ base) × (h.id ≡ run.ended.opened.wal.id)
  headline parts is =
      let e = subst (λ (ran : List Part). Explains limits (faults_in run.ended) s.script ran (found_in run.ended) (left_in run.ended) (failed_in run.ended) replies) is run.explained in (
        record {
          id = run.ended.opened.wal.id;
          found = found_in run.ended;
          opened = was_opened s opened run.ended same_edit;
          words = shares_words;
          left = left_in run.ended;
          legal = e.legal;
          begins = e.begins;
          store = store;
          store_is = subst (λ (b : ℕ). IsBaseStore history b store) based store_is;
          failed = failed_in run.ended;
          replies = replies;
          limits = limits;
          limits_are = are_limits;
          sessions = e.answered;
          once = e.paired;
          within = λ n low high. subst (λ (m : ℕ). n ≤ m) limit (run.within n low high);
          crash = crash_leaves s opened run.ended same_edit run.closed run.by_device run.behind;
          stored = is_stored s opened run.ended same_edit run.closed run.by_device run.behind;
          met = record { log_failed = e.log_failed; log_stopped = e.log_stopped; stopped = e.stopped; tables_failed = e.tables_failed; halted = e.halted; edit = e.edit };
        },
        subst (λ (ran : List Part). IsExact limits (found_in run.ended) (left_in run.ended) (failed_in run.ended) ran replies) is run.exact,
        refl,
        refl,
        refl,
        sym based,
        refl,
      )

  lacks : LacksMemory s (exactly s)
  lacks = let h = headline run.run refl in record { faults = faults_in run.ended; run = run.run; first = run.first; headline = h.0; also = h.1 }

  abbrev text : List ℕ
  text = text_of s.choice.action s.script replies base store history

  answers : are_whole answered ≡ true → AnswersScript s (exactly s) (faults_in run.ended) text
  answers whole =
      let h = headline s.script (all_ran s.script run.run answered run.whole whole) in
      record { headline = h.0; text_is = λ i. text_of s.choice.action s.script (sym h.2 i) (sym h.5 i) (sym h.4 i) (sym h.3 i); also = h.1 }

  abbrev faults : Faults
  faults = faults_in run.ended

  -- the faults are those that a client was answered
  log_as_told : one_if (one_fails is_fault answered) ≡ faults.log
  log_as_told = fails_counted is_fault answered faults.log (let all = run.closed in let most = at_most_one run.ended.writes.closed in omega (arith, all, most)) run.explained.log_failed

  tables_as_told : one_if (one_fails is_tables_fault answered) ≡ faults.tables
  tables_as_told = fails_counted is_tables_fault answered faults.tables (at_most_one run.ended.edits.halted) run.explained.tables_failed

  -- a renewal stopped the log at most once, and neither beside a fault of its device nor without one of the tables
  few_stops : faults.log + faults.renewals ≤ 1
  few_stops = let all = run.closed in let most = at_most_one run.ended.writes.closed in omega (arith, all, most)

  no_stops : faults.tables ≡ 0 → faults.renewals ≡ 0
  no_stops none = elim (none_or_some faults.renewals) [
    | inl nought ↦ nought
    | inr stop ↦ let one : one_if run.ended.edits.halted ≡ 1 = ap one_if (run.behind stop).0 in absurd (omega (arith, none, one))
  ]

  answers_as : (log tables renewals : ℕ) → faults.log ≡ log → faults.tables ≡ tables → faults.renewals ≡ renewals → are_whole answered ≡ true → AnswersScript s (exactly s) (faults_of log tables renewals) text
  answers_as log tables renewals a b c whole = subst (λ (x : ℕ × ℕ × ℕ). AnswersScript s (exactly s) (faults_of x.0 x.1 x.2) text) (λ i. (a i, b i, c i)) (answers whole)

  pub serves_run : (end : Status) → HasEnded s.choice.action s.script answered base store history s.sink end → ServesExactly s end
  serves_run status.Memory h = inr lacks
  serves_run status.Ok h =
      let log : faults.log ≡ 0 = sym log_as_told ∙ ap one_if h.1.0 in let tables : faults.tables ≡ 0 = sym tables_as_told ∙ ap one_if h.1.1 in (text, answers_as 0 0 0 log tables (no_stops tables) h.0, h.1.2)
  serves_run status.LogFault h =
      let log : faults.log ≡ 1 = sym log_as_told ∙ ap one_if h.1.0 in let few = few_stops in (faults.tables, text, answers_as 1 faults.tables 0 log refl (omega (arith, log, few)) h.0, h.1.1)
  serves_run status.TableFault h =
      let log : faults.log ≡ 0 = sym log_as_told ∙ ap one_if h.1.0 in let tables : faults.tables ≡ 1 = sym tables_as_told ∙ ap one_if h.1.1 in (faults.renewals, text, answers_as 0 1 faults.renewals log tables refl h.0, h.1.2)
  serves_run status.SinkFault h = (h.1.0, faults, text, answers h.0, h.1.1)
  serves_run status.Words h = absurd h.1
  serves_run status.SourceFault h = absurd h.1
  serves_run (status.Script fault) h = absurd h.1
  serves_run (status.Contents damage) h = absurd h.1
  serves_run (status.OpenFault d) h = absurd h.1
  serves_run (status.CopyFault d) h = absurd h.1
  serves_run (status.CopyHeld d) h = absurd h.1

pub serves_refused : (why : OpenError) (end : Status) (s : Serving) → IsStatusOf why end → IsUnopened s.choice.store.id s.disks why → ServesExactly s end
serves_refused open_error.Memory end s is refused = rw is (inl refused)
serves_refused (open_error.OpenFault device) end s is refused = rw is refused
serves_refused (open_error.Contents damage) end s is refused = rw is refused

-- ... with nothing more
answers_only : (s : Serving) (faults : Faults) (text : List ℕ) → AnswersScript s (exactly s) faults text → AnswersScript s (nothing_more s) faults text
answers_only s _ _ a = record { headline = a.headline; text_is = a.text_is; also = tt }

pub serves_only : (s : Serving) (end : Status) → ServesExactly s end → Serves s end
serves_only s status.Ok h = (h.0, answers_only s _ h.0 h.1, h.2)
serves_only s status.LogFault h = (h.0, h.1, answers_only s _ h.1 h.2, h.3)
serves_only s status.TableFault h = (h.0, h.1, answers_only s _ h.1 h.2, h.3)
serves_only s status.SinkFault h = (h.0, h.1, h.2, answers_only s h.1 h.2 h.3, h.4)
serves_only s status.Memory (inl none) = inl none
serves_only s status.Memory (inr lacks) = inr (record { faults = lacks.faults; run = lacks.run; first = lacks.first; headline = lacks.headline; also = tt })
serves_only s (status.Contents damage) h = h
serves_only s (status.OpenFault device) h = h
serves_only s (status.CopyFault device) h = h
serves_only s (status.CopyHeld device) h = h
serves_only s status.Words h = h
serves_only s status.SourceFault h = h
serves_only s (status.Script fault) h = h

-- the seat that comes with the store is the first client's
pub is_first : {D : Type 0} (z : SharedState D) (parts : List Part) (client : List ℕ) (first : SeatState) → first ≡ first_seat z client → IsFirstClient parts client → IsFirst z parts first
is_first z [] client first is own = (client, is)
is_first z (part ∷ parts) client first is own = is ∙ ap (first_seat z) own

-- the text was written, or what could be of it; or there was none
pub text_ends : (asked : Action) (script : List Part) (answered : List Answered) (base : ℕ) (store : List (List ℕ × List ℕ)) (history : List Entry) (text : Result (Vec ℕ) AllocError) (stopped halted : Bool) (sink : SinkUse) (end : Status)
    → IfOk text (λ t. are_whole answered ≡ true) → IfOk text (λ t. t.items ≡ text_of asked script (replies_of answered) base store history) → stopped ≡ one_fails is_fault answered → halted ≡ one_fails is_tables_fault answered
    → IfOk text (λ t. IsWritten stopped halted sink t.items end) → OnErr text (end ≡ status.Memory) → HasEnded asked script answered base store history sink end
text_ends asked script answered base store history (Ok text) stopped halted sink end whole is stopped-is halted-is written none =
    has_ended end (subst (λ (x : (Bool × Bool) × List ℕ). IsWritten x.0.0 x.0.1 sink x.1 end) (λ i. ((stopped-is i, halted-is i), is i)) written)
  where
    has_ended : (e : Status) → IsWritten (one_fails is_fault answered) (one_fails is_tables_fault answered) sink (text_of asked script (replies_of answered) base store history) e → HasEnded asked script answered base store history sink e
    has_ended status.Memory w = tt
    has_ended other w = (whole, w)
text_ends asked script answered base store history (Err e) stopped halted sink end whole is stopped-is halted-is written none = rw none tt

-- a choice whose script was served
pub served_ends : (call : Call) (end : Status) → IsServed ServesExactly call end → Ends ServesExactly call end
served_ends call status.Memory h = inr h
served_ends call status.Words h = absurd h.served
served_ends call status.SourceFault h = absurd h.served
served_ends call (status.Script fault) h = absurd h.served
served_ends call status.Ok h = h
served_ends call status.SinkFault h = h
served_ends call status.LogFault h = h
served_ends call status.TableFault h = h
served_ends call (status.Contents damage) h = h
served_ends call (status.OpenFault device) h = h
served_ends call (status.CopyFault device) h = absurd h.served
served_ends call (status.CopyHeld device) h = absurd h.served

served_only : (call : Call) (end : Status) → IsServed ServesExactly call end → IsServed Serves call end
served_only call end h = record { choice = h.choice; chosen = h.chosen; script = h.script; read = h.read; served = serves_only _ end h.served }

ends_only : (call : Call) (end : Status) → Ends ServesExactly call end → Ends Serves call end
ends_only call status.Words h = h
ends_only call status.SourceFault h = h
ends_only call (status.Script fault) h = h
ends_only call status.Memory (inl same) = inl same
ends_only call status.Memory (inr h) = inr (served_only call status.Memory h)
ends_only call status.Ok h = served_only call status.Ok h
ends_only call status.SinkFault h = served_only call status.SinkFault h
ends_only call status.LogFault h = served_only call status.LogFault h
ends_only call status.TableFault h = served_only call status.TableFault h
ends_only call (status.Contents damage) h = served_only call (status.Contents damage) h
ends_only call (status.OpenFault device) h = served_only call (status.OpenFault device) h
ends_only call (status.CopyFault device) h = served_only call (status.CopyFault device) h
ends_only call (status.CopyHeld device) h = served_only call (status.CopyHeld device) h

pub outcome : (call : Call) (end : Status) → Ends ServesExactly call end → IsDurable call.disks → IsOutcome call end
outcome call end ends durable = record { ends = ends_only call end ends; alone = ends; durable = durable }

-- the numbers of a choice are in their ranges
pub in_ranges : (words : List (List ℕ)) (choice : Choice) → IsChoice words choice → (choice.store.bits ≤ MOST_BITS) × (1 ≤ choice.store.limit) × (choice.store.limit ≤ last_number Two)
in_ranges words choice is = by _ is.entered
  where
    by : (entered : Option (List ℕ × List _)) → IsEntered entered choice → (choice.store.bits ≤ MOST_BITS) × (1 ≤ choice.store.limit) × (choice.store.limit ≤ last_number Two)
    by None none = absurd none
    by (Some x) has = let high = has.options.limit.high in (has.options.bits.high, has.options.limit.low, omega (arith, high))

-- so are those of the script that it makes
pub can_make : (words : List (List ℕ)) (choice : Choice) → IsChoice words choice → CanMake choice.action
can_make words choice is = by _ is.entered
  where
    of : (entries : List _) (chosen : Action) → HasNumbers entries chosen → CanMake chosen
    of entries action.Run none = tt
    of entries action.Show none = tt
    of entries (action.Make seed clients lines) has = ((has.clients_are.low, has.clients_are.high), (has.lines_are.low, has.lines_are.high))

    by : (entered : Option (List ℕ × List _)) → IsEntered entered choice → CanMake choice.action
    by None none = absurd none
    by (Some x) has = of x.1 choice.action has.numbers

-- ---- no choice

pub wordless_ends : (call : Call) (end : Status) → AreUncalled call.disks → IsChoiceOf call.words (Err end) → Ends ServesExactly call end
wordless_ends call status.Words same why = why
wordless_ends call status.Memory same why = inl same
wordless_ends call other same why = absurd why

-- ---- no script

unread_ends : (call : Call) (end : Status) → IsChosen call.words action.Run → AreUncalled call.disks → IsUnread call.source end → Ends ServesExactly call end
unread_ends call status.Memory chosen same why = inl same
unread_ends call status.SourceFault chosen same why = (chosen, why)
unread_ends call (status.Script fault) chosen same why = (chosen, why)
unread_ends call other chosen same why = absurd why

-- a choice whose script was not read, and whose devices were not called
pub scriptless_ends : (call : Call) (chosen : Action) (end : Status) → IsChosen call.words chosen → AreUncalled call.disks → IsReadAs chosen call.source (Err end) → Ends ServesExactly call end
scriptless_ends call action.Run end is same why = unread_ends call end is same why
scriptless_ends call action.Show end is same why = rw why.1 (inl same)
scriptless_ends call (action.Make seed clients lines) end is same why = rw why.1 (inl same)
