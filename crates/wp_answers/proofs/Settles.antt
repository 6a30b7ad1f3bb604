-- What a client is answered that settles several prepared transactions.
use Rattle.std.proofs.Common.{◌≡◌, ◌≢◌, ◌⊎◌, inl, inr, ⊎_elim, ℕ, zero, suc, ◌+◌, ◌-◌, ◌≤◌, true, false, not, List, [], ◌∷◌, ◌++◌, length, map, take, Option, Some, None, refl, sym, subst, ap, ◌∙◌, append_assoc, append-nil, length-append, arith}
use Rattle.std.specs.Prelude.{Err, AllPairs}
use Rattle.std.specs.List.{AllByRecursion, AllZip, list_any, prefix_len}
use Rattle.std.specs.Str.{bytes_eq}
use Rattle.std.specs.FinMap as finite
use Rattle.std.proofs.lemmas.Bool.{cases_Bool, or_left, or_right}
use Rattle.std.proofs.lemmas.List.{length-map}
use Rattle.std.proofs.lemmas.Slice.Eq.{bytes_eq-Decides}
use Rattle.wp_model.specs.CachePlace.{IsFirstCrowded}
use Rattle.wp_model.specs.declared.entry.Entry.{Entry}
use Rattle.wp_model.specs.declared.entry.Entry.TheVariants as entry
use Rattle.wp_model.specs.declared.holder.Holder.TheVariants as holder
use Rattle.wp_model.specs.Flushed.{InstalledEdit}
use Rattle.wp_model.specs.History.{entry_at, named}
use Rattle.wp_model.proofs.Entries.{slice_get_next}
use Rattle.wp_model.proofs.Keyed.{is_word_same, at_removed, else_removed}
use Rattle.wp_model.proofs.Tests.{same_some}
use Rattle.wp_text.specs.declared.script.Command.{Command}
use Rattle.wp_text.specs.declared.script.Command.TheVariants as command
use Rattle.wp_text.specs.declared.reply.Reply.{Reply}
use Rattle.wp_text.specs.declared.reply.Reply.TheVariants as reply
use Rattle.wp_core.specs.Lists.{IsIn, one_if}
use Rattle.wp_core.specs.Sound.Actors.{StartsWith}
use Rattle.wp_core.specs.Sound.Pasts.{closes_log, is_tables_fault}
use Rattle.wp_core.specs.Views.{Account, another, Event, Fact, took, found, stopped, log_failed}
use Rattle.wp_core.specs.World.{Transactions, Participant}
use Rattle.wp_core.proofs.KeepsSeen.{shorter}
use Rattle.wp_core.proofs.PastsGrow.{in_front, in_last, in_either, total_more}
use Rattle.wp_rule.specs.Accounts.{account_of}
use Rattle.wp_records.specs.Records.{numbers_behind, IsAboutNone}
use Rattle.wp_shared.specs.Calls.{ContinuesWith, Continues, with_events}
use Rattle.wp_shared.specs.Seats.{SharedState, SeatState}
use Rattle.wp_shared.proofs.Onward.{starts_on, continues_none, continues_then}
use Rattle.wp_open_txns.specs.declared.error.TxnError.{TxnError}
use Rattle.wp_open_txns.specs.declared.error.TxnError.TheVariants.{Memory, Silent, Crowded, Unknown, InUse, NumbersFull, LogFault, Stopped}
use Rattle.wp_open_txns.specs.Calls.{TakesPrepared}
use Rattle.wp_open_txns.specs.Turns.{IsApartFrom}
use Rattle.wp_open_txns.specs.Txn.{PreparedState, HasPrepared}
use Rattle.wp_open_txns.proofs.Still.{HasStill, still, prepared_still}
use Rattle.wp_txn.specs.Groups.{names_of, numbers_of, their_commits, ArePrepared, AreApartFrom, without_each, CommitsAll, RefusesAll}
use Rattle.wp_txn.specs.Writes.{HasPut, RefusesWith, Refuses}
use Rattle.wp_txn.proofs.Goes.{put_within, refused_within}
use Rattle.wp_replies.specs.declared.client.LabelledSnapshot.{LabelledSnapshot}
use Rattle.wp_replies.specs.Txn.{Idle}
use Rattle.wp_replies.specs.Client.{Client}
use Rattle.wp_replies.specs.After.{after_reply}
use Rattle.wp_replies.specs.Kind.{acknowledged, numbers_to, last_after}
use Rattle.wp_replies.specs.Known.{names_before, names_taken}
use Rattle.wp_replies.specs.Progress.{Progress}
use Rattle.wp_replies.specs.Replies.{Limits, Evidence, WasUndecided, CommitsNamed, AreNamed, AreCommitted, IsFirstRefused, refuses_settle, AsksFor, Condition, UnlessRefused, Allows}
use Rattle.wp_client.specs.declared.holdings.HeldTxn.TheVariants as held
use Rattle.wp_client.specs.Agrees.{Agrees, KnowsHolder}
use Rattle.wp_client.specs.Alone.{log_faults, tables_faults}
use Rattle.wp_client.specs.Answers.{IsExplained, is_finding, findings, IsProgress, Answers, BreaksOff}
use Rattle.wp_client.specs.Holdings.{HoldsTxn, HoldsFrom}
use Rattle.wp_client.specs.Replies.{refusal}
use Rattle.wp_client.proofs.Alone.Published.{no_device_fault}
use Rattle.wp_client.proofs.Fitting.{Fits, else_answers}
use Rattle.wp_client.proofs.Clients.{having, holds_from}
use Rattle.wp_client.proofs.Growing.{in_back, InstallNothing, due_still, seen_taken, was_undecided, last_still, progress_still}
use Rattle.wp_client.proofs.Holders.{of_another}
use Rattle.wp_client.proofs.Labels.{itself}
use Rattle.wp_client.proofs.Staying.{in_place, holds_now, broke_off, broke_off_after}
use Rattle.wp_answers.specs.Settling.{HoldsTxns, takes_of, having_taken, HasTaken, TakesAll, IsOfNone, GivesUpTo, RefusesOne, RefusesTakes, SettlesThem, RefusesThem}
use Rattle.wp_answers.proofs.Alone.Putting.{behind_high}
use Rattle.wp_answers.proofs.Putting.{last_within}
use Rattle.wp_answers.proofs.Refused.{IsOfLog, IsLogged, ComesBefore, refused_answers}
use Rattle.wp_answers.proofs.Taking.{pairs_at, not_among, own_transactions, continues_fewer, idle_again, found_named_all}

-- ---- what was taken

-- each take is of one of these names
take_of : (names : List (List ℕ)) (event : Event) → IsIn event (takes_of names) → (name : List ℕ) × (took name ≡ event) × IsIn name names
take_of [] event there = absurd there
take_of (name ∷ names) event (inl same) = (name, same, inl refl)
take_of (name ∷ names) event (inr there) = let k = take_of names event there in (k.0, k.1, inr k.2)

any_there : (name : List ℕ) (names : List (List ℕ)) → IsIn name names → list_any (λ other. bytes_eq other name) names ≡ true
any_there name [] there = absurd there
any_there name (other ∷ names) (inl same) = or_left (bytes_eq other name) (list_any (λ o. bytes_eq o name) names) ((bytes_eq-Decides other name).1 same)
any_there name (other ∷ names) (inr there) = or_right (bytes_eq other name) (list_any (λ o. bytes_eq o name) names) (any_there name names there)

-- the command explains that the names in front were taken
takes_explained : (client : List ℕ) (names front : List (List ℕ)) (r : Option Reply) → ((name : List ℕ) → IsIn name front → IsIn name (names_taken names r)) → (event : Event) → IsIn event (takes_of front) → IsExplained client Idle (command.Settle names) r event
takes_explained client names front r among event there =
    let k = take_of front event there in subst (IsExplained client Idle (command.Settle names) r) k.1 (any_there k.0 (names_taken names r) (among k.0 k.2))

pub takes_log : (names : List (List ℕ)) → log_faults (takes_of names) ≡ 0
takes_log [] = refl
takes_log (name ∷ names) = let k = takes_log names in let none : one_if (closes_log (took name)) ≡ 0 = refl in omega (arith, k, none)

pub takes_tables : (names : List (List ℕ)) → tables_faults (takes_of names) ≡ 0
takes_tables [] = refl
takes_tables (name ∷ names) = let k = takes_tables names in let none : one_if (is_tables_fault (took name)) ≡ 0 = refl in omega (arith, k, none)

takes_found : (names : List (List ℕ)) → findings (takes_of names) ≡ 0
takes_found [] = refl
takes_found (name ∷ names) = let k = takes_found names in let none : one_if (is_finding (took name)) ≡ 0 = refl in omega (arith, k, none)

takes_install : (names : List (List ℕ)) → InstallNothing (takes_of names)
takes_install [] due = refl
takes_install (name ∷ names) due = takes_install names due

-- ---- the row

pub settle_free : (names : List (List ℕ)) → 1 ≤ length names → refuses_settle Idle names ≡ None
settle_free [] some = absurd (omega (arith, some))
settle_free (name ∷ names) some = refl

each_undecided : (history seen : List Entry) (last : ℕ) → StartsWith history seen → last ≤ length seen → (names : List (List ℕ)) (numbers : List ℕ) → AreNamed seen names numbers → AllByRecursion (λ name. (p : ℕ) × WasUndecided history last name p) names
each_undecided history seen last starts low [] [] are = tt
each_undecided history seen last starts low [] (p ∷ numbers) are = absurd are
each_undecided history seen last starts low (name ∷ names) [] are = absurd are
each_undecided history seen last starts low (name ∷ names) (p ∷ numbers) are = ((p, was_undecided history seen last name p starts low are.0), each_undecided history seen last starts low names numbers are.1)

each_asked : (history seen : List Entry) (last : ℕ) → StartsWith history seen → last ≤ length seen → (names : List (List ℕ)) (numbers : List ℕ) → AreNamed seen names numbers → AllZip (CommitsNamed history last) names (map (λ p. entry.Commit p) numbers)
each_asked history seen last starts low [] [] are = tt
each_asked history seen last starts low [] (p ∷ numbers) are = absurd are
each_asked history seen last starts low (name ∷ names) [] are = absurd are
each_asked history seen last starts low (name ∷ names) (p ∷ numbers) are = ((p, refl, was_undecided history seen last name p starts low are.0), each_asked history seen last starts low names numbers are.1)

-- the Commits stand behind the entries in front
each_committed : (history front rest : List Entry) (last : ℕ) (numbers : List ℕ) → history ≡ front ++ (map (λ p. entry.Commit p) numbers ++ rest) → last ≤ length front → AreCommitted history last (length front) numbers
each_committed history front rest last [] is low = tt
each_committed history front rest last (p ∷ numbers) is low =
    let more = map (λ q. entry.Commit q) numbers ++ rest in
    let size : length (front ++ entry.Commit p ∷ []) ≡ suc (length front) = length-append front (entry.Commit p ∷ []) ∙ omega arith in (
      (omega (arith, low), ap (λ (h : List Entry). entry_at h (suc (length front))) is ∙ slice_get_next front (entry.Commit p) more),
      subst (λ (n : ℕ). AreCommitted history last n numbers) size
          (each_committed history (front ++ entry.Commit p ∷ []) rest last numbers (is ∙ sym (append_assoc front (entry.Commit p ∷ []) more)) (omega (arith, low, size))),
    )

-- the numbers behind so many are those up to the last
numbers_up : (n : ℕ) (count : ℕ) → numbers_to (n + suc count) (suc count) ≡ suc n ∷ numbers_to (suc n + count) count
numbers_up n zero = let one : n + 1 ≡ suc n = omega arith in ap (λ (m : ℕ). m ∷ []) one
numbers_up n (suc count) =
    let less : n + suc (suc count) - 1 ≡ n + suc count = omega arith in let same : n + suc (suc count) ≡ suc n + suc count = omega arith in let low : suc n + suc count - 1 ≡ suc n + count = omega arith in
    ap (λ (m : ℕ). numbers_to m (suc count) ++ (n + suc (suc count)) ∷ []) less ∙ (ap (λ (ns : List ℕ). ns ++ (n + suc (suc count)) ∷ []) (numbers_up n count)
    ∙ ap (λ (x : ℕ × ℕ). suc n ∷ (numbers_to x.0 count ++ x.1 ∷ [])) (λ i. (sym low i, same i)))

pub numbers_are : (n : ℕ) (entries : List Entry) → numbers_behind n entries ≡ numbers_to (n + length entries) (length entries)
numbers_are n [] = refl
numbers_are n (e ∷ entries) = ap (λ (ns : List ℕ). suc n ∷ ns) (numbers_are (suc n) entries) ∙ sym (numbers_up n (length entries))

-- ---- what the seat has then

-- the client has no transaction again, and its seat remembers these events
pub record ComesBack {D : Type 0} (z : SharedState D) (old new : SeatState) (events : List Event) : Type 0 where
  pub goes : ContinuesWith IsOfNone z old new (record old.knows.participant { past = old.knows.participant.past ++ events; transactions = new.knows.participant.transactions })
  pub holds : HoldsTxns z new []

pub comes_holds : {D : Type 0} (z : SharedState D) (old new : SeatState) (events : List Event) → ComesBack z old new events → HoldsFrom z old new held.Idle held.Idle
comes_holds z old new events k = holds_now IsOfNone z old new _ k.goes held.Idle held.Idle (λ r. refl) (idle_again z new k.holds)

module _ {D : Type 0} (z : SharedState D) (old mid behind new : SeatState) (names : List (List ℕ)) (txns : List PreparedState) (taken : HasTaken z old names txns mid) (leaves : GivesUpTo z behind new []) where
  abbrev it : Participant
  it = old.knows.participant

  abbrev back : Participant
  back = having_taken names new.knows.participant.transactions it

  pub seen_same : new.knows.participant.seen ≡ behind.knows.participant.seen
  seen_same = ap (λ (p : Participant). p.seen) leaves.same

  pub more_back : (events : List Event) → Continues z mid behind (with_events events mid.knows.participant) → ContinuesWith IsOfNone z old new (with_events events back)
  more_back events goes =
      continues_then z old behind new (with_events events (having_taken names mid.knows.participant.transactions it)) (λ p. record p { transactions = new.knows.participant.transactions }) (λ p h k. refl)
      (continues_then z old mid behind (having_taken names mid.knows.participant.transactions it) (with_events events) (λ p h k. refl)
      (continues_fewer z old mid _ (λ fact none. none.0) taken.goes_on) (continues_fewer z mid behind _ (λ fact none. none.0) goes))
      leaves.gives_up

  pub plain_back : Continues z mid behind mid.knows.participant → ContinuesWith IsOfNone z old new back
  plain_back goes =
      continues_then z old behind new (having_taken names mid.knows.participant.transactions it) (λ p. record p { transactions = new.knows.participant.transactions }) (λ p h k. refl)
      (continues_then z old mid behind (having_taken names mid.knows.participant.transactions it) (λ p. p) (λ p h k. refl)
      (continues_fewer z old mid _ (λ fact none. none.0) taken.goes_on) (continues_fewer z mid behind _ (λ fact none. none.0) goes))
      leaves.gives_up

  pub comes_with : (events : List Event) → Continues z mid behind (with_events events mid.knows.participant) → ComesBack z old new (takes_of names ++ events)
  comes_with events goes = record {
    goes = subst (λ (past : List Event). ContinuesWith IsOfNone z old new (record it { past = past; transactions = new.knows.participant.transactions })) (append_assoc it.past (takes_of names) events) (more_back events goes);
    holds = leaves.holds;
  }

  pub comes_plain : Continues z mid behind mid.knows.participant → ComesBack z old new (takes_of names)
  comes_plain goes = record { goes = plain_back goes; holds = leaves.holds }

-- the seat has what it had, where it only went on
module _ {D : Type 0} (z : SharedState D) (s t : SeatState) (txns : List PreparedState) (has : HoldsTxns z s txns) where
  pub holds_on : (events : List Event) → ArePrepared t txns → Continues z s t (with_events events s.knows.participant) → HoldsTxns z t txns
  holds_on events have goes = record {
    free = goes.free;
    direct = ap (λ (p : Participant). p.direct) goes.participant ∙ has.direct;
    have = have;
    only = λ name out. ap (λ (p : Participant). finite.get p.transactions name) goes.participant ∙ has.only name out;
  }

  each_still : HasStill s t → (us : List PreparedState) → AllByRecursion (HasPrepared s) us → AllByRecursion (HasPrepared t) us
  each_still on [] each = tt
  each_still on (u ∷ us) each = (prepared_still s t on u each.0, each_still on us each.1)

  pub holds_going : (events : List Event) → Continues z s t (with_events events s.knows.participant) → HoldsTxns z t txns
  holds_going events goes =
      holds_on events (each_still (still z s t (with_events events s.knows.participant) refl refl (λ event there. in_front event s.knows.participant.past events there) goes) txns has.have.0, has.have.1) goes

-- it remembers no more
with_none : {D : Type 0} (z : SharedState D) (s t : SeatState) → Continues z s t s.knows.participant → Continues z s t (with_events [] s.knows.participant)
with_none z s t goes = subst (λ (past : List Event). Continues z s t (record s.knows.participant { past = past })) (sym (append-nil s.knows.participant.past)) goes

-- a refused take leaves it those that it had
pub refused_take_goes : {D : Type 0} (z : SharedState D) (s t : SeatState) (name : List ℕ) (why : TxnError) → TakesPrepared z s name (Err why) t → (events : List Event) × Continues z s t (with_events events s.knows.participant)
refused_take_goes z s t name (Unknown other at) k = ([], with_none z s t k.3)
refused_take_goes z s t name (InUse other) k = (_, k.1.goes_on)
refused_take_goes z s t name Memory k = ([], with_none z s t k)
refused_take_goes z s t name _ k = absurd k

-- ... and so does a refused commit
pub refused_all_goes : {D : Type 0} (z : SharedState D) (s t : SeatState) (txns : List PreparedState) (why : TxnError) → RefusesAll z s txns why t → (events : List Event) × Continues z s t (with_events events s.knows.participant)
refused_all_goes z s t txns Memory k = ([], with_none z s t k)
refused_all_goes z s t txns (Crowded p q) k = ([], with_none z s t k.1)
refused_all_goes z s t txns (Stopped n) k = (stopped n ∷ [], k.1.2)
refused_all_goes z s t txns (NumbersFull published limit) k = (_, k.1.4)
refused_all_goes z s t txns LogFault k = (log_failed k.1.2.0 ∷ [], k.1.2.2)
refused_all_goes z s t txns _ k = absurd k.1

-- where all are committed the seat has none
each_gone : (names : List (List ℕ)) (ts : Transactions) (name : List ℕ) → (IsIn name names ⊎ (finite.get ts name ≡ None)) → finite.get (without_each names ts) name ≡ None
each_gone [] ts name (inl there) = absurd there
each_gone [] ts name (inr free) = free
each_gone (other ∷ names) ts name (inl (inl same)) = each_gone names (finite.remove ts other) name (inr (at_removed ts other name (sym same)))
each_gone (other ∷ names) ts name (inl (inr there)) = each_gone names (finite.remove ts other) name (inl there)
each_gone (other ∷ names) ts name (inr free) = each_gone names (finite.remove ts other) name (inr (elim (is_word_same name other) [
  | inl same ↦ at_removed ts other name same
  | inr ne ↦ else_removed ts other name ne ∙ free
]))

among_or_not : (name : List ℕ) (names : List (List ℕ)) → IsIn name names ⊎ (IsIn name names → ⊥)
among_or_not name [] = inr (λ there. there)
among_or_not name (other ∷ names) = elim (is_word_same name other) [
  | inl same ↦ inl (inl (sym same))
  | inr ne ↦ elim (among_or_not name names) [
    | inl there ↦ inl (inr there)
    | inr out ↦ inr (λ there. ⊎_elim (λ (e : other ≡ name). ne (sym e)) out there)
  ]
]

pub committed_none : {D : Type 0} (z : SharedState D) (s t : SeatState) (txns : List PreparedState) (n : ℕ) → HoldsTxns z s txns → CommitsAll z s txns n t → HoldsTxns z t []
committed_none z s t txns n has k = record {
  free = k.put.goes_on.free;
  direct = ap (λ (p : Participant). p.direct) k.put.goes_on.participant ∙ has.direct;
  have = (tt, λ i j d lt within. absurd (omega (arith, within)));
  only = λ name out. ap (λ (p : Participant). finite.get p.transactions name) k.put.goes_on.participant ∙ each_gone (names_of txns) s.knows.participant.transactions name (elim (among_or_not name (names_of txns)) [
    | inl there ↦ inl there
    | inr away ↦ inr (has.only name away)
  ]);
}

-- ---- answers

-- where each in front differs from the name, those before it are these
before_is : (name : List ℕ) (before after : List (List ℕ)) → AllByRecursion (λ other. other ≢ name) before → names_before name (before ++ name ∷ after) ≡ before
before_is name [] after apart = rw (itself name) refl
before_is name (other ∷ before) after apart = elim (cases_Bool (bytes_eq other name)) [
  | inl same ↦ absurd (apart.0 ((bytes_eq-Decides other name).0 same))
  | inr ne ↦
      let all = before ++ name ∷ after in let one : 1 + prefix_len (λ x. not (bytes_eq x name)) all ≡ suc (prefix_len (λ x. not (bytes_eq x name)) all) = omega arith in
      rw ne (ap (λ (m : ℕ). take m (other ∷ all)) one ∙ ap (λ (ns : List (List ℕ)). other ∷ ns) (before_is name before after apart.1))
]

-- a reply of the log says of no name
log_taken : (names : List (List ℕ)) (r : Reply) → IsOfLog r → names_taken names (Some r) ≡ names
log_taken names (reply.Full published most) k = refl
log_taken names reply.FaultLog k = refl
log_taken names (reply.Stopped n) k = refl
log_taken names other k = absurd k

module _ {D : Type 0} (z : SharedState D) (old new : SeatState) (names : List (List ℕ)) (some : 1 ≤ length names) (snapshots : List LabelledSnapshot) where
  abbrev mine : Participant
  mine = old.knows.participant

  abbrev me : Client
  me = having Idle snapshots

  abbrev asked : Command
  asked = command.Settle names

  -- the row has the last word
  by_row : (e : Evidence) (before : Progress) (r : Reply) → Condition e before me 0 asked r → Allows e before me 0 asked r
  by_row e before r condition = subst (λ (o : Option Reply). UnlessRefused o r (Condition e before me 0 asked r)) (sym (settle_free names some)) condition

  back_answers : (events : List Event) → ComesBack z old new events → (r : Reply) → Fits asked r [] events mine.client Idle → me ≡ after_reply 0 me asked r → ((before : ℕ) → before ≤ length new.knows.participant.seen → last_after before asked r ≤ length new.knows.participant.seen)
      → ((first : InstalledEdit) → (before : Progress) → IsProgress first old Idle before → (e : Evidence) → Agrees e z new.knows.participant → Condition e before me 0 asked r) → Answers z old new me me asked r
  back_answers events k r fits is low row =
      else_answers z old new IsOfNone _ events me me asked r 0 k.goes refl refl refl fits is (λ before low are. tt) low (λ first is_first before p e agrees. by_row e before r (row first before p e agrees))

  -- ---- one of them is not taken

  module _ (before : List (List ℕ)) (name : List ℕ) (after : List (List ℕ)) (place : names ≡ before ++ name ∷ after) (differ : AllPairs ◌≢◌ names) (txns : List PreparedState) (mid behind : SeatState)
      (taken : HasTaken z old before txns mid) (are : AreNamed behind.knows.participant.seen before (numbers_of txns)) (leaves : GivesUpTo z behind new []) where
    apart : AllByRecursion (λ other. other ≢ name) before
    apart = pairs_at ◌≢◌ before name after (subst (λ (ns : List (List ℕ)). AllPairs ◌≢◌ ns) place differ)

    those_before : names_before name names ≡ before
    those_before = ap (names_before name) place ∙ before_is name before after apart

    -- it is none of those that were taken
    pub is_none : finite.get mid.knows.participant.transactions name ≡ None
    is_none = taken.holds.only name (λ there. not_among name before apart (subst (IsIn name) taken.names_are there))

    same_length : length new.knows.participant.seen ≡ length behind.knows.participant.seen
    same_length = ap (λ (h : List Entry). length h) (seen_same z old mid behind new before txns taken leaves)

    begins : (e : Evidence) → Agrees e z new.knows.participant → StartsWith e.history behind.knows.participant.seen
    begins e agrees = subst (StartsWith e.history) (seen_same z old mid behind new before txns taken leaves) agrees.seen

    first_refused : (e : Evidence) (last : ℕ) → Agrees e z new.knows.participant → last ≤ length behind.knows.participant.seen → IsFirstRefused e.history last names name
    first_refused e last agrees low = record { before = before; after = after; place = place; undecided = each_undecided e.history behind.knows.participant.seen last (begins e agrees) low before (numbers_of txns) are }

    -- what the seat had seen by then
    low_then : (events : List Event) → ComesBack z old new events → (first : InstalledEdit) (progress : Progress) → IsProgress first old Idle progress → progress.last ≤ length behind.knows.participant.seen
    low_then events k first progress p = let low = last_still first old Idle new.knows.participant progress k.goes.seen p in let same = same_length in omega (arith, low, same)

    pub unknown_answers : (n : ℕ) → n ≡ length behind.knows.participant.seen → named behind.knows.participant.seen name ≡ None → Continues z mid behind mid.knows.participant → Answers z old new me me asked (reply.Unknown name n)
    unknown_answers n is none goes =
        let k = comes_plain z old mid behind new before txns taken leaves goes in
        back_answers (takes_of before) k (reply.Unknown name n)
        (record {
          acknowledges = refl;
          tables = λ due. sym (takes_install before due);
          labels = λ labels. refl;
          log_failed = no_device_fault (takes_of before) (takes_log before);
          log_stopped = takes_log before;
          tables_failed = takes_tables before;
          once = (let found_none = takes_found before in omega (arith, found_none));
          remembered = tt;
          explained = takes_explained mine.client names before (Some (reply.Unknown name n)) (λ other there. subst (IsIn other) (sym those_before) there);
        })
        refl (λ last low. let same = same_length in omega (arith, is, same))
        (λ first progress p e agrees.
        let low = low_then (takes_of before) k first progress p in let high = shorter e.history behind.knows.participant.seen (begins e agrees) in (
          refl,
          first_refused e progress.last agrees low,
          (omega (arith, low, is), omega (arith, high, is)),
          ap (λ (h : List Entry). named h name) (ap (λ (m : ℕ). take m e.history) is ∙ seen_taken e.history behind.knows.participant.seen (begins e agrees)) ∙ none,
        ))

    pub in_use_answers : TakesPrepared z mid name (Err (InUse name)) behind → Answers z old new me me asked (reply.InUse name)
    in_use_answers t = let f = t.1 in let of = mid.knows.participant in
        let account : Account = account_of of f.world.locks f.published None (holder.Txn name) in let event : Event = found None (holder.Txn name) (length of.seen) account in
        let is_another : account ≡ another = of_another of f.world.locks f.published name t.2.0 is_none t.2.1 in
        let events : List Event = takes_of before ++ event ∷ [] in
        let k : ComesBack z old new events = comes_with z old mid behind new before txns taken leaves (event ∷ []) f.goes_on in
        let log_none : log_faults events ≡ 0 = (let m = total_more (λ (x : Event). one_if (closes_log x)) (takes_of before) event in let none = takes_log before in omega (arith, m, none)) in
        back_answers events k (reply.InUse name)
        (record {
          acknowledges = refl;
          tables = λ due. sym (due_still due (takes_of before) (event ∷ []) (λ d. refl) ∙ takes_install before due);
          labels = λ labels. refl;
          log_failed = no_device_fault events log_none;
          log_stopped = log_none;
          tables_failed = (let m = total_more (λ (x : Event). one_if (is_tables_fault x)) (takes_of before) event in let none = takes_tables before in omega (arith, m, none));
          once = (let m = total_more (λ (x : Event). one_if (is_finding x)) (takes_of before) event in let none = takes_found before in omega (arith, m, none));
          remembered = tt;
          explained = λ other there. ⊎_elim
              (λ (k : IsIn other (takes_of before)). takes_explained mine.client names before (Some (reply.InUse name)) (λ n k. subst (IsIn n) (sym those_before) k) other k)
              (λ (same : event ≡ other). subst (IsExplained mine.client Idle asked (Some (reply.InUse name))) same tt) (in_either other event (takes_of before) there);
        })
        refl (λ last low. low)
        (λ first progress p e agrees. (
          refl,
          first_refused e progress.last agrees (low_then events k first progress p),
          subst (KnowsHolder e None (holder.Txn name) (length of.seen)) is_another
              (agrees.past event (subst (IsIn event) (sym (ap (λ (q : Participant). q.past) k.goes.participant)) (in_back event mine.past events (in_last event (takes_of before))))),
        ))

  pub not_taken_beside : AllPairs ◌≢◌ names → (why : TxnError) (r : Reply) → refusal why ≡ Some r → RefusesOne z old names why new → Answers z old new me me asked r
  not_taken_beside differ (Unknown other at) r is k = subst (Answers z old new me me asked) (ap (λ (n : List ℕ). reply.Unknown n at) (sym k.refused.0) ∙ same_some (reply.Unknown other at) r is)
      (unknown_answers k.before k.name k.after k.place differ k.txns k.mid k.behind k.taken k.named k.leaves at k.refused.1 k.refused.2 k.refused.3)
  not_taken_beside differ (InUse other) r is k = subst (Answers z old new me me asked) (ap reply.InUse (sym k.refused.0) ∙ same_some (reply.InUse other) r is)
      (in_use_answers k.before k.name k.after k.place differ k.txns k.mid k.behind k.taken k.named k.leaves (refl, k.refused.1, k.refused.2))
  not_taken_beside differ Memory r is k = absurd cc
  not_taken_beside differ _ r is k = absurd k.refused

  -- ---- all of them are taken

  module _ (txns : List PreparedState) (mid : SeatState) (all : TakesAll z old names txns mid) where
    abbrev then_it : Participant
    then_it = having_taken names mid.knows.participant.transactions mine

    pub as_many : length names ≡ length txns
    as_many = ap (λ (ns : List (List ℕ)). length ns) (sym all.taken.names_are) ∙ length-map txns (λ (t : PreparedState). t.name)

    -- the client had been answered nothing later
    low_taken : (first : InstalledEdit) (progress : Progress) → IsProgress first old Idle progress → progress.last ≤ length mid.knows.participant.seen
    low_taken first progress p = last_still first old Idle mid.knows.participant progress all.taken.goes_on.seen p

    takes_before : ComesBefore me asked mine.client (takes_of names)
    takes_before = record {
      log_failed = takes_log names;
      tables_failed = takes_tables names;
      none_found = takes_found names;
      quiet = takes_install names;
      explained = λ r of_log. takes_explained mine.client names names (Some r) (λ name there. subst (IsIn name) (sym (log_taken names r of_log)) there);
    }

    -- ---- they are refused

    module _ (behind : SeatState) (leaves : GivesUpTo z behind new []) where
      begins_taken : StartsWith behind.knows.participant.seen mid.knows.participant.seen → (h : List Entry) → StartsWith h new.knows.participant.seen → StartsWith h mid.knows.participant.seen
      begins_taken grown h starts = starts_on mid.knows.participant.seen behind.knows.participant.seen h grown (subst (StartsWith h) (seen_same z old mid behind new names txns all.taken leaves) starts)

      pub crowded_answers : (p q : ℕ) → IsFirstCrowded z.cells (numbers_of txns) p q → Continues z mid behind mid.knows.participant → Answers z old new me me asked (reply.Crowded p q)
      crowded_answers p q crowded goes =
          back_answers (takes_of names) (comes_plain z old mid behind new names txns all.taken leaves goes) (reply.Crowded p q)
          (record {
            acknowledges = refl;
            tables = λ due. sym (takes_install names due);
            labels = λ labels. refl;
            log_failed = no_device_fault (takes_of names) (takes_log names);
            log_stopped = takes_log names;
            tables_failed = takes_tables names;
            once = (let none = takes_found names in omega (arith, none));
            remembered = tt;
            explained = takes_explained mine.client names names (Some (reply.Crowded p q)) (λ name there. there);
          })
          refl (λ last low. low)
          (λ first progress k e agrees.
          let starts = begins_taken goes.seen e.history agrees.seen in (
            refl,
            record {
              at = length mid.knows.participant.seen;
              fresh = (low_taken first progress k, shorter e.history mid.knows.participant.seen starts);
              numbers = numbers_of txns;
              named = subst (λ (h : List Entry). AreNamed h names (numbers_of txns)) (sym (seen_taken e.history mid.knows.participant.seen starts)) all.named;
              crowded = subst (λ (cells : ℕ). IsFirstCrowded cells (numbers_of txns) p q) (sym (ap (λ (l : Limits). l.cells) agrees.limits)) crowded;
            },
          ))

      abbrev Asks : List Entry → Type 0
      Asks entries = entries ≡ their_commits txns

      -- the whole of it is refused as its call was
      pub refused_here : (why : TxnError) → Refuses z mid behind (length txns) Asks mid.knows.participant mid.knows.participant why
          → RefusesWith IsOfNone z old new (length txns) Asks then_it (having_taken names new.knows.participant.transactions mine) why
      refused_here why k =
          refused_within z old mid behind new (length txns) then_it (having_taken names new.knows.participant.transactions mine) all.taken.goes_on (seen_same z old mid behind new names txns all.taken leaves)
          (plain_back z old mid behind new names txns all.taken leaves) (more_back z old mid behind new names txns all.taken leaves) Asks Asks (λ entries asks legal. asks) why k

      settle_logged : StartsWith behind.knows.participant.seen mid.knows.participant.seen → IsLogged mine.seen new.knows.participant.seen me asked (length txns) Asks
      settle_logged grown = record {
        free = settle_free names some;
        some = (let many = as_many in omega (arith, some, many));
        needs_is = as_many;
        asks = λ entries k history last starts low. subst (λ (es : List Entry). AsksFor history last Idle asked es) (sym k)
            (each_asked history mid.knows.participant.seen last (begins_taken grown history starts) (let more = shorter mid.knows.participant.seen mine.seen all.taken.goes_on.seen in omega (arith, low, more)) names (numbers_of txns) all.named);
        fresh = λ r. refl;
        comes = λ r of_log before. refl;
        labels = λ before r. refl;
      }

      log_answers : (why : TxnError) (r : Reply) → refusal why ≡ Some r → StartsWith behind.knows.participant.seen mid.knows.participant.seen → Refuses z mid behind (length txns) Asks mid.knows.participant mid.knows.participant why → Answers z old new me me asked r
      log_answers why r is grown k =
          refused_answers z old new me asked (length txns) Asks (settle_logged grown) IsOfNone tt then_it (having_taken names new.knows.participant.transactions mine) (takes_of names)
          (λ event there. in_front event mine.past (takes_of names) there) refl refl refl takes_before why r is (refused_here why k)

      pub not_settled_beside : (why : TxnError) (r : Reply) → refusal why ≡ Some r → RefusesAll z mid txns why behind → Answers z old new me me asked r
      not_settled_beside (Crowded p q) r is k = subst (Answers z old new me me asked) (same_some (reply.Crowded p q) r is) (crowded_answers p q k.0 k.1)
      not_settled_beside Memory r is k = absurd cc
      not_settled_beside (Stopped n) r is k = log_answers (Stopped n) r is k.1.2.seen k.1
      not_settled_beside (NumbersFull published limit) r is k = log_answers (NumbersFull published limit) r is k.1.4.seen k.1
      not_settled_beside LogFault r is k = log_answers LogFault r is k.1.2.2.seen k.1
      not_settled_beside _ r is k = absurd k.1

    -- ---- they are settled

    module _ (n count : ℕ) (many : count ≡ length txns) (k : CommitsAll z mid txns n new) where
      abbrev history : List Entry
      history = k.history

      abbrev entries : List Entry
      entries = their_commits txns

      pub size : length entries ≡ count
      size = length-map (numbers_of txns) (λ p. entry.Commit p) ∙ (length-map txns (λ (t : PreparedState). t.number) ∙ sym many)

      pub number_is : n ≡ length history + count
      number_is = let is = k.number in let ends = ap (λ (h : List Entry). length h) k.put.seen in let both = length-append history entries in let so = size in omega (arith, is, ends, both, so)

      -- what keeps those that are about none keeps those that are apart from these
      none_apart : (fact : Fact) → IsOfNone fact → (ns : List (List ℕ)) → AllByRecursion (λ name. IsApartFrom name fact) ns
      none_apart fact none [] = tt
      none_apart fact none (name ∷ ns) = ((none.0, none.1 name), none_apart fact none ns)

      goes_settled : ContinuesWith (λ fact. IsOfNone fact × IsAboutNone history entries fact) z old new (record (having_taken names new.knows.participant.transactions mine) { own = mine.own ++ numbers_behind (length history) entries })
      goes_settled =
          continues_then z old mid new then_it (λ p. record p { own = p.own ++ numbers_behind (length history) entries; transactions = new.knows.participant.transactions }) (λ p h k. refl)
          (continues_fewer z old mid _ (λ fact none. none.0.0) all.taken.goes_on)
          (continues_fewer z mid new _ (λ fact none. ((none.0.0, none_apart fact none.0 (names_of txns)), none.1)) (own_transactions z mid new _ k.put.goes_on))

      pub put_settled : HasPut IsOfNone z old new then_it (having_taken names new.knows.participant.transactions mine) history entries
      put_settled = put_within (AreApartFrom (names_of txns)) IsOfNone z old mid new new then_it (having_taken names new.knows.participant.transactions mine) history entries all.taken.goes_on k.put refl goes_settled

      own_is : numbers_behind (length history) entries ≡ acknowledged (reply.Settled n count)
      own_is = numbers_are (length history) entries ∙ (ap (λ (c : ℕ). numbers_to (length history + c) c) size ∙ ap (λ (m : ℕ). numbers_to m count) (sym number_is))

      pub settled_beside : Answers z old new me me asked (reply.Settled n count)
      settled_beside =
          let goes = goes_settled in let grown : new.knows.participant.past ≡ mine.past ++ takes_of names = ap (λ (p : Participant). p.past) goes.participant in record {
            stays = in_place _ z old new _ goes refl;
            own = ap (λ (p : Participant). p.own) goes.participant ∙ ap (λ (ns : List ℕ). mine.own ++ ns) own_is;
            within = λ m there.
                let high = behind_high (length history) entries m (subst (IsIn m) (sym own_is) there) in let last = last_within z old new put_settled n k.number in let is = number_is in let so = size in omega (arith, high, last, is, so);
            events = takes_of names;
            past = grown;
            explained = takes_explained mine.client names names (Some (reply.Settled n count)) (λ name there. there);
            log_failed = no_device_fault (takes_of names) (takes_log names);
            log_stopped = takes_log names;
            tables_failed = takes_tables names;
            once = (let none = takes_found names in omega (arith, none));
            remembered = tt;
            number = 0;
            after = refl;
            progress = λ first is_first before p. progress_still first old new Idle Idle (takes_of names) before _ grown (takes_install names) p (let is = k.number in omega (arith, is)) refl refl (λ label known. inl known) tt;
            allowed = λ first is_first before p e agrees. by_row e before (reply.Settled n count) (
              refl,
              record {
                all = many ∙ sym as_many;
                some = (let names_many = as_many in omega (arith, some, many, names_many));
                published = length history;
                behind = number_is;
                numbers = numbers_of txns;
                named = subst (λ (h : List Entry). AreNamed h names (numbers_of txns)) (sym (seen_taken e.history history (starts_on history new.knows.participant.seen e.history (entries, k.put.seen) agrees.seen)))
                    (subst (λ (ns : List (List ℕ)). AreNamed history ns (numbers_of txns)) all.taken.names_are (found_named_all z mid history false k.put.found_log txns all.taken.holds.have.0));
                committed = each_committed e.history history agrees.seen.0 before.last (numbers_of txns)
                    (agrees.seen.1 ∙ (ap (λ (h : List Entry). h ++ agrees.seen.0) k.put.seen ∙ append_assoc history entries agrees.seen.0))
                    (let low = low_taken first before p in let more = shorter history mid.knows.participant.seen k.put.grown in omega (arith, low, more));
              },
            );
          }

-- ---- memory was wanting

module _ {D : Type 0} (z : SharedState D) (old new : SeatState) (names : List (List ℕ)) (snapshots : List LabelledSnapshot) where
  back_breaks : (front : List (List ℕ)) → ((name : List ℕ) → IsIn name front → IsIn name names) → ComesBack z old new (takes_of front) → BreaksOff old new (having Idle snapshots) (command.Settle names)
  back_breaks front among k =
      broke_off_after IsOfNone z old new _ k.goes (takes_of front) (having Idle snapshots) (command.Settle names) refl refl refl (takes_explained old.knows.participant.client names front None among) (takes_log front) (takes_tables front) (takes_found front)

  pub not_taken_breaks : HoldsTxn z old held.Idle → (why : TxnError) → refusal why ≡ None → RefusesTakes z old names why new → BreaksOff old new (having Idle snapshots) (command.Settle names)
  not_taken_breaks has why none (inl (memory, same)) = subst (λ (s : SeatState). BreaksOff old s (having Idle snapshots) (command.Settle names)) (sym same) (broke_off z old old (having Idle snapshots) (command.Settle names) (continues_none z old has.free))
  not_taken_breaks has Memory none (inr k) =
      back_breaks k.before (λ name there. subst (IsIn name) (sym k.place) (in_front name k.before (k.name ∷ k.after) there)) (comes_plain z old k.mid k.behind new k.before k.txns k.taken k.leaves k.refused)
  not_taken_breaks has (Unknown other at) none (inr k) = absurd cc
  not_taken_breaks has (InUse other) none (inr k) = absurd cc
  not_taken_breaks has _ none (inr k) = absurd k.refused

  pub not_settled_breaks : (txns : List PreparedState) (mid behind : SeatState) → HasTaken z old names txns mid → GivesUpTo z behind new [] → (why : TxnError) → refusal why ≡ None → RefusesAll z mid txns why behind → BreaksOff old new (having Idle snapshots) (command.Settle names)
  not_settled_breaks txns mid behind taken leaves Memory none k = back_breaks names (λ name there. there) (comes_plain z old mid behind new names txns taken leaves k)
  not_settled_breaks txns mid behind taken leaves (Crowded p q) none k = absurd cc
  not_settled_breaks txns mid behind taken leaves (Stopped n) none k = absurd cc
  not_settled_breaks txns mid behind taken leaves (NumbersFull published limit) none k = absurd cc
  not_settled_breaks txns mid behind taken leaves LogFault none k = absurd cc
  not_settled_breaks txns mid behind taken leaves _ none k = absurd k.1

-- ---- what the client has then

module _ {D : Type 0} (z : SharedState D) (old new : SeatState) (names : List (List ℕ)) where
  pub not_taken_holds : HoldsTxn z old held.Idle → (why : TxnError) → RefusesTakes z old names why new → HoldsFrom z old new held.Idle held.Idle
  not_taken_holds has why (inl (memory, same)) = subst (λ (s : SeatState). HoldsFrom z old s held.Idle held.Idle) (sym same) (holds_from z old old held.Idle (λ h has. has))
  not_taken_holds has why (inr k) = let goes = refused_take_goes z k.mid k.behind k.name why k.refused in comes_holds z old new _ (comes_with z old k.mid k.behind new k.before k.txns k.taken k.leaves goes.0 goes.1)

  pub not_settled_holds : (txns : List PreparedState) (mid : SeatState) → HasTaken z old names txns mid → (why : TxnError) → RefusesThem z mid txns why new → HoldsFrom z old new held.Idle held.Idle
  not_settled_holds txns mid taken why k = let goes = refused_all_goes z mid k.behind txns why k.refused in comes_holds z old new _ (comes_with z old mid k.behind new names txns taken k.leaves goes.0 goes.1)

  pub settled_holds : (some : 1 ≤ length names) (txns : List PreparedState) (mid : SeatState) → (all : TakesAll z old names txns mid) → (n : ℕ) → SettlesThem z mid txns n new → HoldsFrom z old new held.Idle held.Idle
  settled_holds some txns mid all n k =
      holds_now _ z old new _ (goes_settled z old new names some [] txns mid all n (length txns) refl k.commits) held.Idle held.Idle (λ r. refl) (idle_again z new k.holds)

pub not_taken_named : {D : Type 0} (z : SharedState D) (old new : SeatState) (names : List (List ℕ)) (why : TxnError) → RefusesTakes z old names why new → why ≢ Silent
not_taken_named z old new names why (inl (memory, same)) is = let e : Memory ≡ Silent = sym memory ∙ is in absurd cc
not_taken_named z old new names why (inr k) is = subst (λ (w : TxnError). TakesPrepared z k.mid k.name (Err w) k.behind) is k.refused

pub not_settled_named : {D : Type 0} (z : SharedState D) (mid behind : SeatState) (txns : List PreparedState) (why : TxnError) → RefusesAll z mid txns why behind → why ≢ Silent
not_settled_named z mid behind txns why k is = (subst (λ (w : TxnError). RefusesAll z mid txns w behind) is k).1
