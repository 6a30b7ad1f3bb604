-- A seat that goes on, from one stage to the next.
use Rattle.std.proofs.Common.{◌≡◌, ℕ, ◌<◌, ◌≤◌, Bool, false, true, List, [], ◌∷◌, ◌++◌, length, refl, sym, subst, ap, ◌∙◌, Some, None}
use Rattle.std.specs.Prelude.{Result, Ok, Err, IfSome}
use Rattle.wp_model.specs.declared.entry.Entry.{Entry}
use Rattle.wp_model.specs.declared.version.Version.{Version}
use Rattle.wp_model.specs.Flushed.{InstalledEdit}
use Rattle.wp_model.specs.History.{undecided}
use Rattle.wp_merge.specs.Merge.{sorted_of}
use Rattle.wp_replies.specs.Tables.{unflushed, after_flush, after_renewal}
use Rattle.wp_core.specs.Effects.{with_failed}
use Rattle.wp_core.specs.Lists.{IsIn}
use Rattle.wp_core.specs.Sound.Actors.{StartsWith}
use Rattle.wp_core.specs.States.{Content, Installed, installed, writes}
use Rattle.wp_core.specs.Sound.Pasts.{tables_due}
use Rattle.wp_core.specs.Views.{Fact, Event, tables_failed, log_failed, log_stopped, stopped, found_edit, tables_stay, nothing_flushed, frozen_stay}
use Rattle.wp_core.specs.Views as event
use Rattle.wp_core.specs.World.{Participant, World}
use Rattle.wp_rule.specs.Knows.{KnowsTables}
use Rattle.wp_rule.specs.Words.{IsAt}
use Rattle.wp_tableset.specs.Changes.{new_parts}
use Rattle.wp_parts.specs.VersionSet.{VersionSetState}
use Rattle.wp_parts.specs.Installs.{SurvivesInstall}
use Rattle.wp_shared.specs.Calls.{IsLoose, GoesOnAs, with_events}
use Rattle.wp_shared.specs.Notes.{seeing, with_participant, GoesOn}
use Rattle.wp_shared.specs.Seats.{SharedState, SeatState, Stands, place_at}
use Rattle.wp_shared.proofs.Onward.{starts_on, starts_equal, starts_same, goes_same, goes_then, goes_still, goes_seeing, goes_being}
use Rattle.wp_maint.specs.declared.done.Done.{Done}
use Rattle.wp_maint.specs.declared.error.MaintError.{MaintError}
use Rattle.wp_maint.specs.declared.error.MaintError.TheVariants.{Memory, Nothing, TableFault, TablesStopped}
use Rattle.wp_maint.specs.declared.renewed.Renewed.{Renewed}
use Rattle.wp_maint.specs.declared.renewed.RenewError.{RenewError}
use Rattle.wp_maint.specs.declared.renewed.RenewError.TheVariants as renewal
use Rattle.wp_maint.specs.Renewal.{IsBusy, HasRenewed, HasBrokenOff, RenewsFrom, LogBecame, SurvivesBeside, NamesItsSegment}
use Rattle.wp_maint.specs.Calls.{HeldContent, HeldTables, SawWhole, Finds, HasNothing, FlushesFrom, NoneInMemory, found_by}
use Rattle.wp_maint.specs.Finding.{Remembers, Changes}
use Rattle.wp_maint.specs.Holding.{is_of_flushed, is_of_tables, HoldsEdits}
use Rattle.wp_maint.specs.Moments.{OpensThroughout}
use Rattle.wp_maint.proofs.Became.{tables_so}
use Rattle.wp_maint.proofs.Throughout.{throughout_between}

-- ---- which facts stay

pub flushed_free : (fact : Fact) → IsLoose fact → is_of_flushed fact ≡ false
flushed_free nothing_flushed e = absurd cc
flushed_free other e = refl

pub tables_free : (fact : Fact) → IsLoose fact → is_of_tables fact ≡ false
tables_free (tables_stay versions floor) e = absurd cc
tables_free (frozen_stay n versions) e = absurd cc
tables_free nothing_flushed e = absurd cc
tables_free other e = refl

-- ---- stages

-- the other is in the same place, and made and took in as many others
abbrev pub IsSeat : SeatState → SeatState → Type 0
IsSeat s t = (t.by ≡ s.by) × (t.knows.made ≡ s.knows.made) × (t.knows.joined ≡ s.knows.joined)

pub seat_still : (s t : SeatState) (p : Participant) → GoesOnAs s t p → IsSeat s t
seat_still s t p k = (k.same_by, k.made, k.joined)

pub changed_seat : {D : Type 0} {event : Event} {test : Fact → Bool} (z : SharedState D) (s u : SeatState) (e left : Installed) → Changes z s e left event test u → IsSeat s u
changed_seat z s u e left k = let same = k.goes.same in (ap (λ (x : SeatState). x.by) same, ap (λ (x : SeatState). x.knows.made) same, ap (λ (x : SeatState). x.knows.joined) same)

pub goes_more : (s t u : SeatState) (p : Participant) → GoesOnAs s t p → (events : List Event) → GoesOnAs t u (with_events events t.knows.participant) → GoesOnAs s u (with_events events p)
goes_more s t u p first events second = goes_then s t u p (with_events events) (λ x h k. refl) first second

-- it has seen more, and is as it was but for what it holds and noted
pub goes_saw : (s u : SeatState) (test : Fact → Bool) (held : List Content) (turns : List ℕ) → GoesOn test held turns (seeing u.knows.participant.seen s) u → StartsWith u.knows.participant.seen s.knows.participant.seen → ((fact : Fact) → IsLoose fact → test fact ≡ false) → GoesOnAs s u s.knows.participant
goes_saw s u test held turns k grown free = let h = u.knows.participant.seen in goes_still s (seeing h s) u s.knows.participant (goes_seeing s h grown) (goes_same (seeing h s) u test held turns free k)

-- it remembers these events more, and is as it was but for that, and for what it holds and noted
pub goes_remembering : (s u : SeatState) (events : List Event) (test : Fact → Bool) (held : List Content) (turns : List ℕ) → GoesOn test held turns (with_participant (with_events events s.knows.participant) s) u → ((fact : Fact) → IsLoose fact → test fact ≡ false) → GoesOnAs s u (with_events events s.knows.participant)
goes_remembering s u events test held turns k free =
    let p : Participant = with_events events s.knows.participant in goes_still s (with_participant p s) u p (goes_being s p refl) (goes_same (with_participant p s) u test held turns free k)

-- it remembers these events more, and is as it was but for that
module _ {D : Type 0} (z : SharedState D) (s u : SeatState) (events : List Event) (is : u ≡ with_participant (with_events events s.knows.participant) s) where
  pub goes_is : GoesOnAs s u (with_events events s.knows.participant)
  goes_is = let p : Participant = with_events events s.knows.participant in subst (λ (x : SeatState). GoesOnAs s x p) (sym is) (goes_being s p refl)

  pub holds_being : (e : VersionSetState) → HoldsEdits z s e → HoldsEdits z u e
  holds_being e h = subst (λ (x : SeatState). HoldsEdits z x e) (sym is) (record { turn = record { same_table = h.turn.same_table; live = h.turn.live; held = h.turn.held; turns = h.turn.turns }; of_store = h.of_store })

  pub in_step_being : (edit : InstalledEdit) → KnowsTables s.knows edit → KnowsTables u.knows edit
  in_step_being edit k = subst (λ (x : SeatState). KnowsTables x.knows edit) (sym is) k

-- a seat that goes on with the tables turn alone holds the same tables still
pub still_edits : {D : Type 0} {z : SharedState D} {s u : SeatState} {test : Fact → Bool} {e : VersionSetState} {h : List Entry} → HoldsEdits z s e → GoesOn test (installed e.state ∷ []) s.turns (seeing h s) u → HoldsEdits z u e
still_edits holds k = record {
  turn = record {
    same_table = ap (λ (x : SeatState). x.table) k.same ∙ holds.turn.same_table;
    live = ap (λ (x : SeatState). x.knows.live) k.same ∙ holds.turn.live;
    held = ap (λ (x : SeatState). x.knows.held) k.same;
    turns = ap (λ (x : SeatState). x.turns) k.same ∙ holds.turn.turns;
  };
  of_store = holds.of_store;
}

-- which versions are in tables, and that no flushed one is in memory, is noted still
pub in_step_on : (s u : SeatState) (test : Fact → Bool) (held : List Content) (turns : List ℕ) → test nothing_flushed ≡ false → ((versions : List Version) (floor : ℕ) → test (tables_stay versions floor) ≡ false) → GoesOn test held turns s u
    → (edit : InstalledEdit) → KnowsTables s.knows edit → KnowsTables u.knows edit
in_step_on s u test held turns gone named k edit in_step =
    (k.noted nothing_flushed gone in_step.0, (in_step.1.0, k.noted (tables_stay edit.versions in_step.1.0) (named edit.versions in_step.1.0) in_step.1.1))

-- ---- the tables that it held

-- a seat that stood with a state held it, and the one behind has seen and remembers no more
pub held_then : {D : Type 0} (z : SharedState D) (s u v : SeatState) (table : Content) → (w : World) × Stands z u w → IsSeat s u → StartsWith u.knows.participant.seen s.knows.participant.seen → v.knows.participant ≡ u.knows.participant → IsIn table u.knows.held
    → HeldContent z s v v.knows.participant.past table
held_then z s u v table stands same seen still held = record {
  world = stands.0;
  actor = u.knows;
  there = subst (λ (b : ℕ). IsAt (place_at z b) u.knows stands.0) same.0 stands.1;
  held = held;
  past_is = sym (ap (λ (p : Participant). p.past) still);
  seen_is = seen;
  within = starts_equal u.knows.participant.seen v.knows.participant.seen (ap (λ (p : Participant). p.seen) still);
  made = same.1;
  joined = same.2;
}

-- ... the tables
pub held_left : {D : Type 0} (z : SharedState D) (s u v : SeatState) (t : Installed) → (w : World) × Stands z u w → IsSeat s u → u.knows.participant.seen ≡ s.knows.participant.seen → v.knows.participant ≡ u.knows.participant → IsIn (installed t) u.knows.held
    → HeldTables z s v v.knows.participant.past t
held_left z s u v t stands same seen still held = held_then z s u v (installed t) stands same (starts_equal s.knows.participant.seen u.knows.participant.seen seen) still held

-- a seat held it between two others, and so between two that are further apart
abbrev pub held_between : {D : Type 0} (z : SharedState D) (s t u v : SeatState) (past last : List Event) (table : Content) → IsSeat s t → StartsWith t.knows.participant.seen s.knows.participant.seen → StartsWith v.knows.participant.seen u.knows.participant.seen → past ≡ last → HeldContent z t u past table → HeldContent z s v last table
held_between z s t u v past last table same starts grown is k = record {
  world = k.world;
  actor = k.actor;
  there = subst (λ (b : ℕ). IsAt (place_at z b) k.actor k.world) same.0 k.there;
  held = k.held;
  past_is = k.past_is ∙ is;
  seen_is = starts_on s.knows.participant.seen t.knows.participant.seen k.actor.participant.seen starts k.seen_is;
  within = starts_on k.actor.participant.seen u.knows.participant.seen v.knows.participant.seen k.within grown;
  made = k.made ∙ same.1;
  joined = k.joined ∙ same.2;
}

-- it found them, and one that has seen more found them too
abbrev pub found_later : {D : Type 0} (z : SharedState D) (s u v : SeatState) (e : Installed) → StartsWith v.knows.participant.seen u.knows.participant.seen → Finds z s u e → Finds z s v e
found_later z s u v e grown k = held_between z s s u v s.knows.participant.past s.knows.participant.past (installed e) (refl, refl, refl) (starts_same s.knows.participant.seen) grown refl k

-- ... any turn, where nothing was remembered before
module _ {D : Type 0} (z : SharedState D) (s t u v : SeatState) (same : IsSeat s t) (past : t.knows.participant.past ≡ s.knows.participant.past) (starts : StartsWith t.knows.participant.seen s.knows.participant.seen) (grown : StartsWith v.knows.participant.seen u.knows.participant.seen) where
  abbrev pub had_between : (table : Content) → HeldContent z t u t.knows.participant.past table → HeldContent z s v s.knows.participant.past table
  had_between table k = held_between z s t u v t.knows.participant.past s.knows.participant.past table same starts grown past k

-- the seat before it saw the whole history too
pub saw_so : {D : Type 0} (z : SharedState D) (s t : SeatState) (history seen : List Entry) → IsSeat s t → t.knows.participant.past ≡ s.knows.participant.past → history ≡ seen → SawWhole z t history → SawWhole z s seen
saw_so z s t history seen same past is k = record {
  world = k.world;
  actor = k.actor;
  there = subst (λ (b : ℕ). IsAt (place_at z b) k.actor k.world) same.0 k.there;
  held = k.held;
  history_is = k.history_is ∙ is;
  seen_is = k.seen_is ∙ is;
  past_is = k.past_is ∙ past;
  made = k.made ∙ same.1;
  joined = k.joined ∙ same.2;
}

-- ---- what a flush says, of a seat before and of one behind

module _ {D : Type 0} (First Last : Participant → Type 0) (z : SharedState D) (s t u v : SeatState) (e : Installed) (same : IsSeat s t) (same_past : t.knows.participant.past ≡ s.knows.participant.past) (starts : StartsWith t.knows.participant.seen s.knows.participant.seen) (past : u.knows.participant.past ≡ v.knows.participant.past) (grown : StartsWith v.knows.participant.seen u.knows.participant.seen)
    (more : (events : List Event) → First (with_events events t.knows.participant) → Last (with_events events s.knows.participant)) (still : First t.knows.participant → Last s.knows.participant) where
  pub holds_so : (left : Installed) → HeldTables z t u u.knows.participant.past left → HeldTables z s v v.knows.participant.past left
  holds_so left k = held_between z s t u v u.knows.participant.past v.knows.participant.past (installed left) same starts grown past k

  abbrev pub found_so : Finds z t u e → Finds z s v e
  found_so k = held_between z s t u v t.knows.participant.past s.knows.participant.past (installed e) same starts grown same_past k

  -- what is remembered of the tables that were found, and then of these events
  pub remembers_so : (k : Finds z t u e) (events : List Event) → First (with_events (found_by z t u e k ∷ events) t.knows.participant) → Last (with_events (found_by z s v e (found_so k) ∷ events) s.knows.participant)
  remembers_so k events first =
      subst (λ (past : List Event). Last (with_events (found_edit e.last.flushed e.last.segment.base e.last.tables (tables_due k.world.first_edit past) e.halted ∷ events) s.knows.participant)) same_past (more (found_by z t u e k ∷ events) first)

  pub throughout_so : (old new : VersionSetState) (next edit : InstalledEdit) → next ≡ edit → OpensThroughout t.knows.participant.seen u.knows.participant.seen old new next → OpensThroughout s.knows.participant.seen v.knows.participant.seen old new edit
  throughout_so old new next edit is k = throughout_between s.knows.participant.seen t.knows.participant.seen u.knows.participant.seen v.knows.participant.seen old new next edit starts grown is k

  pub nothing_so : (Idle : InstalledEdit → Type 0) → HasNothing First z t u e Idle → HasNothing Last z s v e Idle
  nothing_so Idle k = record { found = found_so k.found; running = k.running; idle = k.idle; goes_on = remembers_so k.found [] k.goes_on }

  saw_whole : u.knows.participant.seen ≡ v.knows.participant.seen → SawWhole z t u.knows.participant.seen → SawWhole z s v.knows.participant.seen
  saw_whole seen k = saw_so z s t u.knows.participant.seen v.knows.participant.seen same same_past seen k

  pub flushes_so : u.knows.participant.seen ≡ v.knows.participant.seen → (result : Result Done MaintError) → FlushesFrom First z t e result u → FlushesFrom Last z s e result v
  flushes_so seen (Ok done) k = record {
    found = found_so k.found;
    running = k.running;
    at = k.at ∙ ap (λ (h : List Entry). length h) seen;
    whole = saw_whole seen k.whole;
    some = k.some;
    versions = k.versions ∙ ap (λ (h : List Entry). length (unflushed h e.last)) seen;
    left = subst (λ (h : List Entry). HeldTables z s v v.knows.participant.past (record e { last = after_flush h e.last })) seen (holds_so (record e { last = after_flush u.knows.participant.seen e.last }) k.left);
    tables = tables_so k.tables (ap (λ (h : List Entry). record e { last = after_flush h e.last }) seen) (k.tables.so ∙ ap (λ (h : List Entry). sorted_of (unflushed h e.last) ∷ k.tables.before.parts) seen);
    survives = subst (λ (h : List Entry). SurvivesInstall k.tables.before k.tables.after (after_flush h e.last)) seen k.survives;
    throughout = throughout_so k.tables.before k.tables.after (after_flush u.knows.participant.seen e.last) (after_flush v.knows.participant.seen e.last) (ap (λ (h : List Entry). after_flush h e.last) seen) k.throughout;
    goes_on = remembers_so k.found (event.installed (after_flush v.knows.participant.seen e.last) false ∷ [])
        (subst (λ (h : List Entry). First (with_events (found_by z t u e k.found ∷ event.installed (after_flush h e.last) false ∷ []) t.knows.participant)) seen k.goes_on);
  }
  flushes_so seen (Err Memory) k = still k
  flushes_so seen (Err Nothing) (whole, k) = (saw_whole seen whole, subst (λ (h : List Entry). HasNothing Last z s v e (NoneInMemory h)) seen (nothing_so (NoneInMemory u.knows.participant.seen) k))
  flushes_so seen (Err TableFault) (whole, k) = (
    saw_whole seen whole,
    record {
      found = found_so k.found;
      running = k.running;
      busy = subst (λ (h : List Entry). 1 ≤ length (unflushed h e.last)) seen k.busy;
      asked = k.asked;
      next = subst (λ (h : List Entry). IfSome k.asked (λ edit. edit ≡ after_flush h e.last)) seen k.next;
      left = holds_so _ k.left;
      fault = k.fault;
      survives = (k.survives.0, k.survives.1 ∙ ap (λ (h : List Entry). after_flush h e.last) seen, k.survives.2, throughout_so k.fault.before k.fault.after k.survives.0 k.survives.0 refl k.survives.3);
      goes_on = remembers_so k.found (tables_failed e.last k.asked ∷ []) k.goes_on;
    },
  )
  flushes_so seen (Err (TablesStopped flushed)) k = record { found = found_so k.found; halted = k.halted; flushed_is = k.flushed_is; goes_on = remembers_so k.found [] k.goes_on }

  -- ... and of a renewal
  abbrev busy_so : u.knows.participant.seen ≡ v.knows.participant.seen → IsBusy z t u e → IsBusy z s v e
  busy_so seen k = record {
    running = k.running;
    whole = saw_whole seen k.whole;
    unclosed = (k.unclosed.0, had_between z s t u v same same_past starts grown (writes k.unclosed.0) k.unclosed.1, k.unclosed.2);
    at_once = k.at_once;
    history_is = k.history_is ∙ seen;
    below = subst (λ (h : List Entry). e.last.segment.base < length h) seen k.below;
  }

  renewed_so : (seen : u.knows.participant.seen ≡ v.knows.participant.seen) (done : Renewed) → HasRenewed First z t u e done → HasRenewed Last z s v e done
  renewed_so seen done k = record {
    found = found_so k.found;
    busy = busy_so seen k.busy;
    at = k.at ∙ ap (λ (h : List Entry). length h) seen;
    carried = k.carried ∙ ap (λ (h : List Entry). length (undecided h)) seen;
    place = k.place;
    left = subst (λ (h : List Entry). HeldTables z s v v.knows.participant.past (record e { last = after_renewal h k.place e.last })) seen (holds_so (record e { last = after_renewal u.knows.participant.seen k.place e.last }) k.left);
    tables = tables_so k.tables (ap (λ (h : List Entry). record e { last = after_renewal h k.place e.last }) seen) (k.tables.so ∙ ap (λ (h : List Entry). new_parts (sorted_of (unflushed h e.last)) ++ k.tables.before.parts) seen);
    survives = subst (λ (h : List Entry). SurvivesInstall k.tables.before k.tables.after (after_renewal h k.place e.last)) seen k.survives;
    log = subst (λ (h : List Entry). LogBecame z k.busy.unclosed.0 (record k.busy.unclosed.0 { segment = record { place = k.place; base = length h }; next = None })
        (λ before after. SurvivesBeside before after (Some after.state.segment) × NamesItsSegment k.tables.before k.tables.after before after (Some (after_renewal h k.place e.last)))) seen k.log;
    goes_on = remembers_so k.found (event.renewed (after_renewal v.knows.participant.seen k.place e.last) ∷ [])
        (subst (λ (h : List Entry). First (with_events (found_by z t u e k.found ∷ event.renewed (after_renewal h k.place e.last) ∷ []) t.knows.participant)) seen k.goes_on);
  }

  broken_so : (seen : u.knows.participant.seen ≡ v.knows.participant.seen) → HasBrokenOff First z t u e → HasBrokenOff Last z s v e
  broken_so seen k = record {
    found = found_so k.found;
    busy = busy_so seen k.busy;
    asked = k.asked;
    next = subst (λ (h : List Entry). IfSome k.asked (λ edit. (place : ℕ) × (edit ≡ after_renewal h place e.last))) seen k.next;
    left = holds_so (with_failed e k.asked) k.left;
    fault = k.fault;
    survives = (k.survives.0, subst (λ (h : List Entry). (place : ℕ) × (k.survives.0 ≡ after_renewal h place e.last)) seen k.survives.1, k.survives.2, k.survives.3);
    uncalled = k.uncalled;
    log = k.log;
    goes_on = remembers_so k.found (tables_failed e.last k.asked ∷ log_stopped ∷ []) k.goes_on;
  }

  pub renews_so : u.knows.participant.seen ≡ v.knows.participant.seen → (result : Result Renewed RenewError) → RenewsFrom First z t e result u → RenewsFrom Last z s e result v
  renews_so seen (Ok done) k = renewed_so seen done k
  renews_so seen (Err renewal.Memory) k = record { busy = busy_so seen k.busy; tables = k.tables; log = k.log; goes_on = still k.goes_on }
  renews_so seen (Err (renewal.TablesStopped flushed)) k = record { found = found_so k.found; halted = k.halted; flushed_is = k.flushed_is; goes_on = remembers_so k.found [] k.goes_on }
  renews_so seen (Err (renewal.Stopped n)) k = record {
    found = found_so k.found;
    running = k.running;
    whole = saw_whole seen k.whole;
    closed = (k.closed.0, had_between z s t u v same same_past starts grown (writes k.closed.0) k.closed.1, k.closed.2);
    at_once = k.at_once;
    tables = k.tables;
    log = k.log;
    number = k.number ∙ ap (λ (h : List Entry). length h) seen;
    goes_on = remembers_so k.found (stopped n ∷ []) k.goes_on;
  }
  renews_so seen (Err renewal.Nothing) k = record {
    found = found_so k.found;
    running = k.running;
    whole = saw_whole seen k.whole;
    unclosed = (k.unclosed.0, had_between z s t u v same same_past starts grown (writes k.unclosed.0) k.unclosed.1, k.unclosed.2);
    at_once = k.at_once;
    spelled = k.spelled ∙ seen;
    tables = k.tables;
    log = k.log;
    based = k.based ∙ ap (λ (h : List Entry). length h) seen;
    goes_on = remembers_so k.found [] k.goes_on;
  }
  renews_so seen (Err renewal.TableFault) k = broken_so seen k
  renews_so seen (Err renewal.LogFault) k = record {
    found = found_so k.found;
    busy = busy_so seen k.busy;
    left = holds_so e k.left;
    tables = k.tables;
    survives = (k.survives.0, subst (λ (h : List Entry). (place : ℕ) × (k.survives.0 ≡ after_renewal h place e.last)) seen k.survives.1, k.survives.2);
    log = k.log;
    goes_on = remembers_so k.found (log_failed [] ∷ []) k.goes_on;
  }

-- ---- there is nothing to do

module _ {D : Type 0} (z : SharedState D) (s u v : SeatState) (e : Installed) (first : GoesOnAs s u s.knows.participant) (k : Remembers z u e v) where
  past_still : u.knows.participant.past ≡ s.knows.participant.past
  past_still = ap (λ (p : Participant). p.past) first.participant

  found_then : GoesOnAs u v (with_events (found_by z u v e k.found ∷ []) u.knows.participant)
  found_then = goes_is z u v (found_by z u v e k.found ∷ []) k.is

  seen_then : u.knows.participant.seen ≡ v.knows.participant.seen
  seen_then = sym (ap (λ (x : SeatState). x.knows.participant.seen) k.is)

  pub found_nothing : e.halted ≡ false → SawWhole z s u.knows.participant.seen → NoneInMemory u.knows.participant.seen e.last → FlushesFrom (GoesOnAs s v) z s e (Err Nothing) v
  found_nothing running whole none = (
    subst (SawWhole z s) seen_then whole,
    nothing_so (GoesOnAs u v) (GoesOnAs s v) z s u v v e (seat_still s u s.knows.participant first) past_still first.seen refl (starts_same v.knows.participant.seen) (goes_more s u v s.knows.participant first) (goes_still s u v s.knows.participant first) (NoneInMemory v.knows.participant.seen)
        (record { found = k.found; running = running; idle = subst (λ (h : List Entry). NoneInMemory h e.last) seen_then none; goes_on = found_then }),
  )

  pub found_halted : e.halted ≡ true → (n : ℕ) → n ≡ e.last.flushed → FlushesFrom (GoesOnAs s v) z s e (Err (TablesStopped n)) v
  found_halted halted n is = flushes_so (GoesOnAs u v) (GoesOnAs s v) z s u v v e (seat_still s u s.knows.participant first) past_still first.seen refl (starts_same v.knows.participant.seen) (goes_more s u v s.knows.participant first) (goes_still s u v s.knows.participant first) refl (Err (TablesStopped n))
      (record { found = k.found; halted = halted; flushed_is = is; goes_on = found_then })
