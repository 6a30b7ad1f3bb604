-- What a renewal says of its seat, once its segment is in use, or the renewal broke off.
use Rattle.std.proofs.Common.{◌≡◌, ◌≢◌, ℕ, ◌<◌, true, false, List, [], ◌∷◌, ◌++◌, append_assoc, length, map, Option, Some, None, refl, sym, subst, ap, ◌∙◌}
use Rattle.std.specs.Prelude.{Ok, Err, IfSome}
use Rattle.std.specs.Arc.{arc_value}
use Rattle.wp_model.specs.declared.entry.Entry.{Entry}
use Rattle.wp_model.specs.declared.segment.Segment.{Segment}
use Rattle.wp_model.specs.declared.version.Version.{Version}
use Rattle.wp_model.specs.Flushed.{InstalledEdit, IsEditCovered}
use Rattle.wp_model.specs.History.{undecided}
use Rattle.wp_cuts.specs.Cut.{cut_at}
use Rattle.wp_merge.specs.Merge.{joined, sorted_of}
use Rattle.wp_merge.proofs.Sorted.{at_sorted, in_order_same, in_order_sorted}
use Rattle.wp_outside.specs.Disk.{IfKnown, Moment, Passes}
use Rattle.wp_outside.specs.Faults.{Rose}
use Rattle.wp_gatelog.specs.Moments.{Leaves}
use Rattle.wp_wal.specs.Segment.{WrittenState}
use Rattle.wp_wal.specs.Spelling.{IsLogAt}
use Rattle.wp_wal.specs.Wal.{LeavesCut, LosesNothingAt}
use Rattle.wp_replies.specs.Tables.{unflushed, after_renewal}
use Rattle.wp_replies.specs.Tables as replies
use Rattle.wp_tableset.specs.Changes.{Asked, new_parts, one_part, parts_after}
use Rattle.wp_tableset.specs.declared.gone.Gone.{Gone}
use Rattle.wp_tableset.specs.declared.gone.Gone.TheVariants as gone
use Rattle.wp_core.specs.Effects.{with_failed}
use Rattle.wp_core.specs.Lists.{IsIn}
use Rattle.wp_core.specs.Sound.Actors.{StartsWith}
use Rattle.wp_core.specs.Sound.Pasts.{tables_due}
use Rattle.wp_core.specs.States.{WriteState, Installed, writes, installed}
use Rattle.wp_core.specs.Views.{Event, found_edit, frozen_stay, log_failed, log_stopped, stopped, tables_failed, tables_stay}
use Rattle.wp_core.specs.Views as event
use Rattle.wp_core.specs.World.{Participant, World}
use Rattle.wp_model.proofs.Tests.{none_some}
use Rattle.wp_rule.specs.Knows.{KnowsTables, Noted}
use Rattle.wp_rule.specs.Words.{IsAt}
use Rattle.wp_parts.specs.VersionSet.{VersionSetState, IsEdits, asked_for, with_new}
use Rattle.wp_parts.specs.Installs.{WrittenInstallState, IsBehind, SurvivesInstall}
use Rattle.wp_parts.specs.Log.{LogState, IsLog}
use Rattle.wp_parts.specs.Parts.{EditsStand, LogStands}
use Rattle.wp_shared.specs.Calls.{GoesOnAs, with_events}
use Rattle.wp_shared.specs.Notes.{with_participant, no_fact, GoesOn}
use Rattle.wp_shared.specs.Seats.{SharedState, SeatState, Stands, place_at}
use Rattle.wp_shared.proofs.Onward.{starts_equal, starts_on, starts_same, goes_same, goes_still, holds_as, loose_none}
use Rattle.wp_shared.proofs.Tables.{held_state}
use Rattle.wp_maint.specs.declared.frozen.Frozen.{Frozen}
use Rattle.wp_maint.specs.declared.renewed.Renewed.{Renewed}
use Rattle.wp_maint.specs.declared.renewed.RenewError.TheVariants.{Stopped, Nothing, TableFault, LogFault}
use Rattle.wp_maint.specs.Calls.{AreSameTables, Finds, found_by, HasFault, HeldContent, IsUncalled, SawWhole, TablesBecame}
use Rattle.wp_maint.specs.Finding.{Remembers}
use Rattle.wp_maint.specs.Flush.{versions_of, HasFrozen, MayPut}
use Rattle.wp_maint.specs.Holding.{is_of_flushed, is_of_tables}
use Rattle.wp_maint.specs.Renewal.{HoldsBoth, IsBusy, HasBrokenOff, HasLogFault, HasNoMemory, HasRenewed, IsSameLog, LogBecame, NamesItsSegment, SurvivesBeside, segment_of}
use Rattle.wp_maint.specs.Renewing.{HasClosed, HasMoved, HasStopped, RenewsHolding}
use Rattle.wp_maint.proofs.Became.{log_became, tables_became}
use Rattle.wp_maint.proofs.Found.{failed_last}
use Rattle.wp_maint.proofs.Installed.{same_list}
use Rattle.wp_maint.proofs.Made.{first_held, second_held}
use Rattle.wp_maint.proofs.Memory.{sorted_none}
use Rattle.wp_maint.proofs.Onward.{IsSeat, flushed_free, tables_free, found_later, goes_is, goes_more, goes_remembering, held_left, seat_still, in_step_being, in_step_on}
use Rattle.wp_maint.proofs.Throughout.{names_its_segment}

-- ---- the edit

-- one table more, where there is something to have in it
same_with : (versions later : List Version) (last : InstalledEdit) → versions ≡ sorted_of later → with_new gone.Frozen versions last ≡ replies.with_table later last
same_with versions [] last is = ap (λ (l : List Version). with_new gone.Frozen l last) is
same_with [] (v ∷ later) last is = let none = sorted_none (v ∷ later) (sym is) in absurd cc
same_with (w ∷ versions) (v ∷ later) last is = ap (λ (l : List Version). record (with_new gone.Frozen (w ∷ versions) last) { versions = l }) (same_list (w ∷ versions) (v ∷ later) last.versions is)

pub same_renewal : (seen : List Entry) (last : InstalledEdit) (asked : Asked) (segment : Segment) → asked.gone ≡ gone.Frozen → asked.versions ≡ sorted_of (unflushed seen last) → asked.flushed ≡ length seen → segment.base ≡ length seen → asked_for asked segment last ≡ after_renewal seen segment.place last
same_renewal seen last asked segment frozen versions flushed based =
    ap (λ (x : Gone). record (with_new x asked.versions last) { segment = segment; flushed = asked.flushed }) frozen
    ∙ (λ i. record (same_with asked.versions (unflushed seen last) last versions i) { segment = record { place = segment.place; base = based i }; flushed = flushed i })

-- with it and what was there all is there
sorted_again : (versions : List Version) → sorted_of (sorted_of versions) ≡ sorted_of versions
sorted_again versions = in_order_same (sorted_of (sorted_of versions)) (sorted_of versions) (in_order_sorted (sorted_of versions)) (in_order_sorted versions) (λ key p. at_sorted (sorted_of versions) key p)

all_with : (versions tables : List Version) (last : InstalledEdit) → sorted_of tables ≡ last.versions → (with_new gone.Frozen versions last).versions ≡ sorted_of (versions ++ last.versions)
all_with [] tables last is = sym is ∙ sym (sorted_again tables) ∙ ap sorted_of is
all_with (v ∷ versions) tables last is = refl

-- the edit that was asked for, if one was, is of a renewal
asked_as : (seen : List Entry) (last edit : InstalledEdit) (asked : Option InstalledEdit) → IfSome asked (λ next. next ≡ edit) → (place : ℕ) × (edit ≡ after_renewal seen place last) → IfSome asked (λ next. (place : ℕ) × (next ≡ after_renewal seen place last))
asked_as seen last edit None is made = tt
asked_as seen last edit (Some next) is made = (made.0, is ∙ made.1)

-- ---- the devices

-- the same moments, the same images
pub beside_still : (old new later : LogState) (segment : Option Segment) → later.wal.moments ≡ new.wal.moments → SurvivesBeside old new segment → SurvivesBeside old later segment
beside_still old new later segment same k = record {
  still = λ c cut at. subst (λ (ms : List Moment). Passes (Leaves (IsLogAt old.wal.id old.state.segment.place c)) old.wal.moments ms) (sym same) (k.still c cut at);
  durable = subst (λ (ms : List Moment). LosesNothingAt old.state.segment.place old.wal.moments ms) (sym same) k.durable;
  beside = waits segment k.beside;
  placed = k.placed;
}
  where
    waits : (o : Option Segment) → IfSome o (λ s. (s.base ≡ length old.state.history) × (s.place ≢ old.state.segment.place) × IfKnown new.wal.moments (LeavesCut old.wal.id s.place (cut_at old.state.history s.base)))
        → IfSome o (λ s. (s.base ≡ length old.state.history) × (s.place ≢ old.state.segment.place) × IfKnown later.wal.moments (LeavesCut old.wal.id s.place (cut_at old.state.history s.base)))
    waits None is = tt
    waits (Some s) is = (is.0, is.1, subst (λ (ms : List Moment). IfKnown ms (LeavesCut old.wal.id s.place (cut_at old.state.history s.base))) (sym same) is.2)

-- ---- from the beginning on

-- The seat began with both turns, s0. A stage later it is s1, with what it was then but for states and notes; the log has the state that it
-- had, and so have the edits.
module _ {D : Type 0} (z : SharedState D) (s0 s1 : SeatState) (e0 e1 : VersionSetState) (log0 log1 : LogState) (holds : HoldsBoth z s0 e0 log0 log0.state) (running : e0.state.halted ≡ false) (open_ : log0.state.closed ≡ false) (nothing : log0.state.pending ≡ []) (coupled : log0.state.segment ≡ e0.state.last.segment) (below : log0.state.segment.base < length log0.state.history)
    (seen : s0.knows.participant.seen ≡ log0.state.history) (whole : log0.state.log ≡ log0.state.history) (w0 : (w : World) × Stands z s0 w) (is_edits : IsEdits e0) (is_log : IsLog log0) (first : GoesOnAs s0 s1 s0.knows.participant) (still : s1.knows.participant ≡ s0.knows.participant) (same_table : e1.state ≡ e0.state) (same_log : log1.state ≡ log0.state) where
  log_held : IsIn (writes log0.state) s0.knows.held
  log_held = first_held s0.knows (writes log0.state) (installed e0.state ∷ []) holds.turn.held

  here : w0.0.writes ≡ log0.state
  here = held_state (place_at z s0.by) s0.knows w0.0 (writes log0.state) w0.1 log_held

  tables_here : w0.0.installed ≡ e0.state
  tables_here = held_state (place_at z s0.by) s0.knows w0.0 (installed e0.state) w0.1 (second_held s0.knows (writes log0.state) (installed e0.state) holds.turn.held)

  seat : IsSeat s0 s1
  seat = seat_still s0 s1 s0.knows.participant first

  past_still : s1.knows.participant.past ≡ s0.knows.participant.past
  past_still = ap (λ (p : Participant). p.past) still

  seen_still : s1.knows.participant.seen ≡ s0.knows.participant.seen
  seen_still = ap (λ (p : Participant). p.seen) still

  saw : SawWhole z s0 s0.knows.participant.seen
  saw = record {
    world = w0.0;
    actor = s0.knows;
    there = w0.1;
    held = subst (λ (d : WriteState). IsIn (writes d) s0.knows.held) (sym here) log_held;
    history_is = ap (λ (d : WriteState). d.history) here ∙ sym seen;
    seen_is = refl;
    past_is = refl;
    made = refl;
    joined = refl;
  }

  module _ (v : SeatState) (same : v.knows.participant.seen ≡ s0.knows.participant.seen) where
    history_seen : log0.state.history ≡ v.knows.participant.seen
    history_seen = sym seen ∙ sym same

    abbrev busy : IsBusy z s0 v e0.state
    busy = record {
      running = running;
      whole = subst (SawWhole z s0) (sym same) saw;
      unclosed = (
        log0.state,
        record {
          world = w0.0;
          actor = s0.knows;
          there = w0.1;
          held = log_held;
          past_is = refl;
          seen_is = starts_same s0.knows.participant.seen;
          within = starts_equal s0.knows.participant.seen v.knows.participant.seen same;
          made = refl;
          joined = refl;
        },
        open_,
      );
      at_once = (tables_here, here);
      history_is = history_seen;
      below = subst (λ (x : Segment × List Entry). x.0.base < length x.1) (λ i. (coupled i, history_seen i)) below;
    }

  -- ---- memory ran out

  pub no_memory : (u : SeatState) → GoesOnAs s0 u s0.knows.participant → u.knows.participant.seen ≡ s0.knows.participant.seen → EditsStand e0 → LogStands log0 → NamesItsSegment e0 e0 log0 log0 None → HasNoMemory (GoesOnAs s0 u) z s0 u e0.state
  no_memory u goes same edits_stand log_stands named = record {
    busy = busy u same;
    tables = tables_became e0 e0 holds.edits_of_store holds.edits_of_store is_edits is_edits refl (refl, edits_stand);
    log = log_became log0 log0 holds.log_of_store holds.log_of_store is_log is_log refl ((refl, log_stands), named);
    goes_on = goes;
  }

  -- the tables as they were found
  found_of : (u v : SeatState) → StartsWith v.knows.participant.seen u.knows.participant.seen → Finds z s1 u e1.state → Finds z s0 v e0.state
  found_of u v grown k = record {
    world = k.world;
    actor = k.actor;
    there = subst (λ (b : ℕ). IsAt (place_at z b) k.actor k.world) seat.0 k.there;
    held = subst (λ (t : Installed). IsIn (installed t) k.actor.held) same_table k.held;
    past_is = k.past_is ∙ past_still;
    seen_is = starts_on s0.knows.participant.seen s1.knows.participant.seen k.actor.participant.seen (starts_equal s0.knows.participant.seen s1.knows.participant.seen seen_still) k.seen_is;
    within = starts_on k.actor.participant.seen u.knows.participant.seen v.knows.participant.seen k.within grown;
    made = k.made ∙ seat.1;
    joined = k.joined ∙ seat.2;
  }

  same_found : (u v : SeatState) (grown : StartsWith v.knows.participant.seen u.knows.participant.seen) (k : Finds z s1 u e1.state) → found_by z s1 u e1.state k ≡ found_by z s0 v e0.state (found_of u v grown k)
  unfolding found_of
  same_found u v grown k = λ i. found_edit (same_table i).last.flushed (same_table i).last.segment.base (same_table i).last.tables (tables_due k.world.first_edit (past_still i)) (same_table i).halted

  goes_of : (u v : SeatState) (grown : StartsWith v.knows.participant.seen u.knows.participant.seen) (k : Finds z s1 u e1.state) (events : List Event) → GoesOnAs s1 u (with_events (found_by z s1 u e1.state k ∷ events) s1.knows.participant) → GoesOnAs s0 u (with_events (found_by z s0 v e0.state (found_of u v grown k) ∷ events) s0.knows.participant)
  goes_of u v grown k events second =
      subst (λ (x : Event). GoesOnAs s0 u (with_events (x ∷ events) s0.knows.participant)) (same_found u v grown k)
      (goes_more s0 s1 u s0.knows.participant first (found_by z s1 u e1.state k ∷ events) second)

  -- ---- a device of the tables failed

  module _ (Survives : VersionSetState → VersionSetState → Type 0) (asked : Option InstalledEdit) (u : SeatState) (left : VersionSetState) (now : LogState) (k : HasStopped z Survives s1 e1 log1 asked u left now)
      (edit : InstalledEdit) (made : (place : ℕ) × (edit ≡ after_renewal s0.knows.participant.seen place e0.state.last)) (is_asked : IfSome asked (λ next. next ≡ edit)) (survived : SurvivesInstall e0 left edit) (uncalled : asked ≡ None → IsUncalled e0 left) (beside : SurvivesBeside log0 now (segment_of asked)) (fault : HasFault e0 left) where
    broken_seen : u.knows.participant.seen ≡ s0.knows.participant.seen
    broken_seen = ap (λ (x : SeatState). x.knows.participant.seen) k.goes.same ∙ seen_still

    broken_goes : GoesOnAs s0 u (with_events (found_by z s0 u e0.state (found_of u u (starts_same u.knows.participant.seen) k.found) ∷ tables_failed e1.state.last asked ∷ log_stopped ∷ []) s0.knows.participant)
    broken_goes =
        goes_of u u (starts_same u.knows.participant.seen) k.found (tables_failed e1.state.last asked ∷ log_stopped ∷ [])
        (goes_remembering s1 u (found_by z s1 u e1.state k.found ∷ tables_failed e1.state.last asked ∷ log_stopped ∷ []) no_fact (writes now.state ∷ installed left.state ∷ []) s1.turns k.goes loose_none)

    broken_table : left.state ≡ with_failed e0.state asked
    broken_table = k.state ∙ ap (λ (t : Installed). with_failed t asked) same_table

    made_now : (place : ℕ) × (edit ≡ after_renewal u.knows.participant.seen place e0.state.last)
    made_now = (made.0, made.1 ∙ ap (λ (h : List Entry). after_renewal h made.0 e0.state.last) (sym broken_seen))

    broken_off : HasBrokenOff (GoesOnAs s0 u) z s0 u e0.state
    broken_off = record {
      found = found_of u u (starts_same u.knows.participant.seen) k.found;
      busy = busy u broken_seen;
      asked = asked;
      next = asked_as u.knows.participant.seen e0.state.last edit asked is_asked made_now;
      left = held_left z s0 u u (with_failed e0.state asked) k.stands (seat_still s0 u _ broken_goes) broken_seen refl (subst (λ (t : Installed). IsIn (installed t) u.knows.held) broken_table (second_held u.knows (writes now.state) (installed left.state) k.holds.turn.held));
      fault = tables_became e0 left holds.edits_of_store k.holds.edits_of_store is_edits k.still_edits broken_table fault;
      survives = (edit, made_now, is_asked, survived);
      uncalled = uncalled;
      log = log_became log0 now holds.log_of_store k.holds.log_of_store is_log k.still_log (ap (λ (l : LogState). l.state) k.stopped ∙ ap (λ (t : WriteState). record t { next = segment_of asked; closed = true; stopped = true }) same_log) (beside, names_its_segment e0 left edit is_edits running survived log0 now is_log open_ whole coupled asked is_asked uncalled beside);
      goes_on = subst (λ (t : Installed). GoesOnAs s0 u (with_events (found_by z s0 u e0.state (found_of u u (starts_same u.knows.participant.seen) k.found) ∷ tables_failed t.last asked ∷ log_stopped ∷ []) s0.knows.participant)) same_table broken_goes;
    }

    pub broken_holding : KnowsTables s1.knows e1.state.last → RenewsHolding (GoesOnAs s0 u) z s0 e0 log0 (Err TableFault) u left now
    broken_holding in_step = record {
      holds = k.holds;
      nothing = ap (λ (l : LogState). l.state.pending) k.stopped ∙ ap (λ (t : WriteState). t.pending) same_log ∙ nothing;
      in_step = subst (KnowsTables u.knows) (sym (ap (λ (x : Installed). x.last) k.state ∙ failed_last e1.state asked))
          (in_step_on (with_participant (with_events (found_by z s1 u e1.state k.found ∷ tables_failed e1.state.last asked ∷ log_stopped ∷ []) s1.knows.participant) s1) u no_fact (writes now.state ∷ installed left.state ∷ []) s1.turns refl (λ versions floor. refl) k.goes e1.state.last in_step);
      says = broken_off;
      manifest = tt;
      untouched = tt;
    }

  -- ---- the edit is installed

  module _ (written : WrittenState) (edit : WrittenInstallState) (f : Frozen) (is : edit.edit.asked ≡ record { gone = gone.Frozen; versions = versions_of f; flushed = f.at }) (frozen : HasFrozen s0.knows e0.state f) (based : written.segment.base ≡ length log0.state.history) where
    abbrev next : InstalledEdit
    next = after_renewal s0.knows.participant.seen written.segment.place e0.state.last

    -- the edit that is asked for is the renewal's
    pub is_next : asked_for edit.edit.asked written.segment e1.state.last ≡ next
    is_next =
        ap (λ (t : Installed). asked_for edit.edit.asked written.segment t.last) same_table
        ∙ same_renewal s0.knows.participant.seen e0.state.last edit.edit.asked written.segment (ap (λ (x : Asked). x.gone) is) (ap (λ (x : Asked). x.versions) is ∙ frozen.versions) (ap (λ (x : Asked). x.flushed) is ∙ frozen.at) (based ∙ ap (λ (h : List Entry). length h) (sym seen))

    pub covered_next : IsEditCovered s1.knows.participant.seen (asked_for edit.edit.asked written.segment e1.state.last)
    covered_next = subst (λ (x : List Entry × InstalledEdit). IsEditCovered x.0 x.1) (λ i. (sym seen_still i, sym is_next i)) (frozen.covered_at written.segment.place)

    module _ (u : SeatState) (left : VersionSetState) (now : LogState) (k : HasMoved z s1 e1 log1 written edit u left now) (behind : IsBehind e0 e1 edit) (beside : SurvivesBeside log0 log1 (Some written.segment)) where
      moved_table : left.state ≡ record e0.state { last = next }
      moved_table = k.state ∙ (λ i. record (same_table i) { last = is_next i })

      moved_beside : SurvivesBeside log0 now (Some written.segment)
      moved_beside = beside_still log0 log1 now (Some written.segment) k.device.0 beside

      moved_survived : SurvivesInstall e0 left next
      moved_survived = subst (SurvivesInstall e0 left) is_next (k.survives e0 behind)

      -- what is frozen may be let go
      pub may_put_all : (table : Option (List Version)) → table ≡ one_part (versions_of f) → KnowsTables s1.knows e1.state.last → (Noted s0.knows (frozen_stay f.at (versions_of f)) → Noted s1.knows (frozen_stay f.at (versions_of f))) → MayPut u.knows left.state f table
      may_put_all table table_is in_step noted = record {
        flushed = ap (λ (x : Installed). x.last.flushed) moved_table ∙ sym frozen.at;
        table_is = table_is;
        low = frozen.flushed;
        frozen = k.goes.noted (frozen_stay f.at (versions_of f)) refl (noted frozen.noted);
        before = e1.state.last.versions;
        floor = in_step.1.0;
        named = k.goes.noted (tables_stay e1.state.last.versions in_step.1.0) refl in_step.1.1;
        tables = tables_now;
        room = frozen.room;
        last = ap (λ (x : Installed). x.last.versions) k.state ∙ ap (λ (x : Asked). (with_new x.gone x.versions e1.state.last).versions) is ∙ all_with (versions_of f) (joined (map arc_value f.tables.items)) e1.state.last tables_now;
      }
        where
          tables_now : sorted_of (joined (map arc_value f.tables.items)) ≡ e1.state.last.versions
          tables_now = frozen.tables ∙ ap (λ (x : Installed). x.last.versions) (sym same_table)

      module _ (v : SeatState) (put : GoesOn is_of_tables (writes now.state ∷ installed left.state ∷ []) u.turns u v) (done : Renewed) (at_is : done.at ≡ f.at) (counted : done.carried ≡ length (undecided log0.state.history)) where
        put_still : v.knows.participant ≡ u.knows.participant
        put_still = ap (λ (x : SeatState). x.knows.participant) put.same

        moved_seen : u.knows.participant.seen ≡ s0.knows.participant.seen
        moved_seen = ap (λ (x : SeatState). x.knows.participant.seen) k.goes.same ∙ seen_still

        last_seen : v.knows.participant.seen ≡ s0.knows.participant.seen
        last_seen = ap (λ (p : Participant). p.seen) put_still ∙ moved_seen

        grown : StartsWith v.knows.participant.seen u.knows.participant.seen
        grown = starts_equal u.knows.participant.seen v.knows.participant.seen (ap (λ (p : Participant). p.seen) put_still)

        found : Finds z s0 v e0.state
        found = found_of u v grown k.found

        -- the edit, by what the seat has seen in the end
        abbrev last_edit : InstalledEdit
        last_edit = after_renewal v.knows.participant.seen written.segment.place e0.state.last

        is_last : next ≡ last_edit
        is_last = ap (λ (h : List Entry). after_renewal h written.segment.place e0.state.last) (sym last_seen)

        last_table : left.state ≡ record e0.state { last = last_edit }
        last_table = moved_table ∙ ap (λ (x : InstalledEdit). record e0.state { last = x }) is_last

        moved_goes : GoesOnAs s0 u (with_events (found_by z s0 v e0.state found ∷ event.renewed left.state.last ∷ []) s0.knows.participant)
        unfolding found found_of
        moved_goes =
            goes_of u v grown k.found (event.renewed left.state.last ∷ [])
            (goes_remembering s1 u (found_by z s1 u e1.state k.found ∷ event.renewed left.state.last ∷ []) is_of_flushed (writes now.state ∷ installed left.state ∷ []) s1.turns k.goes flushed_free)

        put_goes : GoesOnAs u v u.knows.participant
        put_goes = goes_same u v is_of_tables (writes now.state ∷ installed left.state ∷ []) u.turns tables_free put

        base_is : ◌≡◌ {A = Segment} (record { place = written.segment.place; base = written.segment.base }) (record { place = written.segment.place; base = length v.knows.participant.seen })
        base_is = ap (λ (n : ℕ). let x : Segment = record { place = written.segment.place; base = n } in x) (based ∙ ap (λ (h : List Entry). length h) (history_seen v last_seen))

        renewed : HasRenewed (GoesOnAs s0 v) z s0 v e0.state done
        renewed = record {
          found = found;
          busy = busy v last_seen;
          at = at_is ∙ frozen.at ∙ ap (λ (h : List Entry). length h) (sym last_seen);
          carried = counted ∙ ap (λ (h : List Entry). length (undecided h)) (history_seen v last_seen);
          place = written.segment.place;
          left = held_left z s0 u v (record e0.state { last = last_edit }) k.stands (seat_still s0 u _ moved_goes) moved_seen put_still (subst (λ (t : Installed). IsIn (installed t) u.knows.held) last_table (second_held u.knows (writes now.state) (installed left.state) k.holds.turn.held));
          tables = tables_became e0 left holds.edits_of_store k.holds.edits_of_store is_edits k.still_edits last_table (k.parts ∙ ap (λ (x : Asked). parts_after x e1.parts) is ∙ (λ i. new_parts ((frozen.versions ∙ ap (λ (h : List Entry). sorted_of (unflushed h e0.state.last)) (sym last_seen)) i) ++ behind.parts i));
          survives = subst (SurvivesInstall e0 left) is_last moved_survived;
          log = log_became log0 now holds.log_of_store k.holds.log_of_store is_log k.still_log (k.log_table ∙ (λ i. record (same_log i) { segment = base_is i; next = None })) (
            subst (λ (x : Segment). SurvivesBeside log0 now (Some x)) (sym (ap (λ (t : WriteState). t.segment) k.log_table)) moved_beside,
            names_its_segment e0 left last_edit is_edits running (subst (SurvivesInstall e0 left) is_last moved_survived) log0 now is_log open_ whole coupled (Some last_edit) refl (λ none. absurd (none_some (Some last_edit) last_edit none refl))
                (subst (λ (x : Segment). SurvivesBeside log0 now (Some x)) base_is moved_beside),
          );
          goes_on = subst (λ (x : InstalledEdit). GoesOnAs s0 v (with_events (found_by z s0 v e0.state found ∷ event.renewed x ∷ []) s0.knows.participant)) (ap (λ (t : Installed). t.last) last_table) (goes_still s0 u v (with_events (found_by z s0 v e0.state found ∷ event.renewed left.state.last ∷ []) s0.knows.participant) moved_goes put_goes);
        }

        pub renewed_holding : KnowsTables v.knows left.state.last → RenewsHolding (GoesOnAs s0 v) z s0 e0 log0 (Ok done) v left now
        renewed_holding in_step = record {
          holds = record { turn = holds_as k.holds.turn put refl; edits_of_store = k.holds.edits_of_store; log_of_store = k.holds.log_of_store };
          nothing = ap (λ (t : WriteState). t.pending) k.log_table ∙ ap (λ (t : WriteState). t.pending) same_log ∙ nothing;
          in_step = in_step;
          says = renewed;
          manifest = tt;
          untouched = tt;
        }

  -- ---- the log's device failed

  module _ (u : SeatState) (now : LogState) (k : HasClosed z s1 e1 log1 u now) (manifest : e1.set.manifest ≡ e0.set.manifest) (left_first : e1.first ≡ e0.first) (is_left : IsEdits e1) (rose : Rose log0.wal.faults now.wal.faults) (beside : SurvivesBeside log0 now None) (place : ℕ) (survived : SurvivesInstall e0 e1 (after_renewal s0.knows.participant.seen place e0.state.last)) where
    closed_seen : u.knows.participant.seen ≡ s0.knows.participant.seen
    closed_seen = ap (λ (x : SeatState). x.knows.participant.seen) k.goes.same ∙ seen_still

    closed_goes : GoesOnAs s0 u (with_events (found_by z s0 u e0.state (found_of u u (starts_same u.knows.participant.seen) k.found) ∷ log_failed [] ∷ []) s0.knows.participant)
    closed_goes =
        goes_of u u (starts_same u.knows.participant.seen) k.found (log_failed [] ∷ [])
        (goes_remembering s1 u (found_by z s1 u e1.state k.found ∷ log_failed [] ∷ []) no_fact (writes now.state ∷ installed e1.state ∷ []) s1.turns k.goes loose_none)

    log_fault : HasLogFault (GoesOnAs s0 u) z s0 u e0.state
    log_fault = record {
      found = found_of u u (starts_same u.knows.participant.seen) k.found;
      busy = busy u closed_seen;
      left = held_left z s0 u u e0.state k.stands (seat_still s0 u _ closed_goes) closed_seen refl (subst (λ (t : Installed). IsIn (installed t) u.knows.held) same_table (second_held u.knows (writes now.state) (installed e1.state) k.holds.turn.held));
      tables = tables_became e0 e1 holds.edits_of_store (holds.edits_of_store ∙ ap Some (sym left_first)) is_edits is_left same_table manifest;
      survives = (after_renewal s0.knows.participant.seen place e0.state.last, (place, ap (λ (h : List Entry). after_renewal h place e0.state.last) (sym closed_seen)), survived);
      log = log_became log0 now holds.log_of_store k.holds.log_of_store is_log k.still_log (k.state ∙ ap (λ (t : WriteState). record t { closed = true }) same_log) (rose, beside, names_its_segment e0 e1 (after_renewal s0.knows.participant.seen place e0.state.last) is_edits running survived log0 now is_log open_ whole coupled None tt (λ none. manifest) beside);
      goes_on = closed_goes;
    }

    pub closed_holding : KnowsTables s1.knows e1.state.last → RenewsHolding (GoesOnAs s0 u) z s0 e0 log0 (Err LogFault) u e1 now
    closed_holding in_step = record {
      holds = k.holds;
      nothing = ap (λ (t : WriteState). t.pending) k.state ∙ ap (λ (t : WriteState). t.pending) same_log ∙ nothing;
      in_step = in_step_on (with_participant (with_events (found_by z s1 u e1.state k.found ∷ log_failed [] ∷ []) s1.knows.participant) s1) u no_fact (writes now.state ∷ installed e1.state ∷ []) s1.turns refl (λ versions floor. refl) k.goes e1.state.last in_step;
      says = log_fault;
      manifest = (same_table, manifest);
      untouched = tt;
    }

-- ---- there was nothing to renew, or the log was closed before

module _ {D : Type 0} (z : SharedState D) (s : SeatState) (e : VersionSetState) (log : LogState) (holds : HoldsBoth z s e log log.state) (running : e.state.halted ≡ false) (seen : s.knows.participant.seen ≡ log.state.history) (nothing : log.state.pending ≡ []) (in_step : KnowsTables s.knows e.state.last) (w0 : (w : World) × Stands z s w) (is_edits : IsEdits e) (edits_stand : EditsStand e) (is_log : IsLog log) (log_stands : LogStands log) where
  log_stays : LogBecame z log.state log.state IsSameLog
  log_stays = log_became log log holds.log_of_store holds.log_of_store is_log is_log refl (refl, log_stands)

  tables_still : TablesBecame z e.state e.state AreSameTables
  tables_still = tables_became e e holds.edits_of_store holds.edits_of_store is_edits is_edits refl (refl, edits_stand)

  log_there : IsIn (writes log.state) s.knows.held
  log_there = first_held s.knows (writes log.state) (installed e.state ∷ []) holds.turn.held

  both_here : (w0.0.installed ≡ e.state) × (w0.0.writes ≡ log.state)
  both_here = (
    held_state (place_at z s.by) s.knows w0.0 (installed e.state) w0.1 (second_held s.knows (writes log.state) (installed e.state) holds.turn.held),
    held_state (place_at z s.by) s.knows w0.0 (writes log.state) w0.1 log_there,
  )

  saw_all : SawWhole z s s.knows.participant.seen
  saw_all = record {
    world = w0.0;
    actor = s.knows;
    there = w0.1;
    held = subst (λ (d : WriteState). IsIn (writes d) s.knows.held) (sym both_here.1) log_there;
    history_is = ap (λ (d : WriteState). d.history) both_here.1 ∙ sym seen;
    seen_is = refl;
    past_is = refl;
    made = refl;
    joined = refl;
  }

  module _ (u : SeatState) (events : List Event) (is : u ≡ with_participant (with_events events s.knows.participant) s) where
    seen_now : u.knows.participant.seen ≡ s.knows.participant.seen
    seen_now = ap (λ (x : SeatState). x.knows.participant.seen) is

    abbrev held_now : HeldContent z s u s.knows.participant.past (writes log.state)
    held_now = record {
      world = w0.0;
      actor = s.knows;
      there = w0.1;
      held = log_there;
      past_is = refl;
      seen_is = starts_same s.knows.participant.seen;
      within = starts_equal s.knows.participant.seen u.knows.participant.seen seen_now;
      made = refl;
      joined = refl;
    }

    holds_now : HoldsBoth z u e log log.state
    holds_now = subst (λ (x : SeatState). HoldsBoth z x e log log.state) (sym is) (record {
      turn = record { same_table = holds.turn.same_table; live = holds.turn.live; held = holds.turn.held; turns = holds.turn.turns };
      edits_of_store = holds.edits_of_store;
      log_of_store = holds.log_of_store;
    })

  pub nothing_to_renew : (u : SeatState) → Remembers z s e.state u → log.state.closed ≡ false → log.state.log ≡ log.state.history → e.state.last.segment.base ≡ length log.state.history → RenewsHolding (GoesOnAs s u) z s e log (Err Nothing) u e log
  nothing_to_renew u k open_ whole based =
      let events : List Event = found_by z s u e.state k.found ∷ [] in record {
        holds = holds_now u events k.is;
        nothing = nothing;
        in_step = in_step_being z s u events k.is e.state.last in_step;
        says = record {
          found = k.found;
          running = running;
          whole = subst (SawWhole z s) (sym (seen_now u events k.is)) saw_all;
          unclosed = (log.state, held_now u events k.is, open_);
          at_once = both_here;
          spelled = whole ∙ sym seen ∙ sym (seen_now u events k.is);
          tables = tables_still;
          log = log_stays;
          based = based ∙ ap (λ (h : List Entry). length h) (sym seen ∙ sym (seen_now u events k.is));
          goes_on = goes_is z s u events k.is;
        };
        manifest = (refl, refl);
        untouched = (refl, refl);
      }

  pub closed_before : (t u : SeatState) (n : ℕ) → Remembers z s e.state t → n ≡ length log.state.history → u ≡ with_participant (with_events (stopped n ∷ []) t.knows.participant) t → log.state.closed ≡ true → RenewsHolding (GoesOnAs s u) z s e log (Err (Stopped n)) u e log
  closed_before t u n k counted is closed =
      let found : Finds z s u e.state = found_later z s t u e.state (starts_equal t.knows.participant.seen u.knows.participant.seen (ap (λ (x : SeatState). x.knows.participant.seen) is)) k.found in
      let events : List Event = found_by z s u e.state found ∷ stopped n ∷ [] in
      let both : u ≡ with_participant (with_events events s.knows.participant) s =
      is
      ∙ ap (λ (x : SeatState). with_participant (with_events (stopped n ∷ []) x.knows.participant) x) k.is
      ∙ ap (λ (past : List Event). with_participant (record s.knows.participant { past = past }) s) (append_assoc s.knows.participant.past (found_by z s u e.state found ∷ []) (stopped n ∷ [])) in record {
        holds = holds_now u events both;
        nothing = nothing;
        in_step = in_step_being z s u events both e.state.last in_step;
        says = record {
          found = found;
          running = running;
          whole = subst (SawWhole z s) (sym (seen_now u events both)) saw_all;
          closed = (log.state, held_now u events both, closed);
          at_once = both_here;
          tables = tables_still;
          log = log_stays;
          number = counted ∙ ap (λ (h : List Entry). length h) (sym seen ∙ sym (seen_now u events both));
          goes_on = goes_is z s u events both;
        };
        manifest = (refl, refl);
        untouched = (refl, refl);
      }
