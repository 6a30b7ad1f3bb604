-- A renewal as a whole, from the stage that broke it off, or from all of them.
use Rattle.std.proofs.Common.{◌≡◌, ℕ, ◌<◌, ◌≤◌, false, List, [], ◌∷◌, ◌++◌, length, Option, Some, None, refl, sym, subst, ap, ◌∙◌, arith}
use Rattle.std.specs.Prelude.{Ok, Err, Result}
use Rattle.wp_model.specs.declared.entry.Entry.{Entry}
use Rattle.wp_model.specs.declared.segment.Segment.{Segment}
use Rattle.wp_model.specs.declared.version.Version.{Version}
use Rattle.wp_model.specs.History.{undecided}
use Rattle.wp_wal.specs.Segment.{WrittenState}
use Rattle.wp_replies.specs.Tables.{after_renewal}
use Rattle.wp_tableset.specs.Changes.{Asked, one_part}
use Rattle.wp_tableset.specs.declared.gone.Gone.TheVariants as gone
use Rattle.wp_tableset.specs.Set.{TableSetState}
use Rattle.wp_core.specs.States.{WriteState, Installed, writes, installed}
use Rattle.wp_core.specs.Views.{Event, frozen_stay, log_failed}
use Rattle.wp_core.specs.World.{Participant, World}
use Rattle.wp_model.proofs.Tests.{none_some}
use Rattle.wp_rule.specs.Knows.{KnowsTables}
use Rattle.wp_parts.specs.VersionSet.{VersionSetState, IsEdits, asked_for}
use Rattle.wp_parts.specs.Installs.{FailedSince, ReadyInstallState, WrittenInstallState, IsBehind, SurvivesInstall, SurvivesWrite}
use Rattle.wp_parts.specs.Log.{LogState, IsLog, with_next}
use Rattle.wp_parts.specs.Parts.{EditsStand, LogStands}
use Rattle.wp_shared.specs.Calls.{GoesOnAs}
use Rattle.wp_shared.specs.Notes.{GoesOn, no_fact}
use Rattle.wp_shared.specs.Seats.{SharedState, SeatState, Stands}
use Rattle.wp_shared.proofs.Onward.{goes_none, goes_same, goes_still, loose_none, starts_same}
use Rattle.wp_maint.specs.declared.frozen.Frozen.{Frozen}
use Rattle.wp_maint.specs.declared.renewed.Renewed.{Renewed}
use Rattle.wp_maint.specs.declared.renewed.RenewError.{RenewError}
use Rattle.wp_maint.specs.declared.renewed.RenewError.TheVariants.{Memory, TablesStopped, Stopped, Nothing, TableFault, LogFault}
use Rattle.wp_maint.specs.Calls.{IsUncalled, found_by}
use Rattle.wp_maint.specs.Flush.{versions_of, HasFrozen, MayPut}
use Rattle.wp_maint.specs.Holding.{is_of_tables}
use Rattle.wp_maint.specs.Renewal.{HoldsBoth}
use Rattle.wp_maint.specs.Renewing.{HasMoved, HasPlace, HasSegment, IsTold, LeavesSegment, RenewsHolding, SurvivesEdit, WritesTable}
use Rattle.wp_maint.proofs.Installed.{fault_since}
use Rattle.wp_maint.proofs.Onward.{goes_more, renews_so, in_step_on}
use Rattle.wp_maint.proofs.Throughout.{names_still}
use Rattle.wp_renew.proofs.Renewed.{beside_still, broken_holding, closed_holding, covered_next, is_next, may_put_all, no_memory, renewed_holding, same_renewal}
use Rattle.wp_stages.proofs.StageLemmas.{beside_same}

-- the seat and the log are as they were
pub at_start : {D : Type 0} (z : SharedState D) (s u : SeatState) (e : VersionSetState) (log now : LogState) → u ≡ s → now ≡ log → HoldsBoth z u e now now.state → HoldsBoth z s e log log.state
at_start z s u e log now same same_log holds = subst (λ (x : SeatState × LogState). HoldsBoth z x.0 e x.1 x.1.state) (λ i. (same i, same_log i)) holds

-- where the segment was not written, the seat remembers that since this past
pub failed_since : {D : Type 0} (z : SharedState D) (s u : SeatState) (e : VersionSetState) (log now : LogState) (why : RenewError) (before past : List Event) → before ≡ s.knows.participant.past → past ≡ u.knows.participant.past → HasPlace z s e log (Err why) u now → FailedSince before past
failed_since z s u e log now Memory before past was is wrong = absurd wrong
failed_since z s u e log now (TablesStopped n) before past was is wrong = absurd wrong
failed_since z s u e log now (Stopped n) before past was is wrong = absurd wrong
failed_since z s u e log now Nothing before past was is wrong = absurd wrong
failed_since z s u e log now TableFault before past was is wrong = absurd wrong
failed_since z s u e log now LogFault before past was is k =
    let found = found_by z s u e.state k.found in
    (found ∷ [], [], is ∙ ap (λ (x : SeatState). x.knows.participant.past) k.goes.same ∙ ap (λ (events : List Event). events ++ found ∷ log_failed [] ∷ []) (sym was))

module _ {D : Type 0} (z : SharedState D) (s0 : SeatState) (e0 : VersionSetState) (log0 : LogState) (holds : HoldsBoth z s0 e0 log0 log0.state) (running : e0.state.halted ≡ false) (open_ : log0.state.closed ≡ false) (nothing : log0.state.pending ≡ []) (coupled : e0.state.last.segment ≡ log0.state.segment) (below : log0.state.segment.base < length log0.state.history)
    (seen : s0.knows.participant.seen ≡ log0.state.history) (whole : log0.state.log ≡ log0.state.history) (w0 : (w : World) × Stands z s0 w) (in_step : KnowsTables s0.knows e0.state.last) (is_edits : IsEdits e0) (is_log : IsLog log0)
    (f : Frozen) (ready : ReadyInstallState) (is : ready.edit.asked ≡ record { gone = gone.Frozen; versions = versions_of f; flushed = f.at }) (frozen : HasFrozen s0.knows e0.state f) where
  begun : GoesOnAs s0 s0 s0.knows.participant
  begun = goes_none s0

  -- ---- the table was not written

  -- a crash meanwhile left the tables that there were
  while_written : (left : VersionSetState) → SurvivesWrite e0 left ready.edit.asked → SurvivesInstall e0 left (after_renewal s0.knows.participant.seen 0 e0.state.last)
  while_written left survives =
      let segment : Segment = record { place = 0; base = f.at } in
      subst (SurvivesInstall e0 left) (same_renewal s0.knows.participant.seen e0.state.last ready.edit.asked segment (ap (λ (x : Asked). x.gone) is) (ap (λ (x : Asked). x.versions) is ∙ frozen.versions) (ap (λ (x : Asked). x.flushed) is ∙ frozen.at) frozen.at) (survives segment)

  pub not_written : (why : RenewError) (u : SeatState) (left : VersionSetState) (now : LogState) → WritesTable z s0 e0 log0 ready (Err why) u left now → RenewsHolding (GoesOnAs s0 u) z s0 e0 log0 (Err why) u left now
  not_written Memory u left now wrong = absurd wrong
  not_written (TablesStopped n) u left now wrong = absurd wrong
  not_written (Stopped n) u left now wrong = absurd wrong
  not_written Nothing u left now wrong = absurd wrong
  not_written LogFault u left now wrong = absurd wrong
  not_written TableFault u left now k =
      broken_holding z s0 s0 e0 e0 log0 log0 holds running open_ nothing (sym coupled) below seen whole w0 is_edits is_log begun refl refl refl (λ before after. SurvivesWrite before after ready.edit.asked × IsUncalled before after) None u left now k
      (after_renewal s0.knows.participant.seen 0 e0.state.last) (0, refl) tt (while_written left k.survives.0) (λ none. k.survives.1)
      (beside_same log0 now (ap (λ (l : LogState). l.wal.moments) k.stopped)) k.fault in_step

  -- ---- the table is written, if there is one

  module _ (e1 : VersionSetState) (behind : WrittenInstallState) (same_table : e1.state ≡ e0.state) (its : IsBehind e0 e1 behind) (same_asked : behind.edit.asked ≡ ready.edit.asked) (holds1 : HoldsBoth z s0 e1 log0 log0.state) where
    is_behind : behind.edit.asked ≡ record { gone = gone.Frozen; versions = versions_of f; flushed = f.at }
    is_behind = same_asked ∙ is

    same_manifest : e1.set.manifest ≡ e0.set.manifest
    same_manifest = ap (λ (s : TableSetState). s.manifest) its.written.changed

    settled1 : KnowsTables s0.knows e1.state.last
    settled1 = subst (λ (t : Installed). KnowsTables s0.knows t.last) (sym same_table) in_step

    -- the segment was not
    pub not_placed : (why : RenewError) (u : SeatState) (now : LogState) → IsEdits e1 → SurvivesWrite e0 e1 ready.edit.asked → HasPlace z s0 e1 log0 (Err why) u now → RenewsHolding (GoesOnAs s0 u) z s0 e0 log0 (Err why) u e1 now
    not_placed Memory u now is_left survives wrong = absurd wrong
    not_placed (TablesStopped n) u now is_left survives wrong = absurd wrong
    not_placed (Stopped n) u now is_left survives wrong = absurd wrong
    not_placed Nothing u now is_left survives wrong = absurd wrong
    not_placed TableFault u now is_left survives wrong = absurd wrong
    not_placed LogFault u now is_left survives k =
        closed_holding z s0 s0 e0 e1 log0 log0 holds running open_ nothing (sym coupled) below seen whole w0 is_edits is_log begun refl same_table refl u now k same_manifest its.first is_left k.rose k.survives 0 (while_written e1 survives) settled1

    -- ---- and so is the segment

    module _ (written : WrittenState) (u : SeatState) (log1 : LogState) (p : HasSegment z s0 e1 log0 written u log1) where
      based : written.segment.base ≡ length log0.state.history
      based = p.waits.based ∙ ap (λ (t : WriteState). length t.history) p.state

      at_base : written.segment.base ≡ f.at
      at_base = based ∙ ap (λ (h : List Entry). length h) (sym seen) ∙ sym frozen.at

      first : GoesOnAs s0 u s0.knows.participant
      first = goes_same s0 u no_fact (writes (with_next log1.state written.segment) ∷ installed e1.state ∷ []) s0.turns loose_none p.goes

      still : u.knows.participant ≡ s0.knows.participant
      still = ap (λ (x : SeatState). x.knows.participant) p.goes.same

      settled2 : KnowsTables u.knows e1.state.last
      settled2 = in_step_on s0 u no_fact (writes (with_next log1.state written.segment) ∷ installed e1.state ∷ []) s0.turns refl (λ vs floor. refl) p.goes e1.state.last settled1

      pub told : log0.state.next ≡ None → IsTold z u e1 log1 written behind
      told none_next = record {
        holds = p.holds;
        running = ap (λ (t : Installed). t.halted) same_table ∙ running;
        unclosed = ap (λ (t : WriteState). t.closed) p.state ∙ open_;
        nothing = ap (λ (t : WriteState). t.pending) p.state ∙ nothing;
        none_next = ap (λ (t : WriteState). t.next) p.state ∙ none_next;
        seen = ap (λ (x : SeatState). x.knows.participant.seen) p.goes.same ∙ seen ∙ ap (λ (t : WriteState). t.history) (sym p.state);
        waits = p.waits;
        apart = λ is. p.survives.beside.1 (is ∙ ap (λ (t : WriteState). t.segment.place) p.state);
        coupled = ap (λ (t : Installed). t.last.segment) same_table ∙ coupled ∙ ap (λ (t : WriteState). t.segment) (sym p.state);
        before = e0;
        behind = its;
        gone_is = ap (λ (x : Asked). x.gone) is_behind;
        flushed_is = ap (λ (x : Asked). x.flushed) is_behind ∙ sym at_base;
        covered = covered_next z s0 u e0 e1 log0 log1 holds running open_ nothing (sym coupled) below seen whole w0 is_edits is_log first still same_table p.state written behind f is_behind frozen based;
        stands = p.stands;
      }

      -- the edit was not installed
      pub not_installed : (why : RenewError) (v : SeatState) (left : VersionSetState) (now : LogState) → LeavesSegment {T = Unit {0}} z u e1 log1 written behind (Err why) v left now → RenewsHolding (GoesOnAs s0 v) z s0 e0 log0 (Err why) v left now
      not_installed Memory v left now wrong = absurd wrong
      not_installed (TablesStopped n) v left now wrong = absurd wrong
      not_installed (Stopped n) v left now wrong = absurd wrong
      not_installed Nothing v left now wrong = absurd wrong
      not_installed LogFault v left now wrong = absurd wrong
      not_installed TableFault v left now k =
          let edit = asked_for behind.edit.asked written.segment e1.state.last in
          let its_edit = is_next z s0 u e0 e1 log0 log1 holds running open_ nothing (sym coupled) below seen whole w0 is_edits is_log first still same_table p.state written behind f is_behind frozen based in
          broken_holding z s0 u e0 e1 log0 log1 holds running open_ nothing (sym coupled) below seen whole w0 is_edits is_log first still same_table p.state (SurvivesEdit written behind)
          (Some edit) v left now k
          (after_renewal s0.knows.participant.seen written.segment.place e0.state.last) (written.segment.place, refl) its_edit
          (subst (SurvivesInstall e0 left) its_edit (k.survives e0 its)) (λ none. absurd (none_some (Some edit) edit none refl))
          (beside_still log0 log1 now (Some written.segment) (ap (λ (l : LogState). l.wal.moments) k.stopped) p.survives)
          (fault_since e0.set e1.set left.set (ap (λ (s : TableSetState). s.manifest.log.faults) its.written.changed) (ap (λ (s : TableSetState). s.faults) its.written.changed) k.fault) settled2

      -- it was
      module _ (v : SeatState) (left : VersionSetState) (now : LogState) (k : HasMoved z u e1 log1 written behind v left now) where
        pub may_put : (table : Option (List Version)) → table ≡ one_part (versions_of f) → MayPut v.knows left.state f table
        may_put table is =
            may_put_all z s0 u e0 e1 log0 log1 holds running open_ nothing (sym coupled) below seen whole w0 is_edits is_log first still same_table p.state written behind f is_behind frozen based v left now k its p.survives table is settled2
            (p.goes.noted (frozen_stay f.at (versions_of f)) refl)

        pub went_through : (x : SeatState) → GoesOn is_of_tables (writes now.state ∷ installed left.state ∷ []) v.turns v x → (done : Renewed) → done.at ≡ f.at → done.carried ≡ length (undecided log0.state.history) → KnowsTables x.knows left.state.last → RenewsHolding (GoesOnAs s0 x) z s0 e0 log0 (Ok done) x left now
        went_through x put done at_is counted last =
            renewed_holding z s0 u e0 e1 log0 log1 holds running open_ nothing (sym coupled) below seen whole w0 is_edits is_log first still same_table p.state written behind f is_behind frozen based v left now k its p.survives x put done at_is counted last

-- ---- before the memory is there, and the stages behind it

strictly : (a b : ℕ) → a ≤ b → (a ≡ b → ⊥) → a < b
strictly a b le apart = omega (arith, le, apart)

-- the base of the segment in use is in the history; where it is not its end, it is below
pub base_below : (log : LogState) → IsLog log → log.state.log ≡ log.state.history → (log.state.segment.base ≡ length log.state.history → ⊥) → log.state.segment.base < length log.state.history
base_below log is whole apart =
    let cut_base : is.cut.base ≤ length log.state.log = is.is_cut.within in
    let based : is.cut.base ≡ log.state.segment.base = is.stores.based ∙ ap (λ (g : Segment). g.base) (sym is.segment) in
    strictly log.state.segment.base (length log.state.history) (subst (λ (x : ℕ × List Entry). x.0 ≤ length x.1) (λ i. (based i, whole i)) cut_base) apart

module _ {D : Type 0} (z : SharedState D) (s t u : SeatState) (e : VersionSetState) (log : LogState) (goes : GoesOn no_fact s.knows.held s.turns s t) where
  so_far : GoesOnAs s t s.knows.participant
  so_far = goes_same s t no_fact s.knows.held s.turns loose_none goes

  -- what the stages behind it leave, since the beginning
  pub held_later : (left : VersionSetState) (now : LogState) (result : Result Renewed RenewError) → RenewsHolding (GoesOnAs t u) z t e log result u left now → RenewsHolding (GoesOnAs s u) z s e log result u left now
  held_later left now result k = record {
    holds = k.holds;
    nothing = k.nothing;
    in_step = k.in_step;
    says = renews_so (GoesOnAs t u) (GoesOnAs s u) z s t u u e.state (so_far.same_by, so_far.made, so_far.joined) (ap (λ (p : Participant). p.past) so_far.participant) so_far.seen refl (starts_same u.knows.participant.seen)
        (λ events h. goes_more s t u s.knows.participant so_far events h) (λ h. goes_still s t u s.knows.participant so_far h) refl result k.says;
    manifest = k.manifest;
    untouched = k.untouched;
  }

  -- both turns are held as before
  pub holds_both_still : HoldsBoth z s e log log.state → HoldsBoth z t e log log.state
  holds_both_still holds = record {
    turn = record {
      same_table = ap (λ (x : SeatState). x.table) goes.same ∙ holds.turn.same_table;
      live = ap (λ (x : SeatState). x.knows.live) goes.same ∙ holds.turn.live;
      held = ap (λ (x : SeatState). x.knows.held) goes.same ∙ holds.turn.held;
      turns = ap (λ (x : SeatState). x.turns) goes.same ∙ holds.turn.turns;
    };
    edits_of_store = holds.edits_of_store;
    log_of_store = holds.log_of_store;
  }

  pub in_step_still : KnowsTables s.knows e.state.last → KnowsTables t.knows e.state.last
  in_step_still in_step = in_step_on s t no_fact s.knows.held s.turns refl (λ vs floor. refl) goes e.state.last in_step

  -- there is no memory for it
  pub no_room : HoldsBoth z s e log log.state → e.state.halted ≡ false → log.state.closed ≡ false → log.state.pending ≡ [] → e.state.last.segment ≡ log.state.segment → log.state.segment.base < length log.state.history → s.knows.participant.seen ≡ log.state.history → log.state.log ≡ log.state.history
      → (w : World) × Stands z s w → IsEdits e → IsLog log → EditsStand e → LogStands log → KnowsTables s.knows e.state.last → RenewsHolding (GoesOnAs s t) z s e log (Err Memory) t e log
  no_room holds running open_ nothing coupled below seen whole w0 is_edits is_log edits_stand log_stands in_step = record {
    holds = holds_both_still holds;
    nothing = nothing;
    in_step = in_step_still in_step;
    says = no_memory z s s e e log log holds running open_ nothing (sym coupled) below seen whole w0 is_edits is_log (goes_none s) refl refl refl t so_far (ap (λ (x : SeatState). x.knows.participant.seen) goes.same)
        edits_stand log_stands (names_still e log (is_edits.none_failed (is_edits.running running)) open_ whole (sym coupled) edits_stand.0 log_stands.0);
    manifest = (refl, refl);
    untouched = (refl, refl);
  }
