-- What a crash leaves in the midst of a renewal opens to the history from the edit's base on.
use Rattle.std.proofs.Common.{◌≡◌, ◌⊎◌, inl, inr, ℕ, ◌<◌, ◌≤◌, ◌^◌, false, true≢false, List, length, take, Option, Some, None, IfSome, refl, sym, subst, ap, ◌∙◌, arith}
use Rattle.std.proofs.Math.Seq.{take-append_seam, take-length}
use Rattle.std.proofs.lemmas.List.{take-append-le}
use Rattle.wp_model.specs.declared.entry.Entry.{Entry}
use Rattle.wp_model.specs.declared.segment.Segment.{Segment}
use Rattle.wp_model.specs.Flushed.{InstalledEdit, IsEditCovered}
use Rattle.wp_model.specs.Legal.{undone_last}
use Rattle.wp_cuts.specs.Cut.{IsCut, cut_at}
use Rattle.wp_cuts.proofs.Growing.{cut_again}
use Rattle.wp_wal.specs.Spelling.{IsLogAt}
use Rattle.wp_tableset.specs.Set.{TableSetState}
use Rattle.wp_wal.specs.Wal.{WalState}
use Rattle.wp_replies.specs.Tables.{after_renewal}
use Rattle.wp_core.specs.Conditions.{NoneNext}
use Rattle.wp_core.specs.IsSound.{IsSound}
use Rattle.wp_core.specs.Runs.{Reaches}
use Rattle.wp_core.specs.Sound.History.{IsHistory, logged_part}
use Rattle.wp_core.specs.Sound.Segments.{AreCoupled}
use Rattle.wp_core.specs.States.{WriteState, Installed}
use Rattle.wp_core.specs.World.{World, Participant}
use Rattle.wp_core.proofs.EachStep.{reached_is_sound}
use Rattle.wp_model.proofs.Tests.{none_some, same_some}
use Rattle.wp_parts.specs.VersionSet.{VersionSetState}
use Rattle.wp_parts.specs.Log.{LogState, IsLog}
use Rattle.wp_shared.specs.Opening.{IsOneStore}
use Rattle.wp_shared.specs.Seats.{SharedState, SeatState}
use Rattle.wp_maint.specs.declared.renewed.Renewed.{Renewed}
use Rattle.wp_maint.specs.Calls.{TablesBecame}
use Rattle.wp_maint.specs.Moments.{OpensFromBase}
use Rattle.wp_maint.specs.Renewal.{HasBrokenOff, HasLogFault, HasNoMemory, HasRenewed, IsAtEnd, IsBusy, LeftInRenewal, LogBecame, NamesItsSegment, OpensInRenewal, segment_of}
use Rattle.wp_maint.proofs.Memory.{renewal_covered}
use Rattle.wp_maint.proofs.Throughout.{log_based, opens_as}

-- where no segment waits, the last edit names the one in use
pub names_this : (t : WriteState) (e : Installed) → (e.last.segment ≡ t.segment) ⊎ ((t.next ≡ Some e.last.segment) × (t.closed ≡ false)) → NoneNext t → e.last.segment ≡ t.segment
names_this t e (inl same) waits = same
names_this t e (inr next) (inl none) = absurd (none_some t.next e.last.segment none next.0)
names_this t e (inr next) (inr closed) = absurd (true≢false (sym closed ∙ next.1))

-- a log whose base is where the history ends has no undo there
whole_at : (w : World) → IsSound w → (log : LogState) → IsLog log → log.state.log ≡ w.writes.log → log.state.segment.base ≡ length w.writes.history → undone_last w.writes.history ≡ None
whole_at w sound log g same based =
    let front : take g.cut.base log.state.log ≡ w.writes.history =
    (λ i. take ((log_based log g ∙ based) i) ((same ∙ sound.history.log) i)) ∙ take-append_seam w.writes.history (logged_part w.writes.logged w.writes.pending) in
    ap (λ (h : List Entry). undone_last h) (sym front) ∙ g.is_cut.whole

-- ---- in a world with both states as they were

module _ (old : VersionSetState) (log : LogState) (g : IsLog log) (w : World) (sound : IsSound w) (here : w.installed ≡ old.state) (there : w.writes ≡ log.state) where
  abbrev history : List Entry
  history = log.state.history

  abbrev last : InstalledEdit
  last = old.state.last

  of_history : IsHistory w.opened log.state w.max_evicted
  of_history = subst (λ (t : WriteState). IsHistory w.opened t w.max_evicted) there sound.history

  covered_last : IsEditCovered history last
  covered_last = subst (λ (x : WriteState × Installed). IsEditCovered x.0.history x.1.last) (λ i. (there i, here i)) sound.versions.last

  covered_renewed : (place : ℕ) → IsEditCovered history (after_renewal history place last)
  covered_renewed = renewal_covered history of_history.legal last covered_last

  names_used : last.segment ≡ log.state.segment
  names_used = names_this log.state old.state (subst (λ (x : WriteState × Installed). AreCoupled x.0 x.1 w.holders.write) (λ i. (there i, here i)) sound.coupled).last g.none_waits

  base_within : last.segment.base ≤ length history
  base_within = let low = covered_last.base in let fits = covered_last.flushed in omega (arith, low, fits)

  cut_last : IsCut history (cut_at history last.segment.base)
  cut_last =
      let based : g.cut.base ≡ last.segment.base = log_based log g ∙ ap (λ (x : Segment). x.base) (sym names_used) in
      let front : take g.cut.base log.state.log ≡ take last.segment.base history =
      (λ i. take (based i) (of_history.log i)) ∙ take-append-le last.segment.base history (logged_part log.state.logged log.state.pending) base_within in
      cut_again history last.segment.base base_within (ap (λ (h : List Entry). undone_last h) (sym front) ∙ g.is_cut.whole)

  abbrev Stands : InstalledEdit → Type 0
  Stands edit = IsCut history (cut_at history edit.segment.base) × IsEditCovered history edit

  stands_at_end : (edit : InstalledEdit) → IsAtEnd history edit → Stands edit
  stands_at_end edit (whole, covers, based) =
      (cut_again history edit.segment.base (omega (arith, based)) (ap (λ (n : ℕ). undone_last (take n history)) based ∙ ap (λ (h : List Entry). undone_last h) (take-length history) ∙ whole), covers)

  -- so is the edit of a renewal, where the history ends with no undo
  renewed_at_end : (asked : Option InstalledEdit) → IfSome asked (λ edit. (place : ℕ) × (edit ≡ after_renewal history place last)) → IfSome asked (λ edit. undone_last history ≡ None) → IfSome asked (IsAtEnd history)
  renewed_at_end None made whole = tt
  renewed_at_end (Some edit) made whole = (whole, subst (λ (e : InstalledEdit). IsEditCovered history e) (sym made.1) (covered_renewed made.0), ap (λ (e : InstalledEdit). e.segment.base) made.1)

  module _ (new : VersionSetState) (moved : LogState) (asked : Option InstalledEdit) (at_end : IfSome asked (IsAtEnd history)) (named : NamesItsSegment old new log moved asked) (fits : old.set.manifest.log.id < 2 ^ 32) (one : log.wal.id ≡ old.set.manifest.log.id) where
    stands : (edit : InstalledEdit) → (edit ≡ last) ⊎ (asked ≡ Some edit) → Stands edit
    stands edit (inl is) = subst Stands (sym is) (cut_last, covered_last)
    stands edit (inr is) = stands_at_end edit (subst (λ (o : Option InstalledEdit). IfSome o (IsAtEnd history)) is at_end)

    opens_renewing : (l m t : List ℕ) → LeftInRenewal old new log moved l m t → (edit : InstalledEdit) × ((edit ≡ last) ⊎ (asked ≡ Some edit)) × OpensFromBase old.set.manifest.log.id history edit l m t
    opens_renewing l m t left =
        let found = named l m t left in
        let so = stands found.0 found.1 in
        let at : IsLogAt old.set.manifest.log.id found.0.segment.place (cut_at history found.0.segment.base) l = subst (λ (n : ℕ). IsLogAt n found.0.segment.place (cut_at history found.0.segment.base) l) one found.3 in
        (found.0, found.1, opens_as old fits history of_history.legal (cut_at history found.0.segment.base) so.0 found.0 refl so.1 l m t at found.2)

-- ---- as callers see it

pub opens_amid : (old new : VersionSetState) (log moved : LogState) (asked : Option InstalledEdit) → IsLog log → IfSome asked (IsAtEnd log.state.history) → NamesItsSegment old new log moved asked
    → old.set.manifest.log.id < 2 ^ 32 → log.wal.id ≡ old.set.manifest.log.id → (w : World) → Reaches w → w.installed ≡ old.state → w.writes ≡ log.state → OpensInRenewal old new log moved asked
opens_amid old new log moved asked g at_end named fits one w reached here there l m t left = opens_renewing old log g w (reached_is_sound w reached) here there new moved asked at_end named fits one l m t left

-- where a segment waits beside a log, its history ends with no undo
whole_waiting : (log : LogState) → IsLog log → (asked : Option InstalledEdit) → log.state.next ≡ segment_of asked → IfSome asked (λ edit. undone_last log.state.history ≡ None)
whole_waiting log g None waits = tt
whole_waiting log g (Some edit) waits = (g.beside edit.segment waits).2

module _ {D : Type 0} (z : SharedState D) (s u : SeatState) (e : Installed) (one : IsOneStore z.opened z.first) where
  -- of the devices of a call, in the world in which the seat held both turns
  module _ (busy : IsBusy z s u e) (next : Installed) (VersionSet : VersionSetState → VersionSetState → Type 0) (tables : TablesBecame z e next VersionSet) (now : WriteState) (Log : LogState → LogState → Type 0) (log : LogBecame z busy.unclosed.0 now Log) where
    abbrev world : World
    world = busy.unclosed.1.world

    sound : IsSound world
    sound = reached_is_sound world busy.unclosed.1.there.reached

    here : world.installed ≡ tables.before.state
    here = busy.at_once.0 ∙ sym tables.before_is

    there : world.writes ≡ log.before.state
    there = busy.at_once.1 ∙ sym log.before_is

    -- the devices have the store's id
    id_of_log : log.before.wal.id ≡ one.wal.id
    id_of_log = log.log.id ∙ ap (λ (w : WalState). w.id) (same_some log.before.first one.wal (sym log.of_store ∙ one.log))

    id_of_tables : tables.before.set.manifest.log.id ≡ one.wal.id
    id_of_tables = tables.edits.id ∙ ap (λ (x : TableSetState). x.manifest.log.id) (same_some tables.before.first one.set (sym tables.of_store ∙ one.tables)) ∙ one.id

    history_seen : u.knows.participant.seen ≡ log.before.state.history
    history_seen = sym busy.history_is ∙ ap (λ (t : WriteState). t.history) (sym log.before_is)

    opens_in : (asked : Option InstalledEdit) → IfSome asked (λ edit. (place : ℕ) × (edit ≡ after_renewal u.knows.participant.seen place e.last)) → NamesItsSegment tables.before tables.after log.before log.after asked
        → IfSome asked (λ edit. undone_last log.before.state.history ≡ None) → OpensInRenewal tables.before tables.after log.before log.after asked
    opens_in asked made named whole l m t left =
        let made_here = subst (λ (y : List Entry × Installed). IfSome asked (λ edit. (place : ℕ) × (edit ≡ after_renewal y.0 place y.1.last))) (λ i. (history_seen i, sym tables.before_is i)) made in
        opens_renewing tables.before log.before log.log world sound here there tables.after log.after asked (renewed_at_end tables.before log.before log.log world sound here there asked made_here whole) named
        (subst (λ (n : ℕ). n < 2 ^ 32) (sym id_of_tables) one.id_fits) (id_of_log ∙ sym id_of_tables) l m t left

    -- where the log has a base at the end of its history, that is no undo
    whole_based : now.log ≡ busy.unclosed.0.log → now.segment.base ≡ length busy.unclosed.0.history → undone_last log.before.state.history ≡ None
    whole_based logs based =
        ap (λ (t : WriteState). undone_last t.history) (sym there)
        ∙ whole_at world sound log.after log.still_log (ap (λ (t : WriteState). t.log) log.after_is ∙ logs ∙ ap (λ (t : WriteState). t.log) (sym busy.at_once.1))
        (ap (λ (t : WriteState). t.segment.base) log.after_is ∙ based ∙ ap (λ (t : WriteState). length t.history) (sym busy.at_once.1))

  module _ (Goes : Participant → Type 0) where
    pub opens_renewed : (done : Renewed) (k : HasRenewed Goes z s u e done) → OpensInRenewal k.tables.before k.tables.after k.log.before k.log.after (Some (after_renewal u.knows.participant.seen k.place e.last))
    opens_renewed done k =
        opens_in k.busy _ _ k.tables _ _ k.log (Some (after_renewal u.knows.participant.seen k.place e.last)) (k.place, refl) k.log.so.1
        (whole_based k.busy _ _ k.tables _ _ k.log refl (ap (λ (h : List Entry). length h) (sym k.busy.history_is)))

    pub opens_broken : (k : HasBrokenOff Goes z s u e) → OpensInRenewal k.fault.before k.fault.after k.log.before k.log.after k.asked
    opens_broken k =
        let x = k.log in
        let tables : x.after.state.history ≡ x.before.state.history = ap (λ (t : WriteState). t.history) x.after_is ∙ ap (λ (t : WriteState). t.history) (sym x.before_is) in
        opens_in k.busy _ _ k.fault _ _ x k.asked k.next x.so.1
        (subst (λ (h : List Entry). IfSome k.asked (λ edit. undone_last h ≡ None)) tables (whole_waiting x.after x.still_log k.asked (ap (λ (t : WriteState). t.next) x.after_is)))

    pub opens_log_fault : (k : HasLogFault Goes z s u e) → OpensInRenewal k.tables.before k.tables.after k.log.before k.log.after None
    opens_log_fault k = opens_in k.busy _ _ k.tables _ _ k.log None tt k.log.so.2 tt

    pub opens_memory : (k : HasNoMemory Goes z s u e) → OpensInRenewal k.tables.before k.tables.after k.log.before k.log.after None
    opens_memory k = opens_in k.busy _ _ k.tables _ _ k.log None tt k.log.so.1 tt
