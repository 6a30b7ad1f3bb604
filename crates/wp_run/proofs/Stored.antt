-- What an ended store leaves of the devices that it was opened from.
use Rattle.std.proofs.Common.{◌≡◌, ◌⊎◌, ⊎_elim, inl, inr, ℕ, ◌+◌, ◌≤◌, Bool, true, false, List, [], Some, refl, sym, subst, ap, ◌∙◌, arith}
use Rattle.wp_model.specs.declared.entry.Entry.{Entry}
use Rattle.wp_model.specs.declared.segment.Segment.{Segment}
use Rattle.wp_model.specs.Flushed.{InstalledEdit}
use Rattle.wp_cuts.specs.Cut.{Cut, cut_at}
use Rattle.wp_outside.specs.Disk.{Moment, IfKnown, ReadsItself}
use Rattle.wp_outside.specs.Faults.{Rose}
use Rattle.wp_gatelog.specs.Spelling.{IsUnmadeAt}
use Rattle.wp_manifest.specs.Spelling as manifest
use Rattle.wp_wal.specs.Spelling.{MAGIC, IsLogAt}
use Rattle.wp_wal.specs.Wal.{WalState, LeavesCutOrNext, LosesNothingAt}
use Rattle.wp_tableset.specs.Device.{KeepsFronts}
use Rattle.wp_tableset.specs.Set.{TableSetState}
use Rattle.wp_gatelog.specs.Durability.{LosesNoRecord}
use Rattle.wp_contents.specs.Opens.{AllKnown, OpensTo, installed_of}
use Rattle.wp_core.specs.Lists.{one_if}
use Rattle.wp_opened.specs.Filled.{running_set}
use Rattle.wp_shared.specs.Ended.{IsEnded}
use Rattle.wp_opened.specs.OpenedFrom.{IsOpenedFrom}
use Rattle.wp_shared.specs.Seats.{SharedState, SeatState}
use Rattle.wp_replies.specs.Explains.{Faults}
use Rattle.wp_threads.specs.Explained.{found_in, left_in, failed_in, faults_in}
use Rattle.wp_run.specs.Crash.{CrashOpens}
use Rattle.wp_run.specs.Headline.{Serving}
use Rattle.wp_run.specs.Met.{named_cut, IsStored}
use Rattle.wp_status.specs.Use.{before, after, IsDurable, DisksUse}
use Rattle.wp_threads.proofs.Counted.{none_or_some}
use Rattle.wp_run.proofs.Crashed.{crash_opens}
use Rattle.wp_run.proofs.Keeping.{records_trans, fronts_trans, rose_since}
use Rattle.wp_run.proofs.Opened.{fronts_synced}

some_same : {X : Type 0} (x y : X) → Some x ≡ Some y → x ≡ y
some_same x y e = cc

was_none : (b : Bool) → one_if b ≡ 0 → b ≡ false
was_none false e = refl
was_none true e = absurd (omega (arith, e))

was_one : (b : Bool) → 1 ≤ one_if b → b ≡ true
was_one true le = refl
was_one false le = absurd (omega (arith, le))

pub at_most_one : (b : Bool) → one_if b ≤ 1
at_most_one true = omega arith
at_most_one false = omega arith

module _ {D : Type 0} {z : SharedState D} (asked : ℕ) (disks : DisksUse) {seats : List SeatState} {history : List Entry} (opened : IsOpenedFrom asked (before disks) z) (ended : IsEnded z seats history (after disks)) where
  same_wal : ended.opened.wal ≡ opened.wal
  same_wal = some_same ended.opened.wal opened.wal (sym ended.opened.log ∙ opened.log_is)

  same_set : ended.opened.set ≡ running_set opened.edits opened.tables opened.tables_faults
  same_set = some_same ended.opened.set (running_set opened.edits opened.tables opened.tables_faults) (sym ended.opened.tables ∙ opened.set_is)

  -- no acknowledged edit is lost, and no bytes of a table
  pub is_durable : ReadsItself disks.tables.before → IsDurable disks
  is_durable itself =
      let since = ended.since in
      let wal = ap (λ (w : WalState). w.faults) same_wal in let edits = ap (λ (s : TableSetState). s.manifest.log.faults) same_set in let tables = ap (λ (s : TableSetState). s.faults) same_set in
      record {
        manifest =
            records_trans 0 manifest.MAGIC disks.manifest.before opened.edits.log.moments disks.manifest.after opened.found.manifest.durable
            (subst (λ (s : TableSetState). LosesNoRecord manifest.MAGIC s.manifest.log.moments disks.manifest.after) same_set since.manifest_durable);
        tables =
            fronts_trans disks.tables.before opened.tables disks.tables.after
            (subst (λ (ms : List Moment). KeepsFronts disks.tables.before ms) (sym opened.parts.synced) (fronts_synced disks.tables.before itself))
            (subst (λ (s : TableSetState). KeepsFronts s.moments disks.tables.after) same_set since.tables_durable);
        log_later = omega (arith, opened.found.unfailed.0, since.log_later, wal);
        manifest_later = omega (arith, opened.found.unfailed.1, since.manifest_later, edits);
        tables_later = omega (arith, opened.found.unfailed.2, since.tables_later, tables);
      }

-- what is stored then
module _ {D : Type 0} {z : SharedState D} (s : Serving) {seats : List SeatState} {history : List Entry} (opened : IsOpenedFrom s.choice.store.id (before s.disks) z) (ended : IsEnded z seats history (after s.disks))
    (same_edit : ended.first_edit ≡ installed_of opened.wal.segment.base opened.edits.edit opened.versions.tables) where
  wal_is : ended.opened.wal ≡ opened.wal
  wal_is = same_wal s.choice.store.id s.disks opened ended

  pub was_opened : AllKnown s.disks.log.before s.disks.manifest.before s.disks.tables.before (OpensTo ended.opened.wal.id z.opened ended.first_edit)
  was_opened = subst (λ (x : WalState × InstalledEdit). AllKnown s.disks.log.before s.disks.manifest.before s.disks.tables.before (OpensTo x.0.id z.opened x.1)) (λ i. (sym wal_is i, sym same_edit i)) opened.found.opens

  -- the segment that was found is the log's as it was opened
  found_segment : ended.first_edit.segment ≡ opened.wal.segment
  found_segment = ap (λ (e : InstalledEdit). e.segment) same_edit ∙ (λ i. record { place = sym opened.parts.opened.placed i; base = opened.wal.segment.base })

  abbrev faults : Faults
  faults = faults_in ended

  module _ (closed : faults.log + faults.renewals ≡ one_if ended.writes.closed) (by_device : 1 ≤ faults.log → (ended.writes.closed ≡ true) × (ended.writes.stopped ≡ false)) (behind : 1 ≤ faults.renewals → (ended.edits.halted ≡ true) × (ended.writes.stopped ≡ true) × (ended.writes.failed ≡ [])) where
    no_record : faults.log ≡ 0 → ended.writes.failed ≡ []
    no_record none = elim (none_or_some faults.renewals) [
      | inl nought ↦ ended.none_failed (was_none ended.writes.closed (omega (arith, closed, none, nought)))
      | inr stop ↦ (behind stop).2
    ]

    -- where the log's device did not fail, the log is open, or a renewal stopped it
    by_no_fault : faults.log ≡ 0 → (ended.writes.closed ≡ false) ⊎ (ended.writes.stopped ≡ true)
    by_no_fault none = elim (none_or_some faults.renewals) [
      | inl nought ↦ inl (was_none ended.writes.closed (omega (arith, closed, none, nought)))
      | inr stop ↦ inr (behind stop).1
    ]

    pub crash_leaves : CrashOpens faults ended.opened.wal.id (left_in ended) (failed_in ended) s.disks.log.after s.disks.manifest.after s.disks.tables.after
    crash_leaves = crash_opens ended.writes ended.edits history faults.log faults.renewals ended.opened.wal.id s.disks.log.after s.disks.manifest.after s.disks.tables.after ended.log no_record ended.none_asked ended.opens

    -- the last edit names the segment that stores the history
    left_cut : ended.cut ≡ named_cut (left_in ended)
    left_cut = ended.is_cut.is ∙ ap (cut_at history) (ended.based ∙ ap (λ (g : Segment). g.base) (sym ended.in_place))

    pub is_stored : IsStored s.disks s.choice.store.id ended.opened.wal.id (found_in ended) (left_in ended) (failed_in ended) faults
    is_stored =
        let since = ended.since in let old = s.disks in let set = same_set s.choice.store.id s.disks opened ended in
        let log_before = ap (λ (w : WalState). w.faults) wal_is ∙ opened.found.unfailed.0 in
        let manifest_before = ap (λ (t : TableSetState). t.manifest.log.faults) set ∙ opened.found.unfailed.1 in
        let tables_before = ap (λ (t : TableSetState). t.faults) set ∙ opened.found.unfailed.2 in
        let opens = opened.parts.opened in record {
          made = subst (λ (x : WalState × InstalledEdit). IfKnown old.log.before (λ m. IsUnmadeAt x.1.segment.place m.reads → x.0.id ≡ s.choice.store.id)) (λ i. (sym wal_is i, sym same_edit i)) opens.made;
          spelled = subst (λ (x : WalState × InstalledEdit). IfKnown old.log.before (λ m. IsLogAt x.0.id x.1.segment.place (cut_at z.opened x.1.segment.base) m.reads)) (λ i. (sym wal_is i, sym same_edit i)) opens.found;
          stored = subst (λ (x : ℕ × Cut). IfKnown old.log.after (LeavesCutOrNext ended.opened.wal.id x.0 x.1 ended.writes.failed)) (λ i. (ap (λ (g : Segment). g.place) (sym ended.in_place) i, left_cut i)) ended.stored;
          durable = λ same.
              let stays : ended.writes.segment ≡ ended.opened.wal.segment = sym ended.in_place ∙ (same ∙ (found_segment ∙ ap (λ (w : WalState). w.segment) (sym wal_is))) in
              let later : LosesNothingAt opened.wal.segment.place opened.wal.moments old.log.after = subst (λ (w : WalState). LosesNothingAt w.segment.place w.moments old.log.after) wal_is (since.log_durable stays) in
              subst (λ (g : Segment). LosesNothingAt g.place old.log.before old.log.after) (sym found_segment) (records_trans opened.wal.segment.place MAGIC old.log.before opened.wal.moments old.log.after opened.found.log.durable later);
          unfailed = no_record;
          whole = ended.whole;
          once = let most = at_most_one ended.writes.closed in omega (arith, closed, most);
          behind = elim (none_or_some faults.renewals) [
            | inl nought ↦ omega (arith, nought)
            | inr stop ↦ let halted : faults.tables ≡ 1 = ap one_if (behind stop).0 in let most = at_most_one ended.writes.closed in omega (arith, closed, most, halted)
          ];
          cause = λ some.
              let k = by_device some in
              rose_since old.log.faults_before ended.opened.wal.faults old.log.faults_after (omega (arith, log_before)) (since.log_cause k.0 k.1);
          uncaused = λ none. since.log_unfailed (by_no_fault none) ∙ log_before;
          tables_once = at_most_one ended.edits.halted;
          tables_cause = λ up. ⊎_elim
              (λ (rose : Rose ended.opened.set.manifest.log.faults old.manifest.faults_after). inl (rose_since old.manifest.faults_before ended.opened.set.manifest.log.faults old.manifest.faults_after (omega (arith, manifest_before)) rose))
              (λ (rose : Rose ended.opened.set.faults old.tables.faults_after). inr (rose_since old.tables.faults_before ended.opened.set.faults old.tables.faults_after (omega (arith, tables_before)) rose))
              (since.tables_cause (was_one ended.edits.halted up));
          tables_uncaused = λ none. let same = since.tables_unfailed (was_none ended.edits.halted none) in (same.0 ∙ manifest_before, same.1 ∙ tables_before);
        }
