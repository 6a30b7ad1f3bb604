-- What the stages of an edit make of a set.
use Rattle.std.proofs.Common.{◌≡◌, ℕ, ◌≤◌, sym, subst, ◌<◌, true, false, List, [], ◌∷◌, ◌++◌, length, Option, Some, None, refl, ap, ◌∙◌, arith}
use Rattle.std.specs.List.{list_all}
use Rattle.wp_model.specs.declared.version.Version.{Version}
use Rattle.wp_outside.specs.Disk.{Moment, IfKnown, added, after_write, after_sync}
use Rattle.wp_outside.specs.Faults.{Rose}
use Rattle.wp_gatelog.specs.Moments.{Leaves}
use Rattle.wp_gatelog.proofs.MomentLemmas.{known_map}
use Rattle.wp_manifest.specs.Edit.{Edit, no_edit}
use Rattle.wp_manifest.specs.Manifest.{StoresEdits}
use Rattle.wp_manifest.specs.Room.{with_newest_at}
use Rattle.wp_table.specs.Table.{is_flushed, is_numbered, written_bytes}
use Rattle.wp_table.specs.Walk.{BuiltTable}
use Rattle.wp_tableset.specs.Changes.{Asked, NotWritten, edit_for, new_places, parts_after, staying}
use Rattle.wp_tableset.specs.Device.{IsEnd}
use Rattle.wp_tableset.specs.Install.{HasSome, IsReady, IsReadyEdit, IsWrittenEdit, MayInstall, built_of, unplaced}
use Rattle.wp_tableset.specs.Set.{TableSetState, LeavesTables, RestsWith, StoresTables}
use Rattle.wp_tableset.specs.declared.gone.Gone.{Gone}
use Rattle.wp_tableset.specs.declared.gone.Gone.TheVariants.{Frozen, Tables}
use Rattle.wp_tableset.proofs.DeviceLemmas.{unmoved_grows}
use Rattle.wp_tableset.proofs.SetLemmas.{Grows, SyncsBehind, left_grown, left_of, none_left, rests_grown, stay_there, table_rests}

-- a device that is not called keeps its bytes
pub unmoved_set : (moments : List Moment) → Grows moments moments
unmoved_set moments before known = unmoved_grows before moments moments refl

-- ---- the edit is made ready

unplaced_built : (id : ℕ) (versions : List Version) → unplaced (built_of id versions) ≡ new_places id versions 0
unplaced_built id [] = refl
unplaced_built id (v ∷ versions) = refl

pub built_some : (id : ℕ) (versions : List Version) (built : BuiltTable) → 1 ≤ length versions → built.bytes ≡ written_bytes id versions → built.versions ≡ versions → Some built ≡ built_of id versions
built_some id [] built some bytes same = absurd (omega arith)
built_some id (v ∷ versions) built some bytes same = λ i. Some (record { bytes = bytes i; versions = same i })

pub ready_places : (set : TableSetState) (asked : Asked) (id : ℕ) (built : Option BuiltTable) (first others items : List (ℕ × ℕ)) → id ≡ set.manifest.log.id → built ≡ built_of id asked.versions → first ≡ unplaced built → others ≡ staying asked.gone set.manifest.edit.tables → items ≡ first ++ others
    → items ≡ (edit_for set asked 0 0).tables
ready_places set asked id built first others items same is begins rest all =
    let named : first ≡ new_places set.manifest.log.id asked.versions 0 = begins ∙ ap unplaced is ∙ unplaced_built id asked.versions ∙ ap (λ (n : ℕ). new_places n asked.versions 0) same in
    all ∙ (λ i. named i ++ rest i)

-- a version that was flushed has a number, which is at least 1
flushed_some : (flushed : ℕ) (v : Version) (versions : List Version) → list_all is_numbered (v ∷ versions) ≡ true → list_all (is_flushed flushed) (v ∷ versions) ≡ true → 0 < flushed
flushed_some flushed v versions numbered in_range = grind arith

-- the edit has no more tables than flushed entries
pub asked_count : (set : TableSetState) (gone : Gone) (versions : List Version) (flushed log place : ℕ) → length set.manifest.edit.tables ≤ set.manifest.edit.flushed → MayInstall set (record { gone = gone; versions = versions; flushed = flushed })
    → length (edit_for set (record { gone = gone; versions = versions; flushed = flushed }) log place).tables ≤ flushed
asked_count set Frozen [] flushed log place count may = omega (arith, count, may.later)
asked_count set Frozen (v ∷ versions) flushed log place count may = omega (arith, count, may.more refl (omega arith))
asked_count set Tables [] flushed log place count may = omega arith
asked_count set Tables (v ∷ versions) flushed log place count may = omega (arith, flushed_some flushed v versions may.numbered may.flushed_all)

-- what is ready with a table names that table
pub ready_names : (set : TableSetState) (edit : Edit) (built : BuiltTable) (gone : Gone) (versions : List Version) (flushed : ℕ) → IsReadyEdit set (record { edit = edit; built = Some built; asked = record { gone = gone; versions = versions; flushed = flushed } }) → 1 ≤ length edit.tables
ready_names set edit built gone [] flushed ready = absurd cc
ready_names set edit built gone (v ∷ versions) flushed ready = omega (arith, ap (λ (e : Edit). length e.tables) ready.edit)

some_same : (x y : BuiltTable) → Some x ≡ Some y → x ≡ y
some_same x y is = cc

-- ---- the table is written

module _ (old : TableSetState) (running : old.halted ≡ false) (gone : Gone) (flushed : ℕ) where
  abbrev asked : List Version → Asked
  asked versions = record { gone = gone; versions = versions; flushed = flushed }

  -- without a table nothing is
  pub none_written : (versions : List Version) (edit : Edit) → IsReadyEdit old (record { edit = edit; built = None; asked = asked versions }) → IsWrittenEdit old old (record { edit = edit; asked = asked versions })
  none_written (v ∷ versions) edit ready = absurd cc
  none_written [] edit ready = record {
    may = ready.may;
    in_order = ready.in_order;
    place = 0;
    edit = ready.edit;
    changed = refl;
    wrote = refl;
    stores = λ edits parts stores. stores;
    there = λ log edits parts stores. known_map (RestsWith old.manifest.log.id old.manifest.edit parts) (RestsWith old.manifest.log.id (edit_for old (asked []) log 0) (parts_after (asked []) parts))
        (λ m rests. record { bytes = rests.bytes; on_disk = rests.on_disk; tables = stay_there old.manifest.log.id old.manifest.edit.flushed flushed rests.bytes gone old.manifest.edit.tables parts ready.may.later rests.tables })
        old.moments (stores.rests running);
  }

  module _ (mid : List Moment) (faults : ℕ) (grows : Grows old.moments mid) where
    pub not_written : Rose old.faults faults → NotWritten old (record old { moments = mid; faults = faults; halted = true })
    not_written rose = record {
      halted = refl;
      rose = rose;
      manifest = refl;
      stores = λ edits parts stores. record {
        manifest = stores.manifest;
        rests = λ is. absurd cc;
        left = left_grown old.manifest.log.id old.manifest.edit parts old.moments mid grows (stores.rests running);
        left_next = none_left old.manifest.log.id mid;
      };
    }

    pub some_written : (versions : List Version) (place : ℕ) (edit next : Edit) (built : BuiltTable) → IsReadyEdit old (record { edit = edit; built = Some built; asked = asked versions }) → faults ≡ old.faults → IsEnd old.moments place → SyncsBehind old.moments mid built.bytes
        → mid ≡ added after_sync (added (after_write place built.bytes) old.moments) → next ≡ with_newest_at place edit → IsWrittenEdit old (record old { moments = mid; faults = faults }) (record { edit = next; asked = asked versions })
    some_written [] place edit next built ready unfailed end syncs calls named = absurd cc
    some_written (v ∷ versions) place edit next built ready unfailed end syncs calls named =
        let id : ℕ = old.manifest.log.id in
        let bytes : built.bytes ≡ written_bytes id (v ∷ versions) = ap (λ (b : BuiltTable). b.bytes) (some_same built (record { bytes = written_bytes id (v ∷ versions); versions = v ∷ versions }) ready.built) in
        let behind : SyncsBehind old.moments mid (written_bytes id (v ∷ versions)) = rw bytes at syncs in record {
          may = ready.may;
          in_order = ready.in_order;
          place = place;
          edit = named ∙ ap (λ (e : Edit). with_newest_at place e) ready.edit;
          changed = λ i. record old { moments = mid; faults = unfailed i };
          wrote = (end, (written_bytes id (v ∷ versions), refl, rw bytes at calls));
          stores = λ edits parts stores.
              let rests : IfKnown mid (RestsWith id old.manifest.edit parts) = rests_grown id old.manifest.edit parts built.bytes old.moments mid grows syncs (stores.rests running) in
              record { manifest = stores.manifest; rests = λ _. rests; left = left_of id old.manifest.edit parts mid rests; left_next = none_left id mid };
          there = λ log edits parts stores. table_rests id old.manifest.edit parts gone v versions flushed log place ready.may.later old.moments mid grows end behind (ready.spelled (omega arith)) (stores.rests running);
        }

-- ---- the edit is installed

-- a set that may go on, with a further table written, has no more of them than flushed entries
pub written_count : (old set : TableSetState) (edit : Edit) (asked : Asked) → IsReady set.manifest set.halted → IsWrittenEdit old set (record { edit = edit; asked = asked }) → length edit.tables ≤ edit.flushed
written_count old set edit asked ready written =
    let count : length old.manifest.edit.tables ≤ old.manifest.edit.flushed = rw written.changed at ready.count in
    rw written.edit (asked_count old asked.gone asked.versions asked.flushed 0 written.place count written.may)

-- the tables of the edit before, and of this one, are on the device
module _ (old set : TableSetState) (edit : Edit) (asked : Asked) (log : ℕ) (written : IsWrittenEdit old set (record { edit = edit; asked = asked })) (edits : List Edit) (parts : List (List Version)) (stores : StoresTables old edits no_edit parts []) where
  pub edits_there : StoresEdits set.manifest edits no_edit
  edits_there = (written.stores edits parts stores).manifest

  pub last_there : IfKnown set.moments (Leaves (HasSome set set.manifest.edit))
  last_there = known_map (LeavesTables set.manifest.log.id set.manifest.edit parts) (Leaves (HasSome set set.manifest.edit)) (λ m leaves image at. (parts, leaves image at)) set.moments (written.stores edits parts stores).left

  pub next_there : IfKnown set.moments (Leaves (HasSome set (record edit { place = Some log })))
  next_there =
      let next : Edit = edit_for old asked log written.place in
      let is : next ≡ record edit { place = Some log } = ap (λ (e : Edit). record e { place = Some log }) (sym written.edit) in
      let same : old.manifest.log.id ≡ set.manifest.log.id = ap (λ (s : TableSetState). s.manifest.log.id) (sym written.changed) in
      let left = left_of old.manifest.log.id next (parts_after asked parts) set.moments (written.there log edits parts stores) in
      subst (λ (e : Edit). IfKnown set.moments (Leaves (HasSome set e))) is
      (known_map (LeavesTables set.manifest.log.id next (parts_after asked parts)) (Leaves (HasSome set next)) (λ m leaves image at. (parts_after asked parts, leaves image at)) set.moments
      (subst (λ (n : ℕ). IfKnown set.moments (LeavesTables n next (parts_after asked parts))) same left))
