-- What the two devices store while a table is written and an edit is installed.
use Rattle.std.proofs.Common.{◌≡◌, ℕ, ◌≤◌, Bool, true, false, List, [], ◌∷◌, ◌++◌, length, Some, Ok, Err, refl, sym, ap, subst, arith}
use Rattle.wp_model.specs.declared.version.Version.{Version}
use Rattle.wp_outside.specs.Disk.{Moment, IsImage, IfKnown, Each, Passes, synced}
use Rattle.wp_outside.proofs.Moments.{image_of_synced}
use Rattle.wp_gatelog.specs.Durability.{LosesNoRecord}
use Rattle.wp_gatelog.specs.Moments.{Leaves, IsSynced}
use Rattle.wp_gatelog.specs.declared.log.AppendError.TheVariants.{DiskFault}
use Rattle.wp_gatelog.proofs.MomentLemmas.{goes_map, known_map}
use Rattle.wp_gatelog.proofs.SurvivalLemmas.{goes_passes}
use Rattle.wp_manifest.specs.Edit.{Edit, IsEdit, no_edit}
use Rattle.wp_manifest.specs.Manifest.{ManifestState, StoresEdits, InstallRefused}
use Rattle.wp_manifest.specs.Spelling.{MAGIC, IsManifestOrNext, last_edit}
use Rattle.wp_table.specs.File.{HasTables}
use Rattle.wp_table.specs.Table.{SpellsTable, written_bytes}
use Rattle.wp_tableset.specs.Changes.{InstallsEdit, LosesNoTable, placed, staying}
use Rattle.wp_tableset.specs.Device.{BeginsWith, IsEnd, KeepsFronts, GrowsFrom}
use Rattle.wp_tableset.specs.Install.{IsReady}
use Rattle.wp_tableset.specs.Set.{TableSetState, LeavesTables, RestsWith, StoresTables}
use Rattle.wp_tableset.specs.declared.gone.Gone.{Gone}
use Rattle.wp_tableset.specs.declared.gone.Gone.TheVariants.{Frozen, Tables}
use Rattle.wp_tableset.proofs.FileLemmas.{tables_begin, tables_in_front, tables_on, table_behind}

-- ---- the tables in the images

-- what is there for good, a crash leaves
pub left_of : (id : ℕ) (edit : Edit) (parts : List (List Version)) (ms : List Moment) → IfKnown ms (RestsWith id edit parts) → IfKnown ms (LeavesTables id edit parts)
left_of id edit parts ms rests = known_map (RestsWith id edit parts) (LeavesTables id edit parts) leaves ms rests
  where
    leaves : (m : Moment) → RestsWith id edit parts m → LeavesTables id edit parts m
    leaves m rests image h =
        subst (λ (l : List ℕ). HasTables id edit.flushed l edit.tables parts) (sym (image_of_synced rests.bytes image (subst (λ (n : Moment). IsImage n image) rests.on_disk h))) rests.tables

-- an edit without tables has them all
pub none_left : (id : ℕ) (ms : List Moment) → IfKnown ms (LeavesTables id no_edit [])
none_left id [] = tt
none_left id (m ∷ past) = λ image h. tt

-- ---- a table is written

abbrev pub Grows : List Moment → List Moment → Type 0
Grows old mid = (before : List ℕ) → IsSynced before old → GrowsFrom before old mid

abbrev pub SyncsBehind : List Moment → List Moment → List ℕ → Type 0
SyncsBehind old mid bytes = IfKnown old (λ m. IsSynced (m.reads ++ bytes) mid)

read_bytes : (m : Moment) (bytes : List ℕ) → m ≡ synced bytes → m.reads ≡ bytes
read_bytes m bytes is = ap (λ (n : Moment). n.reads) is

module _ (id : ℕ) (last : Edit) (parts : List (List Version)) where
  -- the old tables stay
  pub passes_grown : (old mid : List Moment) → Grows old mid → IfKnown old (RestsWith id last parts) → Passes (LeavesTables id last parts) old mid
  passes_grown [] mid grows rests = goes_passes (LeavesTables id last parts) [] mid (grows [] tt).kept
  passes_grown (m ∷ past) mid grows rests =
      goes_passes (LeavesTables id last parts) (m ∷ past) mid (goes_map (Leaves (BeginsWith rests.bytes)) (LeavesTables id last parts)
      (λ n begins image h. tables_begin id last.flushed rests.bytes image last.tables parts rests.tables (begins image h)) (m ∷ past) mid (grows rests.bytes rests.on_disk).kept)

  newest : (P : Moment → Type 0) (old mid : List Moment) → IfKnown old P → Passes P old mid → IfKnown mid P
  newest P old mid before ([], is, each) = subst (λ (ms : List Moment). IfKnown ms P) (sym is) before
  newest P old mid before (m ∷ more, is, each) = subst (λ (ms : List Moment). IfKnown ms P) (sym is) each.0

  pub left_grown : (old mid : List Moment) → Grows old mid → IfKnown old (RestsWith id last parts) → IfKnown mid (LeavesTables id last parts)
  left_grown old mid grows rests = newest (LeavesTables id last parts) old mid (left_of id last parts old rests) (passes_grown old mid grows rests)

  pub fronts_grown : (old mid : List Moment) → Grows old mid → IfKnown old (RestsWith id last parts) → KeepsFronts old mid
  fronts_grown [] mid grows rests = (grows [] tt).fronts
  fronts_grown (m ∷ past) mid grows rests = (grows rests.bytes rests.on_disk).fronts

  unknown_still : (P : Moment → Type 0) (mid : List Moment) → Grows [] mid → IfKnown mid P
  unknown_still P mid grows = subst (λ (ms : List Moment). IfKnown ms P) (sym (grows [] tt).kept) tt

  pub rests_grown : (bytes : List ℕ) (old mid : List Moment) → Grows old mid → SyncsBehind old mid bytes → IfKnown old (RestsWith id last parts) → IfKnown mid (RestsWith id last parts)
  rests_grown bytes [] mid grows syncs rests = unknown_still (RestsWith id last parts) mid grows
  rests_grown bytes (m ∷ past) mid grows syncs rests =
      known_map (λ n. n ≡ synced (m.reads ++ bytes)) (RestsWith id last parts)
      (λ n is. record {
        bytes = m.reads ++ bytes;
        on_disk = is;
        tables = tables_in_front id last.flushed m.reads bytes last.tables parts (subst (λ (l : List ℕ). HasTables id last.flushed l last.tables parts) (sym (read_bytes m rests.bytes rests.on_disk)) rests.tables);
      }) mid syncs

-- of the old tables those that stay are there still, with more entries flushed
pub stay_there : (id old flushed : ℕ) (bytes : List ℕ) (gone : Gone) (places : List (ℕ × ℕ)) (parts : List (List Version)) → old ≤ flushed → HasTables id old bytes places parts → HasTables id flushed bytes (staying gone places) (staying gone parts)
stay_there id old flushed bytes Frozen places parts later has = tables_on id old flushed bytes places parts later has
stay_there id old flushed bytes Tables places parts later has = tt

-- the new table is there too
module _ (id : ℕ) (last : Edit) (parts : List (List Version)) (gone : Gone) (v : Version) (others : List Version) (flushed log place : ℕ) (later : last.flushed ≤ flushed) (old mid : List Moment) (grows : Grows old mid) (end : IsEnd old place) (syncs : SyncsBehind old mid (written_bytes id (v ∷ others))) (is : SpellsTable id flushed (v ∷ others) (written_bytes id (v ∷ others))) where
  abbrev bytes : List ℕ
  bytes = written_bytes id (v ∷ others)

  abbrev next : Edit
  next = record { flushed = flushed; place = Some log; tables = placed id (v ∷ others) place ∷ staying gone last.tables }

  abbrev now : List (List Version)
  now = (v ∷ others) ∷ staying gone parts

  pub table_rests : IfKnown old (RestsWith id last parts) → IfKnown mid (RestsWith id next now)
  table_rests rests = by old grows end syncs rests
    where
      by : (ms : List Moment) → Grows ms mid → IsEnd ms place → SyncsBehind ms mid bytes → IfKnown ms (RestsWith id last parts) → IfKnown mid (RestsWith id next now)
      by [] grows end syncs rests = unknown_still id last parts (RestsWith id next now) mid grows
      by (m ∷ past) grows end syncs rests =
          known_map (λ n. n ≡ synced (m.reads ++ bytes)) (RestsWith id next now)
          (λ n on_disk. record {
            bytes = m.reads ++ bytes;
            on_disk = on_disk;
            tables = (
              table_behind id flushed m.reads bytes place (v ∷ others) end is,
              stay_there id last.flushed flushed (m.reads ++ bytes) gone last.tables parts later
                  (tables_in_front id last.flushed m.reads bytes last.tables parts (subst (λ (l : List ℕ). HasTables id last.flushed l last.tables parts) (sym (read_bytes m rests.bytes rests.on_disk)) rests.tables)),
            );
          }) mid syncs

-- ---- the manifest alone

module _ (old new : ManifestState) (moments : List Moment) (faults : ℕ) (halted : Bool) (edit : Edit) (passed : (edits : List Edit) → StoresEdits old edits no_edit → old.log.closed ≡ false → Passes (Leaves (IsManifestOrNext old.log.id edits edit)) old.log.moments new.log.moments) where
  pub edit_installed : {T E : Type 0} (x : T) → halted ≡ false → ((edits : List Edit) → StoresEdits old edits no_edit → StoresEdits new (edits ++ edit ∷ []) no_edit) → new.edit ≡ edit → new.log.faults ≡ old.log.faults
      → InstallsEdit {E = E} (record { manifest = old; moments = moments; faults = faults; halted = halted }) (record { manifest = new; moments = moments; faults = faults; halted = halted }) edit (Ok x)
  edit_installed x running stores last unfailed = record { moments = refl; faults = refl; passed = passed; installed = record { running = running; unfailed = unfailed; last = last; stores = stores }; refused = tt }

  pub edit_failed : {T E : Type 0} (e : E) → InstallRefused old new edit DiskFault
      → InstallsEdit {T = T} (record { manifest = old; moments = moments; faults = faults; halted = halted }) (record { manifest = new; moments = moments; faults = faults; halted = true }) edit (Err e)
  edit_failed e refused = record {
    moments = refl;
    faults = refl;
    passed = passed;
    installed = tt;
    refused = record { halted = refl; rose = refused.1; last = ap (λ (m : ManifestState). m.edit) refused.2; stores = refused.3; closed = ap (λ (m : ManifestState). m.log.closed) refused.2 };
  }

-- ---- what stays

pub keeps_all : (old new : TableSetState) → Grows old.moments new.moments → old.halted ≡ false → ((edits : List Edit) (next : Edit) → StoresEdits old.manifest edits next → LosesNoRecord MAGIC old.manifest.log.moments new.manifest.log.moments) → new.manifest.log.id ≡ old.manifest.log.id → old.faults ≤ new.faults → old.manifest.log.faults ≤ new.manifest.log.faults → LosesNoTable old new
keeps_all old new grows running durable same later manifest_later = record {
  tables = λ edits next parts next_parts stores. passes_grown old.manifest.log.id old.manifest.edit parts old.moments new.moments grows (stores.rests running);
  fronts = λ edits next parts next_parts stores. fronts_grown old.manifest.log.id old.manifest.edit parts old.moments new.moments grows (stores.rests running);
  durable = durable;
  id = same;
  later = later;
  manifest_later = manifest_later;
}

-- a device that is not called loses nothing
pub loses_none : (moments : List Moment) → LosesNoRecord MAGIC moments moments
loses_none moments log records = ([], refl, tt)

-- ---- the set as it is made

last_counted : (edits : List Edit) → Each IsEdit edits → length (last_edit edits).tables ≤ (last_edit edits).flushed
last_counted [] each = omega arith
last_counted (edit ∷ []) each = each.0.count
last_counted (edit ∷ second ∷ others) each = last_counted (second ∷ others) each.1

pub ready_of : (manifest : ManifestState) (edits : List Edit) → StoresEdits manifest edits no_edit → manifest.log.closed ≡ false → IsReady manifest false
ready_of manifest edits stores running = record { running = λ _. running; count = rw stores.last (last_counted edits stores.spelled.are) }

pub stores_new : (set : TableSetState) (edits : List Edit) (parts : List (List Version)) → StoresEdits set.manifest edits no_edit → IfKnown set.moments (RestsWith set.manifest.log.id set.manifest.edit parts) → StoresTables set edits no_edit parts []
stores_new set edits parts stores rests = record {
  manifest = stores;
  rests = λ _. rests;
  left = left_of set.manifest.log.id set.manifest.edit parts set.moments rests;
  left_next = none_left set.manifest.log.id set.moments;
}
