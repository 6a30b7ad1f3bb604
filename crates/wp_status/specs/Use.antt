-- What a call did to each device that it was handed.
use Rattle.std.specs.Prelude.{◌≡◌, ◌≤◌, ℕ, List, Option}
use Rattle.wp_outside.specs.Disk.{Moment}
use Rattle.wp_outside.specs.declared.disk.Disks.{Disks}
use Rattle.wp_gatelog.specs.Durability.{LosesNoRecord}
use Rattle.wp_manifest.specs.Spelling as edits
use Rattle.wp_tableset.specs.Device.{KeepsFronts}
use Rattle.wp_contents.specs.Devices.{DevicesLeft}

pub record DiskUse : Type 1 where
  pub before : List Moment
  pub after : List Moment
  pub faults_before : ℕ
  pub faults_after : ℕ
  pub uncalled : Type 0

abbrev pub disk_use : {D : Type 0} → (D → List Moment) → (D → ℕ) → (old new : D) → DiskUse
disk_use moments faults old new = record { before = moments old; after = moments new; faults_before = faults old; faults_after = faults new; uncalled = new ≡ old }

-- of the three devices of a store
pub record DisksUse : Type 1 where
  pub log : DiskUse
  pub manifest : DiskUse
  pub tables : DiskUse

abbrev pub disks_use : {D : Type 0} → (D → List Moment) → (D → ℕ) → (old new : Disks D) → DisksUse
disks_use moments faults old new =
    record { log = disk_use moments faults old.log new.log; manifest = disk_use moments faults old.manifest new.manifest; tables = disk_use moments faults old.tables new.tables }

-- the devices as a call found them, and as it left them
abbrev pub before : DisksUse → DevicesLeft
before disks = record {
  log = disks.log.before;
  log_faults = disks.log.faults_before;
  manifest = disks.manifest.before;
  manifest_faults = disks.manifest.faults_before;
  tables = disks.tables.before;
  tables_faults = disks.tables.faults_before;
}

abbrev pub after : DisksUse → DevicesLeft
after disks = record {
  log = disks.log.after;
  log_faults = disks.log.faults_after;
  manifest = disks.manifest.after;
  manifest_faults = disks.manifest.faults_after;
  tables = disks.tables.after;
  tables_faults = disks.tables.faults_after;
}

-- What was for good on the manifest's device and the tables' is so afterwards, and no count of faults falls. Of the log's that is said of
-- the place that the edit names, where the store was opened or refused.
pub record IsDurable (disks : DisksUse) : Type 0 where
  pub manifest : LosesNoRecord edits.MAGIC disks.manifest.before disks.manifest.after
  pub tables : KeepsFronts disks.tables.before disks.tables.after
  pub log_later : disks.log.faults_before ≤ disks.log.faults_after
  pub manifest_later : disks.manifest.faults_before ≤ disks.manifest.faults_after
  pub tables_later : disks.tables.faults_before ≤ disks.tables.faults_after

-- none of them was called
abbrev pub AreUncalled : DisksUse → Type 0
AreUncalled disks = disks.log.uncalled × disks.manifest.uncalled × disks.tables.uncalled

pub record SourceUse : Type 1 where
  pub before : Option (List ℕ)  -- the bytes that it has left, where they are known
  pub after : Option (List ℕ)
  pub faults_before : ℕ
  pub faults_after : ℕ
  pub uncalled : Type 0

abbrev pub source_use : {S : Type 0} → (S → Option (List ℕ)) → (S → ℕ) → (old new : S) → SourceUse
source_use left faults old new = record { before = left old; after = left new; faults_before = faults old; faults_after = faults new; uncalled = new ≡ old }

pub record SinkUse : Type 0 where
  pub before : Option (List ℕ)  -- the bytes in it, where they are known
  pub after : Option (List ℕ)
  pub faults_before : ℕ
  pub faults_after : ℕ

abbrev pub sink_use : {K : Type 0} → (K → Option (List ℕ)) → (K → ℕ) → (old new : K) → SinkUse
sink_use contents faults old new = record { before = contents old; after = contents new; faults_before = faults old; faults_after = faults new }
