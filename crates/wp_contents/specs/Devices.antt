-- The three devices of a store.
use Rattle.std.specs.Prelude.{ℕ, List}
use Rattle.wp_outside.specs.Disk.{Moment}
use Rattle.wp_outside.specs.declared.disk.Disks.{Disks}

-- the moments of each device, and how often it has failed
pub record DevicesLeft : Type 0 where
  pub log : List Moment
  pub log_faults : ℕ
  pub manifest : List Moment
  pub manifest_faults : ℕ
  pub tables : List Moment
  pub tables_faults : ℕ

abbrev pub devices_of : {D : Type 0} → (D → List Moment) → (D → ℕ) → Disks D → DevicesLeft
devices_of moments faults disks = record {
  log = moments disks.log;
  log_faults = faults disks.log;
  manifest = moments disks.manifest;
  manifest_faults = faults disks.manifest;
  tables = moments disks.tables;
  tables_faults = faults disks.tables;
}
