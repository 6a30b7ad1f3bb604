-- What is left of a store's three devices.
pub use Rattle.wp_contents.specs.Devices.{DevicesLeft, devices_of}
use Rattle.wp_tableset.specs.Set.{TableSetState}
use Rattle.wp_wal.specs.Wal.{WalState}

-- the devices of a log and of a set of tables
abbrev pub devices_behind : WalState → TableSetState → DevicesLeft
devices_behind wal set = record {
  log = wal.moments;
  log_faults = wal.faults;
  manifest = set.manifest.log.moments;
  manifest_faults = set.manifest.log.faults;
  tables = set.moments;
  tables_faults = set.faults;
}
