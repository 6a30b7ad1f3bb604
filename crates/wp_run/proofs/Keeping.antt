-- What stays on the devices from one call to the next.
use Rattle.std.proofs.Common.{ℕ, List, [], ◌≤◌, refl, arith}
use Rattle.wp_outside.specs.Disk.{Moment}
use Rattle.wp_outside.specs.declared.disk.Disks.{Disks}
use Rattle.wp_outside.specs.Faults.{Rose}
use Rattle.wp_gatelog.specs.Durability.{HasAcknowledged, LosesNoRecordAt}
use Rattle.wp_gatelog.specs.Moments.{Leaves, LeavesFrom}
use Rattle.wp_gatelog.proofs.DurabilityLemmas.{preserves_on}
use Rattle.wp_tableset.specs.Device.{BeginsWith, KeepsFronts}
use Rattle.wp_status.specs.Use.{IsDurable, disks_use}

pub records_trans : (place : ℕ) (magic : List ℕ) (old mid new : List Moment) → LosesNoRecordAt place magic old mid → LosesNoRecordAt place magic mid new → LosesNoRecordAt place magic old new
records_trans place magic old mid new a b = λ stamp records. preserves_on (LeavesFrom place (HasAcknowledged magic stamp records)) old mid new (a stamp records) (b stamp records)

pub fronts_same : (ms : List Moment) → KeepsFronts ms ms
fronts_same ms = λ front. ([], refl, tt)

pub fronts_trans : (old mid new : List Moment) → KeepsFronts old mid → KeepsFronts mid new → KeepsFronts old new
fronts_trans old mid new a b = λ front. preserves_on (Leaves (BeginsWith front)) old mid new (a front) (b front)

-- devices that were not called
pub uncalled_durable : {D : Type 0} (moments : D → List Moment) (faults : D → ℕ) (disks : Disks D) → IsDurable (disks_use moments faults disks disks)
uncalled_durable moments faults disks = record {
  manifest = λ stamp records. ([], refl, tt);
  tables = fronts_same (moments disks.tables);
  log_later = omega arith;
  manifest_later = omega arith;
  tables_later = omega arith;
}

-- a count that rose since then rose since before
pub rose_since : (old mid new : ℕ) → old ≤ mid → Rose mid new → Rose old new
rose_since old mid new le rose = omega (arith, rose, le)
