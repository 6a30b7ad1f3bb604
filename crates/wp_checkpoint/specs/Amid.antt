-- What a crash leaves of a target while a copy is written to it.
use Rattle.std.specs.Prelude.{◌≡◌, ◌⊎◌, ℕ, List, [], ◌∷◌, Some}
use Rattle.wp_model.specs.declared.carried.Carried.{Carried}
use Rattle.wp_outside.specs.Disk.{Goes, images}
use Rattle.wp_gatelog.specs.Moments.{IsSynced, Leaves}
use Rattle.wp_gatelog.specs.Spelling.{IsUnmade}
use Rattle.wp_manifest.specs.Spelling.{IsManifestOf}
use Rattle.wp_wal.specs.Segment.{IsNoneOrLog}
use Rattle.wp_wal.specs.Spelling.{IsLogAt}
use Rattle.wp_contents.specs.Devices.{DevicesLeft}
use Rattle.wp_checkpoint.specs.Copy.{copied_base, copied_cut}
use Rattle.wp_checkpoint.specs.Target.{AreEmpty}

-- no manifest was made, or one of an edit by which all up to the number is flushed, and the log begins its device
abbrev pub IsNoneOrEdit : ℕ → ℕ → List ℕ → Type 0
IsNoneOrEdit id at bytes = IsUnmade bytes ⊎ ((tables : List (ℕ × ℕ)) × IsManifestOf id (record { flushed = at; place = Some 0; tables = tables } ∷ []) bytes)

-- Where a device was synced without bytes: at each moment nothing was made on it, or what the copy has there. And where the manifest was
-- written at all, a crash leaves the log.
pub record LeavesAmid (id at : ℕ) (carried : List Carried) (old new : DevicesLeft) : Type 0 where
  pub log : IsSynced [] old.log → Goes (Leaves (IsNoneOrLog id (copied_base at carried))) old.log new.log
  pub manifest : IsSynced [] old.manifest → Goes (Leaves (IsNoneOrEdit id at)) old.manifest new.manifest
  pub last : AreEmpty old → (new.manifest ≡ old.manifest) ⊎ ((bytes : List ℕ) → images new.log bytes → IsLogAt id 0 (copied_cut at carried) bytes)
