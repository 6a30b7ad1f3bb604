-- Why a manifest is not opened, and what is left of it.
use Rattle.std.specs.Prelude.{◌≡◌, ◌⊎◌, ℕ, List, ⊤}
use Rattle.wp_outside.specs.Disk.{Moment, IfKnown, added, after_sync}
use Rattle.wp_outside.specs.Faults.{Rose}
use Rattle.wp_gatelog.specs.Damage.{IsBadHead, IsCut}
use Rattle.wp_gatelog.specs.Left.{IsSyncedOrAtRest}
use Rattle.wp_gatelog.specs.Spelling.{Spells}
use Rattle.wp_manifest.specs.Spelling.{MAGIC, VERSION, head_stamp}
use Rattle.wp_manifest.specs.Reading.{IsBadAmong}
use Rattle.wp_manifest.specs.declared.error.ManifestError.{ManifestError}
use Rattle.wp_manifest.specs.declared.error.ManifestError.TheVariants.{Memory, DiskFault, BadHead, BadEdit}

-- the record with this index is cut; or none is, and it is the first that is no edit
abbrev pub IsBadEdit : ℕ → List ℕ → Type 0
IsBadEdit index bytes =
    IsCut MAGIC VERSION index bytes
    ⊎ ((id : ℕ) × (records : List (List ℕ)) × Spells bytes MAGIC (head_stamp id) records × IsBadAmong records index)

-- Why the manifest was not opened: its disk's count of faults rose, or what was read of it is so. Of the records that were read that is
-- said on every disk; a bad head and a cut record are bytes that are not kept, and so are said of a disk that is known. Where it is
-- known, all that was read is what it has. Want of memory needs no cause.
abbrev pub IsManifestCause : (rose : Type 0) → List Moment → ManifestError → Type 0
IsManifestCause rose moments Memory = Unit {0}
IsManifestCause rose moments DiskFault = rose
IsManifestCause rose moments BadHead = IfKnown moments (λ m. IsBadHead MAGIC VERSION m.reads)
IsManifestCause rose moments (BadEdit index) =
    IfKnown moments (λ m. IsCut MAGIC VERSION index m.reads)
    ⊎ ((id : ℕ) × (records : List (List ℕ)) × IsBadAmong records index × IfKnown moments (λ m. Spells m.reads MAGIC (head_stamp id) records))

-- what a refusal leaves; where the disk failed, that is left open
abbrev pub LeavesEdits : List Moment → List Moment → ManifestError → Type 0
LeavesEdits old new DiskFault = ⊤
LeavesEdits old new BadHead = new ≡ added after_sync old
LeavesEdits old new other = IsSyncedOrAtRest MAGIC old new

-- No manifest was opened on a disk with these moments and so many faults. The bytes are left as they were, or the log in
-- them repaired, with all of its records.
pub record IsUnopenedManifest (old new : List Moment) (before now : ℕ) (why : ManifestError) : Type 0 where
  pub cause : IsManifestCause (Rose before now) old why
  pub left : LeavesEdits old new why
