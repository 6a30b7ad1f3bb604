-- What an opening finds of a manifest, before the log is called.
use Rattle.std.specs.Prelude.{◌≡◌, ◌≢◌, ◌⊎◌, ℕ, ◌≤◌, List}
use Rattle.wp_outside.specs.declared.disk.Device.TheVariants as device
use Rattle.wp_outside.specs.Disk.{Moment, IfKnown}
use Rattle.wp_gatelog.specs.Opening.{KeepsLog}
use Rattle.wp_gatelog.specs.Spelling.{IsUnmade}
use Rattle.wp_wal.specs.Wal.{WalState}
use Rattle.wp_manifest.specs.declared.error.ManifestError.{ManifestError}
use Rattle.wp_manifest.specs.Edit.{place_of}
use Rattle.wp_manifest.specs.Manifest.{ManifestState, Opened}
use Rattle.wp_manifest.specs.Opening.{IsUnopenedManifest}
use Rattle.wp_manifest.specs.Spelling.{MAGIC, head_stamp}
use Rattle.wp_refused.specs.declared.bad.Bad.{Bad}
use Rattle.wp_refused.specs.declared.bad.Bad.TheVariants as bad
use Rattle.wp_logs.specs.declared.manifest.SeenManifest.{SeenManifest}
use Rattle.wp_logs.specs.declared.manifest.SeenManifest.TheVariants as seen

-- One was made there, and is open; or none was, and the disk was only looked at. The disk did not fail.
abbrev pub WasMade : {D : Type 0} → ℕ → (D → List Moment) → (D → ℕ) → D → SeenManifest D → Type 0
WasMade asked moments faults disk (seen.Made edits) =
    Opened asked (moments disk) edits
    × IfKnown (moments disk) (λ m. IsUnmade m.reads → ⊥)
    × KeepsLog MAGIC (head_stamp asked) (moments disk) edits.log.moments (faults disk) edits.log.faults
    × (edits.log.faults ≡ faults disk)
WasMade asked moments faults disk (seen.Unmade new) =
    (moments new ≡ moments disk) × (faults new ≡ faults disk) × IfKnown (moments disk) (λ m. IsUnmade m.reads)

-- the place that it names for the log
abbrev pub seen_place : {D : Type 0} → SeenManifest D → ℕ
seen_place (seen.Made edits) = place_of edits.edit
seen_place (seen.Unmade disk) = 0

-- its disk's moments and faults
abbrev pub seen_moments : {D : Type 0} → (D → List Moment) → SeenManifest D → List Moment
seen_moments moments (seen.Made edits) = edits.log.moments
seen_moments moments (seen.Unmade disk) = moments disk

abbrev pub seen_faults : {D : Type 0} → (D → ℕ) → SeenManifest D → ℕ
seen_faults faults (seen.Made edits) = edits.log.faults
seen_faults faults (seen.Unmade disk) = faults disk

-- it was made, with this other id
abbrev pub HasOther : {D : Type 0} → ℕ → SeenManifest D → ℕ → Type 0
HasOther id (seen.Made edits) found = (found ≡ edits.log.id) × (found ≢ id)
HasOther id (seen.Unmade disk) found = ⊥

-- if it was made, it has this id
abbrev pub HasSame : {D : Type 0} → ℕ → SeenManifest D → Type 0
HasSame id (seen.Made edits) = edits.log.id ≡ id
HasSame id (seen.Unmade disk) = Unit {0}

-- it is as it was made, or new, on a disk that did not fail
abbrev pub OpensSeen : {D : Type 0} → ℕ → (D → List Moment) → (D → ℕ) → SeenManifest D → ManifestState → Type 0
OpensSeen id moments faults (seen.Made edits) opened = opened ≡ edits
OpensSeen id moments faults (seen.Unmade disk) opened =
    Opened id (moments disk) opened
    × KeepsLog MAGIC (head_stamp id) (moments disk) opened.log.moments (faults disk) opened.log.faults
    × (opened.log.faults ≡ faults disk)

-- one is not made
abbrev pub MayNotOpen : {D : Type 0} → ℕ → (D → List Moment) → (D → ℕ) → SeenManifest D → D → ManifestError → Type 0
MayNotOpen id moments faults (seen.Made edits) new why = ⊥
MayNotOpen id moments faults (seen.Unmade disk) new why =
    IsUnopenedManifest (moments disk) (moments new) (faults disk) (faults new) why × KeepsLog MAGIC (head_stamp id) (moments disk) (moments new) (faults disk) (faults new)

-- the manifest names another place than the log's; or that one, and has another id
abbrev pub IsApart : WalState → ManifestState → Bad → Type 0
IsApart wal edits damage =
    ((place_of edits.edit ≢ wal.segment.place) × (damage ≡ bad.BadHead device.Log))
    ⊎ ((place_of edits.edit ≡ wal.segment.place) × (edits.log.id ≢ wal.id) × (damage ≡ bad.Stranger wal.id edits.log.id))
