-- An open manifest that stores edits, and what an install makes of it.
use Rattle.std.specs.Prelude.{◌≡◌, ℕ, ◌≤◌, Bool, true, false, List, [], ◌∷◌, ◌++◌, length, Result, OnOk, IfErr}
use Rattle.wp_outside.specs.Disk.{Moment, IfKnown, Passes}
use Rattle.wp_outside.specs.Faults.{Rose}
use Rattle.wp_gatelog.specs.Durability.{HasAcknowledged, LosesNoRecord}
use Rattle.wp_gatelog.specs.Log.{LogState, IsAtRest}
use Rattle.wp_gatelog.specs.Moments.{Leaves}
use Rattle.wp_gatelog.specs.Spelling.{IsUnmade}
use Rattle.wp_gatelog.specs.declared.log.AppendError.{AppendError}
use Rattle.wp_gatelog.specs.declared.log.AppendError.TheVariants.{DiskFault, Closed}
use Rattle.wp_manifest.specs.Edit.{Edit, no_edit}
use Rattle.wp_manifest.specs.Spelling.{MAGIC, VERSION, head_stamp, AreEdits, last_edit, IsManifestOf, IsManifestOrNext}

pub record ManifestState : Type 0 where
  pub log : LogState  -- of the edits
  pub edit : Edit  -- the last one

-- each image of the moment spells the edits, or them and the next one; and has the edits acknowledged
abbrev pub LeavesEditsOrNext : ℕ → List (List ℕ) → List Edit → Edit → Moment → Type 0
LeavesEditsOrNext id records edits next = Leaves (λ image. IsManifestOrNext id edits next image × HasAcknowledged MAGIC (head_stamp id) records image)

-- The manifest stores the edits: it is at rest with them; or, once an install has failed, a crash leaves them, or them and
-- the next one.
pub record StoresEdits (manifest : ManifestState) (edits : List Edit) (next : Edit) : Type 0 where
  pub records : List (List ℕ)
  pub spelled : AreEdits records edits
  pub counted : manifest.log.count ≡ length edits
  pub last : manifest.edit ≡ last_edit edits
  pub version : manifest.log.format ≡ VERSION
  pub rests : manifest.log.closed ≡ false → IfKnown manifest.log.moments (IsAtRest MAGIC (head_stamp manifest.log.id) manifest.log.end [] [] records)
  pub left : manifest.log.closed ≡ true → IfKnown manifest.log.moments (LeavesEditsOrNext manifest.log.id records edits next)

-- The manifest was opened on a disk with these moments: it stores what the disk spelled as it was handed in, and a crash
-- from now on leaves that. Its id is that in the head, or the one that was asked for where none was made.
pub record Opened (asked : ℕ) (moments : List Moment) (manifest : ManifestState) : Type 0 where
  pub edits : List Edit
  pub stores : StoresEdits manifest edits no_edit
  pub found : IfKnown moments (λ m. IsManifestOf manifest.log.id edits m.reads)
  pub made : IfKnown moments (λ m. IsUnmade m.reads → manifest.log.id ≡ asked)
  pub running : manifest.log.closed ≡ false

-- the bytes stand a test for an edit
abbrev pub Stands : (Edit → List ℕ → Bool) → Edit → List ℕ → Type 0
Stands test edit bytes = test edit bytes ≡ true

-- each image of the moment is a manifest; and each image that another device has then has what belongs to that one's last edit
abbrev pub NamesThere : (Has : Edit → List ℕ → Type 0) → ℕ → List Moment → Moment → Type 0
NamesThere Has id others = Leaves (λ image. (edits : List Edit) × IsManifestOf id edits image × IfKnown others (Leaves (Has (last_edit edits))))

-- Why an edit was not installed, and what that leaves. The disk failed, and the manifest is closed from now on. Or it was closed
-- before: nothing changes, and n is the count of its edits.
abbrev pub InstallRefused : ManifestState → ManifestState → Edit → AppendError → Type 0
InstallRefused old new edit DiskFault =
    (old.log.closed ≡ false) × Rose old.log.faults new.log.faults
    × (new ≡ record old { log = record old.log { moments = new.log.moments; faults = new.log.faults; closed = true } })
    × ((edits : List Edit) → StoresEdits old edits no_edit → StoresEdits new edits edit)
InstallRefused old new edit (Closed n) = (old.log.closed ≡ true) × (n ≡ old.log.count) × (new ≡ old)

-- The edit, which is of the second form, is to be the last one.
pub record InstallsInto {T : Type 0} (old new : ManifestState) (edit : Edit) (result : Result T AppendError) : Type 0 where
  -- at each moment since its beginning a crash leaves the edits before it, or those and the new one, whole
  pub any_moment : (edits : List Edit) → StoresEdits old edits no_edit → old.log.closed ≡ false
      → Passes (Leaves (IsManifestOrNext old.log.id edits edit)) old.log.moments new.log.moments
  -- what each crash at one moment would leave acknowledged, each crash at a later moment leaves too
  pub durable : (edits : List Edit) (next : Edit) → StoresEdits old edits next → LosesNoRecord MAGIC old.log.moments new.log.moments
  -- once it is installed, a crash leaves it; and after a fault still one of the two
  pub installed : OnOk result ((edits : List Edit) → StoresEdits old edits no_edit → StoresEdits new (edits ++ edit ∷ []) no_edit)
  pub last : OnOk result (new.edit ≡ edit)
  pub unfailed : OnOk result (new.log.faults ≡ old.log.faults)
  pub running : OnOk result ((old.log.closed ≡ false) × (new.log.closed ≡ false))
  pub refused : IfErr result (InstallRefused old new edit)
  pub id : new.log.id ≡ old.log.id
  pub later : old.log.faults ≤ new.log.faults
