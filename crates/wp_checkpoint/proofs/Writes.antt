-- What is left of the devices that were written.
use Rattle.std.proofs.Common.{◌≡◌, inl, ℕ, List, [], ◌∷◌, ◌++◌, length, drop, Option, None, Some, refl, ap, ◌∙◌}
use Rattle.std.proofs.lemmas.List.{append-nil}
use Rattle.wp_outside.specs.Disk.{Moment, IfKnown, added, after_write, after_sync, images}
use Rattle.wp_table.specs.Walk.{BuiltTable}
use Rattle.wp_gatelog.specs.Spelling.{Spells}
use Rattle.wp_manifest.specs.Edit.{edit_bytes}
use Rattle.wp_manifest.specs.Spelling.{IsManifestOf, MAGIC, head_stamp}
use Rattle.wp_contents.specs.Devices.{DevicesLeft}
use Rattle.wp_checkpoint.specs.Image as image
use Rattle.wp_checkpoint.specs.Target.{AreEmpty, IsCopyCause, IsEmpty, WereEmpty}
use Rattle.wp_checkpoint.specs.Written.{FailsToWrite, LeavesTable}
use Rattle.wp_checkpoint.specs.declared.error.CopyError.{CopyError}
use Rattle.wp_checkpoint.specs.declared.error.CopyError.TheVariants.{Memory, CopyHeld, CopyFault}
use Rattle.wp_checkpoint.proofs.Opening.{IsThere}

-- ---- the table

put_first : (bytes : List ℕ) (m : Moment) → m.reads ≡ [] → (after_write 0 bytes m).reads ≡ bytes
put_first [] m none = none
put_first (b ∷ bytes) m none = ap (λ (l : List ℕ). (b ∷ bytes) ++ drop (length (b ∷ bytes)) l) none ∙ append-nil (b ∷ bytes)

-- written to an empty device and synced
pub table_left : (bytes image : List ℕ) (old mid new : List Moment) → IsEmpty old → mid ≡ added (after_write 0 bytes) old → new ≡ added after_sync mid → (images new image → IfKnown mid (λ m. image ≡ m.reads)) → images new image → image ≡ bytes
table_left bytes image [] mid new none writes syncs durable left = absurd (rw (syncs, writes) at left)
table_left bytes image (m ∷ past) mid new none writes syncs durable left = (rw writes at durable left) ∙ put_first bytes m none

pub there_by : (table : Option BuiltTable) (old new : List Moment) (bytes : List ℕ) → LeavesTable table old new → images new bytes → IsThere table bytes
there_by None old new bytes has left = tt
there_by (Some built) old new bytes has left = has bytes left

-- ---- the manifest

pub one_edit : (id at : ℕ) (table : Option BuiltTable) (manifest bytes : List ℕ) → image.IsNewManifest id at table manifest → Spells bytes MAGIC (head_stamp id) (edit_bytes (image.edit_of at table) ∷ []) → IsManifestOf id (image.edit_of at table ∷ []) bytes
one_edit id at table manifest bytes is spelled = (edit_bytes (image.edit_of at table) ∷ [], spelled, record { spelled = refl; are = (is.is, tt) })

-- ---- a refusal

all_empty : (old new : DevicesLeft) → AreEmpty old → WereEmpty old new
all_empty old new empty = (inl empty.log, inl empty.manifest, inl empty.tables)

pub write_refused : (old new : DevicesLeft) (why : CopyError) → AreEmpty old → FailsToWrite old new why → IsCopyCause old new why
write_refused old new Memory empty fails = absurd fails
write_refused old new (CopyHeld d) empty fails = absurd fails
write_refused old new (CopyFault d) empty fails = (fails.0, all_empty old new empty, fails.1)
