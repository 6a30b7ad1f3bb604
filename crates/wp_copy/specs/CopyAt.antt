-- A copy of a store at a snapshot: to what its devices open, and why there is none.
use Rattle.std.specs.Prelude.{◌≡◌, ℕ, List, length}
use Rattle.wp_model.specs.declared.entry.Entry.{Entry}
use Rattle.wp_model.specs.Flushed.{InstalledEdit}
use Rattle.wp_model.specs.History.{undecided}
use Rattle.wp_outside.specs.Disk.{images}
use Rattle.wp_contents.specs.Devices.{DevicesLeft}
use Rattle.wp_contents.specs.Opens.{OpensTo}
use Rattle.wp_shared.specs.Ended.{IsFrom}
use Rattle.wp_checkpoint.specs.Copy.{table_count}
use Rattle.wp_checkpoint.specs.Target.{AreEmpty, AreLater, AreUnfailed, IsCopyCause}
use Rattle.wp_checkpoint.specs.declared.copying.Copied.{Copied}
use Rattle.wp_checkpoint.specs.declared.error.CopyError.{CopyError}
use Rattle.wp_checkpoint.specs.declared.error.CopyError.TheVariants.{Memory}

-- ---- a copy

-- The edit of a copy of so many entries: the log begins its device with this base, all is flushed, and there is one table, or none
-- where there are no versions.
pub record IsCopyEdit (at : ℕ) (edit : InstalledEdit) : Type 0 where
  pub place : edit.segment.place ≡ 0
  pub base : edit.segment.base ≡ at
  pub flushed : edit.flushed ≡ at
  pub tables : edit.tables ≡ table_count edit.versions

-- Whatever a crash leaves of the devices opens, under this id, to a list that is the history from its end on: it has the same prepares
-- undecided there, with their numbers, names and batches, and the same value under each key. What was copied is counted so.
pub record IsCopyOf (id : ℕ) (history : List Entry) (copied : Copied) (devices : DevicesLeft) : Type 0 where
  pub copy : List Entry
  pub same : IsFrom (length history) history copy
  pub edit : InstalledEdit
  pub edit_is : IsCopyEdit (length history) edit
  pub opens : (log manifest tables : List ℕ) → images devices.log log → images devices.manifest manifest → images devices.tables tables → OpensTo id copy edit log manifest tables
  pub at : copied.at ≡ length history
  pub versions : copied.versions ≡ length edit.versions
  pub carried : copied.carried ≡ length (undecided history)

-- the target was empty, no count of it rose, and it has the copy
pub record CopiesTo (id : ℕ) (history : List Entry) (old : DevicesLeft) (copied : Copied) (new : DevicesLeft) : Type 0 where
  pub empty : AreEmpty old
  pub copy : IsCopyOf id history copied new
  pub unfailed : AreUnfailed old new

-- ---- refusals

-- Memory was wanting, which may also be before the target is looked at; or a device of the target is the cause.
abbrev pub IsCauseAt : (old new : DevicesLeft) → CopyError → Type 0
IsCauseAt old new Memory = new ≡ old
IsCauseAt old new why = IsCopyCause old new why

pub record RefusesAt (old new : DevicesLeft) (why : CopyError) : Type 0 where
  pub cause : IsCauseAt old new why
  pub later : AreLater old new
