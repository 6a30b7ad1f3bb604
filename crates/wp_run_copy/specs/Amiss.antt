-- When nothing stands in the way of a copy.
use Rattle.std.specs.Prelude.{◌≡◌, ◌⊎◌, ℕ, List, [], ◌∷◌}
use Rattle.wp_model.specs.declared.entry.Entry.{Entry}
use Rattle.wp_outside.specs.Disk.{Moment}
use Rattle.wp_outside.specs.Faults.{Rose}
use Rattle.wp_contents.specs.Opens.{Opens, HasAsked}
use Rattle.wp_args.specs.declared.choice.StoreOptions.{StoreOptions}
use Rattle.wp_args.specs.CopyChoice.{IsCopyChoice, IsCopyTaken}
use Rattle.wp_status.specs.declared.status.Status.{Status}
use Rattle.wp_status.specs.declared.status.Status.TheVariants as status
use Rattle.wp_status.specs.Use.{DiskUse, DisksUse}
use Rattle.wp_run_copy.specs.CopyCall.{CopyCall}

-- the device is known, and had these bytes
abbrev pub Had : List Moment → List ℕ → Type 0
Had [] bytes = ⊥
Had (m ∷ past) bytes = m.reads ≡ bytes

-- The three devices are known, and open to a history. A log that was not made has the id that the words choose.
pub record CanBeOpened (words : List (List ℕ)) (store : DisksUse) : Type 0 where
  pub log : List ℕ
  pub log_had : Had store.log.before log
  pub manifest : List ℕ
  pub manifest_had : Had store.manifest.before manifest
  pub tables : List ℕ
  pub tables_had : Had store.tables.before tables
  pub id : ℕ
  pub history : List Entry
  pub opens : Opens id history log manifest tables
  pub asked : (options : StoreOptions) → IsCopyChoice words options → HasAsked options.id id opens.edits log

-- no call of the device failed
abbrev pub IsUnfailed : DiskUse → Type 0
IsUnfailed disk = ¬ Rose disk.faults_before disk.faults_after

abbrev pub AreAllUnfailed : DisksUse → Type 0
AreAllUnfailed disks = IsUnfailed disks.log × IsUnfailed disks.manifest × IsUnfailed disks.tables

-- the three devices are known, and had no bytes
abbrev pub WereAllEmpty : DisksUse → Type 0
WereAllEmpty target = Had target.log.before [] × Had target.manifest.before [] × Had target.tables.before []

-- The words are taken, the store's devices open, those of the target are empty, and no call of a device failed.
pub record NothingIsAmiss (call : CopyCall) : Type 0 where
  pub taken : IsCopyTaken call.words
  pub opens : CanBeOpened call.words call.store
  pub empty : WereAllEmpty call.target
  pub store_unfailed : AreAllUnfailed call.store
  pub target_unfailed : AreAllUnfailed call.target
  pub sink_unfailed : ¬ Rose call.sink.faults_before call.sink.faults_after

-- the store was copied and its line written, or memory was wanting
abbrev pub IsCopiedOrLacksMemory : Status → Type 0
IsCopiedOrLacksMemory end = (end ≡ status.Ok) ⊎ (end ≡ status.Memory)
