-- Why the tables of an edit, or one of them, could not be read, or are none of what the log spells; and what that leaves of their device.
use Rattle.std.specs.Prelude.{◌≡◌, ◌⊎◌, ℕ, ◌+◌, ◌<◌, ◌≤◌, List, ◌∷◌, ◌++◌, length}
use Rattle.std.specs.List.{AllByRecursion}
use Rattle.wp_model.specs.declared.version.Version.{Version}
use Rattle.wp_outside.specs.declared.disk.Device.TheVariants as device
use Rattle.wp_outside.specs.Disk.{Moment, IfKnown, added, after_sync}
use Rattle.wp_cuts.specs.Cut.{Cut}
use Rattle.wp_cuts.specs.LegalCut.{AreBelow}
use Rattle.wp_gatelog.specs.Left.{IsAtMostSynced}
use Rattle.wp_gatelog.specs.Patched.{Shows, EndsAt}
use Rattle.wp_manifest.specs.Edit.{Edit}
use Rattle.wp_table.specs.declared.error.TableError.{TableError}
use Rattle.wp_table.specs.declared.error.TableError.TheVariants as table
use Rattle.wp_table.specs.File.{HasTables}
use Rattle.wp_table.specs.Table.{IsTable}
use Rattle.wp_refused.specs.declared.bad.Bad.TheVariants as bad
use Rattle.wp_refused.specs.declared.error.OpenError.{OpenError}
use Rattle.wp_refused.specs.declared.error.OpenError.TheVariants as open_error
use Rattle.wp_refused.specs.Damage.{HasTableFault, IsFirstBadTable, IsOwnFault, end_of, IsWithin, UndosRestore, IsWrongUndo}
use Rattle.wp_contents.specs.Opens.{AreCovering, all_in}
use Rattle.wp_refused.specs.Shown.{Sometime, WereShown}

-- ---- why

-- These bytes were shown at that place, and have this fault. Where they are fewer than the table has, the device ended behind them, then or
-- when it had so many.
pub record WasWrong (id flushed : ℕ) (placed : ℕ × ℕ) (len : ℕ) (moments : List Moment) (why : TableError) : Type 0 where
  pub read : List ℕ
  pub wrong : HasTableFault id flushed placed.1 read why
  pub shown : IfKnown moments (Shows placed.0 read)
  pub fits : length read ≤ placed.1
  pub ended : length read < placed.1 → (len ≤ placed.0 + length read) ⊎ IfKnown moments (EndsAt placed.0 read)

-- the device failed, or memory ran out
abbrev pub IsReadCause : (rose : Type 0) → OpenError → Type 0
IsReadCause rose open_error.Memory = Unit {0}
IsReadCause rose (open_error.OpenFault device.Tables) = rose
IsReadCause rose other = ⊥

-- ... or the bytes that were read at that place, on a device that had so many bytes, are wrong
abbrev pub IsTableCause : ℕ → ℕ → ℕ × ℕ → ℕ → (rose : Type 0) → List Moment → OpenError → Type 0
IsTableCause id flushed placed len rose moments (open_error.Contents (bad.Stranger log found)) =
    (log ≡ id) × WasWrong id flushed placed len moments (table.Stranger found)
IsTableCause id flushed placed len rose moments (open_error.Contents (bad.BadTable place why)) =
    (place ≡ placed.0) × IsOwnFault why × WasWrong id flushed placed len moments why
IsTableCause id flushed placed len rose moments other = IsReadCause rose other

-- Of the edit's tables those before this one were read and are tables, and what was read at its place has the fault. Where the device is
-- known, it has all that there.
pub record IsFirstWrong (id : ℕ) (edit : Edit) (moments : List Moment) (place : ℕ) (why : TableError) : Type 0 where
  pub before : List (ℕ × ℕ)
  pub size : ℕ
  pub after : List (ℕ × ℕ)
  pub listed : edit.tables ≡ before ++ (place, size) ∷ after
  pub parts : List (List Version)
  pub as_many : length parts ≡ length before
  pub are : AllByRecursion (IsTable id edit.flushed) parts
  pub read : List ℕ
  pub wrong : HasTableFault id edit.flushed size read why
  pub known : IfKnown moments (λ m. IsFirstBadTable id edit.flushed m.reads edit.tables place why)

-- Of the edit's tables those before this one were read and are tables, each as the device showed it at its place while it went from old to
-- new; and so was what was read at this one's place, which has the fault. Where that is less than the table, the device ended behind it at
-- some moment.
pub record WasFirstWrong (id : ℕ) (edit : Edit) (old new : List Moment) (place : ℕ) (why : TableError) : Type 0 where
  pub before : List (ℕ × ℕ)
  pub size : ℕ
  pub after : List (ℕ × ℕ)
  pub listed : edit.tables ≡ before ++ (place, size) ∷ after
  pub parts : List (List Version)
  pub as_many : length parts ≡ length before
  pub are : AllByRecursion (IsTable id edit.flushed) parts
  pub right : WereShown id edit.flushed old new before parts
  pub read : List ℕ
  pub wrong : HasTableFault id edit.flushed size read why
  pub shown : Sometime (Shows place read) old new
  pub fits : length read ≤ size
  pub ended : length read < size → Sometime (EndsAt place read) old new

-- ... or one of the edit's tables is wrong so
abbrev pub IsTablesCause : ℕ → (rose : Type 0) → (ℕ → TableError → Type 0) → OpenError → Type 0
IsTablesCause id rose wrong (open_error.Contents (bad.Stranger log found)) = (log ≡ id) × (place : ℕ) × wrong place (table.Stranger found)
IsTablesCause id rose wrong (open_error.Contents (bad.BadTable place why)) = IsOwnFault why × wrong place why
IsTablesCause id rose wrong other = IsReadCause rose other

-- it is the first that is, on a device with these moments
abbrev pub AreTablesCause : ℕ → Edit → (rose : Type 0) → List Moment → OpenError → Type 0
AreTablesCause id edit rose moments why = IsTablesCause id rose (IsFirstWrong id edit moments) why

-- These were read as the edit's tables. Where the device is known, it has them at their places.
pub record WereTables (id : ℕ) (edit : Edit) (moments : List Moment) (parts : List (List Version)) : Type 0 where
  pub as_many : length parts ≡ length edit.tables
  pub are : AllByRecursion (IsTable id edit.flushed) parts
  pub known : IfKnown moments (λ m. HasTables id edit.flushed m.reads edit.tables parts)

-- ... and over them an undo is wrong
pub record WereIllegal (id : ℕ) (c : Cut) (edit : Edit) (moments : List Moment) (number : ℕ) : Type 0 where
  pub parts : List (List Version)
  pub read : WereTables id edit moments parts
  pub wrong : IsWrongUndo c parts number

-- ... or each undo is right, and they do not cover what stands for them and the cut
pub record WereUncovered (id : ℕ) (c : Cut) (edit : Edit) (moments : List Moment) : Type 0 where
  pub parts : List (List Version)
  pub read : WereTables id edit moments parts
  pub undos : UndosRestore c parts
  pub uncovered : AreCovering c edit parts → ⊥

-- Why the store of an edit was not opened. The base is ahead of the edit, or the log is behind it. Or it is neither, and the tables were
-- refused; or an undo is wrong over them; or they do not cover the history.
pub data IsStoreCause (id : ℕ) (c : Cut) (edit : Edit) (rose : Type 0) (moments : List Moment) (why : OpenError) : Type 0 where
  ahead : edit.flushed < c.base → why ≡ open_error.Contents (bad.BaseAhead c.base edit.flushed) → IsStoreCause id c edit rose moments why
  behind : c.base ≤ edit.flushed → end_of c < edit.flushed → why ≡ open_error.Contents (bad.LogBehind edit.flushed (end_of c)) → IsStoreCause id c edit rose moments why
  of_tables : IsWithin c edit → AreTablesCause id edit rose moments why → IsStoreCause id c edit rose moments why
  not_legal : (number : ℕ) → IsWithin c edit → WereIllegal id c edit moments number → why ≡ open_error.Contents (bad.Illegal number) → IsStoreCause id c edit rose moments why
  not_covered : IsWithin c edit → WereUncovered id c edit moments → why ≡ open_error.Contents bad.Uncovered → IsStoreCause id c edit rose moments why

-- Why no history stands for the cut and these tables: memory ran out, or an undo is wrong over them; or each is right, and a version of a
-- carried prepare's key is not below it.
abbrev pub IsHistoryCause : Cut → List (List Version) → OpenError → Type 0
IsHistoryCause c parts open_error.Memory = Unit {0}
IsHistoryCause c parts (open_error.Contents (bad.Illegal number)) = IsWrongUndo c parts number
IsHistoryCause c parts (open_error.Contents bad.Uncovered) = UndosRestore c parts × (AreBelow c (all_in parts) → ⊥)
IsHistoryCause c parts other = ⊥

-- Why what a log tells is refused by these tables: memory ran out, or an undo is wrong over them; or each is right, and they do not cover the
-- history.
abbrev pub IsJudgedCause : Cut → Edit → List (List Version) → OpenError → Type 0
IsJudgedCause c edit parts open_error.Memory = Unit {0}
IsJudgedCause c edit parts (open_error.Contents (bad.Illegal number)) = IsWrongUndo c parts number
IsJudgedCause c edit parts (open_error.Contents bad.Uncovered) = UndosRestore c parts × (AreCovering c edit parts → ⊥)
IsJudgedCause c edit parts other = ⊥

-- ---- what is left

-- The device was not called where the base is ahead of the edit, or the log behind it; else it was synced, unless it failed.
abbrev pub LeavesSynced : (same : Type 0) → List Moment → List Moment → OpenError → Type 0
LeavesSynced same old new (open_error.Contents (bad.BaseAhead base flushed)) = same
LeavesSynced same old new (open_error.Contents (bad.LogBehind flushed published)) = same
LeavesSynced same old new (open_error.OpenFault failed) = IsAtMostSynced old new
LeavesSynced same old new other = new ≡ added after_sync old
