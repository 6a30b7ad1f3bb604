-- What a copy at one number is: its cut, its versions, and to what its devices open.
use Rattle.std.specs.Prelude.{◌≡◌, ℕ, ◌<◌, true, List, [], ◌∷◌, ◌++◌, length, map, Some}
use Rattle.std.specs.FinMap as finite
use Rattle.std.specs.List.{AllByRecursion}
use Rattle.std.specs.List.Sorted.{IsStrictlySortedBy}
use Rattle.std.specs.Map.{keys_of}
use Rattle.wp_model.specs.declared.carried.Carried.{Carried}
use Rattle.wp_model.specs.declared.entry.Entry.{Entry}
use Rattle.wp_model.specs.declared.row.Row.{Row}
use Rattle.wp_model.specs.declared.version.Version.{Version}
use Rattle.wp_model.specs.Batch.{key_cmp}
use Rattle.wp_model.specs.Flushed.{InstalledEdit}
use Rattle.wp_model.specs.History.{is_changed}
use Rattle.wp_model.specs.Rows.{Pair, pair_of}
use Rattle.wp_outside.specs.Disk.{images}
use Rattle.wp_cuts.specs.Cut.{Cut, base_value, carried_at, full_of, is_fixed}
use Rattle.wp_cuts.specs.Kept.{carried_versions}
use Rattle.wp_entry.specs.Base.{Base}
use Rattle.wp_wal.specs.Segment.{cut_behind}
use Rattle.wp_merge.specs.Merge.{sorted_of}
use Rattle.wp_contents.specs.Devices.{DevicesLeft}
use Rattle.wp_contents.specs.Opens.{OpensTo}
use Rattle.wp_checkpoint.specs.Target.{AreEmpty, AreUnfailed}
use Rattle.wp_checkpoint.specs.declared.copying.Copied.{Copied}

-- ---- what is copied

abbrev pub copied_base : ℕ → List Carried → Base
copied_base at carried = record { number = at; carried = carried }

-- the number as a base, with what is undecided there, and no entries
abbrev pub copied_cut : ℕ → List Carried → Cut
copied_cut at carried = cut_behind (copied_base at carried)

-- The row's number is from 1 to the copy's, and no carried prepare's; and it is below each carried prepare that has the row's key.
pub record MayBeCopied (at : ℕ) (carried : List Carried) (row : Row) : Type 0 where
  pub fixed : is_fixed (copied_cut at carried) row.number ≡ true
  pub below : (p : ℕ) (x : Carried) → carried_at (copied_cut at carried) p ≡ Some x → is_changed x.batch row.key ≡ true → row.number < p

-- the keys of the rows that are left ascend strictly, and each row that is given may be copied
pub record MayAllBeCopied (at : ℕ) (carried : List Carried) (left : List Pair) (Gives : Row → Type 0) : Type 0 where
  pub ascend : IsStrictlySortedBy key_cmp (keys_of left)
  pub each : (row : Row) → Gives row → MayBeCopied at carried row

abbrev pub version_of : Row → Version
version_of row = record { key = row.key; number = row.number; value = Some row.value }

-- the versions of the rows, and of what is carried, in order
abbrev pub copied_versions : List Row → List Carried → List Version
copied_versions rows carried = sorted_of (map version_of rows ++ carried_versions carried)

-- ---- what the copy opens to

-- the list that stands for the cut and the versions
abbrev pub copied_history : ℕ → List Row → List Carried → List Entry
copied_history at rows carried = full_of (copied_cut at carried) (copied_versions rows carried)

-- there is a table where there are versions
abbrev pub table_count : List Version → ℕ
table_count [] = 0
table_count (v ∷ versions) = 1

abbrev pub edit_with : ℕ → List Version → InstalledEdit
edit_with at versions = record { segment = record { place = 0; base = at }; flushed = at; versions = versions; tables = table_count versions }

abbrev pub copied_edit : ℕ → List Row → List Carried → InstalledEdit
copied_edit at rows carried = edit_with at (copied_versions rows carried)

-- the number, how many versions there are, and how many prepares are carried
abbrev pub copied_counts : ℕ → List Row → List Carried → Copied
copied_counts at rows carried = record { at = at; versions = length (copied_versions rows carried); carried = length carried }

-- All rows that were left were given, each as they are given, and were copied. Whatever a crash leaves of the devices opens to the list
-- that stands for them and what is carried. There a key has at the number the value that was left.
pub record IsCopy (id at : ℕ) (left : List Pair) (Gives : Row → Type 0) (carried : List Carried) (copied : Copied) (devices : DevicesLeft) : Type 0 where
  pub rows : List Row
  pub all : map pair_of rows ≡ left
  pub each : AllByRecursion Gives rows
  pub counted : copied ≡ copied_counts at rows carried
  pub values : (key : List ℕ) → base_value (copied_cut at carried) (copied_versions rows carried) key ≡ finite.find key_cmp key left
  pub opens : (log manifest tables : List ℕ) → images devices.log log → images devices.manifest manifest → images devices.tables tables
      → OpensTo id (copied_history at rows carried) (copied_edit at rows carried) log manifest tables

-- the target was empty, no count of it rose, and it has the copy; where there are no versions, no table was written
pub record MakesCopy (id at : ℕ) (left : List Pair) (Gives : Row → Type 0) (carried : List Carried) (old : DevicesLeft) (copied : Copied) (new : DevicesLeft) : Type 0 where
  pub empty : AreEmpty old
  pub copy : IsCopy id at left Gives carried copied new
  pub unfailed : AreUnfailed old new
  pub untabled : copied.versions ≡ 0 → new.tables ≡ old.tables
