-- What a flush, a compaction and a renewal do to the tables and to the edit that names them.
use Rattle.std.specs.Prelude.{ℕ, suc, List, [], ◌∷◌, ◌++◌, length, min}
use Rattle.wp_model.specs.declared.entry.Entry.{Entry}
use Rattle.wp_model.specs.declared.version.Version.{Version}
use Rattle.wp_model.specs.Decision.{is_committed}
use Rattle.wp_model.specs.Flushed.{InstalledEdit, later_versions}
use Rattle.wp_merge.specs.Merge.{sorted_of}
use Rattle.wp_keep.specs.Keep.{retained_of}

-- the versions that stand in memory alone
abbrev pub unflushed : List Entry → InstalledEdit → List Version
unflushed history edit = later_versions history edit.flushed

-- the edit of a flush: the versions in memory are in one table more
abbrev pub after_flush : List Entry → InstalledEdit → InstalledEdit
after_flush history edit = record edit { flushed = length history; versions = sorted_of (unflushed history edit ++ edit.versions); tables = suc edit.tables }

-- the numbers for which a compaction keeps what readers need there: those of live snapshots, the base of the log as it was opened, and
-- the base of the last edit
abbrev pub listed : List ℕ → ℕ → InstalledEdit → List ℕ
listed snapshots opened edit = snapshots ++ opened ∷ edit.segment.base ∷ []

-- the tables' versions that a compaction keeps for readers at these numbers
abbrev pub retained : List Entry → List ℕ → InstalledEdit → List Version
retained history numbers edit = retained_of (is_committed history) edit.versions numbers (length history)

-- the edit of a compaction: these versions are in one table, or, where there are none, in no table
abbrev pub after_compaction : List Entry → List ℕ → InstalledEdit → InstalledEdit
after_compaction history numbers edit = record edit { versions = retained history numbers edit; tables = min (length (retained history numbers edit)) 1 }

-- the edit with these versions in one table more, where there are some
abbrev pub with_table : List Version → InstalledEdit → InstalledEdit
with_table [] edit = edit
with_table (first ∷ others) edit = record edit { versions = sorted_of (first ∷ others ++ edit.versions); tables = suc edit.tables }

-- the edit of a renewal: the versions in memory are in one table more, where there are some, and the log is in a segment at this place,
-- which has no entry of the history
abbrev pub after_renewal : List Entry → ℕ → InstalledEdit → InstalledEdit
after_renewal history place edit = record (with_table (unflushed history edit) edit) { segment = record { place = place; base = length history }; flushed = length history }
