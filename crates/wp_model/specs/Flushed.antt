-- What a store has in tables, and what it has after them.
use Rattle.std.specs.Prelude.{ℕ, suc, ◌≤◌, List, [], ◌∷◌, ◌++◌, length, map, drop}
use Rattle.wp_model.specs.declared.change.Change.{Change}
use Rattle.wp_model.specs.declared.entry.Entry.{Entry}
use Rattle.wp_model.specs.declared.segment.Segment.{Segment}
use Rattle.wp_model.specs.declared.version.Version.{Version}
use Rattle.wp_model.specs.Batch.{key_of, value_of}
use Rattle.wp_model.specs.Covered.{IsCovered}
use Rattle.wp_model.specs.Legal.{changes_in}

-- ---- the versions of entries

abbrev pub versions_under : ℕ → List Change → List Version
versions_under n changes = map (λ change. record { key = key_of change; number = n; value = value_of change }) changes

-- of entries after so many
abbrev pub versions_after : ℕ → List Entry → List Version
versions_after n [] = []
versions_after n (entry ∷ others) = versions_under (suc n) (changes_in entry) ++ versions_after (suc n) others

-- the history's versions above a number
abbrev pub later_versions : List Entry → ℕ → List Version
later_versions history n = versions_after n (drop n history)

-- ---- the tables

-- the segment that begins the log's device and has all entries
abbrev pub first_segment : Segment
first_segment = record { place = 0; base = 0 }

-- what an installed edit says: the log's segment, the flushed number, the versions of its tables, and how many tables these are
pub record InstalledEdit : Type 0 where
  pub segment : Segment
  pub flushed : ℕ
  pub versions : List Version
  pub tables : ℕ

-- an edit's versions, with the later ones of the history, cover the history for readers of the base and of the published number
pub record IsEditCovered (history : List Entry) (edit : InstalledEdit) : Type 0 where
  pub base : edit.segment.base ≤ edit.flushed
  pub flushed : edit.flushed ≤ length history
  pub covered : IsCovered (edit.versions ++ later_versions history edit.flushed) history (edit.segment.base ∷ []) (length history)
