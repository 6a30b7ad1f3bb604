-- Versions, each where it is.
use Rattle.std.specs.Prelude.{◌≡◌, ℕ, Bool, true, ◌&&◌, not, nat_le, List, ◌++◌, map, Option, Some}
use Rattle.std.specs.Arc.{arc_value}
use Rattle.wp_model.specs.declared.version.Version.{Version}
use Rattle.wp_model.specs.Decision.{entry_version}
use Rattle.wp_model.specs.Flushed.{later_versions}
use Rattle.wp_model.specs.History.{entry_at, is_prepare}
use Rattle.wp_model.specs.Versions.{version_at}
use Rattle.wp_history.specs.History.{RoomyHistory}
use Rattle.wp_merge.specs.Merge.{joined}
use Rattle.wp_cover.specs.declared.sources.Sources.{Sources}

-- all of them: those of the list, of the tables, and of the entries above the flushed number
abbrev pub all_of : Sources → List Version
all_of s = s.list.now ++ (joined (map arc_value s.tables.now) ++ later_versions s.history.now.entries s.flushed)

-- the number is one up to the base, and no Prepare has it
abbrev pub is_fixed : RoomyHistory → ℕ → Bool
is_fixed h p = nat_le 1 p && (nat_le p h.base && not (is_prepare (entry_at h.entries p)))

-- what counts under such numbers is of the history
abbrev pub AreFixed : RoomyHistory → List Version → Type 0
AreFixed h versions = (key : List ℕ) (p : ℕ) (value : Option (List ℕ)) → is_fixed h p ≡ true → version_at versions key p ≡ Some value → entry_version h.entries p key ≡ Some value
