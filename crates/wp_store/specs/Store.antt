-- A store: the versions in memory, in frozen parts and in tables.
use Rattle.std.specs.Prelude.{◌≡◌, ℕ, Bool, true, ◌==◌, nat_lt, List, ◌∷◌, ◌++◌, length, take, map, filter, fold, Option, Some, None, IfSome, if◌then◌else◌}
use Rattle.std.specs.List.{list_all}
use Rattle.std.specs.Ordering.{is_lt}
use Rattle.std.specs.Str.{bytes_eq}
use Rattle.wp_model.specs.Rows.{next_version}
use Rattle.wp_model.specs.Word.{is_key}
use Rattle.wp_model.specs.declared.version.Version.{Version}
use Rattle.wp_model.specs.Versions.{version_cmp}
use Rattle.wp_memtable.specs.Memtable.{above}
use Rattle.wp_table.specs.declared.version.VersionRef.{VersionRef}
use Rattle.wp_table.specs.Borrowed.{seen}
use Rattle.wp_table.specs.Table.{has_words}

-- Where versions are: in memory, where those of new entries go; in frozen parts, which a flush is writing or a refused
-- flush left; and in tables. The newest frozen part is the first, and so is the newest table.
pub record StoreParts : Type 0 where
  pub memory : List Version
  pub frozen : List (List Version)
  pub tables : List (List Version)

-- all parts: of two versions with one key and number the one in an earlier part counts
abbrev pub parts_of : StoreParts → List (List Version)
parts_of s = s.memory ∷ s.frozen ++ s.tables

-- no version is in memory or in a frozen part
abbrev pub is_flushed : StoreParts → Bool
is_flushed s = list_all (λ part. length part == 0) (s.memory ∷ s.frozen)

-- the versions of the key
abbrev pub of_key : List ℕ → List Version → List Version
of_key key versions = filter (λ v. bytes_eq v.key key) versions

-- the newest n versions of the key
abbrev pub newest_of : ℕ → List ℕ → List Version → List Version
newest_of n key versions = take n (of_key key versions)

-- their keys are in their range
abbrev pub AreWords : List Version → Type 0
AreWords versions = list_all (λ v. is_key v.key) versions ≡ true

-- the version that is borrowed, if there is one, may be copied: its words are in their range
abbrev pub IsCopyable : Option VersionRef → Type 0
IsCopyable version = IfSome version (λ v. has_words (seen v) ≡ true)

-- the version that comes first, of those that there are; of two of one place it is the first
abbrev pub least_version : Option Version → Option Version → Option Version
least_version None other = other
least_version (Some v) None = Some v
least_version (Some v) (Some w) = if is_lt (version_cmp w v) then Some w else Some v

-- the least of that version and of the next ones of all these lists
abbrev pub least_next : (above : Bool) → List ℕ → Option Version → List (List Version) → Option Version
least_next above key least parts = fold (λ so_far part. least_version so_far (next_version above key part)) least parts

-- of each part the versions with numbers above n, where there are any
abbrev pub parts_above : ℕ → List (List Version) → List (List Version)
parts_above n parts = filter (λ part. nat_lt 0 (length part)) (map (above n) parts)

-- the table, if there is one, before the others
abbrev pub with_newest : Option (List Version) → List (List Version) → List (List Version)
with_newest None tables = tables
with_newest (Some table) tables = table ∷ tables
