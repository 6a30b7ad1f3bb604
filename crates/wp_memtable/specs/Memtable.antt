-- The versions in memory: each key with its own.
use Rattle.std.specs.Prelude.{◌≡◌, ℕ, Bool, true, false, ◌==◌, nat_lt, List, [], ◌∷◌, ◌++◌, is_some, if◌then◌else◌, map, filter}
use Rattle.std.specs.Option.{option_or, option_map_or}
use Rattle.std.specs.Str.{bytes_eq}
use Rattle.std.specs.List.{list_all}
use Rattle.std.specs.List.Sorted.{IsStrictlySortedBy}
use Rattle.std.specs.Map.{lookup, keys_of}
use Rattle.std.specs.BTreeMap.{is_at}
use Rattle.std.specs.declared.ops.Bound.{Bound}
use Rattle.std.specs.declared.ops.Bound.TheVariants.{Included, Excluded}
use Rattle.wp_model.specs.declared.change.Change.{Change}
use Rattle.wp_model.specs.Batch.{key_cmp, change_to}
use Rattle.wp_model.specs.Word.{is_key}
use Rattle.wp_model.specs.declared.version.Version.{Version}
use Rattle.wp_model.specs.Versions.{AreInOrder, version_at}
use Rattle.wp_memtable.specs.KeyVersions.{Numbered, RoomyVersions, AreNewestFirst, has_place}

-- new is old with the changes under n: a version of the same key and number is replaced, and all others stay
pub record HasChanges (n : ℕ) (changes : List Change) (old new : List Version) : Type 0 where
  pub in_order : AreInOrder new
  pub each : (key : List ℕ) (m : ℕ) → version_at new key m ≡ (if m == n then option_or (change_to changes key) (version_at old key m) else version_at old key m)

-- the versions with numbers below n
abbrev pub below : ℕ → List Version → List Version
below n versions = filter (λ v. nat_lt v.number n) versions

-- the versions with numbers above n
abbrev pub above : ℕ → List Version → List Version
above n versions = filter (λ v. nat_lt n v.number) versions

-- the versions of the key, without it
abbrev pub numbered_of : List ℕ → List Version → Numbered
numbered_of key versions = map (λ v. (v.number, v.value)) (filter (λ v. bytes_eq v.key key) versions)

-- ---- how they are kept

abbrev pub Places : Type 0
Places = List (List ℕ × RoomyVersions)

-- the versions of one key
abbrev pub under : List ℕ → Numbered → List Version
under key [] = []
under key (p ∷ ps) = record { key = key; number = p.0; value = p.1 } ∷ under key ps

-- the versions of all keys
abbrev pub versions_in : Places → List Version
versions_in [] = []
versions_in (e ∷ es) = under e.0 e.1.versions ++ versions_in es

abbrev pub AllNewestFirst : Places → Type 0
AllNewestFirst [] = Unit {0}
AllNewestFirst (e ∷ es) = AreNewestFirst e.1.versions × AllNewestFirst es

-- the keys ascend, they are in their range, and each has its versions newest first
pub record AreWellOrdered (places : Places) : Type 0 where
  pub keys : IsStrictlySortedBy key_cmp (keys_of places)
  pub words : list_all is_key (keys_of places) ≡ true
  pub newest_first : AllNewestFirst places

-- where the keys begin that are above the key, or, where that is not asked, not below it
abbrev pub start_at : (above : Bool) → List ℕ → Bound (List ℕ)
start_at above key = if above then Excluded key else Included key

-- whether a version may come under the key and n without memory
abbrev pub place_at : Places → List ℕ → ℕ → Bool
place_at places key n = option_map_or (λ r. has_place r n) (lookup (is_at (key_cmp key)) places) false

-- each of the changes may come under n without memory
abbrev pub HavePlaces : Places → List Change → ℕ → Type 0
HavePlaces places changes n = (key : List ℕ) → is_some (change_to changes key) ≡ true → place_at places key n ≡ true
