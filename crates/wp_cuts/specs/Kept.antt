-- What stays of a store's versions where old ones are let go, from a base on.
use Rattle.std.specs.Prelude.{◌≡◌, ℕ, ◌<◌, ◌≤◌, true, List, [], ◌∷◌, ◌++◌, Option, Some, None}
use Rattle.std.specs.List.{list_any}
use Rattle.std.specs.Str.{bytes_eq}
use Rattle.wp_model.specs.declared.carried.Carried.{Carried}
use Rattle.wp_model.specs.declared.entry.Entry.{Entry}
use Rattle.wp_model.specs.declared.version.Version.{Version}
use Rattle.wp_model.specs.Covered.{GivesStore, is_among}
use Rattle.wp_model.specs.Decision.{entry_version, IsCommittedAt}
use Rattle.wp_model.specs.Flushed.{versions_under}
use Rattle.wp_model.specs.History.{value_at}
use Rattle.wp_model.specs.Versions.{AreInOrder, version_at}
use Rattle.wp_cuts.specs.Cut.{}

-- the versions of what a base carries
abbrev pub carried_versions : List Carried → List Version
carried_versions [] = []
carried_versions (x ∷ xs) = versions_under x.number x.batch ++ carried_versions xs

-- each key that has a value at the base is one of these
abbrev pub HasKeysAt : List Entry → ℕ → List (List ℕ) → Type 0
HasKeysAt history base keys = (key value : List ℕ) → value_at history key base ≡ Some value → list_any (λ k. bytes_eq k key) keys ≡ true

-- of the key's versions that are kept, the one with that number is the newest that is committed at some number from the base on
pub record IsNewestFrom (history : List Entry) (kept : List Version) (base : ℕ) (key : List ℕ) (p : ℕ) : Type 0 where
  pub at : ℕ
  pub from_base : base ≤ at
  pub committed : IsCommittedAt history p at
  pub newest : (q : ℕ) → p < q → IsCommittedAt history q at → version_at kept key q ≡ None

-- an older version of the key is kept
pub record HasOlder (kept : List Version) (key : List ℕ) (p : ℕ) : Type 0 where
  pub number : ℕ
  pub value : Option (List ℕ)
  pub older : number < p
  pub there : version_at kept key number ≡ Some value

-- Versions of the history up to the floor, by which each key has at the base what the store had there. Of those that are committed
-- at the floor each is the newest of its key at some number from the base on, and no deletion is a key's oldest one.
pub record AreKept (history : List Entry) (base floor : ℕ) (kept : List Version) : Type 0 where
  pub order : AreInOrder kept
  pub part : (key : List ℕ) (p : ℕ) (value : Option (List ℕ)) → version_at kept key p ≡ Some value → entry_version history p key ≡ Some value
  pub within : (key : List ℕ) (p : ℕ) (value : Option (List ℕ)) → version_at kept key p ≡ Some value → p ≤ floor
  pub gives : (key : List ℕ) → GivesStore kept history key base
  pub newest : (key : List ℕ) (p : ℕ) (value : Option (List ℕ)) → version_at kept key p ≡ Some value → IsCommittedAt history p floor → IsNewestFrom history kept base key p
  pub deletions : (key : List ℕ) (p : ℕ) → version_at kept key p ≡ Some None → IsCommittedAt history p floor → HasOlder kept key p

-- Some of the history's versions, none above the floor, by which each key has at the base what the store had there. They may stay
-- for readers at these numbers too: the base is one of them, and none is below it.
pub record StayFrom (history : List Entry) (versions : List Version) (numbers : List ℕ) (base floor : ℕ) : Type 0 where
  pub above : base ≤ floor
  pub listed : is_among numbers base ≡ true
  pub from_base : (n : ℕ) → is_among numbers n ≡ true → base ≤ n
  pub part : (key : List ℕ) (p : ℕ) (value : Option (List ℕ)) → version_at versions key p ≡ Some value → entry_version history p key ≡ Some value
  pub within : (key : List ℕ) (p : ℕ) (value : Option (List ℕ)) → version_at versions key p ≡ Some value → p ≤ floor
  pub gives : (key : List ℕ) → GivesStore versions history key base
