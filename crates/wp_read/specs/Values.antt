-- How the value of a key at a number shows in a list of the key's newest versions.
use Rattle.std.specs.Prelude.{◌≡◌, ℕ, ◌<◌, ◌≤◌, true, List, ◌∷◌, ◌++◌, length, Some, None}
use Rattle.wp_model.specs.declared.entry.Entry.{Entry}
use Rattle.wp_model.specs.declared.version.Version.{Version}
use Rattle.wp_model.specs.Decision.{IsCommittedAt, entry_version}
use Rattle.wp_model.specs.History.{value_at}
use Rattle.wp_core.specs.Lists.{IsIn}
use Rattle.wp_core.specs.Sound.Snapshots.{has_versions_at}
use Rattle.wp_read.specs.Rows.{IsRowOf}
use Rattle.wp_read.specs.declared.values.Round.{Round}
use Rattle.wp_read.specs.declared.values.Round.TheVariants.{Done, More}

-- none of the versions is committed at n
abbrev pub NoneCommitted : List Entry → ℕ → List Version → Type 0
NoneCommitted history n versions = (v : Version) → IsIn v versions → IsCommittedAt history v.number n → ⊥

-- no number above n is committed there
abbrev pub NoneLater : List Entry → ℕ → Type 0
NoneLater history n = (p : ℕ) → n < p → IsCommittedAt history p n → ⊥

-- those up to n are versions of the history
abbrev pub AreVersions : List Entry → ℕ → List Version → Type 0
AreVersions history n versions = (v : Version) → IsIn v versions → v.number ≤ n → has_versions_at history v.number ≡ true

-- those up to n are the key's versions in the history
abbrev pub AreOfKey : List Entry → List ℕ → ℕ → List Version → Type 0
AreOfKey history key n versions = (v : Version) → IsIn v versions → v.number ≤ n → entry_version history v.number key ≡ Some v.value

-- The first of the versions that is committed at n has the value that the store has there. Where none of them is, and they are
-- fewer than these, the store has nothing there.
pub record ShowsValue (history : List Entry) (key : List ℕ) (n most : ℕ) (found : List Version) : Type 0 where
  pub are : AreOfKey history key n found
  pub none_later : NoneLater history n
  pub first : (front back : List Version) (v : Version) → found ≡ front ++ v ∷ back → NoneCommitted history n front → IsCommittedAt history v.number n → v.value ≡ value_at history key n
  pub none : length found < most → NoneCommitted history n found → value_at history key n ≡ None

-- the version with this place is the first that is committed at n
pub record IsFirstCommitted (history : List Entry) (n : ℕ) (found : List Version) (i : ℕ) : Type 0 where
  pub front : List Version
  pub version : Version
  pub back : List Version
  pub are : found ≡ front ++ version ∷ back
  pub place : length front ≡ i
  pub none_before : NoneCommitted history n front
  pub committed : IsCommittedAt history version.number n

-- it is the key's row, or none of these versions is committed
abbrev pub Says : List Entry → List ℕ → ℕ → Round → Type 0
Says history key n (Done row) = IsRowOf history key n row
Says history key n (More found) = NoneCommitted history n found
