-- When old versions may go.
use Rattle.std.specs.Prelude.{◌≡◌, ℕ, ◌≤◌, Bool, true, List}
use Rattle.std.specs.Option.{IsSome}
use Rattle.wp_model.specs.declared.entry.Entry.{Entry}
use Rattle.wp_model.specs.Covered.{is_among}
use Rattle.wp_model.specs.Decision.{IsCommittedAt}
use Rattle.wp_model.specs.declared.version.Version.{Version}
use Rattle.wp_model.specs.Versions.{AreInOrder, version_at}

-- of the versions' numbers, just those pass the test at n that the history has committed there
pub record DecidesAt (committed : ℕ → ℕ → Bool) (history : List Entry) (versions : List Version) (n : ℕ) : Type 0 where
  pub true_of : (key : List ℕ) (p : ℕ) → IsSome (version_at versions key p) → IsCommittedAt history p n → committed p n ≡ true
  pub true_only : (key : List ℕ) (p : ℕ) → IsSome (version_at versions key p) → committed p n ≡ true → IsCommittedAt history p n

-- a version of the first list has no lesser number than one of its key in the second
abbrev pub AreNoOlder : List Version → List Version → Type 0
AreNoOlder newer versions = (key : List ℕ) (p q : ℕ) → IsSome (version_at newer key p) → IsSome (version_at versions key q) → q ≤ p

-- versions in order, beside others that are no older, with a test that decides their numbers at the floor and at each
-- snapshot as the history does
pub record MayGo (committed : ℕ → ℕ → Bool) (history : List Entry) (newer versions : List Version) (snapshots : List ℕ) (floor : ℕ) : Type 0 where
  pub in_order : AreInOrder versions
  pub no_older : AreNoOlder newer versions
  pub at_floor : DecidesAt committed history versions floor
  pub at_snapshots : (n : ℕ) → is_among snapshots n ≡ true → DecidesAt committed history versions n
