-- Which versions are a copy of a history at its end.
use Rattle.std.specs.Prelude.{◌≡◌, ℕ, true, List, length, Option, Some, None}
use Rattle.wp_model.specs.declared.entry.Entry.{Entry}
use Rattle.wp_model.specs.declared.version.Version.{Version}
use Rattle.wp_model.specs.History.{is_undecided, value_at}
use Rattle.wp_model.specs.Decision.{entry_version, IsCommittedAt}
use Rattle.wp_model.specs.Versions.{AreInOrder, version_at}

-- Some of the versions that the history has, in order. Each of an undecided prepare is there; and of each key that has a value at the
-- end one committed version with that value, which need not be the newest one of the history. Of what is committed there nothing else is.
pub record AreCopied (history : List Entry) (versions : List Version) : Type 0 where
  pub order : AreInOrder versions
  pub part : (key : List ℕ) (p : ℕ) (value : Option (List ℕ)) → version_at versions key p ≡ Some value → entry_version history p key ≡ Some value
  pub undecided : (key : List ℕ) (p : ℕ) (value : Option (List ℕ)) → is_undecided history p ≡ true → entry_version history p key ≡ Some value → version_at versions key p ≡ Some value
  pub there : (key value : List ℕ) → value_at history key (length history) ≡ Some value → (p : ℕ) × IsCommittedAt history p (length history) × (version_at versions key p ≡ Some (Some value))
  pub alone : (key : List ℕ) (p q : ℕ) (value other : Option (List ℕ)) → version_at versions key p ≡ Some value → version_at versions key q ≡ Some other
      → IsCommittedAt history p (length history) → IsCommittedAt history q (length history) → p ≡ q
  pub shown : (key : List ℕ) (p : ℕ) (value : List ℕ) → version_at versions key p ≡ Some (Some value) → IsCommittedAt history p (length history) → value_at history key (length history) ≡ Some value
  pub values : (key : List ℕ) (p : ℕ) → version_at versions key p ≡ Some None → IsCommittedAt history p (length history) → ⊥
