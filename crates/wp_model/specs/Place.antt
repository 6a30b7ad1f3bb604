-- Where a change is in a batch, or would be.
use Rattle.std.specs.Prelude.{◌≡◌, ℕ, ◌<◌, ◌≤◌, List, length, None, insert, slice_set}
use Rattle.wp_model.specs.declared.change.Change.{Change}
use Rattle.wp_model.specs.declared.batch.Place.{Place}
use Rattle.wp_model.specs.declared.batch.Place.TheVariants.{At, Before}
use Rattle.wp_model.specs.Batch.{key_of, change_to, with_change}

-- the key has a change, and a new one takes its place
pub record IsChangedAt (changes : List Change) (key : List ℕ) (i : ℕ) : Type 0 where
  pub within : i < length changes
  pub there : (change_to changes key ≡ None) → ⊥
  pub placed : (change : Change) → key_of change ≡ key → with_change changes change ≡ slice_set changes i change

-- the key has no change, and a new one comes before that place
pub record IsUnchangedBefore (changes : List Change) (key : List ℕ) (i : ℕ) : Type 0 where
  pub within : i ≤ length changes
  pub missing : change_to changes key ≡ None
  pub placed : (change : Change) → key_of change ≡ key → with_change changes change ≡ insert changes i change

abbrev pub IsPlaceOf : List Change → List ℕ → Place → Type 0
IsPlaceOf changes key (At i) = IsChangedAt changes key i
IsPlaceOf changes key (Before i) = IsUnchangedBefore changes key i
