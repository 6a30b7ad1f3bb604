-- Why numbers are no group.
use Rattle.std.specs.Prelude.{ℕ, List}
use Rattle.wp_model.specs.CachePlace.{IsFirstCrowded}
use Rattle.wp_group.specs.declared.error.GroupError.{GroupError}
use Rattle.wp_group.specs.declared.error.GroupError.TheVariants.{Memory, Crowded}

-- where memory is not wanting, the two are the first that have one place in a cache of so many words
abbrev pub IsNoGroup : ℕ → List ℕ → GroupError → Type 0
IsNoGroup cells numbers Memory = Unit {0}
IsNoGroup cells numbers (Crowded first second) = IsFirstCrowded cells numbers first second
