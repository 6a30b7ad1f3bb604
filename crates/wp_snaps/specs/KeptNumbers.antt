-- Under which live numbers the old commit map has something.
use Rattle.std.specs.Prelude.{ℕ, Bool, false, not, ◌==◌}
use Rattle.std.specs.Option.{option_map_or}
use Rattle.std.specs.Ordering.{nat_cmp}
use Rattle.std.specs.FinSet as set
use Rattle.std.specs.FinMap as finite
use Rattle.wp_model.specs.Snapshots.{Snapshots}

-- whether the old commit map has something under s
abbrev pub has_old_commits : Snapshots → ℕ → Bool
has_old_commits m s = option_map_or (λ x. not (set.len x.old_commits == 0)) (finite.get m s) false

-- the live numbers with something under them
abbrev pub kept_numbers : Snapshots → set.FinSet nat_cmp
kept_numbers m = set.from_list (finite.keys (finite.retain_keys m (has_old_commits m)))
