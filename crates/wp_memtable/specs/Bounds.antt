-- Bounds of the numbers of versions.
use Rattle.std.specs.Prelude.{◌≡◌, ℕ, ◌≤◌, Bool, true, ◌&&◌, nat_lt, List, filter, Option, Some, None}
use Rattle.wp_model.specs.declared.version.Version.{Version}
use Rattle.wp_model.specs.Versions.{version_at}
use Rattle.wp_memtable.specs.declared.bounds.Bounds.{Bounds}

-- the number is above this one, if there is one
abbrev pub is_above : Option ℕ → ℕ → Bool
is_above None n = true
is_above (Some m) n = nat_lt m n

-- the number is below this one, if there is one
abbrev pub is_below : Option ℕ → ℕ → Bool
is_below None n = true
is_below (Some m) n = nat_lt n m

abbrev pub is_between : Bounds → ℕ → Bool
is_between b n = is_above b.above n && is_below b.below n

-- the versions with numbers between the bounds
abbrev pub between : Bounds → List Version → List Version
between b versions = filter (λ v. is_between b v.number) versions

-- no version has a number below the first or above the second
abbrev pub AreWithin : ℕ → ℕ → List Version → Type 0
AreWithin least greatest versions = (key : List ℕ) (n : ℕ) (value : Option (List ℕ)) → version_at versions key n ≡ Some value → (least ≤ n) × (n ≤ greatest)
