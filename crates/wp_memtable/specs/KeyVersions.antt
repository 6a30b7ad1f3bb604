-- The versions of one key, each a number and a value, or none for a deletion.
use Rattle.std.specs.Prelude.{ℕ, Bool, ◌||◌, List, Option, is_some, nat_eq, nat_lt, refl}
use Rattle.std.specs.declared.cmp.Ordering.{Ordering}
use Rattle.std.specs.Ordering.{nat_cmp}
use Rattle.std.specs.List.Sorted.{IsStrictlySortedBy}
use Rattle.std.specs.Map.{lookup, keys_of}
use Rattle.std.specs.Coded.{Coded, code_by, coded×, coded_ℕ, coded_list, coded_option}

abbrev pub Numbered : Type 0
Numbered = List (ℕ × Option (List ℕ))

-- the order of numbers in which the greater comes first
abbrev pub newest_cmp : ℕ → ℕ → Ordering
newest_cmp m n = nat_cmp n m

abbrev pub AreNewestFirst : Numbered → Type 0
AreNewestFirst versions = IsStrictlySortedBy newest_cmp (keys_of versions)

-- the versions, and how many more fit in the memory that is there
pub record RoomyVersions : Type 0 where
  pub versions : Numbered
  pub room : ℕ

abbrev pub roomy_versions_code : Coded RoomyVersions
roomy_versions_code =
    code_by (Numbered × ℕ) (coded× (coded_list (coded× coded_ℕ (coded_option (coded_list coded_ℕ)))) coded_ℕ) (λ r. (r.versions, r.room)) (λ p. record { versions = p.0; room = p.1 }) (λ _. refl)

-- whether a version may come under n without memory: there is room, or n has one already
abbrev pub has_place : RoomyVersions → ℕ → Bool
has_place r n = is_some (lookup (nat_eq n) r.versions) || nat_lt 0 r.room
