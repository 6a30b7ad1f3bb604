-- The live snapshots as their contracts see them.
use Rattle.std.specs.Prelude.{◌≡◌, ℕ, ◌+◌, ◌-◌, Bool, false, Option, Some, None, IsSome, nat_lt, nat_le, ◌&&◌, if◌then◌else◌, refl}
use Rattle.std.specs.Option.{option_map_or}
use Rattle.std.specs.Ordering.{nat_cmp}
use Rattle.std.specs.Coded.{Coded, code_by, coded×, coded_ℕ}
use Rattle.std.specs.FinSet as set
use Rattle.std.specs.FinMap as map

-- a live snapshot: how often it is registered, and the prepare numbers that the old commit map has under it
pub record LiveSnapshot : Type 0 where
  pub registrations : ℕ
  pub old_commits : set.FinSet nat_cmp

-- it is stored as the pair of its fields
abbrev pub snapshot_code : Coded LiveSnapshot
snapshot_code =
    code_by (ℕ × set.FinSet nat_cmp) (coded× coded_ℕ (set.code coded_ℕ)) (λ s. (s.registrations, s.old_commits)) (λ p. record { registrations = p.0; old_commits = p.1 }) (λ _. refl)

-- the live numbers, each with its snapshot
abbrev pub Snapshots : Type 0
Snapshots = map.FinMap nat_cmp LiveSnapshot

abbrev pub snapshots_code : Coded Snapshots
snapshots_code = map.code coded_ℕ snapshot_code

-- a snapshot is registered at s
abbrev pub IsLive : Snapshots → ℕ → Type 0
IsLive m s = IsSome (map.get m s)

-- whether the old commit map has p under s
abbrev pub is_old_commit : Snapshots → ℕ → ℕ → Bool
is_old_commit m s p = option_map_or (λ x. set.contains x.old_commits p) (map.get m s) false

-- the old commit map is empty
abbrev pub NoOldCommits : Snapshots → Type 0
NoOldCommits m = (s p : ℕ) → is_old_commit m s p ≡ false

-- one registration more: the first makes a number live, with nothing under it
abbrev pub after_register : Option LiveSnapshot → Option LiveSnapshot
after_register None = Some (record { registrations = 1; old_commits = set.empty })
after_register (Some x) = Some (record x { registrations = x.registrations + 1 })

-- one registration less: with the last goes what is under the number
abbrev pub after_release : Option LiveSnapshot → Option LiveSnapshot
after_release None = None
after_release (Some x) = if nat_le x.registrations 1 then None else Some (record x { registrations = x.registrations - 1 })

-- p under a number, where that is live
abbrev pub after_keep : ℕ → Option LiveSnapshot → Option LiveSnapshot
after_keep p None = None
after_keep p (Some x) = Some (record x { old_commits = set.insert x.old_commits p })

-- whether the snapshot number s lies between a prepare at p and its commit at c: p <= s < c
abbrev pub overlaps : ℕ → ℕ → ℕ → Bool
overlaps p c s = nat_le p s && nat_lt s c

-- the numbers that pass the test are changed, and all others stay
abbrev pub ChangesWhere : (ℕ → Bool) → (Option LiveSnapshot → Option LiveSnapshot) → Snapshots → Snapshots → Type 0
ChangesWhere test change old new = (s : ℕ) → map.get new s ≡ (if test s then change (map.get old s) else map.get old s)
