-- Live snapshots with the memory that their sets have.
use Rattle.std.specs.Prelude.{◌≡◌, ℕ, ◌<◌, ◌≤◌, IsSome, IfSome, None, map, refl}
use Rattle.std.specs.Ordering.{nat_cmp}
use Rattle.std.specs.Coded.{Coded, code_by, coded×, coded_ℕ}
use Rattle.std.specs.BTreeMap.{BTreeMap, get}
use Rattle.std.specs.FinMap.{from_entries}
use Rattle.wp_model.specs.Snapshots.{LiveSnapshot, Snapshots, snapshot_code}

-- a snapshot, and how many more numbers may be under it without memory
pub record RoomySnapshot : Type 0 where
  pub snapshot : LiveSnapshot
  pub room : ℕ

abbrev pub roomy_snapshot_code : Coded RoomySnapshot
roomy_snapshot_code =
    code_by (LiveSnapshot × ℕ) (coded× snapshot_code coded_ℕ) (λ s. (s.snapshot, s.room)) (λ p. record { snapshot = p.0; room = p.1 }) (λ _. refl)

-- the snapshots without their room
abbrev pub snapshots_of : BTreeMap ℕ RoomySnapshot → Snapshots
snapshots_of live = from_entries (map (λ e. (e.0, e.1.snapshot)) live.entries)

-- each live number from `from` on and below `end` has room for one number more
abbrev pub HasRoom : BTreeMap ℕ RoomySnapshot → ℕ → ℕ → Type 0
HasRoom live from end = (s : ℕ) → from ≤ s → s < end → IfSome (get nat_cmp live s) (λ x. 0 < x.room)

-- no number from `from` on and below `end` is live
abbrev pub NoneLive : BTreeMap ℕ RoomySnapshot → ℕ → ℕ → Type 0
NoneLive live from end = (s : ℕ) → from ≤ s → s < end → get nat_cmp live s ≡ None

-- s is the least live number from `from` on, and below `end`
pub record IsNextLive (live : BTreeMap ℕ RoomySnapshot) (from end s : ℕ) : Type 0 where
  pub live_at : IsSome (get nat_cmp live s)
  pub not_before : from ≤ s
  pub below_end : s < end
  pub none_between : NoneLive live from s
