-- What a call makes of its disk.
use Rattle.std.specs.Prelude.{ℕ, List, ◌++◌, length, drop, Result, OnOk}
use Rattle.wp_outside.specs.Disk.{Moment, IsImage, IfKnown, Goes, synced}
use Rattle.wp_gatelog.specs.Durability.{Preserves, HasAcknowledged, Spares, LosesNoRecordAt}
use Rattle.wp_gatelog.specs.Moments.{Leaves, LeavesFrom, IsSynced}
use Rattle.wp_gatelog.specs.Spelling.{Stamp}
use Rattle.wp_gatelog.specs.Stands.{Stands, StandsOn}

-- From the bytes before, which stand behind a front: at each moment a crash leaves bytes with P behind it, and those records
-- that bytes with P keep are not lost. Once the call is Ok, the bytes after are synced there, and records that stand in both
-- stood all along.
pub record Changes {T E : Type 0} (front : List ℕ) (P : List ℕ → Type 0) (before after : List ℕ) (old new : List Moment) (result : Result T E) : Type 0 where
  pub passed : Goes (LeavesFrom (length front) P) old new
  pub durable : (magic : List ℕ) (stamp : Stamp) (records : List (List ℕ)) → Spares magic stamp records before P → Preserves (LeavesFrom (length front) (HasAcknowledged magic stamp records)) old new
  pub done : OnOk result (IsSynced (front ++ after) new)
  pub stands : OnOk result ((magic : List ℕ) (stamp : Stamp) (records : List (List ℕ)) → (Stands magic stamp records before → Stands magic stamp records after) → Preserves (λ m. Stands magic stamp records (drop (length front) m.reads)) old new)

-- the step is made behind the front, and synced
abbrev pub Steps : {T E : Type 0} → List ℕ → (Moment → Moment) → List ℕ → List Moment → List Moment → Result T E → Type 0
Steps front step before old new result = Changes front (IsImage (step (synced before))) before (step (synced before)).reads old new result

-- At each moment a crash leaves bytes with P, and no record of the log at that place is lost. Once the call is Ok, the disk
-- is so that Q, and what stood there stands on.
pub record BringsTo {T E : Type 0} (place : ℕ) (magic : List ℕ) (P : List ℕ → Type 0) (Q : Moment → Type 0) (old new : List Moment) (result : Result T E) : Type 0 where
  pub passed : Goes (Leaves P) old new
  pub durable : LosesNoRecordAt place magic old new
  pub done : OnOk result (IfKnown new Q)
  pub stands : OnOk result (StandsOn place magic old new)
