-- What is so of the log's segments and the edits that name them.
use Rattle.std.specs.Prelude.{◌≡◌, ◌≢◌, ◌⊎◌, ℕ, false, [], length, Option, Some, None}
use Rattle.wp_model.specs.declared.segment.Segment.{Segment}
use Rattle.wp_core.specs.States.{WriteState, Installed}
use Rattle.wp_model.specs.Flushed.{InstalledEdit}

-- The last edit names the segment in use, or the next one, while the log is not closed. The edit whose install failed names the same
-- one, or the next one. The next one has the history up to its end; while it waits, nothing is pending and somebody holds the write turn.
pub record AreCoupled (t : WriteState) (e : Installed) (holder : Option ℕ) : Type 0 where
  pub last : (e.last.segment ≡ t.segment) ⊎ ((t.next ≡ Some e.last.segment) × (t.closed ≡ false))
  pub failed : (edit : InstalledEdit) → e.failed ≡ Some edit → (edit.segment ≡ e.last.segment) ⊎ (t.next ≡ Some edit.segment)
  pub next : (segment : Segment) → t.next ≡ Some segment → (segment.base ≡ length t.history) × (t.closed ≡ false → (t.pending ≡ []) × (holder ≢ None))
