use Rattle.std.proofs.Common.{◌≡◌, ◌+◌, ◌≤◌, take}
use Rattle.wp_model.specs.History.{newest}
use Rattle.wp_history.proofs.outline.Outline.value_at.Given as goal

abbrev pub invariant-loop-i : goal.invariant-loop-i
invariant-loop-i l = record { within : l.self.base + l.i ≤ l.n; same : newest (take l.n l.self.entries) l.key ≡ newest (take (l.self.base + l.i) l.self.entries) l.key }

abbrev pub decreases-loop-i : goal.decreases-loop-i
decreases-loop-i l = l.i
