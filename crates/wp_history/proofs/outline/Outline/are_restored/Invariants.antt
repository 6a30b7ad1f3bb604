use Rattle.std.proofs.Common.{◌≡◌, take}
use Rattle.wp_model.specs.Legal.{prior}
use Rattle.wp_history.proofs.outline.Outline.are_restored.Given as goal

abbrev pub invariant-loop-i : goal.invariant-loop-i
invariant-loop-i l = take l.i l.restored ≡ prior (take l.n l.self.entries) (take l.i l.prepared)
