use Rattle.std.proofs.Common.{◌+◌, ◌-◌, ◌≤◌}
use Rattle.wp_cover.specs.Sources.{all_of}
use Rattle.wp_cover.proofs.Together.{GivesBelow}
use Rattle.wp_cover.proofs.covering.gives_later.Given as goal

abbrev pub invariant-loop-n : goal.invariant-loop-n
invariant-loop-n l = record { from : l.from ≤ l.n; below : GivesBelow (all_of l.sources) l.decisions l.from l.n }

abbrev pub decreases-loop-n : goal.decreases-loop-n
decreases-loop-n l = l.last + 1 - l.n
