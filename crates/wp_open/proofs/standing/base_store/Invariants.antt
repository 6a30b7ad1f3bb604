use Rattle.std.proofs.Common.{length}
use Rattle.wp_history.specs.Outline.{cut_in}
use Rattle.wp_open.proofs.OverTables.{AreTaken}
use Rattle.wp_open.proofs.standing.base_store.Given as goal

abbrev pub invariant-loop-version : goal.invariant-loop-version
invariant-loop-version l = AreTaken (cut_in l.outline) l.fn.versions l.rest.items l.store

abbrev pub decreases-loop-version : goal.decreases-loop-version
decreases-loop-version l = length l.rest.items
