use Rattle.wp_open.proofs.Under.{free_fit}
use Rattle.wp_open.proofs.standing.are_below.Goals as goal

pub returns-then-none_fixed-clause-value : goal.returns-then-none_fixed-clause-value
returns-then-none_fixed-clause-value c = rw (← c.as_slice-versions.ensures.value) (free_fit c.args.outline.now c.as_slice-versions.result.now (rw (c.if-none_fixed.true) at c.none_fixed.ensures))
