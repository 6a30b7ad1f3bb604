use Rattle.std.proofs.Common.{ap, arith}
use Rattle.std.specs.FinSet.{len}
use Rattle.wp_prepared.proofs.Moves.{len-remove_le}
use Rattle.wp_prepared.proofs.prepared.Prepared.remove.Goals as goal

pub invariant_of-self : goal.invariant_of-self
invariant_of-self c = omega (arith, c.self.invariant, len-remove_le c.self.inside.heap c.args.p, ap len c.remove.ensures, c.remove-2.ensures.room)
