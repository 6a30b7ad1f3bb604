use Rattle.std.proofs.Common.{arith}
use Rattle.wp_compact.proofs.merging.make_ready.Goals as goal

pub ready-requires-clause-later : goal.ready-requires-clause-later
ready-requires-clause-later g c = (let n = c.flushed.ensures.number in omega (arith, n), λ wrong. absurd cc)
