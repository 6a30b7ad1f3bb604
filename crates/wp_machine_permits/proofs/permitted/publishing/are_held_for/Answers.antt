use Rattle.std.proofs.Common.{rules}
use native.Mathlib.Numerals.{unary_clauses}
use Rattle.wp_model.specs.Batch.{key_of}
use Rattle.wp_machine_permits.specs.Permits.{IsHeldKey}
use Rattle.wp_machine_permits.proofs.Searches.{each_step}
use Rattle.wp_machine_permits.proofs.permitted.publishing.are_held_for.Goals as goal

pub loop-change-preserved : goal.loop-change-preserved
loop-change-preserved c rest =
    let held : IsHeldKey c.args.history.now.entries c.args.world.now c.args.actor.now (key_of c.change-item.result) = rw c.key.ensures at c.is_held_for.ensures (search rules) in
    c.loop-change.invariant (each_step (λ change. IsHeldKey c.args.history.now.entries c.args.world.now c.args.actor.now (key_of change)) c.args.changes.now c.loop-change.change-index c.change-item.result c.loop-change-test.true c.change-item.is held (simp unary_clauses at rest))
