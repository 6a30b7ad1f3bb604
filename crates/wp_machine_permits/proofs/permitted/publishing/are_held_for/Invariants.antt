use Rattle.std.proofs.Common.{drop}
use Rattle.wp_model.specs.Batch.{key_of}
use Rattle.wp_machine_permits.specs.Each.{Each}
use Rattle.wp_machine_permits.specs.Permits.{IsHeldKey}
use Rattle.wp_machine_permits.proofs.permitted.publishing.are_held_for.Given as goal

abbrev pub invariant-loop-change : goal.invariant-loop-change
invariant-loop-change l = Each (λ change. IsHeldKey l.history.entries l.world l.actor (key_of change)) (drop l.change-index l.changes) → Each (λ change. IsHeldKey l.history.entries l.world l.actor (key_of change)) l.changes
