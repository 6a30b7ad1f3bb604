use Rattle.std.proofs.Common.{drop}
use Rattle.wp_model.specs.Batch.{key_of}
use Rattle.wp_machine_permits.specs.Each.{Each}
use Rattle.wp_machine_permits.specs.Permits.{IsLocked}
use Rattle.wp_machine_permits.proofs.permitted.publishing.are_locked.Given as goal

abbrev pub invariant-loop-change : goal.invariant-loop-change
invariant-loop-change l =
    Each (λ change. IsLocked l.world l.transaction l.name (key_of change)) (drop l.change-index l.changes) → Each (λ change. IsLocked l.world l.transaction l.name (key_of change)) l.changes
