use Rattle.std.proofs.Common.{◌≤◌, drop}
use Rattle.wp_model.specs.Flushed.{later_versions}
use Rattle.wp_open.proofs.Later.{AreTaken}
use Rattle.wp_open.proofs.memory.later_memory.Given as goal

abbrev pub invariant-loop-n : goal.invariant-loop-n
invariant-loop-n l = record { from : l.flushed ≤ l.n; taken : AreTaken (later_versions l.history.entries l.flushed) (drop l.n l.history.entries) l.n l.memory }
