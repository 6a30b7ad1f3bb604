use Rattle.wp_checkpoint.proofs.Prepared.{AreTaken}
use Rattle.wp_checkpoint.proofs.image.prepared_versions.Given as goal

abbrev pub invariant-loop-prepare : goal.invariant-loop-prepare
invariant-loop-prepare l = AreTaken l.carried l.prepare-index l.memory
