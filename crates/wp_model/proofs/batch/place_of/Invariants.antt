use Rattle.wp_model.proofs.BatchLemmas.{Passed}
use Rattle.wp_model.proofs.batch.place_of.Given as goal

abbrev pub invariant-loop-i : goal.invariant-loop-i
invariant-loop-i l = Passed l.changes l.key l.i
