use Rattle.std.proofs.Common.{◌≡◌, length}
use Rattle.wp_outside.proofs.WriteLemmas.{Wrote}
use Rattle.wp_outside.proofs.whole.write_all.Given as goal

abbrev pub invariant-loop-rest : goal.invariant-loop-rest
invariant-loop-rest g l = record {
  wrote : Wrote (g.K.Sink.contents l.initial.sink) (g.K.Sink.contents l.sink) l.text l.rest;
  unfailed : g.K.Sink.faults l.sink ≡ g.K.Sink.faults l.initial.sink;
}

abbrev pub decreases-loop-rest : goal.decreases-loop-rest
decreases-loop-rest g l = length l.rest
