use Rattle.std.proofs.Common.{◌∙◌}
use Rattle.wp_outside.proofs.WriteLemmas.{wrote_more, wrote_prefix}
use Rattle.wp_outside.proofs.whole.write_all.Goals as goal

pub loop-rest-preserved : goal.loop-rest-preserved
loop-rest-preserved g c = record {
  wrote = wrote_more _ _ _ _ _ c.in-Ok.n c.loop-rest.invariant.wrote c.in-Ok.ensures.takes.0 c.in-Ok.ensures.takes.2;
  unfailed = c.in-Ok.ensures.cause.ok ∙ c.loop-rest.invariant.unfailed;
}

pub returns-in-Err-clause-err : goal.returns-in-Err-clause-err
returns-in-Err-clause-err g c = wrote_prefix _ _ _ _ _ c.loop-rest.invariant.wrote c.in-Err.ensures.takes
