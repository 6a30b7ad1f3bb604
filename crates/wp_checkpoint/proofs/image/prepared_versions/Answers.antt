use Rattle.std.proofs.Common.{◌≡◌, ◌∙◌}
use Rattle.std.proofs.lemmas.Result.{IfOk-weaker}
use Rattle.wp_cuts.specs.Kept.{carried_versions}
use Rattle.wp_merge.specs.Merge.{sorted_of}
use Rattle.wp_checkpoint.proofs.Prepared.{all_taken, none_taken, one_taken}
use Rattle.wp_checkpoint.proofs.image.prepared_versions.Goals as goal

pub loop-prepare-init : goal.loop-prepare-init
loop-prepare-init c = none_taken c.args.carried.now c.new-memory.result c.new-memory.ensures

pub loop-prepare-preserved : goal.loop-prepare-preserved
loop-prepare-preserved c =
    one_taken c.args.carried.now c.loop-prepare.prepare-index c.prepare-item.result c.loop-prepare.memory c.insert.new.self c.requires.ascend c.loop-prepare-test.true c.prepare-item.is c.in_ok-insert.ensures.ok c.loop-prepare.invariant

pub returns : goal.returns
returns c =
    let is = all_taken c.args.carried.now c.loop-prepare.prepare-index c.loop-prepare.memory c.requires.ascend c.loop-prepare-test.false c.loop-prepare.invariant in
    IfOk-weaker c.all.result (λ versions. versions ≡ c.loop-prepare.memory) (λ versions. versions ≡ sorted_of (carried_versions c.args.carried.now)) (λ versions all. all ∙ is) c.all.ensures.all
