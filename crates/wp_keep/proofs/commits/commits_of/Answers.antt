use Rattle.std.proofs.Common.{get_or, refl, ◌∙◌}
use Rattle.wp_keep.specs.declared.pair.Pair.{Pair}
use Rattle.wp_keep.proofs.Committed.{commits_none, commit_more}
use Rattle.wp_keep.proofs.commits.commits_of.Goals as goal

pub loop-pair-init : goal.loop-pair-init
loop-pair-init c = commits_none _ c.new-commits.ensures.empty

pub loop-pair-preserved : goal.loop-pair-preserved
loop-pair-preserved c =
    let none : Pair = record { number = 0; commit = 0 } in
    commit_more c.loop-pair.commits.entries c.insert.new.self.entries c.args.committed.now c.loop-pair.pair-index none (get_or c.args.committed.now c.loop-pair.pair-index none) c.copied.result c.least-commit.result c.loop-pair-test.true refl (c.copied.ensures ∙ c.get.ensures.value) c.least-commit.ensures c.in_ok-insert.ensures.updates.0 c.loop-pair.invariant
