use Rattle.std.proofs.Common.{◌≤◌, length, rules}
use Rattle.wp_tableset.proofs.StageLemmas.{built_some}
use Rattle.wp_tableset.proofs.set.build_some.Goals as goal

pub returns-clause-built : goal.returns-clause-built
returns-clause-built c =
    let some : 1 ≤ length c.args.versions.now = search rules in
    built_some c.args.id c.args.versions.now c.in_ok-built.built some c.in_ok-built.ensures.bytes c.in_ok-built.ensures.versions

pub returns-clause-spelled : goal.returns-clause-spelled
returns-clause-spelled c = λ flushed all some. c.in_ok-built.ensures.table flushed all
