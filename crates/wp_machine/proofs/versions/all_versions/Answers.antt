use Rattle.wp_machine.proofs.Opened.{versions_more}
use Rattle.wp_machine.proofs.versions.all_versions.Goals as goal

pub loop-i-preserved : goal.loop-i-preserved
loop-i-preserved c = versions_more c.args.entries.now c.loop-i.i c.in_ok-n.n c.index-entries-i.result _ _ _ c.loop-i-test.true c.index-entries-i.is c.in_ok-n.ensures c.loop-i.invariant c.in_ok-more.ensures c.in_ok-append.ensures.items
