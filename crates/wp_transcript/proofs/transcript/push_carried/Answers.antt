use Rattle.wp_text.specs.Lines.{carried_line}
use Rattle.wp_transcript.proofs.TextLemmas.{lines_more}
use Rattle.wp_transcript.proofs.transcript.push_carried.Goals as goal

pub loop-prepare-preserved : goal.loop-prepare-preserved
loop-prepare-preserved c =
    lines_more carried_line c.args.out.now.items _ _ c.args.carried.now c.loop-prepare.prepare-index c.prepare-item.result c.loop-prepare-test.true c.prepare-item.is c.loop-prepare.invariant c.in_ok-carried_line.ensures
