use Rattle.std.proofs.Common.{arith}
use Rattle.wp_transcript.proofs.TextLemmas.{appends, entry_lines_more}
use Rattle.wp_transcript.proofs.transcript.push_history.Goals as goal

pub loop-i-preserved : goal.loop-i-preserved
loop-i-preserved c =
    appends _ _ _ _ _ _ c.loop-i.invariant c.in_ok-history_line.ensures (entry_lines_more _ _ c.loop-i.i c.index-entries-i.result (omega arith) c.index-entries-i.is)
