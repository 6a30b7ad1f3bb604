use Rattle.std.proofs.Common.{arith}
use Rattle.wp_transcript.proofs.TextLemmas.{appends, client_lines_more}
use Rattle.wp_transcript.proofs.transcript.push_clients.Goals as goal

pub loop-i-preserved : goal.loop-i-preserved
loop-i-preserved c =
    appends _ _ _ _ _ _ c.loop-i.invariant (rw c.replies.ensures at c.in_ok-push_client.ensures) (client_lines_more _ _ c.loop-i.i c.index-parts-i.result c.index-sessions-i.result c.requires (omega arith) c.index-parts-i.is c.index-sessions-i.is)
