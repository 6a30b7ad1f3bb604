use Rattle.wp_text.specs.Lines.{reply_line}
use Rattle.wp_transcript.proofs.TextLemmas.{lines_more}
use Rattle.wp_transcript.proofs.transcript.push_replies.Goals as goal

pub loop-reply-preserved : goal.loop-reply-preserved
loop-reply-preserved c =
    lines_more reply_line c.args.out.now.items _ _ c.args.replies.now c.loop-reply.reply-index c.reply-item.result c.loop-reply-test.true c.reply-item.is c.loop-reply.invariant c.in_ok-reply_line.ensures
