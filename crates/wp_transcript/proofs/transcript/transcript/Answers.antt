use Rattle.std.proofs.Common.{arith}
use Rattle.std.proofs.lemmas.List.{length-drop}
use Rattle.wp_transcript.proofs.transcript.transcript.Goals as goal

pub push_history-requires : goal.push_history-requires
push_history-requires c = rw c.later.ensures.value (let size = length-drop c.args.history.now.base c.args.history.now.entries in omega (arith, size, c.published-published.ensures.value, c.published-published.ensures.few, c.base-base.ensures.within, c.base-base.ensures.value))
