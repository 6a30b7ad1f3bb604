use Rattle.std.proofs.Common.{◌≡◌, map, take}
use Rattle.wp_text.specs.Answered.{replies_of}
use Rattle.wp_transcript.proofs.text.replies_of.Given as goal

abbrev pub invariant-loop-answered : goal.invariant-loop-answered
invariant-loop-answered l = map (λ replies. replies.now) l.sessions.items ≡ replies_of (take l.answered-index l.answers)
