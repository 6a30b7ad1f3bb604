use Rattle.std.proofs.Common.{◌≡◌, ◌++◌, take}
use Rattle.wp_text.specs.Answered.{replies_of}
use Rattle.wp_transcript.specs.Transcript.{client_lines}
use Rattle.wp_transcript.proofs.transcript.push_clients.Given as goal

abbrev pub invariant-loop-i : goal.invariant-loop-i
invariant-loop-i l = l.out.items ≡ l.initial.out.items ++ client_lines (take l.i l.parts) (replies_of (take l.i l.sessions))
