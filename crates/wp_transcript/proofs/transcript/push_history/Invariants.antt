use Rattle.std.proofs.Common.{◌≡◌, ◌++◌, take}
use Rattle.wp_text.specs.Lines.{entry_lines}
use Rattle.wp_transcript.proofs.transcript.push_history.Given as goal

abbrev pub invariant-loop-i : goal.invariant-loop-i
invariant-loop-i l = l.out.items ≡ l.initial.out.items ++ entry_lines l.first (take l.i l.entries)
