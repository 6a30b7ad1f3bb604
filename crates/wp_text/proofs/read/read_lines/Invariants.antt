use Rattle.std.proofs.Common.{◌≡◌, [], length, drop}
use Rattle.wp_text.specs.Grammar.{lines_of}
use Rattle.wp_text.specs.Reading.{with_lines}
use Rattle.wp_text.proofs.read.read_lines.Given as goal

abbrev pub invariant-loop-i : goal.invariant-loop-i
invariant-loop-i l = with_lines (length l.yielded) l.parts.items (drop (length l.yielded) (lines_of l.bytes)) ≡ with_lines 0 [] (lines_of l.bytes)
