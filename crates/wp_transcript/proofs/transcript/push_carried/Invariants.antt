use Rattle.std.proofs.Common.{◌≡◌, ◌++◌, take}
use Rattle.std.specs.List.{flat_map}
use Rattle.wp_text.specs.Lines.{carried_line}
use Rattle.wp_transcript.proofs.transcript.push_carried.Given as goal

abbrev pub invariant-loop-prepare : goal.invariant-loop-prepare
invariant-loop-prepare l = l.out.items ≡ l.initial.out.items ++ flat_map carried_line (take l.prepare-index l.carried)
