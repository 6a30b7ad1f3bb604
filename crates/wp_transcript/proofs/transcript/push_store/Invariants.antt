use Rattle.std.proofs.Common.{◌≡◌, ◌++◌}
use Rattle.std.specs.List.{flat_map}
use Rattle.wp_text.specs.Lines.{has_line}
use Rattle.wp_transcript.proofs.transcript.push_store.Given as goal

abbrev pub invariant-loop-key : goal.invariant-loop-key
invariant-loop-key l = l.out.items ++ flat_map has_line l.key-iterator ≡ l.initial.out.items ++ flat_map has_line l.store.entries
