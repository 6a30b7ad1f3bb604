use Rattle.std.proofs.Common.{◌≡◌, map}
use Rattle.std.specs.List.{range_with_len}
use Rattle.wp_make.specs.Generator.{made_part}
use Rattle.wp_make.proofs.script.make_script.Given as goal

abbrev pub invariant-loop-i : goal.invariant-loop-i
invariant-loop-i l = l.parts.items ≡ map (made_part l.seed l.lines) (range_with_len 1 l.i)
