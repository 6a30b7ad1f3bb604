use Rattle.std.proofs.Common.{take}
use Rattle.wp_manifest.specs.Reading.{IsLastOf}
use Rattle.wp_manifest.proofs.read.last_edit.Given as goal

abbrev pub invariant-loop-i : goal.invariant-loop-i
invariant-loop-i l = IsLastOf (take l.i l.records) l.last
