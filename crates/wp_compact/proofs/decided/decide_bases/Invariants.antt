use Rattle.std.proofs.Common.{take}
use Rattle.wp_compact.specs.Decided.{Decides, both_bases, version_numbers}
use Rattle.wp_compact.proofs.decided.decide_bases.Given as goal

abbrev pub invariant-loop-i : goal.invariant-loop-i
invariant-loop-i l = Decides l.decisions (version_numbers (take l.i l.versions)) (both_bases l.bases) l.fn.committed.items l.committed.items
