use Rattle.std.proofs.Common.{◌+◌, take}
use Rattle.wp_cover.specs.Decisions.{HasDeciders}
use Rattle.wp_cover.proofs.decisions.deciders_of.Given as goal

abbrev pub invariant-loop-i : goal.invariant-loop-i
invariant-loop-i l = HasDeciders (take (l.history.base + l.i) l.history.entries) l.deciders
