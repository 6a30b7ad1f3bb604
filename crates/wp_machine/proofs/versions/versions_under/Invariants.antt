use Rattle.std.proofs.Common.{◌≡◌, take}
use Rattle.wp_model.specs.Flushed.{versions_under}
use Rattle.wp_machine.proofs.versions.versions_under.Given as goal

abbrev pub invariant-loop-change : goal.invariant-loop-change
invariant-loop-change l = l.versions.items ≡ versions_under l.n (take l.change-index l.changes)
