use Rattle.std.proofs.Common.{◌≡◌, take}
use Rattle.wp_model.specs.Flushed.{versions_after}
use Rattle.wp_machine.proofs.versions.all_versions.Given as goal

abbrev pub invariant-loop-i : goal.invariant-loop-i
invariant-loop-i l = l.versions.items ≡ versions_after 0 (take l.i l.entries)
