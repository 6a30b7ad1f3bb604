use Rattle.std.proofs.Common.{◌≡◌, take}
use Rattle.wp_machine.proofs.copies.copy_versions.Given as goal

abbrev pub invariant-loop-version : goal.invariant-loop-version
invariant-loop-version l = l.copy.items ≡ take l.version-index l.versions
