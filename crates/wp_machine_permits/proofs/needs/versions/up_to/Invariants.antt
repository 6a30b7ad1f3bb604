use Rattle.std.proofs.Common.{◌≡◌, take}
use Rattle.wp_core.specs.States.{up_to}
use Rattle.wp_machine_permits.proofs.needs.versions.up_to.Given as goal

abbrev pub invariant-loop-version : goal.invariant-loop-version
invariant-loop-version l = l.some.items ≡ up_to l.n (take l.version-index l.versions)
