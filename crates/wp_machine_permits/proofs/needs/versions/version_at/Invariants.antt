use Rattle.std.proofs.Common.{◌≡◌, drop}
use Rattle.wp_model.specs.Versions.{version_at}
use Rattle.wp_machine_permits.proofs.needs.versions.version_at.Given as goal

abbrev pub invariant-loop-version : goal.invariant-loop-version
invariant-loop-version l = version_at l.versions l.key l.number ≡ version_at (drop l.version-index l.versions) l.key l.number
