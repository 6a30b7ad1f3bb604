use Rattle.std.proofs.Common.{◌≡◌, ◌==◌, take, filter}
use Rattle.wp_model.specs.declared.version.Version.{Version}
use Rattle.wp_machine_permits.proofs.needs.versions.only_at.Given as goal

abbrev pub invariant-loop-version : goal.invariant-loop-version
invariant-loop-version l = l.some.items ≡ filter (λ (v : Version). v.number == l.n) (take l.version-index l.versions)
