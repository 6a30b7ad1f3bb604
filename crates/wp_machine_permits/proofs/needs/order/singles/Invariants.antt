use Rattle.std.proofs.Common.{◌≡◌, [], ◌∷◌, take, map}
use Rattle.wp_model.specs.declared.version.Version.{Version}
use Rattle.wp_machine_permits.proofs.needs.order.singles.Given as goal

abbrev pub invariant-loop-version : goal.invariant-loop-version
invariant-loop-version l = l.singles.items ≡ map (λ (v : Version). v ∷ []) (take l.version-index l.list)
