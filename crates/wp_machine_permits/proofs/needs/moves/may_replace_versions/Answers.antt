use Rattle.std.proofs.Common.{arith}
use Rattle.std.proofs.Common.{ap, ◌∙◌}
use Rattle.wp_core.specs.World.{World}
use Rattle.wp_machine_permits.proofs.needs.moves.may_replace_versions.Goals as goal

pub returns : goal.returns
returns c =
    let failed = c.failed.ensures ∙ ap (λ (w : World). w.installed.failed) c.world.view_is in
    let last = c.last.ensures ∙ ap (λ (w : World). w.installed.last) c.world.view_is in
    let floor = c.floor.ensures ∙ ap (λ (w : World). w.store.floor) c.world.view_is in
    let memory = c.memory.ensures ∙ ap (λ (w : World). w.store.memory) c.world.view_is in
    let stored = rw (failed, last, memory) at c.in_ok-yes.ensures in
    λ a e. (c.holds_store.ensures.0 c.if-not-holds_store.false, c.holds_tables.ensures.0 c.if-not-holds_tables.false, omega (arith, floor), stored c.args.world.now.installed.halted e)
