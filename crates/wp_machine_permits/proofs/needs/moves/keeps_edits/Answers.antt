use Rattle.std.proofs.Common.{ap, ◌∙◌}
use Rattle.wp_core.specs.World.{World}
use Rattle.wp_machine_permits.proofs.needs.moves.keeps_edits.Goals as goal

pub returns : goal.returns
returns c =
    let memory = c.memory.ensures ∙ ap (λ (w : World). w.store.memory) c.world.view_is in
    let tables = c.tables.ensures ∙ ap (λ (w : World). w.store.tables) c.world.view_is in
    let floor = c.floor.ensures ∙ ap (λ (w : World). w.store.floor) c.world.view_is in
    rw (memory, tables, floor) at c.in_ok-yes.ensures
