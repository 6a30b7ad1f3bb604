use Rattle.std.proofs.Common.{true, ap, ◌∙◌}
use Rattle.wp_core.specs.World.{World}
use Rattle.wp_machine_permits.proofs.needs.moves.keeps_failed.Goals as goal

pub returns-in_ok-yes-in-Some : goal.returns-in_ok-yes-in-Some
returns-in_ok-yes-in-Some c =
    let last = c.last-last.ensures ∙ ap (λ (w : World). w.installed.last) c.world.view_is in
    let stored = rw last at c.in_ok-yes-in-Some.ensures in
    rw c.in-Some.is (λ e. stored true e)

pub returns-in_ok-yes-in-None : goal.returns-in_ok-yes-in-None
returns-in_ok-yes-in-None c =
    let last = c.last-last.ensures ∙ ap (λ (w : World). w.installed.last) c.world.view_is in
    let failed = c.failed.ensures ∙ ap (λ (w : World). w.installed.failed) c.world.view_is in
    let stored = rw (last, failed) at c.in_ok-yes-in-None.ensures in
    rw c.in-None.is (λ e. stored true e)
