use Rattle.std.proofs.Common.{sym, ap, ◌∙◌, arith}
use Rattle.wp_model.specs.Flushed.{InstalledEdit}
use Rattle.wp_core.specs.World.{World}
use Rattle.wp_machine_permits.proofs.needs.moves.may_renew.Goals as goal

pub returns : goal.returns
returns c =
    let halted = sym (c.is_halted.ensures ∙ ap (λ (w : World). w.installed.halted) c.world.view_is) ∙ c.if-is_halted.false in
    let failed = c.failed.ensures ∙ ap (λ (w : World). w.installed.failed) c.world.view_is in
    let last = c.last.ensures ∙ ap (λ (w : World). w.installed.last) c.world.view_is in
    let stored = rw failed at c.in_ok-yes.ensures in
    let most = c.if-last-edit.false in
    let its = ap (λ (e : InstalledEdit). e.tables) c.edit.view_is in
    let theirs = ap (λ (e : InstalledEdit). e.tables) (c.behind-installed.view_is ∙ last) in
    λ a e. (c.holds_tables.ensures.0 c.if-not-holds_tables.false, halted, stored c.args.world.now.installed.halted e, c.names_next.ensures c.if-not-names_next.false, omega (arith, most, its, theirs))
