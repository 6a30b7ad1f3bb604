use Rattle.std.proofs.Common.{Some, length, sym, ap, ◌∙◌}
use Rattle.wp_model.specs.Flushed.{InstalledEdit}
use Rattle.wp_core.specs.World.{World}
use Rattle.wp_machine_permits.proofs.needs.moves.names_next.Goals as goal

pub returns : goal.returns
returns c named =
    let closed = sym (c.is_closed.ensures ∙ ap (λ (w : World). w.writes.closed) c.world.view_is) ∙ c.if-is_closed.false in
    let published = c.published.ensures ∙ ap (λ (w : World). length w.writes.history) c.world.view_is in
    let next = c.is_next_segment.ensures.0 named ∙ ap (λ (e : InstalledEdit). Some e.segment) c.edit.view_is in
    let whole = sym (c.if-published-edit.false ∙ ap (λ (e : InstalledEdit). e.flushed) c.edit.view_is) ∙ published in
    (c.holds_write.ensures.0 c.if-not-holds_write.false, closed, next, whole)
