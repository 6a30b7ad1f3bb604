use Rattle.std.proofs.Common.{Some, sym, ap, ◌∙◌}
use Rattle.wp_core.specs.World.{World}
use Rattle.wp_model.proofs.Tests.{none_some, same_some}
use Rattle.wp_machine_permits.proofs.needs.edits.is_next_segment.Goals as goal

pub returns-in-Some : goal.returns-in-Some
returns-in-Some c =
    let next = c.next_segment.ensures ∙ ap (λ (w : World). w.writes.next) c.world.view_is in
    let there = sym next ∙ c.in-Some.is in
    (λ same. there ∙ ap Some (c.is_segment.ensures.0 same), λ named. c.is_segment.ensures.1 (same_some c.in-Some.next c.args.segment (sym there ∙ named)))

pub returns-in-None : goal.returns-in-None
returns-in-None c =
    let next = c.next_segment.ensures ∙ ap (λ (w : World). w.writes.next) c.world.view_is in
    let none = sym next ∙ c.in-None.is in
    (λ e. absurd cc, λ named. absurd (none_some c.args.world.now.writes.next c.args.segment none named))
