use Rattle.std.proofs.Common.{sym, ap, ◌∙◌}
use Rattle.wp_machine_permits.proofs.needs.note.may_note.Goals as goal

pub returns : goal.returns
returns c =
    let live = sym (ap (λ a. a.live) c.actor.view_is) ∙ c.if-not-actor.false in
    let guarded = rw (ap (λ w. w.holders) c.world.view_is) at (c.is_guarded.ensures.0 c.if-not-is_guarded.false) in
    λ e. (live, guarded, rw (ap (λ a. a.participant) c.actor.view_is) at (c.in_ok-so.ensures e))
