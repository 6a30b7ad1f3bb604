use Rattle.std.proofs.Common.{◌≡◌, ap, ◌∙◌}
use Rattle.wp_core.specs.Sound.Actors.{participants_of}
use Rattle.wp_core.specs.Sound.Locks.{owner_of}
use Rattle.wp_machine_permits.proofs.Places.{mapped_at, apart_either}
use Rattle.wp_machine_permits.proofs.needs.finding.is_other.Goals as goal

pub returns-then-has_self : goal.returns-then-has_self
returns-then-has_self c =
    let found = c.has_self.ensures c.if-has_self.true in
    let actors : c.deref-actor-items.result.now ≡ c.args.world.now.actors = c.deref-actor-items.ensures.value ∙ ap (λ w. w.actors) c.world.view_is in
    let there = rw actors at (mapped_at (participants_of owner_of) _ _ _ c.loop-at-test.true c.actor-item.is) in
    λ e. record { at = c.loop-at.at; place = found.0; participant = found.1; there = (participants_of owner_of c.actor-item.result, there, found.2); apart = apart_either _ _ _ found.3; is = found.4 }
