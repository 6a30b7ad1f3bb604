use Rattle.std.proofs.Common.{◌≡◌, suc, refl, ap, inl, inr, ◌∙◌}
use Rattle.wp_core.specs.Sound.Locks.{owner_of}
use Rattle.wp_machine_permits.proofs.needs.finding.has_self.Goals as goal

pub returns-then-is_self : goal.returns-then-is_self
returns-then-is_self c =
    let self = rw (ap (λ a. a.participant) c.actor.view_is) at (c.is_self.ensures c.if-is_self.true) in
    λ e. (0, owner_of c.args.actor.now.participant, refl, inl c.if-is_apart.true, self)

pub returns-in-Some : goal.returns-in-Some
returns-in-Some c =
    let joined : c.deref.result.now ≡ c.args.actor.now.joined = c.deref.ensures.value ∙ ap (λ a. a.joined) c.actor.view_is in
    let found = rw (c.in-Some.is, joined) at c.self_among.ensures in
    λ e. (suc c.in-Some.field-0, found.0, found.1, inr (λ z. absurd cc), found.2)
