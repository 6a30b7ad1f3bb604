use Rattle.std.proofs.Common.{sym, subst, OnOk}
use Rattle.wp_machine.specs.Machine.{MayMake, Makes}
use Rattle.wp_machine.proofs.Acting.{at_within, apart_unless, on_ok}
use Rattle.wp_machine.proofs.applied.make.Goals as goal

pub make_actor-requires : goal.make_actor-requires
make_actor-requires c = subst (MayMake c.args.world.now c.args.by) c.in-Actors.is c.requires

pub act-requires : goal.act-requires
act-requires c = at_within _ _ _ c.requires.there

pub returns-in-Actors : goal.returns-in-Actors
returns-in-Actors c = subst (λ k. OnOk c.make_actor.result (Makes c.args.world.now c.args.by k c.make_actor.new.world)) (sym c.in-Actors.is) c.make_actor.ensures

pub returns-in_default : goal.returns-in_default
returns-in_default c =
    let q = c.requires in
    on_ok c.act.result _ _ (λ is. record { actor = q.actor; there = q.there; step = q.step; is = q.is; goes = (q.actor, q.there, q.needs, is) })
    (c.act.ensures q.actor q.step (apart_unless c.args.kind c.in_default.not-Actors) q.there q.is)
