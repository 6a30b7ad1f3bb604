use Rattle.wp_core.specs.Changes.{joins}
use Rattle.wp_machine.proofs.Acting.{joined}
use Rattle.wp_machine.proofs.applied.join_seat.Goals as goal

pub returns : goal.returns
returns c a b ne at there = joined joins c.args.world.now _ _ _ c.args.by c.args.other a b _ _ _ ne at there c.take_actor-seat.ensures.actor c.take_actor-seat.ensures.others c.take_actor-actor.ensures.actor c.take_actor-actor.ensures.others c.in_ok-join.ensures c.put_actor.ensures
