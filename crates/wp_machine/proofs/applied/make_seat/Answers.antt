use Rattle.wp_machine.proofs.Acting.{seated}
use Rattle.wp_machine.proofs.applied.make_seat.Goals as goal

pub returns : goal.returns
returns c a at = seated _ c.args.world.now _ _ c.args.by a _ _ _ _ at c.actor_at.ensures c.take_actor-actor.ensures.actor c.in_ok-seat.ensures c.take_actor-actor.ensures.others c.in_ok-count_one.ensures c.put_actor.ensures c.in_ok-push_actor.ensures
