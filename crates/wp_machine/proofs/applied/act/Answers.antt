use Rattle.wp_machine.proofs.Acting.{acted}
use Rattle.wp_machine.proofs.applied.act.Goals as goal

pub returns : goal.returns
returns c a s i at e =
    acted c.args.world.now _ _ _ c.args.by c.args.kind a _ _ _ s i at c.take_actor-actor.ensures.actor c.take_actor-actor.ensures.others c.in_ok-mark.ensures e (λ g. c.in_ok-effect.ensures s i g) c.put_actor.ensures
