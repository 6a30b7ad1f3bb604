use Rattle.wp_core.specs.Changes.{informed}
use Rattle.wp_machine.proofs.Acting.{joined}
use Rattle.wp_machine.proofs.applied.learn.Goals as goal

pub returns : goal.returns
returns c a b ne at there = joined informed c.args.world.now _ _ _ c.args.by c.args.other a b _ _ _ ne at there c.take_actor-note.ensures.actor c.take_actor-note.ensures.others c.take_actor-actor.ensures.actor c.take_actor-actor.ensures.others c.learn.ensures c.put_actor.ensures
