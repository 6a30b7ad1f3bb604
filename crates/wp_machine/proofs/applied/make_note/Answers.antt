use Rattle.wp_machine.proofs.Acting.{noted}
use Rattle.wp_machine.proofs.applied.make_note.Goals as goal

pub returns : goal.returns
returns c a at = noted _ c.args.world.now c.args.by a _ _ at c.actor_at.ensures c.in_ok-note.ensures c.in_ok-push_actor.ensures
