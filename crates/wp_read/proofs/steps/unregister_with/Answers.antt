use Rattle.wp_read.specs.Registers.{before_last, behind_last}
use Rattle.wp_read.proofs.Registers.{split_last}
use Rattle.wp_read.proofs.steps.unregister_with.Goals as goal

pub unregister_at-requires-clause-steps : goal.unregister_at-requires-clause-steps
unregister_at-requires-clause-steps g c = let rs = c.args.seat.now.knows.participant.registered in let r = c.args.snapshot.now in
    (before_last r rs, behind_last r rs, r, c.requires.steps, split_last r rs c.requires.registered)

pub returns : goal.returns
returns g c m held = let rs = c.args.seat.now.knows.participant.registered in let r = c.args.snapshot.now in
    c.unregister_at.ensures (before_last r rs) (behind_last r rs) r m c.requires.steps (split_last r rs c.requires.registered) held
