use Rattle.wp_read.proofs.Registers.{may_release, release_keeps, released}
use Rattle.wp_read.proofs.steps.unregister_at.Goals as goal

pub make-requires-clause-may : goal.make-requires-clause-may
make-requires-clause-may g c = let k = c.requires.steps in let m = c.requires.snapshots in
    may_release c.args.store.now g.J.Moves.place g.J.Moves.steps c.args.seat.now c.args.seat.now k.0 k.1 k.2 m.0 k.3 k.4 m.1

pub make-requires-clause-client : goal.make-requires-clause-client
make-requires-clause-client g c = let k = c.requires.steps in let m = c.requires.snapshots in
    release_keeps c.args.store.now g.J.Moves.place g.J.Moves.steps c.args.seat.now c.args.seat.now k.0 k.1 k.2 m.0 k.3 k.4 m.1

pub returns : goal.returns
returns g c front back r m is mine held =
    released c.args.store.now g.J.Moves.place g.J.Moves.steps c.args.seat.now c.make.new.seat front back r m is mine held _ c.requires.seat.1 c.make.ensures.same c.make.ensures.moved
