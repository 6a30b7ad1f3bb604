use Rattle.wp_read.proofs.Registers.{may_register, register_keeps, registered}
use Rattle.wp_read.proofs.steps.register_with.Goals as goal

pub make-requires-clause-may : goal.make-requires-clause-may
make-requires-clause-may g c = let m = c.requires.snapshots in
    may_register c.args.store.now g.J.Moves.place g.J.Moves.steps c.args.seat.now c.args.seat.now c.args.smallest c.requires.steps m.0 m.1 c.requires.smallest

pub make-requires-clause-client : goal.make-requires-clause-client
make-requires-clause-client g c = register_keeps c.args.store.now g.J.Moves.place g.J.Moves.steps c.args.seat.now c.args.seat.now c.args.smallest c.requires.steps

pub returns : goal.returns
returns g c m held = registered c.args.store.now g.J.Moves.place g.J.Moves.steps c.args.seat.now c.make.new.seat c.args.smallest c.requires.steps c.make.result m c.requires.seat.1 c.make.ensures.same held c.make.ensures.moved
