use Rattle.wp_read.proofs.AllPinned.{may_pin, pin_keeps, pinned_so}
use Rattle.wp_read.proofs.steps.register_again_with.Goals as goal

pub make-requires-clause-may : goal.make-requires-clause-may
make-requires-clause-may g c = let h = c.requires.held in
    may_pin c.args.store.now g.J.Moves.place g.J.Moves.steps c.args.seat.now c.args.seat.now c.args.floor c.args.numbers.now h.0 h.1 c.requires.steps h.2 c.requires.live h.3

pub make-requires-clause-client : goal.make-requires-clause-client
make-requires-clause-client g c = let h = c.requires.held in
    pin_keeps c.args.store.now g.J.Moves.place g.J.Moves.steps c.args.seat.now c.args.seat.now c.args.floor c.args.numbers.now h.0 h.1 c.requires.steps h.2

pub returns : goal.returns
returns g c m others held =
    pinned_so c.args.store.now g.J.Moves.place g.J.Moves.steps c.args.seat.now c.make.new.seat c.args.floor c.args.numbers.now m others c.requires.steps held _ c.requires.seat.1 c.make.ensures.same c.make.ensures.moved
