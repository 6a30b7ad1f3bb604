use Rattle.std.proofs.Common.{sym, ap, ◌∙◌}
use Rattle.wp_rule.specs.Words.{Place}
use Rattle.wp_read.proofs.Readings.{may_begin, begin_keeps, begun}
use Rattle.wp_read.proofs.steps.begin.Goals as goal

pub make-requires-clause-may : goal.make-requires-clause-may
make-requires-clause-may g c = may_begin c.args.store.now g.J.Moves.place g.J.Moves.steps c.args.seat.now c.args.seat.now c.args.bits c.args.p c.args.snapshot.now c.requires.steps (c.requires.cells ∙ sym (ap (λ (x : Place). x.cells) c.requires.seat.1)) c.requires.registered c.requires.version

pub make-requires-clause-client : goal.make-requires-clause-client
make-requires-clause-client g c = begin_keeps c.args.store.now g.J.Moves.place g.J.Moves.steps c.args.seat.now c.args.seat.now c.args.bits c.args.p c.args.snapshot.now c.requires.steps

pub returns : goal.returns
returns g c = begun c.args.store.now g.J.Moves.place g.J.Moves.steps c.args.seat.now c.make.new.seat c.args.bits c.args.p c.args.snapshot.now c.requires.steps _ c.requires.seat.1 c.make.ensures.same c.make.ensures.moved
