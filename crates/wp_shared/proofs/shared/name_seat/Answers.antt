use Rattle.wp_shared.proofs.Clients.{may_be_named, is_named}
use Rattle.wp_shared.proofs.shared.name_seat.Goals as goal

pub make-requires-clause-may : goal.make-requires-clause-may
make-requires-clause-may g c = may_be_named g.J.Moves.place g.J.Moves.steps c.args.seat.now.me.0 c.args.client.now _ _ c.requires.steps c.requires.new

pub returns-clause-named : goal.returns-clause-named
returns-clause-named g c = is_named g.J.Moves.place g.J.Moves.steps c.args.seat.now.me.0 c.args.client.now _ _ c.requires.steps c.requires.new _ _ c.make.ensures.moved
