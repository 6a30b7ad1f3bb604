use Rattle.wp_shared.proofs.Clients.{moved_keeps}
use Rattle.wp_shared.proofs.Places.{moved_from, still_sits}
use Rattle.wp_shared.proofs.shared.Shared.load.Goals as goal

pub invariant_of-seat : goal.invariant_of-seat
invariant_of-seat g c = still_sits _ _ _ c.seat.inside.seat.me.0 c.load.new.seat.me.0 c.load.ensures.same.2 (moved_keeps g.J.Moves.place g.J.Moves.steps _ _ _ c.requires.client c.load.ensures.moved) c.seat.invariant

pub returns-clause-moved : goal.returns-clause-moved
returns-clause-moved g c = moved_from g.J.Moves.place g.J.Moves.steps _ _ _ _ c.seat.view_is c.load.ensures.moved
