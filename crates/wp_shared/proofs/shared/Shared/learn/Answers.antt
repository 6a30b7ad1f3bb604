use Rattle.wp_shared.proofs.Places.{saw_all}
use Rattle.wp_shared.proofs.shared.Shared.learn.Goals as goal

pub returns-clause-stands : goal.returns-clause-stands
returns-clause-stands g c = saw_all _ _ c.learn.new.seat.id c.learn.new.seat.me.0 _ c.self.view_is c.learn.ensures.stands
