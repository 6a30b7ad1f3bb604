use Rattle.wp_shared.proofs.Places.{saw_all}
use Rattle.wp_shared.proofs.shared.Shared.published.Goals as goal

pub returns-clause-stands : goal.returns-clause-stands
returns-clause-stands g c = saw_all _ _ c.load_published.new.seat.id c.load_published.new.seat.me.0 _ c.self.view_is c.load_published.ensures.stands
