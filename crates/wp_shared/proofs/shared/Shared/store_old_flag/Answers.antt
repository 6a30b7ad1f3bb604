use Rattle.wp_shared.proofs.Places.{moved_there}
use Rattle.wp_shared.proofs.shared.Shared.store_old_flag.Goals as goal

pub returns-clause-moved : goal.returns-clause-moved
returns-clause-moved g c = moved_there _ _ _ _ _ _ _ c.self.view_is c.seat.view_is c.store_old_flag.ensures.moved
