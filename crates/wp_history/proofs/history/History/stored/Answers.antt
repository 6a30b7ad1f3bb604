use Rattle.wp_history.proofs.StoreMaps.{stored_entries}
use Rattle.wp_history.proofs.history.History.stored.Goals as goal

pub returns : goal.returns
returns c = rw (← c.self.view_is) (stored_entries c.self.inside.outline.entries c.stored.result c.stored.ensures)
