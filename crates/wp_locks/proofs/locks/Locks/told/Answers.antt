use Rattle.std.proofs.Common.{sym, ◌∙◌}
use Rattle.wp_locks.proofs.Maps.{get-map_of}
use Rattle.wp_locks.proofs.locks.Locks.told.Goals as goal

pub returns : goal.returns
returns c = rw (← c.self.view_is) (c.copied.ensures ∙ c.get.ensures.value ∙ sym (get-map_of _ c.args.label.now))
