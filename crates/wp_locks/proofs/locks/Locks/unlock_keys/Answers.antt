use Rattle.wp_locks.proofs.Maps.{map_of}
use Rattle.wp_locks.proofs.locks.Locks.unlock_keys.Goals as goal

pub returns : goal.returns
returns c = let keys = c.free_each.ensures in rw (← c.self.view_is) (λ i. record { names = map_of c.self.inside.names.entries; keys = keys i; labels = map_of c.self.inside.labels.entries })
