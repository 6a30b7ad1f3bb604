use Rattle.wp_locks.proofs.Maps.{map_of, map_of_removed}
use Rattle.wp_locks.proofs.locks.Locks.unlock.Goals as goal

pub returns : goal.returns
returns c =
    let keys = map_of_removed _ _ c.args.key.now c.remove.ensures.updates.0 in
    rw (← c.self.view_is) (λ i. record { names = map_of c.self.inside.names.entries; keys = keys i; labels = map_of c.self.inside.labels.entries })
