use Rattle.wp_locks.proofs.Maps.{map_of, map_of_removed}
use Rattle.wp_locks.proofs.locks.Locks.free_name.Goals as goal

pub returns : goal.returns
returns c =
    let names = map_of_removed _ _ c.args.name.now c.remove.ensures.updates.0 in
    rw (← c.self.view_is) (λ i. record { names = names i; keys = map_of c.self.inside.keys.entries; labels = map_of c.self.inside.labels.entries })
