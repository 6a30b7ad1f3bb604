use Rattle.wp_locks.proofs.Maps.{map_of, map_of_inserted}
use Rattle.wp_locks.proofs.locks.Locks.tell.Goals as goal

pub returns-clause-ok : goal.returns-clause-ok
returns-clause-ok c =
    let labels = map_of_inserted _ _ c.args.label c.args.at c.in_ok-insert.ensures.updates.0 in
    rw (← c.self.view_is) (λ i. record { names = map_of c.self.inside.names.entries; keys = map_of c.self.inside.keys.entries; labels = labels i })
