use Rattle.std.proofs.Common.{is_some, sym, ap}
use Rattle.wp_memtable.proofs.Listed.{versions_at, version_at-put, changed_length, changed_ordered}
use Rattle.wp_memtable.proofs.places.put.Goals as goal

pub returns-clause-well_ordered : goal.returns-clause-well_ordered
returns-clause-well_ordered c =
    let written = c.get_mut.follows.holds c.put.new.self in
    changed_ordered c.args.key.now c.args.places.now.entries _ c.put.new.self written.0 c.requires.well_ordered written.1 c.put.ensures.newest_first

pub returns-clause-each : goal.returns-clause-each
returns-clause-each c =
    let found = rw c.unwrap.ensures at c.get_mut.ensures.value in
    let written = c.get_mut.follows.holds c.put.new.self in
    version_at-put c.args.key.now c.args.n c.args.value _ _ _ c.put.new.self c.requires.well_ordered (returns-clause-well_ordered c) (ap (λ o. versions_at o) (sym found)) c.put.ensures.each (written.3 (ap is_some (sym found))).0

pub returns-clause-count : goal.returns-clause-count
returns-clause-count c =
    let found = rw c.unwrap.ensures at c.get_mut.ensures.value in
    changed_length c.args.key.now c.args.places.now.entries _ _ c.put.new.self c.put.result (c.get_mut.follows.holds c.put.new.self).0 found c.put.ensures.count
