use Rattle.wp_memtable.proofs.Listed.{changed_same, changed_ordered, inserted_same, inserted_ordered}
use Rattle.wp_memtable.proofs.places.reserve.Goals as goal

pub returns-in-Some-clause-same_versions : goal.returns-in-Some-clause-same_versions
returns-in-Some-clause-same_versions c = changed_same c.args.key.now c.args.places.now.entries _ _ c.reserve.new.self (c.get_mut.follows.holds c.reserve.new.self).0 c.in-Some.ensures.value c.reserve.ensures.same_versions

pub returns-in-Some-clause-well_ordered : goal.returns-in-Some-clause-well_ordered
returns-in-Some-clause-well_ordered c =
    let written = c.get_mut.follows.holds c.reserve.new.self in
    changed_ordered c.args.key.now c.args.places.now.entries _ c.reserve.new.self written.0 c.requires written.1 c.reserve.ensures.newest_first

pub returns-clause-same_versions : goal.returns-clause-same_versions
returns-clause-same_versions c =
    let is = rw (c.get_mut.follows.holds-at-none, c.in_ok-copy.ensures) at c.in_ok-insert.ensures.entries in
    inserted_same c.args.places.now.entries _ c.args.key.now c.new.result is c.in_default.ensures.value c.new.ensures.versions

pub returns-clause-well_ordered : goal.returns-clause-well_ordered
returns-clause-well_ordered c =
    let is = rw (c.get_mut.follows.holds-at-none, c.in_ok-copy.ensures) at c.in_ok-insert.ensures.entries in
    inserted_ordered c.args.places.now.entries _ c.args.key.now c.new.result is c.bytes.ensures.in_range c.requires c.in_ok-insert.ensures.ordered c.new.ensures.newest_first
