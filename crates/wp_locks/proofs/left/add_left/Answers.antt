use Rattle.std.proofs.Common.{None}
use Rattle.wp_locks.proofs.Maps.{joined_one}
use Rattle.wp_locks.proofs.left.add_left.Goals as goal

pub returns : goal.returns
returns c =
    let updated = rw c.in_ok-copy.ensures at c.in_ok-insert.ensures.updates in
    λ es same. joined_one c.args.names.now.entries c.insert.new.self.entries es c.args.name.now None updated.0 same
