use Rattle.std.proofs.Common.{None}
use Rattle.wp_history.specs.declared.holders.Holders.{Holders}
use Rattle.wp_history.proofs.Holding.{holds_less, leaves_by}
use Rattle.wp_history.proofs.holders.Holders.remove.Goals as goal

pub returns : goal.returns
returns c =
    let new : Holders = record { alloc = c.args.self.now.alloc; names = c.remove.new.self; keys = c.free_keys.new.keys } in
    λ prepares p had among.
    holds_less prepares p c.args.name.now c.args.batch.now c.args.self.now new had among (leaves_by c.args.name.now None c.args.self.now.names c.remove.new.self c.remove.ensures.updates.0 c.remove.ensures.ordered) (rw c.changes.ensures.value at c.free_keys.ensures)
