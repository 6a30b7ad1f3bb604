use Rattle.std.proofs.Common.{rules, ◌≡◌, ap}
use Rattle.wp_core.specs.World.{World}
use Rattle.wp_machine_permits.proofs.needs.moves.keeps_store.Goals as goal

pub returns : goal.returns
returns c =
    let world = c.args.world.now in
    let entries : c.in-Some.history.entries ≡ world.writes.history = search rules in
    let pending : c.next_entries-pending.result.now ≡ world.writes.pending = search rules in
    let base : c.opened_base.result ≡ world.first_edit.segment.base = c.opened_base.ensures in
    let snapshots = ap (λ (w : World). w.snapshots) c.world.view_is in
    rw (entries, pending, base, snapshots) at c.in_ok-yes.ensures
