use Rattle.wp_records.proofs.Readied.{begun_unlogged, begun_may, begun_apart, begun_puts}
use Rattle.wp_records.proofs.putting.put.Goals as goal

pub put_pending-requires-clause-unlogged : goal.put_pending-requires-clause-unlogged
put_pending-requires-clause-unlogged g c =
    begun_unlogged c.args.store.now c.args.seat.now c.make_pending.new.seat c.args.log.now c.make_pending.new.log c.args.entries c.in_ok-make_pending.ensures.ok c.in_ok-make_pending.ensures.one c.requires.running

pub put_pending-requires-clause-may : goal.put_pending-requires-clause-may
put_pending-requires-clause-may g c = begun_may c.args.store.now c.args.seat.now c.make_pending.new.seat c.args.log.now c.make_pending.new.log c.args.entries c.in_ok-make_pending.ensures.ok c.requires.may

pub put_pending-requires-clause-apart : goal.put_pending-requires-clause-apart
put_pending-requires-clause-apart g c = begun_apart c.args.store.now c.args.seat.now c.make_pending.new.seat c.args.log.now c.make_pending.new.log c.args.entries c.in_ok-make_pending.ensures.ok c.args.store.now.cells c.requires.apart

pub returns : goal.returns
returns g c =
    begun_puts c.args.store.now c.args.seat.now c.make_pending.new.seat c.args.log.now c.make_pending.new.log c.args.entries c.in_ok-make_pending.ensures.ok c.put_pending.new.seat c.put_pending.new.log c.put_pending.result c.put_pending.ensures
