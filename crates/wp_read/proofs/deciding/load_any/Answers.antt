use Rattle.wp_read.proofs.Decides.{loads_noted, load_keeps}
use Rattle.wp_read.proofs.deciding.load_any.Goals as goal

pub returns-in_default-clause-loads : goal.returns-in_default-clause-loads
returns-in_default-clause-loads g c = loads_noted c.args.store.now c.args.which c.args.seat.now c.load.new.seat c.args.seen.now c.load.new.seen c.load.ensures

pub returns-in_default-clause-notes : goal.returns-in_default-clause-notes
returns-in_default-clause-notes g c = load_keeps c.args.store.now c.args.which c.args.seat.now c.load.new.seat c.args.seen.now c.load.new.seen c.load.ensures
