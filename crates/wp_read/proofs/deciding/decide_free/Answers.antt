use Rattle.std.proofs.Common.{sym}
use Rattle.wp_read.proofs.Decides.{fewer_left}
use Rattle.wp_read.proofs.deciding.decide_free.Goals as goal

pub loads-smaller : goal.loads-smaller
loads-smaller g c = fewer_left c.args.store.now c.in-Load.which c.loads.seat c.load.new.seat c.loads.seen c.load.new.seen c.load.ensures (sym c.in-Load.ensures)
