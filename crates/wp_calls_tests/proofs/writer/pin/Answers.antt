use Rattle.wp_calls_tests.proofs.Ready.{pinned}
use Rattle.wp_calls_tests.proofs.writer.pin.Goals as goal

pub returns-in-Ok : goal.returns-in-Ok
returns-in-Ok g c = pinned c.args.store.now c.args.seat.now c.pin.new.seat c.requires.direct c.args.txn.now c.pin.result c.pin.new.txn c.pin.ensures

pub returns-in-Err : goal.returns-in-Err
returns-in-Err g c = pinned c.args.store.now c.args.seat.now c.pin.new.seat c.requires.direct c.args.txn.now c.pin.result c.pin.new.txn c.pin.ensures
