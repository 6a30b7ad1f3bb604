use Rattle.std.proofs.Common.{arith}
use Rattle.wp_memory.proofs.Room.{fits_by_written, fits}
use Rattle.wp_memory.proofs.Replayed.{written_again}
use Rattle.wp_memory.proofs.mem_disk.MemDisk.fits.Goals as goal

pub returns-clause-tests : goal.returns-clause-tests
returns-clause-tests c =
    let same = written_again c.self.inside.past.items c.self.inside.written.items (omega (arith, c.self.invariant.written)) in
    rw (← c.self.view_is) (fits_by_written c.self.inside.most c.self.inside.counter.made c.self.inside.room c.args.len _ c.saturating_add.result (omega arith) (omega arith) c.self.invariant.room (omega arith))

pub returns-clause-room : goal.returns-clause-room
returns-clause-room c = fits _ _ _ _ (returns-clause-tests c)
