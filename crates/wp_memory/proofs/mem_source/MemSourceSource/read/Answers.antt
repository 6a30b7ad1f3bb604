use Rattle.std.proofs.Common.{arith}
use Rattle.wp_memory.proofs.Reading.{moved_on}
use Rattle.wp_memory.proofs.mem_source.MemSourceSource.read.Goals as goal

pub returns-clause-gives : goal.returns-clause-gives
returns-clause-gives c =
    let moved = moved_on c.copy_from-count.ensures.read in
    (omega arith, omega (arith, c.copy_from-count.ensures.read.count), rw (← c.self.view_is) (rw c.deref.ensures.value at moved))
