use Rattle.std.proofs.Common.{◌+◌, ◌-◌, length, arith}
use Rattle.wp_memory.proofs.Writes.{put_within}
use Rattle.wp_memory.proofs.mem_disk.copy_over.Goals as goal

pub returns : goal.returns
returns c = rw c.copy_from_slice.ensures.after (put_within c.args.at (c.args.at + length c.args.piece.now - c.args.at) c.args.piece.now c.args.bytes.now (omega arith) (omega arith))
