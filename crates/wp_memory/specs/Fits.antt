-- What a disk in memory has left.
use Rattle.std.specs.Prelude.{ℕ, ◌+◌, ◌<◌, ◌≤◌}
use Rattle.wp_memory.specs.MemDisk.{DiskState, bytes_written}

-- a call, and room for this length and for that many more bytes written
pub record Fits (d : DiskState) (len more : ℕ) : Type 0 where
  pub left : d.calls.made < d.most
  pub length : len ≤ d.room
  pub written : bytes_written d + more ≤ d.room
