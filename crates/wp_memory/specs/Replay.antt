-- How the record of a disk in memory says what its calls did.
use Rattle.std.specs.Prelude.{◌≡◌, ℕ, ◌^◌, ◌<◌, ◌≤◌, List, [], ◌∷◌, length, take, drop, sum_by, vec_capacity}
use Rattle.wp_memory.specs.declared.mem_disk.Change.{Change}
use Rattle.wp_memory.specs.declared.mem_disk.Change.TheVariants.{Write, Cut, Sync}
use Rattle.wp_memory.specs.declared.mem_disk.MemDisk.TheInside.{Inside}
use Rattle.wp_memory.specs.MemDisk.{Effect, Wrote, Shortened, Synced, DiskState, contents}

-- the bytes that were written are one after the other in one list
abbrev pub effects_of : List Change → List ℕ → List Effect
effects_of [] written = []
effects_of (Write at len ∷ past) written = Wrote at (take len written) ∷ effects_of past (drop len written)
effects_of (Cut len ∷ past) written = Shortened len ∷ effects_of past written
effects_of (Sync ∷ past) written = Synced ∷ effects_of past written

abbrev pub bytes_of_change : Change → ℕ
bytes_of_change (Write at len) = len
bytes_of_change change = 0

abbrev pub disk_state : Inside → DiskState
disk_state d = record {
  start = d.start.items;
  effects = effects_of d.past.items d.written.items;
  room = d.room;
  most = d.most;
  calls = d.counter;
}

-- the bytes are what the record makes of those at the start, and there is room for all that may come
pub record IsReplayed (d : Inside) : Type 0 where
  pub bytes : contents (disk_state d) ≡ d.bytes.items
  pub written : sum_by bytes_of_change d.past.items ≡ length d.written.items
  pub past : length d.past.items ≤ d.counter.made
  pub most : d.most < 2 ^ 64
  pub room : d.room ≤ 2 ^ 62
  pub bytes_room : d.room ≤ vec_capacity d.bytes
  pub written_room : d.room ≤ vec_capacity d.written
  pub past_room : d.most ≤ vec_capacity d.past
