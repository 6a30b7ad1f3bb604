-- What was found where a log is opened, on a disk that is known.
use Rattle.std.specs.Prelude.{◌≡◌, ℕ, ◌≤◌, ◌^◌, List, [], length, take, drop, Option, Some, None, vec_len}
use Rattle.wp_outside.specs.Disk.{Moment, synced}
use Rattle.wp_gatelog.specs.declared.open.FoundLog.{FoundLog}
use Rattle.wp_gatelog.specs.Opening.{IsFound}
use Rattle.wp_gatelog.specs.Repair.{IsReadLog}
use Rattle.wp_gatelog.specs.Spelling.{Stamp, IsUnmade, stamped}

-- what the head says of the log that was found, or is to say where none was made
abbrev pub found_stamp : FoundLog → Stamp
found_stamp log = stamped log.format log.id

-- there is a byte for each record, and the log ends at most there
abbrev pub HasPlaces : FoundLog → Type 0
HasPlaces log = (vec_len log.found.records ≤ log.found.end) × (log.found.end ≤ 2 ^ 62)

-- None was made, at place 0; or one was whose head has this gate, and it was read whole.
abbrev pub WasFoundBy : ℕ → List ℕ → List ℕ → FoundLog → Option ℕ → Type 0
WasFoundBy place magic bytes log None = (place ≡ 0) × IsUnmade bytes × (log.found.records.items ≡ []) × (log.found.end ≡ 10)
WasFoundBy place magic bytes log (Some head) =
    (place ≡ length (take place bytes)) × IsReadLog (take place bytes) magic (found_stamp log) head log.found.records.items log.found.last log.found.end log.len (drop place bytes)

-- it was found at that place of these bytes, which are all of the disk
abbrev pub WasFound : ℕ → List ℕ → List ℕ → FoundLog → Type 0
WasFound place magic bytes log = (log.len ≡ length bytes) × WasFoundBy place magic bytes log log.head

-- ... and what it has is what they spell there
pub record IsFoundLog (place : ℕ) (magic : List ℕ) (asked : Stamp) (bytes : List ℕ) (log : FoundLog) : Type 0 where
  pub found : IsFound place magic asked bytes (found_stamp log) log.found.records.items
  pub was : WasFound place magic bytes log

-- the disk is synced, and as it was when the log was found
abbrev pub IsAsFound : ℕ → List ℕ → FoundLog → Moment → Type 0
IsAsFound place magic log m = (m ≡ synced m.reads) × WasFound place magic m.reads log
