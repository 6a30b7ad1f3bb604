-- A disk in memory. It keeps all that was done to it, so it shows each moment.
use Rattle.std.specs.Prelude.{ℕ, ◌+◌, Bool, ◌||◌, nat_lt, nat_le, List, [], ◌∷◌, ◌++◌, length, fold, sum_by, Result, Ok, Err}
use Rattle.wp_outside.specs.declared.failed.Failed.{Failed}
use Rattle.wp_memory.specs.Counter.{Calls, is_listed, counted}
use Rattle.wp_outside.specs.Disk.{Moment, synced, added, after_write, after_cut, after_sync}

-- what one call did
pub data Effect : Type 0 where
  Wrote : ℕ → List ℕ → Effect
  Shortened : ℕ → Effect
  Synced : Effect

pub record DiskState : Type 0 where
  pub start : List ℕ  -- the bytes at its making
  pub effects : List Effect  -- what the calls since have done, the oldest first
  pub room : ℕ  -- the greatest length, and the most bytes that are written to it in all
  pub most : ℕ  -- how many calls it answers
  pub calls : Calls

abbrev pub after : Effect → Moment → Moment
after (Wrote at bytes) = after_write at bytes
after (Shortened len) = after_cut len
after Synced = after_sync

-- the newest moment
abbrev pub now_of : DiskState → Moment
now_of d = fold (λ m effect. after effect m) (synced d.start) d.effects

-- what a read gives
abbrev pub contents : DiskState → List ℕ
contents d = (now_of d).reads

-- each moment, the newest first
abbrev pub moments_of : DiskState → List Moment
moments_of d = fold (λ moments effect. added (after effect) moments) (synced d.start ∷ []) d.effects

abbrev pub bytes_of_effect : Effect → ℕ
bytes_of_effect (Wrote at bytes) = length bytes
bytes_of_effect effect = 0

-- how many bytes were written to it in all
abbrev pub bytes_written : DiskState → ℕ
bytes_written d = sum_by bytes_of_effect d.effects

-- there is no call left, or the disk would be longer than its room, or more bytes would be written to it in all
abbrev pub is_used_up : DiskState → ℕ → ℕ → Bool
is_used_up d len more = nat_le d.most d.calls.made || nat_lt d.room len || nat_lt d.room (bytes_written d + more)

-- the next call, after which the disk would have this length and that many more bytes written to it, fails
abbrev pub refuses : DiskState → ℕ → ℕ → Bool
refuses d len more = is_listed d.calls || is_used_up d len more

-- after one more call, answered so: what it does is done exactly where it is Ok
abbrev pub after_call : {T : Type 0} → Result T Failed → Effect → DiskState → DiskState
after_call {T} (Ok x) effect d = record d { effects = d.effects ++ effect ∷ []; calls = counted {T = T} (Ok x) d.calls }
after_call {T} (Err e) effect d = record d { calls = counted {T = T} (Err e) d.calls }
