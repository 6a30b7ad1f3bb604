-- What a reader registers, and what it has loaded at first.
use Rattle.std.specs.Prelude.{ℕ, None}
use Rattle.wp_judge.specs.declared.observed.Observed.{Observed}

-- A snapshot: its number, and its smallest. Each version below the smallest is decided, and visible at the snapshot; the
-- smallest is 1 where nothing better is known.
pub record Registration : Type 0 where
  pub number : ℕ
  pub smallest : ℕ

-- the snapshot at which a reader reads
abbrev pub snapshot_of : Observed → Registration
snapshot_of r = record { number = r.snapshot; smallest = r.smallest }

-- the version p at a snapshot, in a cache of so many bits, with nothing loaded yet
abbrev pub reads : ℕ → ℕ → Registration → Observed
reads bits p registration =
    record {
      bits = bits;
      version = p;
      snapshot = registration.number;
      smallest = registration.smallest;
      first_word = None;
      first_max = None;
      delayed_flag = None;
      in_prepared = None;
      second_word = None;
      second_max = None;
      old_flag = None;
      is_old_commit = None;
    }
