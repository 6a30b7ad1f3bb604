-- What is left of a log that is not opened.
use Rattle.std.specs.Prelude.{◌≡◌, ◌⊎◌, ℕ, List, [], take}
use Rattle.wp_outside.specs.Disk.{Moment, IfKnown, added, after_sync}
use Rattle.wp_gatelog.specs.declared.error.LogError.{LogError}
use Rattle.wp_gatelog.specs.declared.error.LogError.TheVariants.{DiskFault}
use Rattle.wp_gatelog.specs.Log.{IsAtRest}
use Rattle.wp_gatelog.specs.Spelling.{Stamp, SpellsAt}

-- ---- where it is only read

-- all of the disk's bytes are as they were, and at most they were made to stay for good
abbrev pub IsAtMostSynced : List Moment → List Moment → Type 0
IsAtMostSynced old new = (new ≡ old) ⊎ (new ≡ added after_sync old)

-- the disk was synced, and nothing else, unless it failed
abbrev pub LeavesSynced : List Moment → List Moment → LogError → Type 0
LeavesSynced old new DiskFault = IsAtMostSynced old new
LeavesSynced old new other = new ≡ added after_sync old

-- ---- where it is repaired, and its records are refused behind that

-- the log at that place is at rest with the records that the bytes spelled there, behind the bytes that stood before it
pub record RestsAsSpelledAt (place : ℕ) (magic bytes : List ℕ) (m : Moment) : Type 0 where
  pub stamp : Stamp
  pub end : ℕ
  pub records : List (List ℕ)
  pub spelled : SpellsAt place bytes magic stamp records
  pub rests : IsAtRest magic stamp end (take place bytes) [] records m

-- where the disk is known, the log is left at rest, with its records as they were
abbrev pub IsLeftAtRestAt : ℕ → List ℕ → List Moment → List Moment → Type 0
IsLeftAtRestAt place magic old new = IfKnown old (λ m. IfKnown new (RestsAsSpelledAt place magic m.reads))

-- no records were read, and nothing came but a sync; or they were, and the log is left at rest
abbrev pub IsSyncedOrAtRestAt : ℕ → List ℕ → List Moment → List Moment → Type 0
IsSyncedOrAtRestAt place magic old new = (new ≡ added after_sync old) ⊎ IsLeftAtRestAt place magic old new

-- the same of a log at place 0
abbrev pub RestsAsSpelled : List ℕ → List ℕ → Moment → Type 0
RestsAsSpelled = RestsAsSpelledAt 0

abbrev pub IsLeftAtRest : List ℕ → List Moment → List Moment → Type 0
IsLeftAtRest = IsLeftAtRestAt 0

abbrev pub IsSyncedOrAtRest : List ℕ → List Moment → List Moment → Type 0
IsSyncedOrAtRest = IsSyncedOrAtRestAt 0
