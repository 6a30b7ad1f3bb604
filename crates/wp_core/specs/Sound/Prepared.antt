-- What is so of the cache, the prepared sets, and the old commit map.
use Rattle.std.specs.Prelude.{◌≡◌, ℕ, ◌≤◌, ◌<◌, ◌⊎◌, true, false, List, length, slice_index, Option, Some, None}
use Rattle.std.specs.Ordering.{nat_cmp}
use Rattle.std.specs.FinSet as set
use Rattle.std.specs.FinMap as finite
use Rattle.wp_model.specs.declared.entry.Entry.{Entry}
use Rattle.wp_model.specs.History.{entry_at, is_prepare, is_undecided}
use Rattle.wp_model.specs.Decision.{decision_of}
use Rattle.wp_model.specs.Snapshots.{IsLive, is_old_commit, Snapshots, NoOldCommits}
use Rattle.wp_judge.specs.Words.{CommitPair, commit_pair, fits}
use Rattle.wp_core.specs.Cache.{cache_place, cached, pair_at}
use Rattle.wp_model.specs.PreparedSets.{PreparedSets, is_prepared, NoneDelayed}
use Rattle.wp_core.specs.Entries.{extended}

-- ---- the cache

pub record IsPairAt (history : List Entry) (words place : ℕ) (pair : CommitPair) : Type 0 where
  pub placed : cache_place words pair.number ≡ place
  pub decided : decision_of history pair.number ≡ Some pair.decision

-- each word is empty, or has a pair at its place that the history decides, with the pending entry
pub record IsCache (history pending : List Entry) (cache : List ℕ) : Type 0 where
  pub some : 1 ≤ length cache
  pub empty : (i : ℕ) → i < length cache → pair_at cache i ≡ None → slice_index cache i ≡ 0
  pub pairs : (i : ℕ) (pair : CommitPair) → i < length cache → pair_at cache i ≡ Some pair → IsPairAt (extended history pending) (length cache) i pair

-- ---- what the history decides

-- the old commit map has p under each live snapshot from p on and below c, the snapshots that do not see it
abbrev pub IsInOldCommits : Snapshots → ℕ → ℕ → Type 0
IsInOldCommits snapshots p c = (s : ℕ) → IsLive snapshots s → p ≤ s → s < c → is_old_commit snapshots s p ≡ true

-- its decision is at most the bound, and the old commit map has it where it must
abbrev pub IsPassed : ℕ → Snapshots → ℕ → ℕ → Type 0
IsPassed max snapshots p c = (c ≤ max) × IsInOldCommits snapshots p c

-- the pair is too wide for a word: it is one of the delayed commits, and the bound has come to its number
pub record IsWide (words : ℕ) (commits : finite.FinMap nat_cmp ℕ) (max : ℕ) (pair : CommitPair) : Type 0 where
  pub wide : fits words pair ≡ false
  pub delayed : finite.get commits pair.number ≡ Some pair.decision
  pub reached : pair.number ≤ max

-- the pair is where a reader finds it: in its word, or else a delayed commit
abbrev pub IsEntered : List ℕ → finite.FinMap nat_cmp ℕ → ℕ → CommitPair → Type 0
IsEntered cache commits max pair = (cached cache pair.number ≡ Some pair.decision) ⊎ IsWide (length cache) commits max pair

-- Each decided version is in its word, or is passed, or too wide and delayed. The old commit map has only decided versions, and only
-- under snapshots that they overlap.
pub record AreDecided (history : List Entry) (cache : List ℕ) (commits : finite.FinMap nat_cmp ℕ) (max : ℕ) (snapshots : Snapshots) : Type 0 where
  pub found : (p c : ℕ) → decision_of history p ≡ Some c → IsEntered cache commits max (commit_pair p c) ⊎ IsPassed max snapshots p c
  pub kept : (s p : ℕ) → is_old_commit snapshots s p ≡ true → (c : ℕ) × (decision_of history p ≡ Some c) × (p ≤ s) × (s < c)

-- ---- what it leaves undecided

pub record AreUndecided (history pending : List Entry) (t : PreparedSets) (max : ℕ) : Type 0 where
  pub found : (p : ℕ) → is_undecided history p ≡ true → is_prepared t p ≡ true
  pub heap_above : (p : ℕ) → set.contains t.heap p ≡ true → max < p
  pub delayed_passed : (p : ℕ) → set.contains t.delayed p ≡ true → p ≤ max
  pub known : (p : ℕ) → is_prepared t p ≡ true → is_prepare (entry_at (extended history pending) p) ≡ true

-- what the prepared sets have of decided versions; a delayed commit may be the pending entry's
pub record AreDelayed (history pending : List Entry) (t : PreparedSets) (cache : List ℕ) : Type 0 where
  pub found : (p c : ℕ) → is_prepared t p ≡ true → decision_of history p ≡ Some c → (cached cache p ≡ Some c) ⊎ (finite.get t.delayed_commits p ≡ Some c)
  pub commits : (p c : ℕ) → finite.get t.delayed_commits p ≡ Some c → decision_of (extended history pending) p ≡ Some c

-- ---- flags

-- a flag of 0 says that there is nothing, and where the turn is free it is 0 where there is nothing
pub record AreFlags (delayed_flag old_flag : ℕ) (t : PreparedSets) (snapshots : Snapshots) (prepared_holder snapshots_holder : Option ℕ) : Type 0 where
  pub none_delayed : delayed_flag ≡ 0 → NoneDelayed t
  pub none_kept : old_flag ≡ 0 → NoOldCommits snapshots
  pub delayed_free : prepared_holder ≡ None → NoneDelayed t → delayed_flag ≡ 0
  pub old_free : snapshots_holder ≡ None → NoOldCommits snapshots → old_flag ≡ 0
