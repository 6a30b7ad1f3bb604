-- What the runs lead to.
use Rattle.std.specs.Prelude.{◌≡◌, Bool, [], ◌∷◌, Some, None, true}
use mathlib.Core.Option.{some}
use lib.ListN.{get_elem?}
use Rattle.wp_model.specs.declared.entry.Entry.TheVariants.{Commit, Undo, Close}
use Rattle.wp_model.specs.Decision.{decision_of}
use Rattle.wp_model.specs.Snapshots.{IsLive, is_old_commit}
use Rattle.wp_judge.specs.declared.observed.Observed.{Observed}
use Rattle.wp_judge.specs.declared.observed.Load.{Load}
use Rattle.wp_judge.specs.declared.observed.Load.TheVariants.{FirstWord, FirstMax, DelayedFlag, InPrepared, SecondWord, SecondMax, OldFlag, IsOldCommit}
use Rattle.wp_judge.specs.Order.{judgement}
use Rattle.wp_core.specs.Cache.{cached}
use Rattle.wp_core.specs.Turns.{all_free}
use Rattle.wp_core.specs.World.{World, Actor, history}
use Rattle.wp_machine_permits.specs.Runs.{prepared, prior, memory, edit}

-- ---- writers

abbrev pub HasCommitted : World → Type 0
HasCommitted w = (history w ≡ prepared ∷ Commit 1 ∷ []) × (w.holders ≡ all_free)

abbrev pub HasRolledBack : World → Type 0
HasRolledBack w = (history w ≡ prepared ∷ Undo 1 prior ∷ Close 1 ∷ []) × (w.holders ≡ all_free)

-- 1 was committed by 2, and its word is another's. The snapshot 1 is live, which does not see that: the old commit map has 1 there.
pub record HasKept (w : World) : Type 0 where
  pub committed : decision_of (history w) 1 ≡ Some 2
  pub evicted : cached w.cache 1 ≡ None
  pub live : IsLive w.snapshots 1
  pub kept : is_old_commit w.snapshots 1 1 ≡ true
  pub free : w.holders ≡ all_free

-- the edit is the last one, and its versions are in tables, and no longer in memory
pub record HasFlushed (w : World) : Type 0 where
  pub last : w.installed.last ≡ edit
  pub tables : w.store.tables ≡ memory
  pub memory_is : w.store.memory ≡ []
  pub free : w.holders ≡ all_free

-- ---- readers

-- as if this was not loaded
abbrev pub without : Load → Observed → Observed
without FirstWord r = record r { first_word = None }
without FirstMax r = record r { first_max = None }
without DelayedFlag r = record r { delayed_flag = None }
without InPrepared r = record r { in_prepared = None }
without SecondWord r = record r { second_word = None }
without SecondMax r = record r { second_max = None }
without OldFlag r = record r { old_flag = None }
without IsOldCommit r = record r { is_old_commit = None }

-- the first actor reads, and has this answer, which it has by that load: without it there is none
abbrev pub IsDecidedBy : Load → Bool → World → Type 0
IsDecidedBy which visible w = (a : Actor) × (r : Observed) × (get_elem? w.actors 0 ≡ some a) × (a.reading ≡ Some r) × (judgement r ≡ Some visible) × (judgement (without which r) ≡ None)
