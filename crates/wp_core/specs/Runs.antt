-- The worlds that steps of any actors reach.
use Rattle.std.specs.Prelude.{◌≡◌, ℕ, ◌≤◌, true, false, List, [], ◌∷◌, length, None, All}
use mathlib.Core.Option.{some}
use lib.ListN.{get_elem?}
use Rattle.std.specs.FinSet as set
use Rattle.std.specs.FinMap as finite
use Rattle.wp_model.specs.History.{undecided}
use Rattle.wp_model.specs.Legal.{IsLegal, undone_last}
use Rattle.wp_core.specs.Turns.{all_free}
use Rattle.wp_core.specs.World.{Actor, World, new_actor}
use Rattle.wp_core.specs.Steps.{Step}
use Rattle.wp_core.specs.Effects.{done}
use Rattle.wp_core.specs.Needs.{Needs}
use Rattle.wp_core.specs.Notes.{forgets}
use Rattle.wp_history_laws.specs.Opened.{AreOpened}
use Rattle.wp_core.specs.Sound.Store.{IsStored, IsOfEdit}

-- one step of an actor
abbrev pub IsStep : World → ℕ → Step → World → Type 0
IsStep w by step next = (a : Actor) × (get_elem? w.actors by ≡ some a) × Needs w by a step × (next ≡ done w by (forgets w.writes.history (length w.cache) step a) step)

-- a world as it is opened: on a legal history that ends in no undo
pub record IsOpening (w : World) : Type 0 where
  pub legal : IsLegal w.opened
  pub closed_undo : undone_last w.opened ≡ None
  pub history : w.writes.history ≡ w.opened
  pub pending : w.writes.pending ≡ []
  pub log : w.writes.log ≡ w.opened
  pub running_log : w.writes.closed ≡ false
  pub unstopped : w.writes.stopped ≡ false
  pub none_failed : w.writes.failed ≡ []
  pub segment : w.writes.segment ≡ w.first_edit.segment
  pub none_next : w.writes.next ≡ None
  pub max_evicted : w.max_evicted ≡ length w.opened
  pub words : 1 ≤ length w.cache
  pub cache : All (λ word. word ≡ 0) w.cache
  pub holders : w.holders ≡ all_free
  pub heap : w.prepared.heap ≡ set.empty
  pub delayed : w.prepared.delayed ≡ set.from_list (undecided w.opened)
  pub delayed_commits : w.prepared.delayed_commits ≡ finite.empty
  pub delayed_flag : w.delayed_flag ≡ 0 → undecided w.opened ≡ []
  pub delayed_free : undecided w.opened ≡ [] → w.delayed_flag ≡ 0
  pub old_flag : w.old_flag ≡ 0
  pub snapshots : w.snapshots ≡ finite.empty
  pub versions : IsStored w.opened [] w.first_edit.segment.base w.snapshots w.store w.installed
  pub in_step : IsOfEdit w.store w.installed.last
  pub first_edit : w.installed.last ≡ w.first_edit
  pub not_failed : w.installed.failed ≡ None
  pub running : w.installed.halted ≡ false
  pub locks : AreOpened w.opened w.locks
  pub client : List ℕ
  pub actors : w.actors ≡ new_actor true client w.opened ∷ []

-- the second world is reached from the first
pub data ReachesFrom (w : World) : World → Type 0 where
  stays : ReachesFrom w w
  goes_on : {last next : World} (by : ℕ) (step : Step) → ReachesFrom w last → IsStep last by step next → ReachesFrom w next

-- the world is reached from an opening
abbrev pub Reaches : World → Type 0
Reaches w = (first : World) × IsOpening first × ReachesFrom first w
