-- Delayed commits that the evicted bound has come to, and their taking out.
use Rattle.std.specs.Prelude.{◌≡◌, ℕ, ◌≤◌, List, Some}
use Rattle.std.specs.Ordering.{nat_cmp}
use Rattle.std.specs.FinMap.{FinMap, get}
use Rattle.wp_model.specs.declared.entry.Entry.{Entry}
use Rattle.wp_model.specs.Decision.{decision_of}
use Rattle.wp_core.specs.Views.{words_stay}
use Rattle.wp_core.specs.World.{Actor}
use Rattle.wp_prepared.specs.Passed.{NonePassed}
use Rattle.wp_rule.specs.Knows.{Noted}

-- the bound has come to none of these commits
pub record NoneReached (a : Actor) (commits : FinMap nat_cmp ℕ) : Type 0 where
  pub bound : ℕ
  pub words : List ℕ
  pub noted : Noted a (words_stay bound words)
  pub above : NonePassed commits bound

-- the bound has come to this one of them, which the history decides so
pub record IsReachedCommit (a : Actor) (history : List Entry) (commits : FinMap nat_cmp ℕ) (found : ℕ × ℕ) : Type 0 where
  pub bound : ℕ
  pub words : List ℕ
  pub noted : Noted a (words_stay bound words)
  pub there : get commits found.0 ≡ Some found.1
  pub passed : found.1 ≤ bound
  pub decided : decision_of history found.0 ≡ Some found.1
  pub ordered : found.0 ≤ found.1
