-- The last changes of keys that a history keeps beside its entries.
use Rattle.std.specs.Prelude.{◌≤◌, length}
use Rattle.wp_model.specs.Changed.{conflict}
use Rattle.wp_history.specs.declared.last_changes.LastChanges.{LastChanges}
use Rattle.wp_history.specs.History.{RoomyHistory, IsStore}

-- Under each key that an entry above a number changes stands the last such entry's number. The number above which they are is from the
-- base on.
pub record AreLastChanges (h : RoomyHistory) (changes : LastChanges) : Type 0 where
  pub above : h.base ≤ changes.from
  pub within : changes.from ≤ length h.entries
  pub each : IsStore (λ key. conflict h.entries key changes.from) changes.last
