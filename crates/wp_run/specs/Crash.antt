-- What a crash leaves of a store's three devices.
use Rattle.std.specs.Prelude.{◌≡◌, ◌⊎◌, ℕ, zero, suc, List, ◌++◌, Some}
use Rattle.wp_model.specs.declared.entry.Entry.{Entry}
use Rattle.wp_model.specs.Flushed.{InstalledEdit}
use Rattle.wp_outside.specs.Disk.{Moment, images}
use Rattle.wp_contents.specs.Opens.{OpensTo}
use Rattle.wp_shared.specs.Ended.{IsFrom}
use Rattle.wp_replies.specs.Explains.{Faults}
use Rattle.wp_replies.specs.Known.{StoredState}
use Rattle.wp_replies.specs.Replies.{Untaken}

-- From the base on it is the history that is left; or, once the log has failed, that or that and what the log failed to take.
abbrev pub MayBeSpelled : (faults base : ℕ) → (left failed history : List Entry) → Type 0
MayBeSpelled zero base left failed history = IsFrom base left history
MayBeSpelled (suc faults) base left failed history = IsFrom base left history ⊎ IsFrom base (left ++ failed) history

-- the edit that is left; or, once a device of the tables has failed, it or the one that they failed to take
abbrev pub MayBeLast : (faults : ℕ) → StoredState → Untaken → InstalledEdit → Type 0
MayBeLast zero left failed edit = edit ≡ left.edit
MayBeLast (suc faults) left failed edit = (edit ≡ left.edit) ⊎ (failed.edit ≡ Some edit)

-- the bytes of the three devices open to such a history, from the edit's base on, and to such an edit as the last one
pub record OpensAs (faults : Faults) (id : ℕ) (left : StoredState) (failed : Untaken) (log manifest tables : List ℕ) : Type 0 where
  pub history : List Entry
  pub edit : InstalledEdit
  pub spelled : MayBeSpelled faults.log edit.segment.base left.history failed.entries history
  pub last : MayBeLast faults.tables left failed edit
  pub opens : OpensTo id history edit log manifest tables

-- whichever image each of the devices is left with, they open so
abbrev pub CrashOpens : Faults → (id : ℕ) → StoredState → Untaken → (log manifest tables : List Moment) → Type 0
CrashOpens faults id left failed log manifest tables = (l m t : List ℕ) → images log l → images manifest m → images tables t → OpensAs faults id left failed l m t
