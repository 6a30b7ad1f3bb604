-- What an actor did and found, and what it knows of states that others may hold.
use Rattle.std.specs.Prelude.{ℕ, Bool, List, Option}
use Rattle.wp_model.specs.declared.change.Change.{Change}
use Rattle.wp_model.specs.declared.entry.Entry.{Entry}
use Rattle.wp_model.specs.declared.version.Version.{Version}
use Rattle.wp_model.specs.declared.holder.Holder.{Holder}
use Rattle.wp_model.specs.Flushed.{InstalledEdit}
use Rattle.wp_judge.specs.Words.{CommitPair}

-- how a holder that was found is accounted for: the finder's own, another actor's, or a prepare undecided after so many entries
pub data Account : Type 0 where
  own : Account
  another : Account
  prepare_at : ℕ → Account

-- what stays in an actor's past
pub data Event : Type 0 where
  claimed : List ℕ → Event
  took : List ℕ → Event
  locked : List ℕ → Holder → Event
  told : List ℕ → ℕ → Event
  heard : List ℕ → ℕ → Event
  -- this edit; true where a compaction made it
  installed : InstalledEdit → Bool → Event
  -- this edit, which names another segment of the log
  renewed : InstalledEdit → Event
  -- the append of this record failed, or the write of a segment, which has no record
  log_failed : List Entry → Event
  -- the log was closed behind a failure of the tables' devices
  log_stopped : Event
  -- the devices failed, where the first was the last edit, in the install of the second, if of one
  tables_failed : InstalledEdit → Option InstalledEdit → Event
  -- the log was found closed at this published number
  stopped : ℕ → Event
  -- at this published number the log was found with this base
  based_at : ℕ → ℕ → Event
  -- the last edit was found, with this flushed number, this base of the log and so many tables, by one who knew of so many; true where
  -- the devices had failed
  found_edit : ℕ → ℕ → ℕ → ℕ → Bool → Event
  -- this holder was found, of a key or else of a live name, by one who had seen so many entries
  found : Option (List ℕ) → Holder → ℕ → Account → Event

-- A fact that the actor noted. While it holds the turn that guards the fact, if one does, the fact stays so until the actor
-- itself ends it.
pub data Fact : Type 0 where
  -- The pair of the word at this place may be evicted: its decision is at most the bound; the old commit map has it under
  -- each live snapshot that it overlaps; and it is of no prepared transaction, or a delayed commit.
  passed : ℕ → CommitPair → Fact
  in_old_commits : ℕ → CommitPair → Fact
  apart : ℕ → CommitPair → Fact
  -- nobody else changes the bound or a word
  words_stay : ℕ → List ℕ → Fact
  -- this number is decided, and in neither the heap nor the delayed set
  has_left : ℕ → Fact
  -- each prepared number whose decision the bound has come to is in its word: so none waits to be taken out
  none_waits : Fact
  -- of the pending entry
  versions_in_memory : Fact
  versions_nowhere : Fact
  number_in_heap : Fact
  number_not_in_heap : Fact
  pair_delayed : Fact
  pair_not_delayed : Fact
  -- of a transaction: undecided under this number; what a rollback of it writes; named by no undecided prepare
  undecided_at : List ℕ → ℕ → Fact
  prior_values : List ℕ → ℕ → List Change → Fact
  unprepared : List ℕ → Fact
  -- the key of a direct write is in no undecided batch
  direct_free : List ℕ → Fact
  -- of a transaction and a key that it locked: no entry above this number changes the key
  unchanged : List ℕ → List ℕ → ℕ → Fact
  -- while the prepare with this number is undecided under the name, just these keys are held for it
  locks_stay : List ℕ → ℕ → List (List ℕ) → Fact
  -- for maintenance: the versions in tables and the floor; each live number is listed or from the floor on; no flushed version
  -- in memory; the versions in memory up to a number
  tables_stay : List Version → ℕ → Fact
  live_listed : ℕ → List ℕ → Fact
  nothing_flushed : Fact
  frozen_stay : ℕ → List Version → Fact
  -- nobody else stores the flag
  delayed_flag_stays : ℕ → Fact
  old_flag_stays : ℕ → Fact
