-- The headline: what comes of a script that is served over a store, for any number of clients and however their steps fall.
use Rattle.std.specs.Prelude.{◌≡◌, ℕ, ◌<◌, ◌≤◌, ◌==◌, ◌^◌, List, [], ◌++◌, length, count_by}
use Rattle.std.specs.List.{flat_map}
use Rattle.wp_model.specs.declared.entry.Entry.{Entry}
use Rattle.wp_model.specs.Legal.{IsLegal}
use Rattle.wp_args.specs.declared.choice.Choice.{Choice}
use Rattle.wp_text.specs.declared.script.Part.{Part}
use Rattle.wp_text.specs.declared.reply.Reply.{Reply}
use Rattle.wp_contents.specs.Opens.{AllKnown, OpensTo}
use Rattle.wp_replies.specs.Explains.{Faults, AreSessions, all_replies}
use Rattle.wp_replies.specs.Kind.{acknowledged}
use Rattle.wp_replies.specs.Known.{StoredState}
use Rattle.wp_replies.specs.Replies.{Untaken, Limits}
use Rattle.wp_run.specs.Crash.{CrashOpens}
use Rattle.wp_run.specs.Base.{AreLimits, IsBaseStore}
use Rattle.wp_run.specs.Met.{SharesWords, IsStored, AreMet}
use Rattle.wp_status.specs.Use.{DisksUse, SinkUse}

-- a choice with its script, and the devices that it was served with
pub record Serving : Type 1 where
  pub choice : Choice
  pub script : List Part
  pub disks : DisksUse
  pub sink : SinkUse

-- The store ran these commands of each client, of which the script's parts begin with them. So often a call of the log's device
-- failed under a command, and so often one of the tables' two devices. Of a device that tells nothing of its bytes, nothing is
-- said of these, nor of what a crash leaves of them. All else is said of it too.
pub record Headline (s : Serving) (faults : Faults) (run : List Part) : Type 0 where
  -- The bytes of the three devices opened to the history and the last edit of the manifest that were found.
  pub id : ℕ
  pub found : StoredState
  pub opened : AllKnown s.disks.log.before s.disks.manifest.before s.disks.tables.before (OpensTo id found.history found.edit)
  -- With these, and as many words in the commit cache as were asked for, there is a world of the machine: the opened store's.
  pub words : SharesWords (2 ^ s.choice.store.bits) found
  -- The history that is left is legal, and begins with that one.
  pub left : StoredState
  pub legal : IsLegal left.history
  pub begins : (added : List Entry) × (left.history ≡ found.history ++ added)
  -- The text tells what the store had at the base of the log that was found, key by key.
  pub store : List (List ℕ × List ℕ)
  pub store_is : IsBaseStore left.history found.edit.segment.base store
  -- Each client's replies to its commands are a session that the table of replies allows over the one history that is left. What
  -- is read is what its first n entries leave, what is acknowledged is an entry of it, and fresh numbers never fall. No key of an open
  -- transaction is changed by others before its entry.
  pub failed : Untaken  -- the record, or the edit, that a device failed to take
  pub replies : List (List Reply)
  pub limits : Limits
  pub limits_are : AreLimits s.choice.store.limit s.choice.store.bits found.edit.segment.place s.disks.log.before limits
  pub sessions : AreSessions left limits failed found [] s.script run replies
  -- Each new entry is acknowledged by exactly one reply, an Undo together with its Close, and Commits that were settled together. No
  -- number of one is above the limit.
  pub once : (n : ℕ) → length found.history < n → n ≤ length left.history → count_by (λ m. m == n) (flat_map acknowledged (all_replies replies)) ≡ 1
  pub within : (n : ℕ) → length found.history < n → n ≤ length left.history → n ≤ s.choice.store.limit
  -- Whatever a crash leaves of the three devices then opens to the history that is left and to its last edit. Where the log failed,
  -- it may be the history with the one record behind it; where a device of the tables failed, the edit may be the failed one.
  pub crash : CrashOpens faults id left failed s.disks.log.after s.disks.manifest.after s.disks.tables.after
  -- Of the log: the id that a new one got, and that the history is acknowledged there. For each fault a device's count rose.
  pub stored : IsStored s.disks s.choice.store.id id found left failed faults
  -- The replies tell of just these faults, and of the last edit.
  pub met : AreMet found.edit left.edit faults run replies
