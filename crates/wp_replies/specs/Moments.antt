-- A session whose replies are due at moments of the history, one after another.
use Rattle.std.specs.Prelude.{◌≡◌, ◌⊎◌, ℕ, ◌<◌, ◌≤◌, Bool, true, List, [], ◌∷◌, ◌++◌, length, take, Option, Some, None, is_some, IfSome}
use Rattle.std.specs.FinMap as map
use Rattle.std.specs.List.{AllByRecursion}
use Rattle.wp_model.specs.declared.entry.Entry.{Entry}
use Rattle.wp_model.specs.Covered.{GivesStore}
use Rattle.wp_model.specs.Decision.{entry_version}
use Rattle.wp_model.specs.Flushed.{InstalledEdit}
use Rattle.wp_model.specs.Legal.{IsLegal, undone_last}
use Rattle.wp_model.specs.History.{name_at}
use Rattle.wp_model.specs.LockState.{Labels, is_among_keys}
use Rattle.wp_model.specs.Versions.{AreInOrder, version_at}
use Rattle.wp_text.specs.declared.script.Command.{Command}
use Rattle.wp_text.specs.declared.reply.Reply.{Reply}
use Rattle.wp_replies.specs.Client.{Client}
use Rattle.wp_replies.specs.Txn.{Txn, Open, LockedKeys}
use Rattle.wp_replies.specs.Due.{Store, plan_in, IsReply, logged_entries, edit_of, client_after}
use Rattle.wp_replies.specs.Kind.{is_fault, is_tables_fault, fresh_in}
use Rattle.wp_replies.specs.Plan.{asked_of}
use Rattle.wp_replies.specs.Progress.{Progress, ToldKey, knows_label, progress_after}
use Rattle.wp_replies.specs.Replies.{WasLocked, WasTold, LogStopped, WasFlushed, TablesFailed, OtherCompacted, Evidence, IsKnown, HadBase, limit_at_base, KeepsKeys}

-- what a store has beside its history
pub record Devices : Type 0 where
  pub stopped : Bool  -- the log takes no more
  pub limit : ℕ  -- the greatest number of an entry
  pub installed : InstalledEdit  -- the last edit of the tables
  pub halted : Bool  -- the manifest's device or the tables' has failed
  pub board : Labels  -- what was told last under each label
  pub locked : List LockedKeys  -- of the transactions that were prepared since the opening

-- the store when so many entries of the history were published
abbrev pub store_at : Evidence → Devices → ℕ → Store
store_at evidence devices at =
    record { base = evidence.base; history = take at evidence.history; stopped = devices.stopped; limit = devices.limit; renewed_limit = evidence.limits.renewed; cells = evidence.limits.cells; installed = devices.installed; halted = devices.halted; board = devices.board; locked = devices.locked }

-- These entries are a legal history that can be cut at the base. The edit's base is no earlier, and its tables have versions of the
-- history, in order, which show a reader at the base what the store had there.
pub record AreStored (base : ℕ) (history : List Entry) (edit : InstalledEdit) : Type 0 where
  pub legal : IsLegal history
  pub within : base ≤ length history
  pub whole : undone_last (take base history) ≡ None
  pub from_base : base ≤ edit.segment.base
  pub order : AreInOrder edit.versions
  pub part : (key : List ℕ) (p : ℕ) (value : Option (List ℕ)) → version_at edit.versions key p ≡ Some value → (entry_version history p key ≡ Some value) × (p ≤ length history)
  pub gives : (key : List ℕ) → GivesStore edit.versions history key base

-- the prepare was made since the opening, and somebody had locked each of these keys for its name
abbrev pub AreLockedBy : Evidence → ℕ → LockedKeys → Type 0
AreLockedBy evidence at x = (evidence.opened < x.number) × ((key : List ℕ) → is_among_keys x.keys key ≡ true → IsKnown evidence (WasLocked (name_at (take at evidence.history) x.number) key))

-- What is known of the others fits the devices when so many entries were published: what has failed, and which number the edit has, which
-- is the last one once the tables' devices failed; and its base, with the limit that the log has then. The edit has as many tables as the
-- client knows of, unless another client made them one, and they have what is stored. What is on the board was told, and each label is
-- there that the client knows. What was locked somebody locked.
pub record AreKnown (evidence : Evidence) (at : ℕ) (progress : Progress) (devices : Devices) : Type 0 where
  pub stopped : devices.stopped ≡ true → IsKnown evidence (LogStopped at)
  pub limit : devices.limit ≡ limit_at_base evidence devices.installed.segment.base
  pub halted : devices.halted ≡ true → (devices.installed.flushed ≡ evidence.installed.flushed) × IsKnown evidence TablesFailed
  pub flushed : IsKnown evidence (WasFlushed devices.installed.flushed)
  pub based : HadBase evidence progress at devices.installed.segment.base
  pub counted : (progress.tables ≤ devices.installed.tables) ⊎ IsKnown evidence OtherCompacted
  pub stored : AreStored evidence.base (take at evidence.history) devices.installed
  pub told : (label : List ℕ) (n : ℕ) → map.get devices.board label ≡ Some n → IsKnown evidence (WasTold label at)
  pub heard : (label : List ℕ) → knows_label progress.labels label ≡ true → is_some (map.get devices.board label) ≡ true
  pub locked : AllByRecursion (AreLockedBy evidence at) devices.locked

-- nobody has changed a key of the open transaction
abbrev pub TxnIsKept : List Entry → List ToldKey → Txn → Type 0
TxnIsKept history keys (Open own) = KeepsKeys history own keys
TxnIsKept history keys other = Unit {0}

-- The command's reply is the one that is due over the entries published before it, and its own entries are all that
-- were published until it was answered. From is how many were published earlier. No entry changed a key of its open transaction.
pub record IsDueFrom (evidence : Evidence) (from : ℕ) (progress : Progress) (client : Client) (command : Command) (answer : Reply) : Type 0 where
  pub before : ℕ
  pub after : ℕ
  pub earlier : from ≤ before
  pub grows : before ≤ after
  pub within : after ≤ length evidence.history
  pub devices : Devices
  pub place : ℕ  -- of the segment that a renewal writes
  pub known : AreKnown evidence before progress devices
  pub kept : TxnIsKept (take before evidence.history) progress.keys client.txn
  pub replied : IsReply (store_at evidence devices before) client command answer
  pub logged : take after evidence.history ≡ take before evidence.history ++ logged_entries (store_at evidence devices before) client command answer
  pub fresh : IfSome (fresh_in command answer) (λ n. (before ≤ n) × (n ≤ after))
  -- what the log failed to take is what the command asked for, and it stays in the segment that it has
  pub asked : is_fault answer ≡ true → (evidence.failed.entries ≡ asked_of (plan_in (store_at evidence devices before) client command)) × (devices.installed.segment ≡ evidence.installed.segment)
  -- likewise the tables, which have the last edit then
  pub asked_edit : is_tables_fault answer ≡ true → IfSome evidence.failed.edit (λ edit. edit ≡ edit_of place (store_at evidence devices before) client (plan_in (store_at evidence devices before) client command)) × (devices.installed ≡ evidence.installed)

abbrev pub AreDueFrom : Evidence → ℕ → Progress → Client → List Command → List Reply → Type 0
AreDueFrom evidence from progress client [] [] = Unit {0}
AreDueFrom evidence from progress client [] (answer ∷ answers) = ⊥
AreDueFrom evidence from progress client (first ∷ commands) [] = ⊥
AreDueFrom evidence from progress client (first ∷ commands) (answer ∷ answers) =
    (given : IsDueFrom evidence from progress client first answer) × AreDueFrom evidence given.after (progress_after progress first answer) (client_after (take given.before evidence.history) client first answer) commands answers
