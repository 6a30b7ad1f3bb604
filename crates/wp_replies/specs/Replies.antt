-- The table of replies: each reply is given only where its row says so, over a history, with what is known of the other
-- clients. Each row stays true as the history grows, where what was known of the others is known still.
use Rattle.std.specs.Prelude.{◌≡◌, ◌⊎◌, ℕ, ◌+◌, ◌-◌, ◌<◌, ◌≤◌, ◌==◌, Bool, true, false, nat_le, List, [], ◌∷◌, ◌++◌, length, take, Option, Some, None, is_some, IfSome, suc, if◌then◌else◌}
use Rattle.std.specs.List.{AllByRecursion, AllZip, list_any}
use Rattle.wp_model.specs.declared.change.Change.{Change}
use Rattle.wp_model.specs.declared.change.Change.TheVariants as change
use Rattle.wp_model.specs.declared.entry.Entry.{Entry}
use Rattle.wp_model.specs.declared.entry.Entry.TheVariants as entry
use Rattle.wp_model.specs.declared.holder.Holder.{Holder}
use Rattle.wp_model.specs.declared.holder.Holder.TheVariants as holder
use Rattle.wp_model.specs.Batch.{change_to}
use Rattle.wp_model.specs.CachePlace.{IsFirstCrowded}
use Rattle.wp_model.specs.Flushed.{InstalledEdit, later_versions}
use Rattle.wp_model.specs.Changed.{conflict, IsUnchanged}
use Rattle.wp_model.specs.History.{entry_at, name_at, batch_at, is_undecided, undecided, is_changed, named, value_at}
use Rattle.wp_model.specs.Rows.{rows}
use Rattle.wp_cuts.specs.Cut.{carried_of}
use Rattle.wp_cuts.specs.Kept.{carried_versions, HasKeysAt}
use Rattle.wp_text.specs.declared.script.Command.{Command}
use Rattle.wp_text.specs.declared.script.Command.TheVariants as command
use Rattle.wp_text.specs.declared.reply.Reply.{Reply}
use Rattle.wp_text.specs.declared.reply.Reply.TheVariants as reply
use Rattle.wp_replies.specs.declared.client.TheConstants.{MOST_SNAPSHOTS}
use Rattle.wp_replies.specs.declared.client.LabelledSnapshot.{LabelledSnapshot}
use Rattle.wp_replies.specs.Txn.{Txn, Staged, Idle, Open, Prepared, is_its_key}
use Rattle.wp_replies.specs.Client.{Client, number_of, live_of, own_batch, has_no_room}
use Rattle.wp_replies.specs.Kind.{is_renewal}
use Rattle.wp_replies.specs.Progress.{ToldKey, Progress, knows_label, is_told}
use Rattle.wp_replies.specs.Tables.{unflushed, after_flush, listed, after_compaction, after_renewal}

-- ---- what is known of the others

-- what a row may say of the other clients, of the log and of the tables
pub data Claim : Type 0 where
  HasName : List ℕ → Claim  -- another client was answered `begun` or `took` for the name, or took it to settle it
  HasTaken : List ℕ → Claim  -- another client was answered `took` for the name, or took it to settle it
  HasKey : List ℕ → List ℕ → Claim  -- another client came to lock the key for its open transaction of this name
  WasLocked : List ℕ → List ℕ → Claim  -- a client came to lock the key for its open transaction of this name
  WritesKey : List ℕ → List ℕ → Claim  -- another client, of this name, came to write the key at once
  WasTold : List ℕ → ℕ → Claim  -- a client was answered `told` for the label, with a number of at most this
  LogStopped : ℕ → Claim  -- a client was answered `fault log`, or `fault tables` to `renew`, and so many entries are all of the history
  WasFlushed : ℕ → Claim  -- this was the flushed number at opening, or a client was answered `flushed` or `renewed` with it
  WasBase : ℕ → Claim  -- this was the base of the log at opening, or a client was answered `renewed` with it
  NoneRenewed : ℕ → ℕ → Claim  -- no client was answered `renewed` with a number above the first one and below the second
  TablesFailed : Claim  -- a client was answered `fault tables`
  OtherCompacted : Claim  -- another client was answered `compacted`

-- what the devices failed to take
pub record Untaken : Type 0 where
  pub entries : List Entry  -- of one record, for the log
  pub edit : Option InstalledEdit  -- for the manifest's device and the tables'; none where one failed before the manifest was called

-- what bounds which entries the log takes
pub record Limits : Type 0 where
  pub opened : ℕ  -- the greatest number of an entry in the log as it was opened: the first version of its format has room for less
  pub renewed : ℕ  -- the same, once it has been renewed
  pub cells : ℕ  -- so many words the commit cache has: no two transactions that are settled at once have one place there

-- what a reply is judged by
pub record Evidence : Type 0 where
  pub opened : ℕ  -- so many entries the store was opened with
  pub base : ℕ  -- the base of the log that it was opened from
  pub history : List Entry
  pub installed : InstalledEdit  -- the last edit of the tables
  pub limits : Limits
  pub failed : Untaken
  pub known : Claim → Bool  -- what is known of the other clients, of the log and of the tables

abbrev pub IsKnown : Evidence → Claim → Type 0
IsKnown evidence claim = evidence.known claim ≡ true

-- ---- what the client's own transaction and snapshots refuse, whatever the store has

abbrev pub refuses_change : Txn → List ℕ → Option Reply
refuses_change Idle key = None
refuses_change (Open own) key = if has_no_room own key then Some reply.TooMany else None
refuses_change (Prepared p) key = Some reply.State

abbrev pub refuses_lock : Txn → List ℕ → Option Reply
refuses_lock (Open own) key = if has_no_room own key then Some reply.TooMany else None
refuses_lock other key = Some reply.State

abbrev pub unless_idle : Txn → Option Reply
unless_idle Idle = None
unless_idle other = Some reply.State

abbrev pub unless_open : Txn → Option Reply
unless_open (Open own) = None
unless_open other = Some reply.State

abbrev pub unless_prepared : Txn → Option Reply
unless_prepared (Prepared p) = None
unless_prepared other = Some reply.State

abbrev pub if_idle : Txn → Option Reply
if_idle Idle = Some reply.State
if_idle other = None

abbrev pub unless_labelled : Option ℕ → List ℕ → Option Reply
unless_labelled (Some n) label = None
unless_labelled None label = Some (reply.UnknownSnapshot label)

abbrev pub refuses_label : List LabelledSnapshot → List ℕ → Option Reply
refuses_label snapshots label =
    if is_some (number_of snapshots label) then Some (reply.Taken label)
    else (if nat_le MOST_SNAPSHOTS (length snapshots) then Some reply.TooMany else None)

-- a scan has no place beside a transaction
abbrev pub refuses_scan : Txn → Option ℕ → List ℕ → Option Reply
refuses_scan Idle number label = unless_labelled number label
refuses_scan other number label = Some reply.State

-- nor has a settle, which is of one name at least
abbrev pub refuses_settle : Txn → List (List ℕ) → Option Reply
refuses_settle txn [] = Some reply.State
refuses_settle txn (name ∷ names) = unless_idle txn

abbrev pub refusal_of : Client → Command → Option Reply
refusal_of client (command.Put key value) = refuses_change client.txn key
refusal_of client (command.Del key) = refuses_change client.txn key
refusal_of client (command.Get key) = None
refusal_of client (command.GetAt key label) = unless_labelled (number_of client.snapshots label) label
refusal_of client (command.Scan from to) = unless_idle client.txn
refusal_of client (command.ScanAt from to label) = refuses_scan client.txn (number_of client.snapshots label) label
refusal_of client (command.Snap label) = refuses_label client.snapshots label
refusal_of client (command.Free label) = unless_labelled (number_of client.snapshots label) label
refusal_of client (command.Begin name) = unless_idle client.txn
refusal_of client command.Pin = unless_open client.txn
refusal_of client (command.Lock key) = refuses_lock client.txn key
refusal_of client command.Prepare = unless_open client.txn
refusal_of client command.Commit = if_idle client.txn
refusal_of client command.Rollback = if_idle client.txn
refusal_of client command.Leave = unless_prepared client.txn
refusal_of client (command.Take name) = unless_idle client.txn
refusal_of client (command.Settle names) = refuses_settle client.txn names
refusal_of client command.Flush = None
refusal_of client command.Compact = None
refusal_of client command.Renew = None
refusal_of client (command.Tell label) = None
refusal_of client (command.Hear label) = None

-- ---- what a row says of the history

-- the number may be answered: the client has seen nothing later
abbrev pub IsFresh : List Entry → ℕ → ℕ → Type 0
IsFresh history last n = (last ≤ n) × (n ≤ length history)

-- the entry is logged with the number, later than all that the client has seen
abbrev pub IsLoggedAt : List Entry → ℕ → ℕ → Entry → Type 0
IsLoggedAt history last n entry = (last < n) × (entry_at history n ≡ Some entry)

-- The prepare with the number p, of that name, was undecided when so many entries were published, and the client had
-- seen nothing later.
pub record WasUndecided (history : List Entry) (last : ℕ) (name : List ℕ) (p : ℕ) : Type 0 where
  pub at : ℕ
  pub fresh : IsFresh history last at
  pub undecided : is_undecided (take at history) p ≡ true
  pub named : name_at (take at history) p ≡ name

-- A prepare of that name was undecided, with the key in its batch, when so many entries were published, or more.
abbrev pub HadKey : List Entry → ℕ → (name key : List ℕ) → Type 0
HadKey history from name key = (p : ℕ) × (was : WasUndecided history from name p) × (is_changed (batch_at (take was.at history) p) key ≡ true)

-- A prepare of that name, made since the opening, was undecided likewise. What was locked for it then stays so, whoever has it.
abbrev pub WasPreparedSince : Evidence → ℕ → List ℕ → Type 0
WasPreparedSince evidence last name = (p : ℕ) × WasUndecided evidence.history last name p × (evidence.opened < p)

-- The transaction was undecided, with the key in its batch; or it is another client's, which has the key in it, or took the name,
-- of which a prepare with the key was undecided at a moment since the opening. Or somebody had locked the key for it, and it was
-- undecided, or another client took it. Or the other client writes the key.
abbrev pub IsBusy : Evidence → ℕ → List ℕ → Holder → Type 0
IsBusy evidence last key (holder.Txn name) =
    HadKey evidence.history last name key
    ⊎ IsKnown evidence (HasKey name key)
    ⊎ (IsKnown evidence (HasTaken name) × HadKey evidence.history evidence.opened name key)
    ⊎ (IsKnown evidence (WasLocked name key) × (WasPreparedSince evidence last name ⊎ IsKnown evidence (HasTaken name)))
IsBusy evidence last key (holder.Client name) = IsKnown evidence (WritesKey name key)

-- the name was that of an undecided prepare, or it is another client's
abbrev pub IsNameTaken : Evidence → ℕ → List ℕ → Type 0
IsNameTaken evidence last name = ((p : ℕ) × WasUndecided evidence.history last name p) ⊎ IsKnown evidence (HasName name)

-- ---- what a row says of the client

abbrev pub TxnIsOpen : Txn → Type 0
TxnIsOpen (Open own) = Unit {0}
TxnIsOpen other = ⊥

-- the key is none of the open transaction's
abbrev pub HasNotKey : Txn → List ℕ → Type 0
HasNotKey (Open own) key = is_its_key own key ≡ false
HasNotKey other key = Unit {0}

-- the number of a prepared transaction is at most n
abbrev pub TxnIsWithin : ℕ → Txn → Type 0
TxnIsWithin n (Prepared p) = p ≤ n
TxnIsWithin n other = Unit {0}

-- what the batch of the client's own transaction says of the key
abbrev pub OwnSays : List Entry → Txn → List ℕ → Option (Option (List ℕ)) → Type 0
OwnSays history txn key said = TxnIsWithin (length history) txn × (change_to (own_batch history txn) key ≡ said)

-- the client's snapshot of that label has the number
abbrev pub IsSnapshot : List Entry → Client → List ℕ → ℕ → Type 0
IsSnapshot history client label n = (number_of client.snapshots label ≡ Some n) × (n ≤ length history)

-- how many numbers the command needs in the log: none where it is not logged
abbrev pub needed : Txn → Command → ℕ
needed Idle (command.Put key value) = 1
needed Idle (command.Del key) = 1
needed Idle (command.Settle names) = length names
needed (Open own) command.Prepare = 1
needed (Open own) command.Commit = 1
needed (Prepared p) command.Commit = 1
needed (Prepared p) command.Rollback = 2
needed txn other = 0

-- the log may refuse the command: it has to take an entry, or to be renewed
abbrev pub IsOfLog : Txn → Command → Type 0
IsOfLog txn command = (1 ≤ needed txn command) ⊎ (is_renewal command ≡ true)

-- the entry is the Commit of a prepare of that name, which was undecided
abbrev pub CommitsNamed : List Entry → ℕ → List ℕ → Entry → Type 0
CommitsNamed history last name e = (p : ℕ) × (e ≡ entry.Commit p) × WasUndecided history last name p

-- The entries that the command asks the log for, as one record. A renewal asks it for none.
abbrev pub AsksFor : List Entry → (last : ℕ) → Txn → Command → List Entry → Type 0
AsksFor history last Idle (command.Put key value) entries = entries ≡ entry.Write (change.Put key value ∷ []) ∷ []
AsksFor history last Idle (command.Del key) entries = entries ≡ entry.Write (change.Del key ∷ []) ∷ []
AsksFor history last Idle (command.Settle names) entries = AllZip (CommitsNamed history last) names entries
AsksFor history last (Open own) command.Prepare entries = entries ≡ entry.Prepare own.name own.batch ∷ []
AsksFor history last (Open own) command.Commit entries = entries ≡ entry.Write own.batch ∷ []
AsksFor history last (Prepared p) command.Commit entries = entries ≡ entry.Commit p ∷ []
AsksFor history last (Prepared p) command.Rollback entries = (batch : List Change) × (entries ≡ entry.Undo p batch ∷ entry.Close p ∷ [])
AsksFor history last txn command.Renew entries = entries ≡ []
AsksFor history last txn other entries = ⊥

-- ---- the log

-- The log had this base when so many entries were published: it is no lower than the client knows of, and nobody renewed the log between
-- the two.
abbrev pub HadBase : Evidence → Progress → (at base : ℕ) → Type 0
HadBase evidence progress at base = IsKnown evidence (WasBase base) × (progress.base ≤ base) × (base ≤ at) × IsKnown evidence (NoneRenewed base at)

-- the greatest number of an entry, while the log has this base
abbrev pub limit_at_base : Evidence → (base : ℕ) → ℕ
limit_at_base evidence base = if base == evidence.base then evidence.limits.opened else evidence.limits.renewed

-- It is the limit of the log with the base that it had when so many entries were published. So it is that of the log as it was opened
-- only where nobody, the client or another, was answered of a renewal below that number, and that of a renewed log only where somebody
-- was; unless the two are the same.
abbrev pub IsLimit : Evidence → Progress → (published most : ℕ) → Type 0
IsLimit evidence progress published most = (base : ℕ) × HadBase evidence progress published base × (most ≡ limit_at_base evidence base)

-- Where the log failed in a renewal, there was something to renew: the base was below what was published. It is that of the last edit still,
-- and nothing more was published, since the log takes nothing from there on. Of other commands nothing is asked.
abbrev pub RenewsSomething : Evidence → Command → Type 0
RenewsSomething evidence command.Renew = evidence.installed.segment.base < length evidence.history
RenewsSomething evidence other = Unit {0}

-- Nothing was to be renewed: what the client had seen goes no further than a number that was the base.
abbrev pub HasNothingToRenew : Evidence → ℕ → Type 0
HasNothingToRenew evidence last = (base : ℕ) × IsKnown evidence (WasBase base) × (last ≤ base)

-- ---- keys that stay as they are

-- The key was changed last by the entry with this number, above the open transaction's pin, when so many entries were published, and the
-- client had seen nothing later.
pub record WasChanged (history : List Entry) (last : ℕ) (own : Staged) (key : List ℕ) (number : ℕ) : Type 0 where
  pub at : ℕ
  pub fresh : IsFresh history last at
  pub pin : ℕ
  pub pinned : own.pin ≡ Some pin
  pub changed : conflict (take at history) key pin ≡ Some number

-- the transaction is open, the key is none of its own, and was changed so
abbrev pub ConflictsAt : List Entry → ℕ → Txn → List ℕ → ℕ → Type 0
ConflictsAt history last (Open own) key number = (is_its_key own key ≡ false) × WasChanged history last own key number
ConflictsAt history last other key number = ⊥

-- No entry changes the key since a number that is not below the last fresh one that the client was answered before the key came to it,
-- and not above the first one that it was answered from then on: the number published as the key was locked.
pub record IsKept (history : List Entry) (k : ToldKey) : Type 0 where
  pub since : ℕ
  pub told : k.told ≤ since
  pub behind : IfSome k.behind (λ later. since ≤ later)
  pub unchanged : IsUnchanged history k.key since

abbrev pub AreKept : List Entry → List ToldKey → Type 0
AreKept history keys = AllByRecursion (IsKept history) keys

-- no entry changes a key of the open transaction since its pin
abbrev pub IsValidated : List Entry → Staged → Type 0
IsValidated history own = IfSome own.pin (λ pin. (key : List ℕ) → is_its_key own key ≡ true → IsUnchanged history key pin)

-- Each key of the open transaction is one of these, and no entry changes it since it came to the transaction, nor since the pin.
pub record KeepsKeys (history : List Entry) (own : Staged) (keys : List ToldKey) : Type 0 where
  pub all : (key : List ℕ) → is_its_key own key ≡ true → is_told keys key ≡ true
  pub kept : AreKept history keys
  pub validated : IsValidated history own

-- ---- transactions in the log

-- from an open transaction, whose keys no entry before n changed meanwhile
abbrev pub PreparesAt : List Entry → Progress → Txn → ℕ → Type 0
PreparesAt history progress (Open own) n = IsLoggedAt history progress.last n (entry.Prepare own.name own.batch) × KeepsKeys (take (n - 1) history) own progress.keys
PreparesAt history progress other n = ⊥

-- from an open transaction, of which that is so too, all of its changes are one Write
abbrev pub CommitsAt : List Entry → Progress → Txn → ℕ → Type 0
CommitsAt history progress Idle n = ⊥
CommitsAt history progress (Open own) n = IsLoggedAt history progress.last n (entry.Write own.batch) × KeepsKeys (take (n - 1) history) own progress.keys
CommitsAt history progress (Prepared p) n = IsLoggedAt history progress.last n (entry.Commit p)

-- n is the number of the Close, right after its Undo
abbrev pub RollsBackAt : List Entry → ℕ → Txn → ℕ → Type 0
RollsBackAt history last (Prepared p) n = IsLoggedAt history last n (entry.Close p) × ((batch : List Change) × IsLoggedAt history last (n - 1) (entry.Undo p batch))
RollsBackAt history last other n = ⊥

-- ---- several transactions at once

-- Each name is that of an undecided prepare, which has the number in its place.
abbrev pub AreNamed : List Entry → List (List ℕ) → (numbers : List ℕ) → Type 0
AreNamed history names numbers = AllZip (λ name p. named history name ≡ Some p) names numbers

-- The entries behind the first n are the Commits of these prepares, in order, later than all that the client has seen.
abbrev pub AreCommitted : List Entry → (last n : ℕ) → (numbers : List ℕ) → Type 0
AreCommitted history last n [] = Unit {0}
AreCommitted history last n (p ∷ numbers) = IsLoggedAt history last (suc n) (entry.Commit p) × AreCommitted history last (suc n) numbers

-- The names were those of undecided prepares when so many entries were published, and the entries behind these, as many as the names,
-- commit them in order. The last one has the number n.
pub record SettlesAll (history : List Entry) (last : ℕ) (names : List (List ℕ)) (n count : ℕ) : Type 0 where
  pub all : count ≡ length names
  pub some : 1 ≤ count
  pub published : ℕ
  pub behind : n ≡ published + count
  pub numbers : List ℕ
  pub named : AreNamed (take published history) names numbers
  pub committed : AreCommitted history last published numbers

-- The names were those of undecided prepares when so many entries were published, and the client had seen nothing later; of these two
-- had one place in the commit cache, and this is the first such pair.
pub record AreCrowded (evidence : Evidence) (last : ℕ) (names : List (List ℕ)) (p q : ℕ) : Type 0 where
  pub at : ℕ
  pub fresh : IsFresh evidence.history last at
  pub numbers : List ℕ
  pub named : AreNamed (take at evidence.history) names numbers
  pub crowded : IsFirstCrowded evidence.limits.cells numbers p q

-- The name is one of these, and each before it was that of an undecided prepare.
pub record IsFirstRefused (history : List Entry) (last : ℕ) (names : List (List ℕ)) (name : List ℕ) : Type 0 where
  pub before : List (List ℕ)
  pub after : List (List ℕ)
  pub place : names ≡ before ++ name ∷ after
  pub undecided : AllByRecursion (λ other. (p : ℕ) × WasUndecided history last other p) before

-- ---- tables

-- So many versions are numbered above a number that was the flushed one, and up to n.
abbrev pub IsFlushCount : Evidence → ℕ → ℕ → Type 0
IsFlushCount evidence n versions = (flushed : ℕ) × IsKnown evidence (WasFlushed flushed) × (length (later_versions (take n evidence.history) flushed) ≡ versions)

-- There are that many versions up to n, or more: those of the entries behind the base, those of the prepares that were undecided there,
-- and for each key with a value there one. From the base 0 on that is each version of an entry.
abbrev pub IsCompactionCount : List Entry → ℕ → ℕ → ℕ → Type 0
IsCompactionCount history base n versions = (keys : List (List ℕ)) → HasKeysAt history base keys
    → versions ≤ length keys + (length (carried_versions (carried_of (take base history))) + length (later_versions (take n history) base))

-- Nothing was to be flushed: no version is numbered above a number that was the flushed one, and up to what the client
-- had seen.
abbrev pub HasNothingToFlush : Evidence → ℕ → Type 0
HasNothingToFlush evidence last = (last ≤ length evidence.history) × ((flushed : ℕ) × IsKnown evidence (WasFlushed flushed) × (later_versions (take last evidence.history) flushed ≡ []))

-- Nothing was to be merged: the client knows of fewer than two tables, or another client made them one.
abbrev pub HasNothingToMerge : Evidence → ℕ → Type 0
HasNothingToMerge evidence tables = (tables < 2) ⊎ IsKnown evidence OtherCompacted

-- The edit that the devices failed to take is a flush's: of the versions that stood in memory when so many entries were
-- published, and the client had seen nothing later.
pub record FailsFlush (evidence : Evidence) (last : ℕ) : Type 0 where
  pub at : ℕ
  pub fresh : IsFresh evidence.history last at
  pub some : 1 ≤ length (unflushed (take at evidence.history) evidence.installed)
  pub edit : IfSome evidence.failed.edit (λ edit. edit ≡ after_flush (take at evidence.history) evidence.installed)

-- It is a compaction's: of what readers needed then, at the client's live numbers and perhaps at more, none of which is below the base.
pub record FailsCompaction (evidence : Evidence) (last : ℕ) (client : Client) : Type 0 where
  pub at : ℕ
  pub fresh : IsFresh evidence.history last at
  pub two : 2 ≤ evidence.installed.tables
  pub live : List ℕ
  pub own : (n : ℕ) → list_any (λ m. m == n) (live_of client) ≡ true → list_any (λ m. m == n) live ≡ true
  pub from_base : (n : ℕ) → list_any (λ m. m == n) live ≡ true → evidence.base ≤ n
  pub edit : IfSome evidence.failed.edit (λ edit. edit ≡ after_compaction (take at evidence.history) (listed live evidence.base evidence.installed) evidence.installed)

-- It is a renewal's, where the number published then was above the log's base.
pub record FailsRenewal (evidence : Evidence) (last : ℕ) : Type 0 where
  pub at : ℕ
  pub fresh : IsFresh evidence.history last at
  pub behind : evidence.installed.segment.base < at
  pub place : ℕ
  pub edit : IfSome evidence.failed.edit (λ edit. edit ≡ after_renewal (take at evidence.history) place evidence.installed)

-- the manifest's device or the tables' failed, and the number is the last edit's flushed one
abbrev pub IsHaltedAt : Evidence → ℕ → Type 0
IsHaltedAt evidence flushed = (flushed ≡ evidence.installed.flushed) × IsKnown evidence TablesFailed

-- ---- the rows

-- A row for each command and reply, by what the client knows then; `took` gives the prepare with the number p. Of `held`,
-- `freed`, `begun`, `dropped` and `left` the client's state alone decides.
abbrev pub Condition : Evidence → Progress → Client → ℕ → Command → Reply → Type 0
Condition evidence progress client p command (reply.Full published most) = (1 ≤ needed client.txn command) × IsFresh evidence.history progress.last published × IsLimit evidence progress published most × (most < published + needed client.txn command)
Condition evidence progress client p command reply.FaultLog = AsksFor evidence.history progress.last client.txn command evidence.failed.entries × RenewsSomething evidence command
Condition evidence progress client p command (reply.Stopped n) = IsOfLog client.txn command × IsFresh evidence.history progress.last n × IsKnown evidence (LogStopped n)
Condition evidence progress client p (command.Put key value) (reply.Put n) = (client.txn ≡ Idle) × IsLoggedAt evidence.history progress.last n (entry.Write (change.Put key value ∷ []))
Condition evidence progress client p (command.Put key value) reply.Held = TxnIsOpen client.txn
Condition evidence progress client p (command.Put key value) (reply.Busy holder) = HasNotKey client.txn key × IsBusy evidence progress.last key holder
Condition evidence progress client p (command.Put key value) (reply.Conflict n) = ConflictsAt evidence.history progress.last client.txn key n
Condition evidence progress client p (command.Del key) (reply.Del n) = (client.txn ≡ Idle) × IsLoggedAt evidence.history progress.last n (entry.Write (change.Del key ∷ []))
Condition evidence progress client p (command.Del key) reply.Held = TxnIsOpen client.txn
Condition evidence progress client p (command.Del key) (reply.Busy holder) = HasNotKey client.txn key × IsBusy evidence progress.last key holder
Condition evidence progress client p (command.Del key) (reply.Conflict n) = ConflictsAt evidence.history progress.last client.txn key n
Condition evidence progress client p (command.Get key) (reply.Got value n) = OwnSays evidence.history client.txn key None × IsFresh evidence.history progress.last n × (value_at evidence.history key n ≡ Some value)
Condition evidence progress client p (command.Get key) (reply.Missing n) = OwnSays evidence.history client.txn key None × IsFresh evidence.history progress.last n × (value_at evidence.history key n ≡ None)
Condition evidence progress client p (command.Get key) (reply.GotOwn value) = OwnSays evidence.history client.txn key (Some (Some value))
Condition evidence progress client p (command.Get key) reply.MissingOwn = OwnSays evidence.history client.txn key (Some None)
Condition evidence progress client p (command.GetAt key label) (reply.Got value n) = IsSnapshot evidence.history client label n × (value_at evidence.history key n ≡ Some value)
Condition evidence progress client p (command.GetAt key label) (reply.Missing n) = IsSnapshot evidence.history client label n × (value_at evidence.history key n ≡ None)
Condition evidence progress client p (command.Scan from to) (reply.Rows pairs n) = (client.txn ≡ Idle) × IsFresh evidence.history progress.last n × (pairs ≡ rows evidence.history from to n)
Condition evidence progress client p (command.ScanAt from to label) (reply.Rows pairs n) = (client.txn ≡ Idle) × IsSnapshot evidence.history client label n × (pairs ≡ rows evidence.history from to n)
Condition evidence progress client p (command.Snap label) (reply.Snapped n) = IsFresh evidence.history progress.last n
Condition evidence progress client p (command.Free label) reply.Freed = Unit {0}
Condition evidence progress client p (command.Begin name) reply.Begun = Unit {0}
Condition evidence progress client p (command.Begin name) (reply.Taken other) = (other ≡ name) × IsNameTaken evidence progress.last name
Condition evidence progress client p command.Pin (reply.Pinned n) = IsFresh evidence.history progress.last n
Condition evidence progress client p (command.Lock key) (reply.Got value n) = OwnSays evidence.history client.txn key None × IsFresh evidence.history progress.last n × (value_at evidence.history key n ≡ Some value)
Condition evidence progress client p (command.Lock key) (reply.Missing n) = OwnSays evidence.history client.txn key None × IsFresh evidence.history progress.last n × (value_at evidence.history key n ≡ None)
Condition evidence progress client p (command.Lock key) (reply.GotOwn value) = OwnSays evidence.history client.txn key (Some (Some value))
Condition evidence progress client p (command.Lock key) reply.MissingOwn = OwnSays evidence.history client.txn key (Some None)
Condition evidence progress client p (command.Lock key) (reply.Busy holder) = HasNotKey client.txn key × IsBusy evidence progress.last key holder
Condition evidence progress client p (command.Lock key) (reply.Conflict n) = ConflictsAt evidence.history progress.last client.txn key n
Condition evidence progress client p command.Prepare (reply.Prepared n) = PreparesAt evidence.history progress client.txn n
Condition evidence progress client p command.Commit (reply.Committed n) = CommitsAt evidence.history progress client.txn n
Condition evidence progress client p command.Rollback reply.Dropped = TxnIsOpen client.txn
Condition evidence progress client p command.Rollback (reply.RolledBack n) = RollsBackAt evidence.history progress.last client.txn n
Condition evidence progress client p command.Leave reply.Left = Unit {0}
Condition evidence progress client p (command.Take name) reply.Took = WasUndecided evidence.history progress.last name p
Condition evidence progress client p (command.Take name) (reply.Unknown other n) = (other ≡ name) × IsFresh evidence.history progress.last n × (named (take n evidence.history) name ≡ None)
Condition evidence progress client p (command.Take name) (reply.InUse other) = (other ≡ name) × IsKnown evidence (HasName name)
Condition evidence progress client p (command.Settle names) (reply.Settled n count) = (client.txn ≡ Idle) × SettlesAll evidence.history progress.last names n count
Condition evidence progress client p (command.Settle names) (reply.Crowded first second) = (client.txn ≡ Idle) × AreCrowded evidence progress.last names first second
Condition evidence progress client p (command.Settle names) (reply.Unknown name n) = (client.txn ≡ Idle) × IsFirstRefused evidence.history progress.last names name × IsFresh evidence.history progress.last n × (named (take n evidence.history) name ≡ None)
Condition evidence progress client p (command.Settle names) (reply.InUse name) = (client.txn ≡ Idle) × IsFirstRefused evidence.history progress.last names name × IsKnown evidence (HasName name)
Condition evidence progress client p command.Flush (reply.Flushed n versions) = IsFresh evidence.history progress.last n × (1 ≤ versions) × IsFlushCount evidence n versions
Condition evidence progress client p command.Flush reply.Nothing = HasNothingToFlush evidence progress.last
Condition evidence progress client p command.Flush (reply.Halted flushed) = IsHaltedAt evidence flushed
Condition evidence progress client p command.Flush reply.FaultTables = FailsFlush evidence progress.last
Condition evidence progress client p command.Compact (reply.Compacted n versions) = IsFresh evidence.history progress.last n × IsCompactionCount evidence.history evidence.base n versions
Condition evidence progress client p command.Compact reply.Nothing = HasNothingToMerge evidence progress.tables
Condition evidence progress client p command.Compact (reply.Halted flushed) = IsHaltedAt evidence flushed
Condition evidence progress client p command.Compact reply.FaultTables = FailsCompaction evidence progress.last client
Condition evidence progress client p command.Renew (reply.Renewed n carried) = IsFresh evidence.history progress.last n × (progress.base < n) × (carried ≡ length (undecided (take n evidence.history)))
Condition evidence progress client p command.Renew reply.Nothing = HasNothingToRenew evidence progress.last
Condition evidence progress client p command.Renew (reply.Halted flushed) = IsHaltedAt evidence flushed
Condition evidence progress client p command.Renew reply.FaultTables = FailsRenewal evidence progress.last
Condition evidence progress client p (command.Tell label) (reply.Told n) = IsFresh evidence.history progress.last n
Condition evidence progress client p (command.Hear label) (reply.Heard n) = IsFresh evidence.history progress.last n × IsKnown evidence (WasTold label n)
Condition evidence progress client p (command.Hear label) (reply.Silent other) = (other ≡ label) × (knows_label progress.labels label ≡ false)
Condition evidence progress client p command answer = ⊥

-- the reply is the refusal, where there is one
abbrev pub UnlessRefused : Option Reply → Reply → Type 0 → Type 0
UnlessRefused None answer condition = condition
UnlessRefused (Some refusal) answer condition = answer ≡ refusal

-- `state`, `toomany`, `taken S` and `unknown S` come exactly where the client's state and labels say so; else the row
-- has the last word.
abbrev pub Allows : Evidence → Progress → Client → ℕ → Command → Reply → Type 0
Allows evidence progress client p command answer = UnlessRefused (refusal_of client command) answer (Condition evidence progress client p command answer)
