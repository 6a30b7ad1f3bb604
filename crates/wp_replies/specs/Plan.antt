-- What a command comes to where nobody else changes the store: exactly one reply, or the entries that the log is asked to
-- take and the reply that acknowledges them, or a change of the tables, or the board.
use Rattle.std.specs.Prelude.{ℕ, ◌+◌, ◌&&◌, Bool, List, [], ◌∷◌, length, map, Option, Some, None, unwrap_or, if◌then◌else◌}
use Rattle.std.specs.List.{find}
use Rattle.std.specs.Option.{option_map, option_or}
use Rattle.wp_model.specs.declared.change.Change.{Change}
use Rattle.wp_model.specs.declared.change.Change.TheVariants as change
use Rattle.wp_model.specs.declared.entry.Entry.{Entry}
use Rattle.wp_model.specs.declared.entry.Entry.TheVariants as entry
use Rattle.wp_model.specs.declared.holder.Holder.TheVariants as holder
use Rattle.wp_model.specs.Batch.{key_of, change_to}
use Rattle.wp_model.specs.Changed.{conflict}
use Rattle.wp_model.specs.History.{name_at, batch_at, is_undecided, named, holder_of, value_at}
use Rattle.wp_model.specs.Legal.{prior}
use Rattle.wp_model.specs.LockState.{is_among_keys}
use Rattle.wp_model.specs.Rows.{rows}
use Rattle.wp_text.specs.declared.script.Command.{Command}
use Rattle.wp_text.specs.declared.script.Command.TheVariants as command
use Rattle.wp_text.specs.declared.reply.Reply.{Reply}
use Rattle.wp_text.specs.declared.reply.Reply.TheVariants as reply
use Rattle.wp_replies.specs.declared.client.LabelledSnapshot.{LabelledSnapshot}
use Rattle.wp_replies.specs.Txn.{Txn, Staged, Idle, Open, Prepared, is_its_key, LockedKeys}
use Rattle.wp_replies.specs.declared.plan.Plan.{Plan}
use Rattle.wp_replies.specs.declared.plan.Plan.TheVariants.{Say, Log, RollBack, Settle, Flush, Compact, Renew, Tell, Hear}
use Rattle.wp_replies.specs.Client.{Client, own_batch, number_of}
use Rattle.wp_replies.specs.Replies.{refuses_change, refuses_lock, unless_idle, unless_open, unless_prepared, unless_labelled, refuses_label, refuses_settle}

-- the number of the next entry
abbrev pub next : List Entry → ℕ
next history = length history + 1

-- the client's own state refuses the command, or it comes to this plan
abbrev pub refused_or : Option Reply → Plan → Plan
refused_or None plan = plan
refused_or (Some refusal) plan = Say refusal

-- ---- keys

-- its transaction is undecided, and locked the key
abbrev pub holds_beyond : List Entry → List ℕ → LockedKeys → Bool
holds_beyond history key x = is_undecided history x.number && is_among_keys x.keys key

-- the undecided prepare that holds the key: it changes it, or locked it before
abbrev pub holder_then : List Entry → List LockedKeys → List ℕ → Option ℕ
holder_then history locked key = option_or (holder_of history key) (option_map (λ x. x.number) (find (holds_beyond history key) locked))

-- busy, where an undecided prepare holds the key
abbrev pub busy_or : List Entry → Option ℕ → Plan → Plan
busy_or history None plan = plan
busy_or history (Some p) plan = Say (reply.Busy (holder.Txn (name_at history p)))

abbrev pub unless_busy : List Entry → List LockedKeys → List ℕ → Plan → Plan
unless_busy history locked key plan = busy_or history (holder_then history locked key) plan

-- a conflict, where an entry changed the key since the pin
abbrev pub conflict_or : Option ℕ → Plan → Plan
conflict_or None plan = plan
conflict_or (Some number) plan = Say (reply.Conflict number)

abbrev pub unless_changed : List Entry → Option ℕ → List ℕ → Plan → Plan
unless_changed history None key plan = plan
unless_changed history (Some pin) key plan = conflict_or (conflict history key pin) plan

-- this is said once the open transaction has the key
abbrev pub with_key_plan : List Entry → List LockedKeys → Staged → List ℕ → Reply → Plan
with_key_plan history locked own key answer =
    if is_its_key own key then Say answer
    else unless_busy history locked key (unless_changed history own.pin key (Say answer))

-- ---- put, del

-- a change is written at once where no transaction is open, and the reply is that one
abbrev pub written_or_staged : List Entry → List LockedKeys → Txn → Change → Reply → Plan
written_or_staged history locked (Open own) change answer = with_key_plan history locked own (key_of change) reply.Held
written_or_staged history locked other change answer = unless_busy history locked (key_of change) (Log (entry.Write (change ∷ [])) answer)

abbrev pub change_plan : List Entry → List LockedKeys → Txn → Change → Reply → Plan
change_plan history locked txn change answer = refused_or (refuses_change txn (key_of change)) (written_or_staged history locked txn change answer)

-- ---- get

-- the value that the first n entries leave, with that number
abbrev pub read_reply : Option (List ℕ) → ℕ → Reply
read_reply (Some value) n = reply.Got value n
read_reply None n = reply.Missing n

-- what the client's own transaction says of the key comes first
abbrev pub get_reply : List Entry → Option (Option (List ℕ)) → List ℕ → Reply
get_reply history (Some (Some value)) key = reply.GotOwn value
get_reply history (Some None) key = reply.MissingOwn
get_reply history None key = read_reply (value_at history key (length history)) (length history)

-- at a snapshot, the client's own transaction does not count
abbrev pub get_at_reply : List Entry → Option ℕ → List ℕ → List ℕ → Reply
get_at_reply history None key label = reply.UnknownSnapshot label
get_at_reply history (Some n) key label = read_reply (value_at history key n) n

-- ---- scans

abbrev pub rows_reply : List Entry → List ℕ → List ℕ → ℕ → Reply
rows_reply history from to n = reply.Rows (rows history from to n) n

abbrev pub scan_at_reply : List Entry → Option ℕ → List ℕ → List ℕ → List ℕ → Reply
scan_at_reply history None from to label = reply.UnknownSnapshot label
scan_at_reply history (Some n) from to label = rows_reply history from to n

abbrev pub scan_plan : List Entry → Txn → List ℕ → List ℕ → Plan
scan_plan history txn from to = refused_or (unless_idle txn) (Say (rows_reply history from to (length history)))

abbrev pub scan_at_plan : List Entry → Txn → Option ℕ → List ℕ → List ℕ → List ℕ → Plan
scan_at_plan history txn number from to label = refused_or (unless_idle txn) (Say (scan_at_reply history number from to label))

-- ---- pin, lock

abbrev pub pin_plan : List Entry → Txn → Plan
pin_plan history txn = refused_or (unless_open txn) (Say (reply.Pinned (length history)))

-- the transaction's own change comes first: then nothing is locked
abbrev pub read_or_own : List Entry → List LockedKeys → Staged → Option (Option (List ℕ)) → List ℕ → Plan
read_or_own history locked own None key = with_key_plan history locked own key (read_reply (value_at history key (length history)) (length history))
read_or_own history locked own said key = Say (get_reply history said key)

abbrev pub locked_or_state : List Entry → List LockedKeys → Txn → List ℕ → Plan
locked_or_state history locked (Open own) key = read_or_own history locked own (change_to own.batch key) key
locked_or_state history locked other key = Say reply.State

abbrev pub lock_plan : List Entry → List LockedKeys → Txn → List ℕ → Plan
lock_plan history locked txn key = refused_or (refuses_lock txn key) (locked_or_state history locked txn key)

-- ---- snapshots

abbrev pub snap_reply : List Entry → List LabelledSnapshot → List ℕ → Reply
snap_reply history snapshots label = unwrap_or (refuses_label snapshots label) (reply.Snapped (length history))

abbrev pub free_reply : Option ℕ → List ℕ → Reply
free_reply number label = unwrap_or (unless_labelled number label) reply.Freed

-- ---- transactions

abbrev pub begin_reply : Option ℕ → List ℕ → Reply
begin_reply None name = reply.Begun
begin_reply (Some p) name = reply.Taken name

abbrev pub take_reply : List Entry → Option ℕ → List ℕ → Reply
take_reply history None name = reply.Unknown name (length history)
take_reply history (Some p) name = reply.Took

abbrev pub begin_plan : List Entry → Txn → List ℕ → Plan
begin_plan history txn name = refused_or (unless_idle txn) (Say (begin_reply (named history name) name))

abbrev pub prepare_plan : List Entry → Txn → Plan
prepare_plan history (Open own) = Log (entry.Prepare own.name own.batch) (reply.Prepared (next history))
prepare_plan history other = Say reply.State

abbrev pub commit_plan : List Entry → Txn → Plan
commit_plan history Idle = Say reply.State
commit_plan history (Open own) = Log (entry.Write own.batch) (reply.Committed (next history))
commit_plan history (Prepared p) = Log (entry.Commit p) (reply.Committed (next history))

-- a rollback of a prepared transaction is answered with the number of its Close
abbrev pub rollback_plan : List Entry → Txn → Plan
rollback_plan history Idle = Say reply.State
rollback_plan history (Open own) = Say reply.Dropped
rollback_plan history (Prepared p) = RollBack p (prior history (batch_at history p)) (reply.RolledBack (next history + 1))

abbrev pub leave_plan : Txn → Plan
leave_plan txn = refused_or (unless_prepared txn) (Say reply.Left)

abbrev pub take_plan : List Entry → Txn → List ℕ → Plan
take_plan history txn name = refused_or (unless_idle txn) (Say (take_reply history (named history name) name))

-- one more prepare is settled with those of a plan
abbrev pub settling : ℕ → Plan → Plan
settling p (Settle numbers) = Settle (p ∷ numbers)
settling p other = other

-- the undecided prepares of these names are settled, or the first name is told that has none
abbrev pub with_named : List Entry → Option ℕ → List ℕ → Plan → Plan
with_named history None name plan = Say (reply.Unknown name (length history))
with_named history (Some p) name plan = settling p plan

abbrev pub settle_names : List Entry → List (List ℕ) → Plan
settle_names history [] = Settle []
settle_names history (name ∷ names) = with_named history (named history name) name (settle_names history names)

abbrev pub settle_plan : List Entry → Txn → List (List ℕ) → Plan
settle_plan history txn names = refused_or (refuses_settle txn names) (settle_names history names)

-- ---- all commands

abbrev pub plan : List Entry → List LockedKeys → Client → Command → Plan
plan history locked client (command.Put key value) = change_plan history locked client.txn (change.Put key value) (reply.Put (next history))
plan history locked client (command.Del key) = change_plan history locked client.txn (change.Del key) (reply.Del (next history))
plan history locked client (command.Get key) = Say (get_reply history (change_to (own_batch history client.txn) key) key)
plan history locked client (command.GetAt key label) = Say (get_at_reply history (number_of client.snapshots label) key label)
plan history locked client (command.Scan from to) = scan_plan history client.txn from to
plan history locked client (command.ScanAt from to label) = scan_at_plan history client.txn (number_of client.snapshots label) from to label
plan history locked client (command.Snap label) = Say (snap_reply history client.snapshots label)
plan history locked client (command.Free label) = Say (free_reply (number_of client.snapshots label) label)
plan history locked client (command.Begin name) = begin_plan history client.txn name
plan history locked client command.Pin = pin_plan history client.txn
plan history locked client (command.Lock key) = lock_plan history locked client.txn key
plan history locked client command.Prepare = prepare_plan history client.txn
plan history locked client command.Commit = commit_plan history client.txn
plan history locked client command.Rollback = rollback_plan history client.txn
plan history locked client command.Leave = leave_plan client.txn
plan history locked client (command.Take name) = take_plan history client.txn name
plan history locked client (command.Settle names) = settle_plan history client.txn names
plan history locked client command.Flush = Flush
plan history locked client command.Compact = Compact
plan history locked client command.Renew = Renew
plan history locked client (command.Tell label) = Tell label
plan history locked client (command.Hear label) = Hear label

-- the Commits of the prepares with these numbers
abbrev pub commits_of : List ℕ → List Entry
commits_of numbers = map (λ p. entry.Commit p) numbers

-- the entries that it asks the log to take, as one record
abbrev pub asked_of : Plan → List Entry
asked_of (Log entry answer) = entry ∷ []
asked_of (RollBack p batch answer) = entry.Undo p batch ∷ entry.Close p ∷ []
asked_of (Settle numbers) = commits_of numbers
asked_of other = []
