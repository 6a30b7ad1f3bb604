-- What a command is answered over a store, and what it leaves of the store and of the client.
use Rattle.std.specs.Prelude.{◌≡◌, ◌⊎◌, ℕ, ◌+◌, ◌==◌, Bool, true, nat_lt, List, [], ◌∷◌, ◌++◌, length, Option, Some, None, unwrap_or, if◌then◌else◌}
use Rattle.std.specs.FinMap as map
use Rattle.wp_model.specs.declared.entry.Entry.{Entry}
use Rattle.wp_model.specs.declared.version.Version.{Version}
use Rattle.wp_model.specs.CachePlace.{first_crowded}
use Rattle.wp_model.specs.Flushed.{InstalledEdit}
use Rattle.wp_model.specs.History.{named, undecided}
use Rattle.wp_model.specs.LockState.{Labels}
use Rattle.wp_text.specs.declared.script.Command.{Command}
use Rattle.wp_text.specs.declared.script.Command.TheVariants as command
use Rattle.wp_text.specs.declared.reply.Reply.{Reply}
use Rattle.wp_text.specs.declared.reply.Reply.TheVariants as reply
use Rattle.wp_replies.specs.Txn.{Txn, Open, LockedKeys}
use Rattle.wp_replies.specs.declared.plan.Plan.{Plan}
use Rattle.wp_replies.specs.declared.plan.Plan.TheVariants.{Say, Log, RollBack, Settle, Flush, Compact, Renew, Tell, Hear}
use Rattle.wp_replies.specs.Client.{Client, live_of}
use Rattle.wp_replies.specs.After.{after_reply}
use Rattle.wp_replies.specs.Kind.{is_logged, is_installed, is_renewed, is_tables_fault, calls_log, stops_log}
use Rattle.wp_replies.specs.Plan.{plan, asked_of}
use Rattle.wp_replies.specs.Tables.{unflushed, after_flush, listed, retained, after_compaction, after_renewal}

-- the store between two commands
pub record Store : Type 0 where
  pub base : ℕ  -- the base of the log that it was opened from
  pub history : List Entry
  pub stopped : Bool  -- the log takes no more
  pub limit : ℕ  -- the greatest number of an entry
  pub renewed_limit : ℕ  -- the same, once the log has been renewed
  pub cells : ℕ  -- so many words the commit cache has
  pub installed : InstalledEdit  -- the last edit of the tables
  pub halted : Bool  -- the manifest's device or the tables' has failed
  pub board : Labels  -- what was told last under each label
  pub locked : List LockedKeys  -- of the transactions that were prepared since the opening

-- ---- the reply

-- the log takes so many entries, or refuses them
abbrev pub logged : Store → ℕ → Reply → Reply
logged store needed answer =
    if store.stopped then reply.Stopped (length store.history)
    else (if nat_lt store.limit (length store.history + needed) then reply.Full (length store.history) store.limit else answer)

-- two prepares that are to be settled have one place in the commit cache
abbrev pub unless_crowded : Option (ℕ × ℕ) → Reply → Reply
unless_crowded None answer = answer
unless_crowded (Some pair) answer = reply.Crowded pair.0 pair.1

-- the prepares with these numbers are settled
abbrev pub settled : Store → List ℕ → Reply
settled store numbers = unless_crowded (first_crowded store.cells numbers) (logged store (length numbers) (reply.Settled (length store.history + length numbers) (length numbers)))

-- the tables take an edit, or none any more
abbrev pub unless_halted : Store → Reply → Reply
unless_halted store answer = if store.halted then reply.Halted store.installed.flushed else answer

-- a flush of these versions, which stand in memory
abbrev pub flushed : ℕ → List Version → Reply
flushed published [] = reply.Nothing
flushed published (first ∷ others) = reply.Flushed published (length (first ∷ others))

-- the numbers that a compaction lists, where these are live
abbrev pub listed_in : Store → List ℕ → List ℕ
listed_in store live = listed live store.base store.installed

-- a compaction, where these numbers are live; it takes two tables at least
abbrev pub compacted : Store → List ℕ → Reply
compacted store live =
    if nat_lt store.installed.tables 2 then reply.Nothing
    else reply.Compacted (length store.history) (length (retained store.history (listed_in store live) store.installed))

-- a renewal, where the log does not begin behind the number published
abbrev pub renewed : Store → Reply
renewed store =
    if store.stopped then reply.Stopped (length store.history)
    else (if store.installed.segment.base == length store.history then reply.Nothing else reply.Renewed (length store.history) (length (undecided store.history)))

-- what is heard of a label with this number, or with none
abbrev pub heard : ℕ → Option ℕ → List ℕ → Reply
heard published (Some told) label = reply.Heard published
heard published None label = reply.Silent label

abbrev pub reply_to : Store → Client → Plan → Reply
reply_to store client (Say answer) = answer
reply_to store client (Log entry answer) = logged store (length (asked_of (Log entry answer))) answer
reply_to store client (RollBack p batch answer) = logged store (length (asked_of (RollBack p batch answer))) answer
reply_to store client (Settle numbers) = settled store numbers
reply_to store client Flush = unless_halted store (flushed (length store.history) (unflushed store.history store.installed))
reply_to store client Compact = unless_halted store (compacted store (live_of client))
reply_to store client Renew = unless_halted store (renewed store)
reply_to store client (Tell label) = reply.Told (length store.history)
reply_to store client (Hear label) = heard (length store.history) (map.get store.board label) label

-- what the command comes to
abbrev pub plan_in : Store → Client → Command → Plan
plan_in store client command = plan store.history store.locked client command

-- the reply that is due where no device fails
abbrev pub due : Store → Client → Command → Reply
due store client command = reply_to store client (plan_in store client command)

-- The reply is the one that is due; or the log's device failed as it took the command's entries or was renewed, or the manifest's
-- device or the tables' as they took the command's edit.
abbrev pub IsReply : Store → Client → Command → Reply → Type 0
IsReply store client command answer =
    (answer ≡ due store client command)
    ⊎ ((answer ≡ reply.FaultLog) × (calls_log (due store client command) ≡ true))
    ⊎ ((answer ≡ reply.FaultTables) × (is_installed (due store client command) ≡ true))

-- ---- what it leaves

-- the entries that are in the history once the reply is given
abbrev pub logged_entries : Store → Client → Command → Reply → List Entry
logged_entries store client command answer = if is_logged answer then asked_of (plan_in store client command) else []

-- The edit that a plan has the tables take. A renewal puts the log's segment at a place that the history does not tell.
abbrev pub edit_of : (place : ℕ) → Store → Client → Plan → InstalledEdit
edit_of place store client Flush = after_flush store.history store.installed
edit_of place store client Compact = after_compaction store.history (listed_in store (live_of client)) store.installed
edit_of place store client Renew = after_renewal store.history place store.installed
edit_of place store client other = store.installed

-- the last edit once the reply is given
abbrev pub installed_edit : (place : ℕ) → Store → Client → Command → Reply → InstalledEdit
installed_edit place store client command answer = if is_installed answer then edit_of place store client (plan_in store client command) else store.installed

-- the board once the reply is given: what was told takes the place of what the label had
abbrev pub board_after : Labels → Command → Reply → Labels
board_after board (command.Tell label) (reply.Told n) = map.insert board label n
board_after board command answer = board

-- the locked keys once the reply is given: a prepare keeps those of its transaction
abbrev pub locked_after : List LockedKeys → Txn → Reply → List LockedKeys
locked_after locked (Open own) (reply.Prepared n) = locked ++ record { number = n; keys = own.locked } ∷ []
locked_after locked txn answer = locked

-- the store once the reply is given, where a renewal puts the log's segment at this place
abbrev pub store_after : (place : ℕ) → Store → Client → Command → Reply → Store
store_after place store client command answer = record store {
  history = store.history ++ logged_entries store client command answer;
  stopped = if stops_log command answer then true else store.stopped;
  limit = if is_renewed answer then store.renewed_limit else store.limit;
  installed = installed_edit place store client command answer;
  halted = if is_tables_fault answer then true else store.halted;
  board = board_after store.board command answer;
  locked = locked_after store.locked client.txn answer;
}

-- the prepare that a command takes
abbrev pub taken : List Entry → Command → ℕ
taken history (command.Take name) = unwrap_or (named history name) 0
taken history other = 0

-- the client once it has the reply, which was given over that history
abbrev pub client_after : List Entry → Client → Command → Reply → Client
client_after history client command answer = after_reply (taken history command) client command answer
