-- What is known of the others: what one history says, and what all clients were answered.
use Rattle.std.specs.Prelude.{ℕ, ◌==◌, ◌&&◌, ◌||◌, Bool, true, false, not, nat_le, List, [], ◌∷◌, length, Option, Some, None}
use Rattle.std.specs.List.{filter, flat_map, list_any, take_while}
use Rattle.std.specs.Str.{bytes_eq}
use Rattle.wp_model.specs.declared.entry.Entry.{Entry}
use Rattle.wp_model.specs.Flushed.{InstalledEdit}
use Rattle.wp_text.specs.declared.script.Command.{Command}
use Rattle.wp_text.specs.declared.script.Command.TheVariants as command
use Rattle.wp_text.specs.declared.script.Part.{Part}
use Rattle.wp_text.specs.declared.reply.Reply.{Reply}
use Rattle.wp_text.specs.declared.reply.Reply.TheVariants as reply
use Rattle.wp_replies.specs.Txn.{Txn, Idle, Open}
use Rattle.wp_replies.specs.Client.{Client, new_client}
use Rattle.wp_replies.specs.After.{after_reply}
use Rattle.wp_replies.specs.Kind.{is_flushed, is_based, is_renewed_between, is_compacted, is_tables_fault, stops_log}
use Rattle.wp_replies.specs.Progress.{Progress}
use Rattle.wp_replies.specs.Replies.{Claim, HasName, HasTaken, HasKey, WasLocked, WritesKey, WasTold, LogStopped, WasFlushed, WasBase, NoneRenewed, TablesFailed, OtherCompacted, Untaken, Limits, Evidence}

-- what a store has on its devices: a history, and the last edit of the tables
pub record StoredState : Type 0 where
  pub history : List Entry
  pub edit : InstalledEdit

-- what a client knows as its session begins
abbrev pub known_at_first : StoredState → Progress
known_at_first found = record { last = length found.history; tables = found.edit.tables; base = found.edit.segment.base; labels = []; keys = [] }

-- a client with its commands, and the replies to the first of these
pub record Dialogue : Type 0 where
  pub part : Part
  pub answers : List Reply

-- the replies, each with its command
abbrev pub exchanges : List Command → List Reply → List (Command × Reply)
exchanges (first ∷ commands) (answer ∷ answers) = (first, answer) ∷ exchanges commands answers
exchanges commands answers = []

-- the log takes no more from this one on
abbrev pub is_stop : Command × Reply → Bool
is_stop exchange = stops_log exchange.0 exchange.1

-- one of a dialogue's is such
abbrev pub has_stop : Dialogue → Bool
has_stop d = list_any is_stop (exchanges d.part.commands d.answers)

-- the replies of all dialogues
abbrev pub answers_in : List Dialogue → List Reply
answers_in dialogues = flat_map (λ d. d.answers) dialogues

-- ---- what a client comes to

-- A client comes to such a command, in such a state of its transaction and with such a reply; the first command that was
-- not answered has none. Which prepare it took does not count.
abbrev pub comes_to : (Txn → Command → Option Reply → Bool) → Client → List Command → List Reply → Bool
comes_to is_such client [] answers = false
comes_to is_such client (first ∷ commands) [] = is_such client.txn first None
comes_to is_such client (first ∷ commands) (answer ∷ answers) = is_such client.txn first (Some answer) || comes_to is_such (after_reply 0 client first answer) commands answers

-- one of the clients does
abbrev pub one_comes_to : (Txn → Command → Option Reply → Bool) → List Dialogue → Bool
one_comes_to is_such dialogues = list_any (λ d. comes_to is_such new_client d.part.commands d.answers) dialogues

-- the names before this one
abbrev pub names_before : List ℕ → List (List ℕ) → List (List ℕ)
names_before name names = take_while (λ other. not (bytes_eq other name)) names

-- The names that an idle client took to settle them: all, or those before the one that it was refused. Where memory was wanting, it may
-- have taken all.
abbrev pub names_taken : List (List ℕ) → Option Reply → List (List ℕ)
names_taken names (Some (reply.Unknown name n)) = names_before name names
names_taken names (Some (reply.InUse name)) = names_before name names
names_taken names answer = names

-- it was answered `took` for the name, or took it to settle it
abbrev pub takes_name : List ℕ → Txn → Command → Option Reply → Bool
takes_name name txn (command.Take other) (Some reply.Took) = bytes_eq other name
takes_name name Idle (command.Settle names) answer = list_any (λ other. bytes_eq other name) (names_taken names answer)
takes_name name txn command answer = false

-- likewise, or it was answered `begun` for it
abbrev pub gets_name : List ℕ → Txn → Command → Option Reply → Bool
gets_name name txn (command.Begin other) (Some reply.Begun) = bytes_eq other name
gets_name name txn command answer = takes_name name txn command answer

-- it puts or deletes the key
abbrev pub asks_change : List ℕ → Command → Bool
asks_change key (command.Put other value) = bytes_eq other key
asks_change key (command.Del other) = bytes_eq other key
asks_change key command = false

-- it asks an open transaction for the key
abbrev pub asks_key : List ℕ → Command → Bool
asks_key key (command.Lock other) = bytes_eq other key
asks_key key command = asks_change key command

-- the key was locked for the transaction, if only to be found changed
abbrev pub says_locked : Reply → Bool
says_locked reply.Held = true
says_locked (reply.Got value n) = true
says_locked (reply.Missing n) = true
says_locked (reply.Conflict n) = true
says_locked other = false

-- it came to lock the key for the open transaction of that name; where memory was wanting for the value of a lock, it may have come so far
abbrev pub stages_key : (name key : List ℕ) → Txn → Command → Option Reply → Bool
stages_key name key (Open own) command (Some answer) = bytes_eq own.name name && (asks_key key command && says_locked answer)
stages_key name key (Open own) (command.Lock other) None = bytes_eq own.name name && bytes_eq other key
stages_key name key txn command answer = false

-- it writes the key at once, and is not answered that somebody else holds it
abbrev pub writes_key : List ℕ → Txn → Command → Option Reply → Bool
writes_key key Idle command (Some (reply.Busy holder)) = false
writes_key key Idle command answer = asks_change key command
writes_key key txn command answer = false

-- it was answered `told` for the label, with a number of at most n
abbrev pub tells : List ℕ → ℕ → Txn → Command → Option Reply → Bool
tells label n txn (command.Tell other) (Some (reply.Told told)) = bytes_eq other label && nat_le told n
tells label n txn command answer = false

-- ---- claims

-- The claim is said by the history, by what the store was opened with, by the dialogues of all clients, or by those of the
-- other clients.
abbrev pub is_said : List Entry → StoredState → List Dialogue → List Dialogue → Claim → Bool
is_said history found all others (HasName name) = one_comes_to (gets_name name) others
is_said history found all others (HasTaken name) = one_comes_to (takes_name name) others
is_said history found all others (HasKey name key) = one_comes_to (stages_key name key) others
is_said history found all others (WasLocked name key) = one_comes_to (stages_key name key) all
is_said history found all others (WritesKey name key) = one_comes_to (writes_key key) (filter (λ d. bytes_eq d.part.client name) others)
is_said history found all others (WasTold label n) = one_comes_to (tells label n) all
is_said history found all others (LogStopped n) = (n == length history) && list_any has_stop all
is_said history found all others (WasFlushed n) = (n == found.edit.flushed) || list_any (is_flushed n) (answers_in all)
is_said history found all others (WasBase n) = (n == found.edit.segment.base) || list_any (is_based n) (answers_in all)
is_said history found all others (NoneRenewed base n) = not (list_any (is_renewed_between base n) (answers_in all))
is_said history found all others TablesFailed = list_any is_tables_fault (answers_in all)
is_said history found all others OtherCompacted = list_any is_compacted (answers_in others)

-- what a client's replies are judged by: what is left, what was found, the dialogues of all clients, and those of the others
abbrev pub evidence_of : (left : StoredState) → Limits → Untaken → (found : StoredState) → List Dialogue → List Dialogue → Evidence
evidence_of left limits failed found all others =
    record { opened = length found.history; base = found.edit.segment.base; history = left.history; installed = left.edit; limits = limits; failed = failed; known = is_said left.history found all others }
