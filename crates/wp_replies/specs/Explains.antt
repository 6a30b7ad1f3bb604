-- What the replies of all clients say of the one history and of the last edit.
use Rattle.std.specs.Prelude.{◌≡◌, ◌⊎◌, ℕ, ◌+◌, ◌<◌, ◌≤◌, ◌==◌, true, false, List, [], ◌∷◌, ◌++◌, length, count_by}
use Rattle.std.specs.List.{flat_map, list_any}
use Rattle.wp_model.specs.declared.entry.Entry.{Entry}
use Rattle.wp_model.specs.Flushed.{InstalledEdit}
use Rattle.wp_model.specs.Legal.{IsLegal}
use Rattle.wp_text.specs.declared.script.Command.{Command}
use Rattle.wp_text.specs.declared.script.Part.{Part}
use Rattle.wp_text.specs.declared.reply.Reply.{Reply}
use Rattle.wp_replies.specs.Client.{new_client}
use Rattle.wp_replies.specs.Kind.{acknowledged, is_fault, is_stopped, is_flushed, is_based, is_renewed, is_installed, is_tables_fault, is_halted}
use Rattle.wp_replies.specs.Session.{IsSession}
use Rattle.wp_replies.specs.Replies.{Untaken, Limits, Evidence}
use Rattle.wp_replies.specs.Known.{StoredState, Dialogue, exchanges, is_stop, evidence_of, known_at_first}

-- how often a device failed under a command
pub record Faults : Type 0 where
  pub log : ℕ  -- the log's
  pub tables : ℕ  -- the manifest's or the tables'
  pub renewals : ℕ  -- one of these two in a renewal, which stops the log

-- all replies, one client's after the other's
abbrev pub all_replies : List (List Reply) → List Reply
all_replies sessions = flat_map (λ answers. answers) sessions

-- all replies, each with its command
abbrev pub all_exchanges : List Part → List (List Reply) → List (Command × Reply)
all_exchanges (part ∷ parts) (answers ∷ others) = exchanges part.commands answers ++ all_exchanges parts others
all_exchanges parts sessions = []

-- a client's dialogue
abbrev pub dialogue : Part → List Reply → Dialogue
dialogue part answers = record { part = part; answers = answers }

-- each client's
abbrev pub dialogues : List Part → List (List Reply) → List Dialogue
dialogues (part ∷ parts) (answers ∷ others) = dialogue part answers ∷ dialogues parts others
dialogues parts sessions = []

-- what a client's replies are judged by, with the dialogues of the clients before it and after it
abbrev pub judged_by : (left : StoredState) → Limits → Untaken → (found : StoredState) → List Dialogue → Dialogue → List Dialogue → Evidence
judged_by left limits failed found before own others = evidence_of left limits failed found (before ++ own ∷ others) (before ++ others)

-- ---- what was answered of a script

-- the client's first commands
abbrev pub IsFirstPart : Part → Part → Type 0
IsFirstPart part first = (first.client ≡ part.client) × (rest : List Command) × (part.commands ≡ first.commands ++ rest)

-- each client's first commands
abbrev pub AreFirstParts : List Part → List Part → Type 0
AreFirstParts [] [] = Unit {0}
AreFirstParts [] (first ∷ firsts) = ⊥
AreFirstParts (part ∷ parts) [] = ⊥
AreFirstParts (part ∷ parts) (first ∷ firsts) = IsFirstPart part first × AreFirstParts parts firsts

-- Each part has one session, which begins with what was found, of those of its commands that have run. The dialogues before them
-- come first. A session is judged by the whole parts: where memory was wanting for a command, others may have met it.
abbrev pub AreSessions : (left : StoredState) → Limits → Untaken → (found : StoredState) → List Dialogue → (script run : List Part) → List (List Reply) → Type 0
AreSessions left limits failed found before [] [] [] = Unit {0}
AreSessions left limits failed found before (part ∷ parts) (first ∷ firsts) (answers ∷ others) =
    IsSession (judged_by left limits failed found before (dialogue part answers) (dialogues parts others)) (known_at_first found) new_client first.commands answers
    × AreSessions left limits failed found (before ++ dialogue part answers ∷ []) parts firsts others
AreSessions left limits failed found before script run sessions = ⊥

-- What the replies say of the last edit. Its flushed number is the one that was found or that of a `flushed` or `renewed` reply, and is
-- less than none of these; its base is the one that was found or that of a `renewed` reply, and is not less than the one that was found.
-- Where no reply says that the log was renewed, it names the segment that was found; and where none says that an edit was installed, it
-- is the edit that was found.
pub record IsLastEdit (found left : InstalledEdit) (answers : List Reply) : Type 0 where
  pub said : (left.flushed ≡ found.flushed) ⊎ (list_any (is_flushed left.flushed) answers ≡ true)
  pub kept : found.flushed ≤ left.flushed
  pub greatest : (n : ℕ) → list_any (is_flushed n) answers ≡ true → n ≤ left.flushed
  pub based : (left.segment.base ≡ found.segment.base) ⊎ (list_any (is_based left.segment.base) answers ≡ true)
  pub risen : found.segment.base ≤ left.segment.base
  pub in_place : list_any is_renewed answers ≡ false → left.segment ≡ found.segment
  pub unchanged : list_any is_installed answers ≡ false → left ≡ found

-- The replies are explained by the history that is left, which begins with the one that was found, by the last edit, and by
-- what the devices failed to take, which the commands of these replies asked for. So many replies tell a fault of the log, and of
-- the tables, and of these in a renewal. Each part of the script has one session, of the commands in its place of those that ran.
pub record Explains (limits : Limits) (faults : Faults) (script run : List Part) (found left : StoredState) (failed : Untaken) (sessions : List (List Reply)) : Type 0 where
  pub legal : IsLegal left.history
  pub begins : (added : List Entry) × (left.history ≡ found.history ++ added)
  pub answered : AreSessions left limits failed found [] script run sessions
  -- each entry after the opening history is that of exactly one reply, an Undo together with its Close, and the Commits of a `settled` together
  pub paired : (n : ℕ) → length found.history < n → n ≤ length left.history → count_by (λ m. m == n) (flat_map acknowledged (all_replies sessions)) ≡ 1
  pub log_failed : count_by is_fault (all_replies sessions) ≡ faults.log
  pub log_stopped : count_by is_stop (all_exchanges run sessions) ≡ faults.log + faults.renewals
  pub stopped : list_any is_stopped (all_replies sessions) ≡ true → 1 ≤ faults.log + faults.renewals
  pub tables_failed : count_by is_tables_fault (all_replies sessions) ≡ faults.tables
  pub halted : list_any is_halted (all_replies sessions) ≡ true → 1 ≤ faults.tables
  pub edit : IsLastEdit found.edit left.edit (all_replies sessions)
