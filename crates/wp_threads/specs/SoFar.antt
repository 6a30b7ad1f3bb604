-- How far a client's session has come at its seat.
use Rattle.std.specs.Prelude.{◌≡◌, ℕ, ◌≤◌, Bool, true, List, [], ◌++◌, length, Option, Some, IfSome, count_by}
use Rattle.std.specs.List.{flat_map}
use Rattle.wp_model.specs.declared.entry.Entry.{Entry}
use Rattle.wp_model.specs.Flushed.{InstalledEdit}
use Rattle.wp_text.specs.declared.script.Command.{Command}
use Rattle.wp_text.specs.declared.reply.Reply.{Reply}
use Rattle.wp_core.specs.Lists.{IsIn}
use Rattle.wp_core.specs.Views.{Event, log_failed, log_stopped, tables_failed}
use Rattle.wp_rule.specs.Shows.{WasLast}
use Rattle.wp_shared.specs.Limits.{WasOpenedAt}
use Rattle.wp_parts.specs.Parts.{content}
use Rattle.wp_shared.specs.Seats.{SharedState, SeatState}
use Rattle.wp_replies.specs.Txn.{Txn, Prepared}
use Rattle.wp_replies.specs.Asked.{AsksLog, AsksTables, FaultAsks}
use Rattle.wp_replies.specs.Client.{Client, new_client}
use Rattle.wp_replies.specs.Current.{opened_store, RunsAlone}
use Rattle.wp_replies.specs.Due.{Store}
use Rattle.wp_replies.specs.Kind.{acknowledged, is_fault, is_tables_fault, stops_log}
use Rattle.wp_replies.specs.Known.{StoredState, known_at_first, comes_to, exchanges, is_stop}
use Rattle.wp_replies.specs.Progress.{Progress}
use Rattle.wp_replies.specs.Replies.{Evidence}
use Rattle.wp_replies.specs.Session.{IsSession}
use Rattle.wp_client.specs.Agrees.{Agrees}
use Rattle.wp_client.specs.Alone.{log_faults, device_faults, tables_faults, limits_of, IsOnly, IsStoreOf, AreLockedIn}
use Rattle.wp_client.specs.Answers.{IsProgress, explaining, IsRemembered}
use Rattle.wp_client.specs.Holdings.{HoldingsState, client_of, Holds}

-- what the store was opened to: its history, and the last edit of its tables, which names the base of its log
pub record IsFound {D : Type 0} (z : SharedState D) (found : StoredState) : Type 0 where
  pub history : found.history ≡ z.opened
  pub edit : WasLast content z.first found.edit
  pub at : WasOpenedAt z found.edit.segment.base

-- the same transaction, but that a prepared one may have another number
abbrev pub IsAlike : Txn → Txn → Type 0
IsAlike (Prepared p) (Prepared q) = Unit {0}
IsAlike one other = one ≡ other

-- The client was answered so far as whatever agrees with its seat allows: each session from where it stands is the rest of one.
pub record IsSessionTo {D : Type 0} (z : SharedState D) (found : StoredState) (done : List Command) (answers : List Reply) (s : SeatState) (client : Client) : Type 0 where
  pub progress : Progress
  pub is_progress : IsProgress found.edit s client.txn progress
  pub goes_on : (e : Evidence) → Agrees e z s.knows.participant → (commands : List Command) (others : List Reply) → IsSession e progress client commands others
      → IsSession e (known_at_first found) new_client (done ++ commands) (answers ++ others)

-- The past is explained by the commands so far, and their replies: what the client comes to from where it stands, it comes to in
-- all. The number of a prepare that it took does not count there.
pub record IsExplainedTo (name : List ℕ) (done : List Command) (answers : List Reply) (past : List Event) (client : Client) : Type 0 where
  pub alike : Client
  pub is_alike : IsAlike alike.txn client.txn
  pub goes_on : (is_such : Txn → Command → Option Reply → Bool) (commands : List Command) (others : List Reply) → comes_to is_such alike commands others ≡ true
      → comes_to is_such new_client (done ++ commands) (answers ++ others) ≡ true
  pub explained : (event : Event) → IsIn event past → IfSome (explaining name event) (λ is_such. (commands : List Command) (others : List Reply) → comes_to is_such new_client (done ++ commands) (answers ++ others) ≡ true)

-- The commands so far ran alone, and led to a store of which the seat's past tells; a renewal among them put the log's segment at the
-- place that is there for it. What a device failed to take was asked for by the command that was answered so.
pub record RanAlone {D : Type 0} (z : SharedState D) (found : StoredState) (done : List Command) (answers : List Reply) (s : SeatState) (client : Client) : Type 0 where
  pub places : List ℕ
  pub store : Store
  pub store_is : IsStoreOf z found.edit s.knows.participant store
  pub locked : AreLockedIn z s client.txn store
  pub ran : RunsAlone places (opened_store (limits_of z) found) new_client done answers store client
  pub asked : (entries : List Entry) → IsIn (log_failed entries) s.knows.participant.past → FaultAsks stops_log (AsksLog entries) places (opened_store (limits_of z) found) new_client done answers
  pub asked_none : IsIn log_stopped s.knows.participant.past → FaultAsks stops_log (AsksLog []) places (opened_store (limits_of z) found) new_client done answers
  pub asked_edit : (last edit : InstalledEdit) → IsIn (tables_failed last (Some edit)) s.knows.participant.past → FaultAsks (λ command answer. is_tables_fault answer) (AsksTables edit) places (opened_store (limits_of z) found) new_client done answers

-- So far the client of this name was answered so, one reply a command, at this seat, and has this. Its seat published just what the
-- replies acknowledge, within the limit, met as many faults as they tell, and remembers what they speak of. If it is the only seat, each
-- reply was due.
pub record IsSessionSoFar {D : Type 0} (z : SharedState D) (found : StoredState) (name : List ℕ) (done : List Command) (answers : List Reply) (s : SeatState) (h : HoldingsState) : Type 0 where
  pub holds : Holds z s h
  pub client : s.knows.participant.client ≡ name
  pub each : length answers ≡ length done
  pub own : s.knows.participant.own ≡ flat_map acknowledged answers
  pub within : (n : ℕ) → IsIn n s.knows.participant.own → n ≤ z.limit
  pub session : IsSessionTo z found done answers s (client_of h)
  pub explained : IsExplainedTo name done answers s.knows.participant.past (client_of h)
  pub log_failed : count_by is_fault answers ≡ device_faults s.knows.participant.past
  pub log_stopped : count_by is_stop (exchanges done answers) ≡ log_faults s.knows.participant.past
  pub tables_failed : count_by is_tables_fault answers ≡ tables_faults s.knows.participant.past
  pub remembered : (answer : Reply) → IsIn answer answers → IsRemembered s.knows.participant.past answer
  pub alone : IsOnly s → RanAlone z found done answers s (client_of h)
