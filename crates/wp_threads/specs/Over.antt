-- A client's session that is over.
use Rattle.std.specs.Prelude.{◌≡◌, ℕ, ◌≤◌, true, List, [], ◌∷◌, ◌++◌, length, Some, None, IfSome, count_by}
use Rattle.std.specs.List.{flat_map}
use Rattle.wp_model.specs.declared.entry.Entry.{Entry}
use Rattle.wp_model.specs.Flushed.{InstalledEdit}
use Rattle.wp_text.specs.declared.script.Command.{Command}
use Rattle.wp_text.specs.declared.script.Part.{Part}
use Rattle.wp_text.specs.declared.reply.Reply.{Reply}
pub use Rattle.wp_text.specs.Answered.{Answered, replies_in, replies_of}
use Rattle.wp_core.specs.Lists.{IsIn, one_if}
use Rattle.wp_core.specs.Sound.Actors.{StartsWith}
use Rattle.wp_core.specs.Sound.Pasts.{last_installed}
use Rattle.wp_core.specs.Views.{Event, log_failed, log_stopped, tables_failed}
use Rattle.wp_core.specs.World.{Participant}
use Rattle.wp_shared.specs.Seats.{SharedState, SeatState}
use Rattle.wp_replies.specs.Txn.{Txn}
use Rattle.wp_replies.specs.Asked.{AsksLog, AsksTables, FaultAsks}
use Rattle.wp_replies.specs.Client.{Client, new_client}
use Rattle.wp_replies.specs.Current.{opened_store, RunsAlone}
use Rattle.wp_replies.specs.Due.{Store}
use Rattle.wp_replies.specs.Kind.{acknowledged, is_fault, is_tables_fault, stops_log}
use Rattle.wp_replies.specs.Known.{StoredState, known_at_first, comes_to, exchanges, is_stop}
use Rattle.wp_replies.specs.Replies.{Evidence}
use Rattle.wp_replies.specs.Session.{IsSession}
use Rattle.wp_client.specs.Agrees.{Agrees}
use Rattle.wp_client.specs.Alone.{log_faults, device_faults, tables_faults, limits_of, IsOnly}
use Rattle.wp_client.specs.Answers.{explaining, IsRemembered, IsExplained, Stays}
use Rattle.wp_client.specs.Holdings.{no_holdings, Holds}

-- The session breaks off at the first of the commands that are left, if at any: what the seat's past has more, that one explains.
pub record BreaksOffBefore (old new : SeatState) (txn : Txn) (rest : List Command) : Type 0 where
  pub stays : Stays old new
  pub own : new.knows.participant.own ≡ old.knows.participant.own
  pub events : List Event
  pub past : new.knows.participant.past ≡ old.knows.participant.past ++ events
  pub explained : (event : Event) → IsIn event events → (command : Command) × (others : List Command) × (rest ≡ command ∷ others) × IsExplained old.knows.participant.client txn command None event
  pub log_failed : device_faults events ≡ 0
  pub log_stopped : log_faults events ≡ 0
  pub tables_failed : tables_faults events ≡ 0

-- The commands ran alone, and left this store, of which the seat's past tells. What a device failed to take was asked for by the
-- command that was answered so.
pub record EndsAlone {D : Type 0} (z : SharedState D) (found : StoredState) (done : List Command) (answers : List Reply) (p : Participant) : Type 0 where
  pub places : List ℕ
  pub store : Store
  pub client : Client
  pub ran : RunsAlone places (opened_store (limits_of z) found) new_client done answers store client
  pub history : StartsWith p.seen store.history
  pub own : (n : ℕ) → IsIn n p.own → n ≤ length store.history
  pub stopped : one_if store.stopped ≡ log_faults p.past
  pub installed : store.installed ≡ last_installed found.edit p.past
  pub halted : one_if store.halted ≡ tables_faults p.past
  pub asked : (entries : List Entry) → IsIn (log_failed entries) p.past → FaultAsks stops_log (AsksLog entries) places (opened_store (limits_of z) found) new_client done answers
  pub asked_none : IsIn log_stopped p.past → FaultAsks stops_log (AsksLog []) places (opened_store (limits_of z) found) new_client done answers
  pub asked_edit : (last edit : InstalledEdit) → IsIn (tables_failed last (Some edit)) p.past → FaultAsks (λ command answer. is_tables_fault answer) (AsksTables edit) places (opened_store (limits_of z) found) new_client done answers

-- What a client's session leaves of its seat: the replies to its commands, or to the first of them, where memory was wanting for
-- the next one. The client has nothing any more.
pub record IsOver {D : Type 0} (z : SharedState D) (found : StoredState) (part : Part) (answered : Answered) (s : SeatState) : Type 0 where
  pub holds : Holds z s no_holdings
  pub client : s.knows.participant.client ≡ part.client
  pub own : s.knows.participant.own ≡ flat_map acknowledged answered.replies
  pub within : (n : ℕ) → IsIn n s.knows.participant.own → n ≤ z.limit
  pub done : List Command
  pub rest : List Command
  pub commands : part.commands ≡ done ++ rest
  pub all : answered.whole ≡ true → rest ≡ []
  pub session : (e : Evidence) → Agrees e z s.knows.participant → IsSession e (known_at_first found) new_client done answered.replies
  pub explained : (event : Event) → IsIn event s.knows.participant.past → IfSome (explaining part.client event) (λ is_such. comes_to is_such new_client part.commands answered.replies ≡ true)
  pub log_failed : count_by is_fault answered.replies ≡ device_faults s.knows.participant.past
  pub log_stopped : count_by is_stop (exchanges done answered.replies) ≡ log_faults s.knows.participant.past
  pub tables_failed : count_by is_tables_fault answered.replies ≡ tables_faults s.knows.participant.past
  pub remembered : (answer : Reply) → IsIn answer answered.replies → IsRemembered s.knows.participant.past answer
  pub alone : IsOnly s → EndsAlone z found done answered.replies s.knows.participant

-- ---- all sessions

-- each part's session is over, at its seat
abbrev pub AreOver : {D : Type 0} → SharedState D → StoredState → List Part → List Answered → List SeatState → Type 0
AreOver z found [] [] [] = Unit {0}
AreOver z found (part ∷ parts) (answered ∷ others) (s ∷ seats) = IsOver z found part answered s × AreOver z found parts others seats
AreOver z found parts answered seats = ⊥
