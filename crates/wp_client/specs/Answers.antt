-- What the reply to a command says, and what the command leaves of the client's seat.
use Rattle.std.specs.Prelude.{◌≡◌, ◌⊎◌, ℕ, ◌+◌, ◌≤◌, ◌&&◌, Bool, true, false, List, ◌++◌, length, Option, Some, None, IfSome}
use Rattle.std.specs.List.{AllByRecursion}
use Rattle.std.specs.Str.{bytes_eq}
use Rattle.wp_model.specs.Flushed.{InstalledEdit}
use Rattle.wp_model.specs.declared.holder.Holder.TheVariants as holder
use Rattle.wp_text.specs.declared.script.Command.{Command}
use Rattle.wp_text.specs.declared.reply.Reply.{Reply}
use Rattle.wp_text.specs.declared.reply.Reply.TheVariants as reply
use Rattle.wp_core.specs.Lists.{IsIn, one_if, total}
use Rattle.wp_core.specs.Sound.Actors.{StartsWith}
use Rattle.wp_core.specs.Sound.Pasts.{tables_due}
use Rattle.wp_core.specs.Views.{Event, unchanged, claimed, took, locked, told, heard, installed, renewed, log_stopped, stopped, based_at, found_edit, found}
use Rattle.wp_core.specs.World.{World}
use Rattle.wp_rule.specs.Shows.{WasLast}
use Rattle.wp_parts.specs.Parts.{content}
use Rattle.wp_shared.specs.Seats.{SharedState, SeatState, Stands}
use Rattle.wp_replies.specs.Txn.{Txn, Staged, Open, is_its_key}
use Rattle.wp_replies.specs.Client.{Client}
use Rattle.wp_replies.specs.Due.{Store}
use Rattle.wp_replies.specs.After.{after_reply}
use Rattle.wp_replies.specs.Kind.{acknowledged, is_fault, is_flushed, is_based, is_compacted, is_tables_fault, is_renewal, stops_log}
use Rattle.wp_replies.specs.Known.{gets_name, takes_name, stages_key, writes_key, tells}
use Rattle.wp_replies.specs.Progress.{ToldKey, Progress, knows_label, is_told, progress_after}
use Rattle.wp_replies.specs.Replies.{Evidence, Allows}
use Rattle.wp_client.specs.Alone.{log_faults, device_faults, tables_faults, IsOnly, IsStoreOf, AreLockedIn, AnswersAlone}
use Rattle.wp_client.specs.declared.holdings.HeldTxn.{HeldTxn}
use Rattle.wp_client.specs.Agrees.{Agrees}
use Rattle.wp_client.specs.Holdings.{txn_of}

-- ---- what is in the past of a client's seat

-- the label was told there, or heard
abbrev pub HasLabel : List Event → List ℕ → Type 0
HasLabel past label = (n : ℕ) × (IsIn (told label n) past ⊎ IsIn (heard label n) past)

-- a renewal there gave the log this base
abbrev pub HasBase : List Event → ℕ → Type 0
HasBase past base = (edit : InstalledEdit) × (edit.segment.base ≡ base) × IsIn (renewed edit) past

-- The seat noted, of the key of its transaction of this name, that it is unchanged since a number: as many entries were published as it was
-- locked. So the number is not below what the client had been answered before, nor above what it was answered then, and the seat has seen it.
pub record IsNoted (s : SeatState) (name : List ℕ) (k : ToldKey) : Type 0 where
  pub number : ℕ
  pub noted : IsIn (unchanged name k.key number) s.knows.notes
  pub told : k.told ≤ number
  pub behind : IfSome k.behind (λ later. number ≤ later)
  pub seen : number ≤ length s.knows.participant.seen

-- ... of each of these keys, which all keys of the open transaction are among
pub record HasNoted (s : SeatState) (own : Staged) (keys : List ToldKey) : Type 0 where
  pub each : AllByRecursion (IsNoted s own.name) keys
  pub all : (key : List ℕ) → is_its_key own key ≡ true → is_told keys key ≡ true

abbrev pub AreNoted : SeatState → Txn → List ToldKey → Type 0
AreNoted s (Open own) keys = HasNoted s own keys
AreNoted s other keys = Unit {0}

-- what the client, in this state of its transaction, knows by its replies is what its seat saw, did and noted
pub record IsProgress (first : InstalledEdit) (s : SeatState) (txn : Txn) (progress : Progress) : Type 0 where
  pub last : progress.last ≤ length s.knows.participant.seen
  pub tables : progress.tables ≡ tables_due first s.knows.participant.past
  pub base : (progress.base ≡ first.segment.base) ⊎ HasBase s.knows.participant.past progress.base
  pub labels : (label : List ℕ) → knows_label progress.labels label ≡ true → HasLabel s.knows.participant.past label
  pub keys : AreNoted s txn progress.keys

-- there is a reply, of this kind
abbrev pub is_answer : (Reply → Bool) → Option Reply → Bool
is_answer is_such None = false
is_answer is_such (Some answer) = is_such answer

-- what the client came to for the event to be in its seat's past; of others nothing is asked
abbrev pub explaining : List ℕ → Event → Option (Txn → Command → Option Reply → Bool)
explaining client (claimed name) = Some (gets_name name)
explaining client (took name) = Some (takes_name name)
explaining client (locked key (holder.Txn name)) = Some (stages_key name key)
explaining client (locked key (holder.Client name)) = Some (λ txn command answer. bytes_eq name client && writes_key key txn command answer)
explaining client (told label n) = Some (tells label n)
explaining client (installed edit false) = Some (λ txn command answer. is_answer (is_flushed edit.flushed) answer)
explaining client (installed edit true) = Some (λ txn command answer. is_answer is_compacted answer)
explaining client (renewed edit) = Some (λ txn command answer. is_answer (λ r. is_based edit.segment.base r && is_flushed edit.flushed r) answer)
explaining client log_stopped = Some (λ txn command answer. is_answer (stops_log command) answer)
explaining client other = None

-- the client came to it by the command, with this reply or with none
abbrev pub IsExplained : List ℕ → Txn → Command → Option Reply → Event → Type 0
IsExplained client txn command answer event = IfSome (explaining client event) (λ is_such. is_such txn command answer ≡ true)

-- it tells of a holder, of a closed log or its base, or of the tables, as the seat found them
abbrev pub is_finding : Event → Bool
is_finding (found key holder seen account) = true
is_finding (stopped n) = true
is_finding (based_at n base) = true
is_finding (found_edit flushed base tables due halted) = true
is_finding other = false

-- how often the seat found such a thing
abbrev pub findings : List Event → ℕ
findings events = total (λ e. one_if (is_finding e)) events

-- what the seat did or found for the client to be answered so; of other replies nothing is asked
abbrev pub IsRemembered : List Event → Reply → Type 0
IsRemembered past (reply.Stopped n) = IsIn (stopped n) past
IsRemembered past (reply.Flushed n versions) = (edit : InstalledEdit) × (edit.flushed ≡ n) × IsIn (installed edit false) past
IsRemembered past (reply.Halted flushed) = (base tables due : ℕ) × IsIn (found_edit flushed base tables due true) past
IsRemembered past (reply.Renewed n carried) = (edit : InstalledEdit) × (edit.segment.base ≡ n) × (edit.flushed ≡ n) × IsIn (renewed edit) past
IsRemembered past other = Unit {0}

-- ---- one command

-- the seat is in its place, of its client, and has seen no less
pub record Stays (old new : SeatState) : Type 0 where
  pub same_by : new.by ≡ old.by
  pub made : new.knows.made ≡ old.knows.made
  pub joined : new.knows.joined ≡ old.knows.joined
  pub client : new.knows.participant.client ≡ old.knows.participant.client
  pub seen : StartsWith new.knows.participant.seen old.knows.participant.seen

-- The client that was so is answered this, and is so now. Its seat published just what the reply acknowledges, within the limit,
-- and what its past has more is explained by the reply; it found at most once what a reply may speak of, or in a renewal twice: the
-- tables, and then the log. Whatever agrees with what the seat then knows allows the reply, where the client knows of the tables by
-- the last edit of the store as it was opened.
pub record Answers {D : Type 0} (z : SharedState D) (old new : SeatState) (was now : Client) (command : Command) (answer : Reply) : Type 0 where
  pub stays : Stays old new
  pub own : new.knows.participant.own ≡ old.knows.participant.own ++ acknowledged answer
  pub within : (n : ℕ) → IsIn n (acknowledged answer) → n ≤ z.limit
  pub events : List Event
  pub past : new.knows.participant.past ≡ old.knows.participant.past ++ events
  pub explained : (event : Event) → IsIn event events → IsExplained old.knows.participant.client was.txn command (Some answer) event
  pub log_failed : device_faults events ≡ one_if (is_fault answer)
  pub log_stopped : log_faults events ≡ one_if (stops_log command answer)
  pub tables_failed : tables_faults events ≡ one_if (is_tables_fault answer)
  pub once : findings events ≤ 1 + one_if (is_renewal command)
  pub remembered : IsRemembered events answer
  pub number : ℕ  -- of the prepare that `took` gives
  pub after : now ≡ after_reply number was command answer
  pub progress : (first : InstalledEdit) → WasLast content z.first first → (before : Progress) → IsProgress first old was.txn before → IsProgress first new now.txn (progress_after before command answer)
  pub allowed : (first : InstalledEdit) → WasLast content z.first first → (before : Progress) → IsProgress first old was.txn before → (e : Evidence) → Agrees e z new.knows.participant → Allows e before was number command answer

-- Memory was wanting, so that the command has no reply. The seat published nothing, met no fault and found nothing, and what its
-- past has more is explained by the command alone: a key was locked, for a direct write or to be read, and is free again.
pub record BreaksOff (old new : SeatState) (was : Client) (command : Command) : Type 0 where
  pub stays : Stays old new
  pub own : new.knows.participant.own ≡ old.knows.participant.own
  pub events : List Event
  pub past : new.knows.participant.past ≡ old.knows.participant.past ++ events
  pub explained : (event : Event) → IsIn event events → IsExplained old.knows.participant.client was.txn command None event
  pub log_failed : device_faults events ≡ 0
  pub log_stopped : log_faults events ≡ 0
  pub tables_failed : tables_faults events ≡ 0
  pub none_found : findings events ≡ 0

-- Where the seat is the only one, the reply is the one that is due from the store as it was, or a fault, and the store is as it is to
-- be then.
abbrev pub IsDueAlone : {D : Type 0} → SharedState D → SeatState → SeatState → Client → Client → Command → Reply → Type 0
IsDueAlone z old new was now command answer =
    IsOnly old → (first : InstalledEdit) → WasLast content z.first first → (store : Store) → IsStoreOf z first old.knows.participant store → AreLockedIn z old was.txn store → AnswersAlone z first old new was now command answer store

-- ... where the seat stands in a world of the store now
abbrev pub IsDue : {D : Type 0} → SharedState D → SeatState → SeatState → Client → Client → Command → Reply → Type 0
IsDue z old new was now command answer = (world : World) → Stands z new world → IsDueAlone z old new was now command answer

-- the client is answered so, be it beside others or alone
abbrev pub IsAnswered : {D : Type 0} → SharedState D → SeatState → SeatState → Client → Client → Command → Reply → Type 0
IsAnswered z old new was now command answer = Answers z old new was now command answer × IsDue z old new was now command answer

-- the client is answered so whatever its snapshots are, where its transaction was this and is that now
abbrev pub AnswersFrom : {D : Type 0} → SharedState D → SeatState → SeatState → HeldTxn → HeldTxn → Command → Reply → Type 0
AnswersFrom z old new was now command answer = (client : Client) → client.txn ≡ txn_of was → IsAnswered z old new client (record client { txn = txn_of now }) command answer

-- it breaks off so whatever its snapshots are, and its transaction stays
abbrev pub BreaksOffFrom : SeatState → SeatState → HeldTxn → HeldTxn → Command → Type 0
BreaksOffFrom old new was now command = (now ≡ was) × ((client : Client) → client.txn ≡ txn_of was → BreaksOff old new client command)
