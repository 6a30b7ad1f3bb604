-- What a client is answered whose seat is the only one: the store is as its own commands leave it.
use Rattle.std.specs.Prelude.{◌≡◌, ◌⊎◌, ◌↔◌, ℕ, ◌≤◌, ◌<◌, ◌||◌, Bool, true, List, [], ◌++◌, length, Some, is_some}
use Rattle.std.specs.FinMap as finite
use Rattle.std.specs.FinSet as set
use Rattle.wp_model.specs.declared.entry.Entry.{Entry}
use Rattle.wp_model.specs.Flushed.{InstalledEdit}
use Rattle.wp_model.specs.History.{is_changed, is_undecided, name_at, batch_at}
use Rattle.wp_model.specs.LockState.{is_among_keys}
use Rattle.wp_text.specs.declared.script.Command.{Command}
use Rattle.wp_text.specs.declared.reply.Reply.{Reply}
use Rattle.wp_core.specs.Lists.{IsIn, one_if, total}
use Rattle.wp_core.specs.Sound.Actors.{StartsWith}
use Rattle.wp_core.specs.Sound.Pasts.{closes_log, last_installed}
use Rattle.wp_core.specs.Sound.Pasts as pasts
use Rattle.wp_core.specs.Views.{Event, told, log_failed, log_stopped, tables_failed, locks_stay}
use Rattle.wp_core.specs.World.{Transaction, Participant, World}
use Rattle.wp_rule.specs.Shows.{WasLast}
use Rattle.wp_parts.specs.Parts.{content}
use Rattle.wp_shared.specs.Limits.{WasOpenedAt, limit_at, opened_limit, renewed_limit}
use Rattle.wp_shared.specs.Seats.{SharedState, SeatState}
use Rattle.wp_replies.specs.Asked.{AsksLog, AsksTables}
use Rattle.wp_replies.specs.Txn.{Txn, Prepared, LockedKeys}
use Rattle.wp_replies.specs.Client.{Client}
use Rattle.wp_replies.specs.Due.{Store, IsReply, store_after, client_after}
use Rattle.wp_replies.specs.Kind.{is_tables_fault, stops_log}
use Rattle.wp_replies.specs.Replies.{Limits}

-- how often the log was closed in this past, and the devices of the tables failed
abbrev pub log_faults : List Event → ℕ
log_faults past = total (λ e. one_if (closes_log e)) past

-- how often its device failed
abbrev pub device_faults : List Event → ℕ
device_faults past = total (λ e. one_if (pasts.is_log_fault e)) past

abbrev pub tables_faults : List Event → ℕ
tables_faults past = total (λ e. one_if (pasts.is_tables_fault e)) past

-- the limits of a store
abbrev pub limits_of : {D : Type 0} → SharedState D → Limits
limits_of z = record { opened = opened_limit z; renewed = renewed_limit z; cells = z.cells }

-- it is the first seat, which made and took in no other
pub record IsOnly (s : SeatState) : Type 0 where
  pub by : s.by ≡ 0
  pub made : s.knows.made ≡ 0
  pub joined : s.knows.joined ≡ []

-- The store is as the participant's doings tell, where it was opened with this edit: the history is what it has seen, which begins
-- with what was opened, behind the base of that edit, which the log was opened at and fell below never; the log takes no more where it
-- closed it, and its limit is that of its base; the devices of the tables failed where it met that; the last edit is the last one that it
-- installed; and on the board is what it told.
pub record IsStoreOf {D : Type 0} (z : SharedState D) (first : InstalledEdit) (p : Participant) (store : Store) : Type 0 where
  pub first_is : WasLast content z.first first
  pub at : WasOpenedAt z first.segment.base
  pub base : store.base ≡ first.segment.base
  pub risen : first.segment.base ≤ store.installed.segment.base
  pub history : store.history ≡ p.seen
  pub opened : StartsWith p.seen z.opened
  pub own : (n : ℕ) → IsIn n p.own → n ≤ length p.seen
  pub stopped : one_if store.stopped ≡ log_faults p.past
  pub limit : store.limit ≡ limit_at z store.installed.segment.base
  pub renewed_limit : store.renewed_limit ≡ renewed_limit z
  pub cells : store.cells ≡ z.cells
  pub installed : store.installed ≡ last_installed first p.past
  pub halted : one_if store.halted ≡ tables_faults p.past
  pub board : (label : List ℕ) → (is_some (finite.get store.board label) ≡ true) ↔ ((n : ℕ) × IsIn (told label n) p.past)

-- ---- the keys of prepared transactions

-- the client's transaction is the prepare with this number
abbrev pub IsPrepare : Txn → ℕ → Type 0
IsPrepare (Prepared p) n = p ≡ n
IsPrepare other n = ⊥

-- the key is the prepare's: its batch changes it, or it locked it without a change
abbrev pub is_key_of : List Entry → LockedKeys → List ℕ → Bool
is_key_of history x key = is_changed (batch_at history x.number) key || is_among_keys x.keys key

-- the seat has a transaction of this name, which locked just these keys
pub record HasJust (s : SeatState) (name : List ℕ) (is_key : List ℕ → Bool) : Type 0 where
  pub transaction : Transaction
  pub has : finite.get s.knows.participant.transactions name ≡ Some transaction
  pub keys : (key : List ℕ) → set.contains transaction.locked key ≡ is_key key

-- the seat noted that just these keys stay held for the prepare of this name and number, while it is undecided
pub record LeftJust (s : SeatState) (name : List ℕ) (p : ℕ) (is_key : List ℕ → Bool) : Type 0 where
  pub keys : List (List ℕ)
  pub noted : IsIn (locks_stay name p keys) s.knows.notes
  pub are : (key : List ℕ) → is_among_keys keys key ≡ is_key key

-- the seat knows the keys of the prepare: its client has prepared it, and it has the transaction; or it left that
abbrev pub KnowsKeys : SeatState → Txn → List Entry → LockedKeys → Type 0
KnowsKeys s txn history x = (IsPrepare txn x.number × HasJust s (name_at history x.number) (is_key_of history x)) ⊎ LeftJust s (name_at history x.number) x.number (is_key_of history x)

-- The keys are those that transactions locked which were prepared since the opening, in this history: of each such prepare that is
-- undecided, while the client's transaction is in this state.
pub record AreLockedOf {D : Type 0} (z : SharedState D) (s : SeatState) (txn : Txn) (history : List Entry) (locked : List LockedKeys) : Type 0 where
  pub since : (x : LockedKeys) → IsIn x locked → (length z.opened < x.number) × (x.number ≤ length history)
  pub known : (x : LockedKeys) → IsIn x locked → is_undecided history x.number ≡ true → KnowsKeys s txn history x
  pub all : (p : ℕ) → length z.opened < p → is_undecided history p ≡ true → (x : LockedKeys) × IsIn x locked × (x.number ≡ p)

-- ... as the store has them
abbrev pub AreLockedIn : {D : Type 0} → SharedState D → SeatState → Txn → Store → Type 0
AreLockedIn z s txn store = AreLockedOf z s txn store.history store.locked

-- the world is as the store has it: its history, whether its log is closed and its tables are halted, and its last edit
pub record IsAsStored (store : Store) (w : World) : Type 0 where
  pub history : w.writes.history ≡ store.history
  pub closed : w.writes.closed ≡ store.stopped
  pub halted : w.installed.halted ≡ store.halted
  pub edit : w.installed.last ≡ store.installed

-- The store was so, the command's reply is one that is due, or a fault, and the store and the client are so now, where a renewal put the
-- log's segment at the place. What a device failed to take is what the command asked for; the log is stopped by no other command.
pub record AnswersAlone {D : Type 0} (z : SharedState D) (first : InstalledEdit) (old new : SeatState) (was now : Client) (command : Command) (answer : Reply) (store : Store) : Type 0 where
  pub replied : IsReply store was command answer
  pub place : ℕ
  pub store_is : IsStoreOf z first new.knows.participant (store_after place store was command answer)
  pub locked : AreLockedIn z old was.txn store → AreLockedIn z new now.txn (store_after place store was command answer)
  pub client : now ≡ client_after store.history was command answer
  pub events : List Event
  pub past : new.knows.participant.past ≡ old.knows.participant.past ++ events
  pub asked : (entries : List Entry) → IsIn (log_failed entries) events → (stops_log command answer ≡ true) × AsksLog entries store was command
  pub asked_none : IsIn log_stopped events → (stops_log command answer ≡ true) × AsksLog [] store was command
  pub asked_edit : (last edit : InstalledEdit) → IsIn (tables_failed last (Some edit)) events → (is_tables_fault answer ≡ true) × AsksTables edit store was command
