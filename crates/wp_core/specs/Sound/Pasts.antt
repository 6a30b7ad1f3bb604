-- What is so of the actors' pasts: whom they found, what they told, which faults they met, which edits they installed.
use Rattle.std.specs.Prelude.{◌≡◌, ◌≢◌, ◌⊎◌, ℕ, ◌+◌, ◌≤◌, ◌<◌, Bool, true, false, List, [], length, take, fold, Option, Some, None, is_some}
use Rattle.std.specs.FinMap as finite
use Rattle.wp_model.specs.declared.entry.Entry.{Entry}
use Rattle.wp_model.specs.declared.segment.Segment.{Segment}
use Rattle.wp_model.specs.History.{named, holder_of}
use Rattle.wp_model.specs.declared.holder.Holder.{Holder}
use Rattle.wp_model.specs.declared.holder.Holder.TheVariants.{Txn, Client}
use Rattle.wp_core.specs.Lists.{IsIn, one_if, total}
use Rattle.wp_model.specs.LockState.{LockState}
use Rattle.wp_core.specs.States.{WriteState, Installed}
use Rattle.wp_model.specs.Flushed.{InstalledEdit}
use Rattle.wp_core.specs.Views.{Account, own, another, prepare_at, Event, claimed, took, locked, told, heard, installed, renewed, log_failed, log_stopped, tables_failed, stopped, based_at, found_edit, found}
use Rattle.wp_core.specs.World.{Participant}
use Rattle.wp_core.specs.Sound.Actors.{IsParticipantAt, total_participants}
use Rattle.wp_core.specs.Sound.Locks.{WasPrepared, PrepareHas}
use Rattle.wp_history_laws.specs.Opened.{prepare_holding}

abbrev pub past_of : Participant → List Event
past_of p = p.past

-- it is in the past of this one of the participants
abbrev pub HasDone : List (List (List Event)) → ℕ → ℕ → Event → Type 0
HasDone pasts j i e = (past : List Event) × IsParticipantAt pasts j i past × IsIn e past

-- it is in somebody's past
abbrev pub IsPast : List (List (List Event)) → Event → Type 0
IsPast pasts e = (j i : ℕ) × HasDone pasts j i e

-- how often all pasts together have such an event
abbrev pub times_past : (Event → Bool) → List (List (List Event)) → ℕ
times_past test pasts = total_participants (total (λ e. one_if (test e))) pasts

-- ---- holders

-- one of the participants claimed or took the name
abbrev pub HasBegun : List (List (List Event)) → ℕ → ℕ → List ℕ → Type 0
HasBegun pasts j i name = HasDone pasts j i (claimed name) ⊎ HasDone pasts j i (took name)

-- One of the participants made the holder one: it claimed or took the name, and locked the key under it, or took it with a prepare
-- that has the key, or while somebody had locked it; or it locked the key for a direct write.
abbrev pub MadeHolder : (opened history : List Entry) → List (List (List Event)) → ℕ → ℕ → Option (List ℕ) → Holder → Type 0
MadeHolder opened history pasts j i None (Txn name) = HasBegun pasts j i name
MadeHolder opened history pasts j i (Some key) (Txn name) = (HasBegun pasts j i name × HasDone pasts j i (locked key (Txn name))) ⊎ (HasDone pasts j i (took name) × (PrepareHas opened history name key ⊎ IsPast pasts (locked key (Txn name))))
MadeHolder opened history pasts j i (Some key) (Client client) = HasDone pasts j i (locked key (Client client))
MadeHolder opened history pasts j i None (Client client) = ⊥

-- somebody locked the key, where one is given, for the transaction of this name
abbrev pub IsLockedFor : List (List (List Event)) → List ℕ → Option (List ℕ) → Type 0
IsLockedFor pasts name None = ⊥
IsLockedFor pasts name (Some key) = IsPast pasts (locked key (Txn name))

-- when n entries were published, which are so many or more, a prepare of this name was undecided that came behind the opening
abbrev pub WasPreparedBehind : (opened history : List Entry) → (from n : ℕ) → List ℕ → Type 0
WasPreparedBehind opened history from n name = (from ≤ n) × (n ≤ length history) × ((p : ℕ) × (length opened < p) × (named (take n history) name ≡ Some p))

-- a prepare of this name was undecided, with the key; or one that came behind the opening was, and somebody locked the key for it
abbrev pub WasPreparedFor : (opened history : List Entry) → List (List (List Event)) → (from n : ℕ) → List ℕ → Option (List ℕ) → Type 0
WasPreparedFor opened history pasts from n name key = WasPrepared history from n name key ⊎ (WasPreparedBehind opened history from n name × IsLockedFor pasts name key)

-- How the answer of one of the participants, that this is the holder of a key or else a live name, is accounted for: by
-- what it did itself, by what another did, or by a prepare that was undecided when it had seen so many entries, or later.
abbrev pub IsAccounted : (opened history : List Entry) → List (List (List Event)) → ℕ → ℕ → Option (List ℕ) → Holder → ℕ → Account → Type 0
IsAccounted opened history pasts j i key holder seen own = MadeHolder opened history pasts j i key holder
IsAccounted opened history pasts j i key holder seen another = (k l : ℕ) × ((k ≢ j) ⊎ (l ≢ i)) × MadeHolder opened history pasts k l key holder
IsAccounted opened history pasts j i key (Txn name) seen (prepare_at n) = WasPreparedFor opened history pasts seen n name key
IsAccounted opened history pasts j i key (Client name) seen (prepare_at n) = ⊥

-- the key was locked for the holder, or is one of a prepare that was undecided at the opening
abbrev pub WasLocked : List Entry → List (List (List Event)) → List ℕ → Holder → Type 0
WasLocked opened pasts key holder = IsPast pasts (locked key holder) ⊎ (prepare_holding opened (holder_of opened key) ≡ Some holder)

-- A live name was claimed or taken, or comes from the opening, and so does each key that is held. Who was found is accounted for.
pub record AreHolders (opened history : List Entry) (t : LockState) (pasts : List (List (List Event))) : Type 0 where
  pub names : (name : List ℕ) → is_some (finite.get t.names name) ≡ true → (IsPast pasts (claimed name) ⊎ IsPast pasts (took name)) ⊎ (is_some (named opened name) ≡ true)
  pub keys : (key : List ℕ) (holder : Holder) → finite.get t.keys key ≡ Some holder → WasLocked opened pasts key holder
  pub found : (j i : ℕ) (key : Option (List ℕ)) (holder : Holder) (seen : ℕ) (account : Account) → HasDone pasts j i (found key holder seen account) → IsAccounted opened history pasts j i key holder seen account

-- ---- the board

-- Under a label is a number that was told under it; what was heard was told, and what was told is published.
pub record IsBoard (published : ℕ) (t : LockState) (pasts : List (List (List Event))) : Type 0 where
  pub labels : (label : List ℕ) (n : ℕ) → IsPast pasts (told label n) ⊎ IsPast pasts (heard label n) → is_some (finite.get t.labels label) ≡ true
  pub numbers : (label : List ℕ) (n : ℕ) → finite.get t.labels label ≡ Some n → IsPast pasts (told label n)
  pub heard : (label : List ℕ) (n : ℕ) → IsPast pasts (heard label n) → IsPast pasts (told label n)
  pub told : (label : List ℕ) (n : ℕ) → IsPast pasts (told label n) → n ≤ published

-- ---- faults

abbrev pub is_log_fault : Event → Bool
is_log_fault (log_failed entries) = true
is_log_fault other = false

-- the log is closed with it
abbrev pub closes_log : Event → Bool
closes_log (log_failed entries) = true
closes_log log_stopped = true
closes_log other = false

abbrev pub is_tables_fault : Event → Bool
is_tables_fault (tables_failed last edit) = true
is_tables_fault other = false

-- no renewal has a base above this one and below that number
abbrev pub NoneBetween : List (List (List Event)) → ℕ → ℕ → Type 0
NoneBetween pasts base n = (edit : InstalledEdit) → IsPast pasts (renewed edit) → edit.segment.base < n → edit.segment.base ≤ base

pub record AreFaults (writes : WriteState) (halted : Bool) (pasts : List (List (List Event))) : Type 0 where
  pub log : times_past closes_log pasts ≡ one_if writes.closed
  pub tables : times_past is_tables_fault pasts ≡ one_if halted
  pub not_logged : writes.closed ≡ true → (writes.pending ≡ []) ⊎ (writes.logged ≡ false)
  pub stopped : (n : ℕ) → IsPast pasts (stopped n) → (writes.closed ≡ true) × (n ≡ length writes.history)
  -- the base that it was found with is the last one so far: a later renewal's is no lower than what was published then
  pub based : (n base : ℕ) → IsPast pasts (based_at n base) → (n ≤ length writes.history) × NoneBetween pasts base n
  -- the record whose append failed is the one that the log may have
  pub failed : (entries : List Entry) → IsPast pasts (log_failed entries) → (writes.closed ≡ true) × (writes.failed ≡ entries)
  -- where it was the write of a segment, there was something to renew
  pub renewing : writes.closed ≡ true → writes.stopped ≡ false → writes.failed ≡ [] → writes.segment.base < length writes.history
  pub of_log : (entries : List Entry) → IsPast pasts (log_failed entries) → writes.stopped ≡ false
  -- it was stopped only where the devices of the tables had failed, and then no append failed
  pub behind : IsPast pasts log_stopped → halted ≡ true
  pub unfailed : IsPast pasts log_stopped → (writes.closed ≡ true) × (writes.stopped ≡ true) × (writes.failed ≡ [])

-- ---- edits

-- an edit was installed by it
abbrev pub is_install : Event → Bool
is_install (installed edit compacts) = true
is_install (renewed edit) = true
is_install other = false

-- the flushed number came to this: a compaction keeps it
abbrev pub raised_to : Event → Option ℕ
raised_to (installed edit false) = Some edit.flushed
raised_to (renewed edit) = Some edit.flushed
raised_to other = None

-- a flushed number is that of the opening, or one that a flush or a renewal installed
abbrev pub WasInstalled : InstalledEdit → List (List (List Event)) → ℕ → Type 0
WasInstalled first pasts n = (n ≡ first.flushed) ⊎ ((e : Event) × (raised_to e ≡ Some n) × IsPast pasts e)

-- a segment of the log is that of the opening, or one that a renewal installed
abbrev pub WasPlaced : InstalledEdit → List (List (List Event)) → Segment → Type 0
WasPlaced first pasts segment = (segment ≡ first.segment) ⊎ ((edit : InstalledEdit) × (edit.segment ≡ segment) × IsPast pasts (renewed edit))

-- likewise a base
abbrev pub WasBased : InstalledEdit → List (List (List Event)) → ℕ → Type 0
WasBased first pasts base = (base ≡ first.segment.base) ⊎ ((edit : InstalledEdit) × (edit.segment.base ≡ base) × IsPast pasts (renewed edit))

-- the tables that are there at least, for one who knows of so many and installed an edit
abbrev pub due_after : ℕ → Event → ℕ
due_after due (installed edit true) = edit.tables
due_after due (installed edit false) = due + 1
due_after due other = due

abbrev pub tables_due : InstalledEdit → List Event → ℕ
tables_due first past = fold due_after first.tables past

-- the last edit for one who knew of this one
abbrev pub last_after : InstalledEdit → Event → InstalledEdit
last_after last (installed edit compacts) = edit
last_after last (renewed edit) = edit
last_after last other = last

abbrev pub last_installed : InstalledEdit → List Event → InstalledEdit
last_installed first past = fold last_after first past

-- another one has it in its past
abbrev pub OtherDid : List (List (List Event)) → ℕ → ℕ → Event → Type 0
OtherDid pasts j i e = (k l : ℕ) × ((k ≢ j) ⊎ (l ≢ i)) × HasDone pasts k l e

abbrev pub OtherInstalls : List (List (List Event)) → ℕ → ℕ → Type 0
OtherInstalls pasts j i = (e : Event) × (is_install e ≡ true) × OtherDid pasts j i e

abbrev pub OtherCompacts : List (List (List Event)) → ℕ → ℕ → Type 0
OtherCompacts pasts j i = (edit : InstalledEdit) × OtherDid pasts j i (installed edit true)

-- The last edit's flushed number is the opening's, a flush's or a renewal's, of which none is greater, and so is each that was found. Its
-- segment is the opening's or a renewal's, and so is each base that was found; no renewal has a base above its one or below the opening's.
-- It is the edit that a participant installed last, unless another one installed one, and has at least the tables that this one knows
-- of, unless another one compacted; so has the edit that was found. Where the devices failed, it is that one still, and so is the one
-- whose install failed; and it has the flushed number that was found once they had failed.
pub record AreEdits (first : InstalledEdit) (t : Installed) (pasts : List (List (List Event))) : Type 0 where
  pub last : WasInstalled first pasts t.last.flushed
  pub rises : (n : ℕ) → WasInstalled first pasts n → n ≤ t.last.flushed
  pub placed : WasPlaced first pasts t.last.segment
  pub risen : (edit : InstalledEdit) → IsPast pasts (renewed edit) → (first.segment.base ≤ edit.segment.base) × (edit.segment.base ≤ t.last.segment.base)
  pub found : (n base tables due : ℕ) (halted : Bool) → IsPast pasts (found_edit n base tables due halted) → WasInstalled first pasts n
  pub found_base : (n base tables due : ℕ) (halted : Bool) → IsPast pasts (found_edit n base tables due halted) → WasBased first pasts base
  pub based : (n base : ℕ) → IsPast pasts (based_at n base) → WasBased first pasts base
  pub few : (j i n base tables due : ℕ) (halted : Bool) → HasDone pasts j i (found_edit n base tables due halted) → tables < due → OtherCompacts pasts j i
  pub edit : (j i : ℕ) (past : List Event) → IsParticipantAt pasts j i past → (t.last ≡ last_installed first past) ⊎ OtherInstalls pasts j i
  pub tables : (j i : ℕ) (past : List Event) → IsParticipantAt pasts j i past → (tables_due first past ≤ t.last.tables) ⊎ OtherCompacts pasts j i
  pub failed : (last : InstalledEdit) (edit : Option InstalledEdit) → IsPast pasts (tables_failed last edit) → (t.halted ≡ true) × (t.last ≡ last) × (t.failed ≡ edit)
  pub found_halted : (n base tables due : ℕ) → IsPast pasts (found_edit n base tables due true) → (t.halted ≡ true) × (n ≡ t.last.flushed)
  pub none_failed : t.halted ≡ false → t.failed ≡ None
