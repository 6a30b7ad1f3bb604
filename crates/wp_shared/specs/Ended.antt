-- What an ended store hands back: its history, and its three devices.
use Rattle.std.specs.Prelude.{◌≡◌, ◌⊎◌, ℕ, ◌+◌, ◌≤◌, true, false, List, [], ◌∷◌, length, map, None}
use Rattle.wp_model.specs.declared.entry.Entry.{Entry}
use Rattle.wp_model.specs.Flushed.{InstalledEdit}
use Rattle.wp_model.specs.Legal.{IsLegal}
use Rattle.wp_model.specs.LockState.{LockState}
use Rattle.wp_outside.specs.Disk.{images, IfKnown}
use Rattle.wp_outside.specs.Faults.{Rose}
use Rattle.wp_fields.specs.declared.format.Format.{Format}
use Rattle.wp_entry.specs.Record.{IsRecord}
use Rattle.wp_gatelog.specs.Durability.{LosesNoRecord}
use Rattle.wp_gatelog.specs.Spelling.{IsUpTo}
use Rattle.wp_wal.specs.Spelling.{NEWEST}
use Rattle.wp_wal.specs.Wal.{WalState, LosesNothingAt, LeavesCutOrNext}
use Rattle.wp_manifest.specs.Spelling.{MAGIC}
use Rattle.wp_cuts.specs.Agree.{HaveSameValues}
use Rattle.wp_cuts.specs.Cut.{Cut, IsCut, cut_at}
use Rattle.wp_tableset.specs.Device.{KeepsFronts}
use Rattle.wp_tableset.specs.Set.{TableSetState}
use Rattle.wp_contents.specs.Opens.{OpensTo}
use Rattle.wp_core.specs.Images.{MaySpell, MayName}
use Rattle.wp_core.specs.States.{WriteState, Installed}
use Rattle.wp_core.specs.World.{Participant}
use Rattle.wp_core.specs.Sound.Actors.{StartsWith, AreSeen, AreOwned, seen_of, own_of}
use Rattle.wp_core.specs.Sound.Pasts.{AreHolders, IsBoard, AreFaults, AreEdits, past_of}
use Rattle.wp_rule.specs.Shows.{WasLast}
use Rattle.wp_parts.specs.Parts.{content}
use Rattle.wp_parts.specs.Devices.{DevicesLeft}
use Rattle.wp_shared.specs.Opening.{IsOneStore}
use Rattle.wp_shared.specs.Seats.{SharedState, SeatState, participant_of}

-- of the seats' participants, which are all there are
abbrev pub of_seats : {X : Type 0} → (Participant → X) → List SeatState → List (List X)
of_seats f seats = map f (map participant_of seats) ∷ []

-- From the base on the list is this one: both have one cut there, and the same values. What is below a base the devices do not tell.
pub record IsFrom (base : ℕ) (left history : List Entry) : Type 0 where
  pub within : base ≤ length left
  pub cut : cut_at history base ≡ cut_at left base
  pub values : HaveSameValues history left base

-- The bytes of the three devices open to a list that is, from the edit's base on, one that the log may spell, and to an edit that the
-- manifest may name.
pub record OpensAsLeft (id : ℕ) (writes : WriteState) (edits : Installed) (log manifest tables : List ℕ) : Type 0 where
  pub left : List Entry
  pub history : List Entry
  pub edit : InstalledEdit
  pub spelled : MaySpell writes left
  pub same : IsFrom edit.segment.base left history
  pub named : MayName edits edit
  pub opens : OpensTo id history edit log manifest tables

-- Since the devices were opened the log's count of faults rose just where it was closed and not stopped, and one of the tables' counts
-- just where they were halted. What was for good then is so still; of the log, as long as it is in the segment of then. Its base never
-- falls.
pub record IsSince (wal : WalState) (set : TableSetState) (writes : WriteState) (edits : Installed) (left : DevicesLeft) : Type 0 where
  pub log_later : wal.faults ≤ left.log_faults
  pub manifest_later : set.manifest.log.faults ≤ left.manifest_faults
  pub tables_later : set.faults ≤ left.tables_faults
  pub log_cause : writes.closed ≡ true → writes.stopped ≡ false → Rose wal.faults left.log_faults
  pub tables_cause : edits.halted ≡ true → Rose set.manifest.log.faults left.manifest_faults ⊎ Rose set.faults left.tables_faults
  pub log_unfailed : (writes.closed ≡ false) ⊎ (writes.stopped ≡ true) → left.log_faults ≡ wal.faults
  pub tables_unfailed : edits.halted ≡ false → (left.manifest_faults ≡ set.manifest.log.faults) × (left.tables_faults ≡ set.faults)
  pub log_risen : wal.segment.base ≤ writes.segment.base
  pub log_durable : writes.segment ≡ wal.segment → LosesNothingAt wal.segment.place wal.moments left.log
  pub manifest_durable : LosesNoRecord MAGIC set.manifest.log.moments left.manifest
  pub tables_durable : KeepsFronts set.moments left.tables

pub record IsEnded {D : Type 0} (z : SharedState D) (seats : List SeatState) (history : List Entry) (left : DevicesLeft) : Type 0 where
  -- the tables at the end, and the last edit as the store was opened
  pub writes : WriteState
  pub locks : LockState
  pub edits : Installed
  pub first_edit : InstalledEdit
  pub first_is : WasLast content z.first first_edit
  -- The history is legal. It begins with the one that was opened, and with what each seat has seen; and each number since then
  -- was published by one seat.
  pub history_is : writes.history ≡ history
  pub legal : IsLegal history
  pub grown : StartsWith history z.opened
  pub seen : AreSeen history (of_seats seen_of seats)
  pub owned : AreOwned z.opened history (of_seats own_of seats)
  -- what the seats found, told and installed, and which faults they met, is accounted for
  pub holders : AreHolders z.opened history locks (of_seats past_of seats)
  pub board : IsBoard (length history) locks (of_seats past_of seats)
  pub faults : AreFaults writes edits.halted (of_seats past_of seats)
  pub installed : AreEdits first_edit edits (of_seats past_of seats)
  -- The log spells the history, cut at the base of its segment. Once an append has failed, it spells that, or that and the failed record,
  -- whole, of a version that is read. Until a device of the tables has failed, the manifest names the last edit.
  pub log : writes.log ≡ history
  pub none_failed : writes.closed ≡ false → writes.failed ≡ []
  pub whole : (writes.failed ≡ []) ⊎ ((format : Format) × IsUpTo NEWEST format × IsRecord format (length history + 1) writes.failed)
  pub none_asked : edits.halted ≡ false → edits.failed ≡ None
  -- so a crash leaves the log with the history acknowledged, and perhaps with the failed record behind it, under the store's id;
  -- and what it leaves of the three devices opens
  pub opened : IsOneStore z.opened z.first
  pub cut : Cut
  pub is_cut : IsCut history cut
  pub based : cut.base ≡ writes.segment.base
  pub in_place : edits.last.segment ≡ writes.segment
  pub stored : IfKnown left.log (LeavesCutOrNext opened.wal.id writes.segment.place cut writes.failed)
  pub opens : (log manifest tables : List ℕ) → images left.log log → images left.manifest manifest → images left.tables tables → OpensAsLeft opened.wal.id writes edits log manifest tables
  pub since : IsSince opened.wal opened.set writes edits left
