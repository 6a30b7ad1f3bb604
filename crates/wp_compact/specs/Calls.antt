-- What a compaction answers, and what it leaves of the seat.
use Rattle.std.specs.Prelude.{◌≡◌, ℕ, ◌≤◌, ◌<◌, false, true, List, [], ◌∷◌, length, take, Result, Ok, Err}
use Rattle.wp_model.specs.declared.entry.Entry.{Entry}
use Rattle.wp_model.specs.declared.version.Version.{Version}
use Rattle.wp_model.specs.Flushed.{InstalledEdit}
use Rattle.wp_replies.specs.Replies.{IsCompactionCount}
use Rattle.wp_replies.specs.Tables.{listed, retained, after_compaction}
use Rattle.wp_tableset.specs.Changes.{new_parts}
use Rattle.wp_core.specs.Lists.{IsIn}
use Rattle.wp_core.specs.Reading.{Registration}
use Rattle.wp_core.specs.Sound.Actors.{StartsWith}
use Rattle.wp_core.specs.States.{Installed}
use Rattle.wp_core.specs.Views as event
use Rattle.wp_core.specs.World.{Participant}
use Rattle.wp_rule.specs.Shows.{WasLast}
use Rattle.wp_parts.specs.VersionSet.{VersionSetState}
use Rattle.wp_parts.specs.Installs.{SurvivesInstall}
use Rattle.wp_parts.specs.Parts.{content}
use Rattle.wp_shared.specs.Calls.{Continues, with_events}
use Rattle.wp_shared.specs.Notes.{seeing}
use Rattle.wp_shared.specs.Seats.{SharedState, SeatState}
use Rattle.wp_read.specs.Registers.{IsPinned, numbers_of}
use Rattle.wp_maint.specs.declared.done.Done.{Done}
use Rattle.wp_maint.specs.declared.error.MaintError.{MaintError}
use Rattle.wp_maint.specs.declared.error.MaintError.TheVariants.{Memory, Nothing, TableFault, TablesStopped}
use Rattle.wp_maint.specs.Calls.{Finds, found_by, HeldTables, HasFailed, HasNothing, IsStopped, TablesBecame}
use Rattle.wp_maint.specs.Moments.{OpensThroughout}

-- there are not two tables to merge
abbrev pub FewTables : InstalledEdit → Type 0
FewTables edit = edit.tables < 2

-- there are
abbrev pub SeveralTables : InstalledEdit → Type 0
SeveralTables edit = 2 ≤ edit.tables

-- a table of these versions is in place of all, or none where there are none
abbrev pub HasAlone : List Version → VersionSetState → VersionSetState → Type 0
HasAlone versions before after = after.parts ≡ new_parts versions

-- All that was live was pinned in one world of the store, from this floor on, by the seat as it was before the call but that it
-- may have seen more. The floor is no less than what it had seen before the call.
pub record HasPinned {D : Type 0} (z : SharedState D) (old new : SeatState) (floor : ℕ) (live : List ℕ) : Type 0 where
  pub seen : List Entry
  pub snapshot : Registration
  pub others : List Registration
  pub pinned : IsPinned z (seeing seen old) (take floor new.knows.participant.seen) snapshot others
  pub floor_is : floor ≡ snapshot.number
  pub live_is : live ≡ numbers_of others
  pub within : floor ≤ length new.knows.participant.seen
  pub later : StartsWith (take floor new.knows.participant.seen) old.knows.participant.seen

-- Which floor and which live numbers it was, `Pinned` says; none is below the base at which the log was opened. Of the tables' versions
-- those stay that a reader at the floor needs, or at a number that was live, or at that base or the log's; they are no more than the keys
-- that the store had at the first base, the changes that were carried there, and what the history has from there up to the floor. The last edit names their table alone. As
-- `TablesBecame` says, of two states: a table with just these versions took the place of all, and at each moment between them a
-- crash left the edits before that one, or those and it, and their tables; and what a crash left of all three devices opened to the
-- history that the log spelled.
pub record HasCompacted {D : Type 0} (Goes : Participant → Type 0) (Pinned : ℕ → List ℕ → Type 0) (z : SharedState D) (old new : SeatState) (e : Installed) (done : Done) : Type 0 where
  pub found : Finds z old new e
  pub running : e.halted ≡ false
  pub several : SeveralTables e.last
  pub live : List ℕ
  pub pinned : Pinned done.at live
  pub first : InstalledEdit
  pub is_first : WasLast content z.first first
  pub low : first.segment.base ≤ done.at
  pub from_base : (n : ℕ) → IsIn n live → first.segment.base ≤ n
  pub versions : done.versions ≡ length (retained (take done.at new.knows.participant.seen) (listed live first.segment.base e.last) e.last)
  pub few : IsCompactionCount (take done.at new.knows.participant.seen) first.segment.base done.at done.versions
  pub left : HeldTables z old new new.knows.participant.past (record e { last = after_compaction (take done.at new.knows.participant.seen) (listed live first.segment.base e.last) e.last })
  pub tables : TablesBecame z e (record e { last = after_compaction (take done.at new.knows.participant.seen) (listed live first.segment.base e.last) e.last }) (HasAlone (retained (take done.at new.knows.participant.seen) (listed live first.segment.base e.last) e.last))
  pub survives : SurvivesInstall tables.before tables.after (after_compaction (take done.at new.knows.participant.seen) (listed live first.segment.base e.last) e.last)
  pub throughout : OpensThroughout old.knows.participant.seen new.knows.participant.seen tables.before tables.after (after_compaction (take done.at new.knows.participant.seen) (listed live first.segment.base e.last) e.last)
  pub goes_on : Goes (with_events (found_by z old new e found ∷ event.installed (after_compaction (take done.at new.knows.participant.seen) (listed live first.segment.base e.last) e.last) true ∷ []) old.knows.participant)

-- the edit is that of a compaction of these tables at a floor with these live numbers
pub record IsCompactionOf {D : Type 0} (Pinned : ℕ → List ℕ → Type 0) (z : SharedState D) (new : SeatState) (last edit : InstalledEdit) : Type 0 where
  pub floor : ℕ
  pub live : List ℕ
  pub pinned : Pinned floor live
  pub first : InstalledEdit
  pub is_first : WasLast content z.first first
  pub from_base : (n : ℕ) → IsIn n live → first.segment.base ≤ n
  pub edit_is : edit ≡ after_compaction (take floor new.knows.participant.seen) (listed live first.segment.base last) last

abbrev pub CompactsFrom : {D : Type 0} → (Participant → Type 0) → (ℕ → List ℕ → Type 0) → SharedState D → SeatState → Installed → Result Done MaintError → SeatState → Type 0
CompactsFrom Goes Pinned z old e (Ok done) new = HasCompacted Goes Pinned z old new e done
CompactsFrom Goes Pinned z old e (Err Memory) new = Goes old.knows.participant
CompactsFrom Goes Pinned z old e (Err Nothing) new = HasNothing Goes z old new e FewTables
CompactsFrom Goes Pinned z old e (Err TableFault) new = HasFailed Goes z old new e (SeveralTables e.last) (IsCompactionOf Pinned z new e.last)
CompactsFrom Goes Pinned z old e (Err (TablesStopped flushed)) new = IsStopped Goes z old new e flushed

-- what a compaction answers and leaves, where the tables were so as it found them
abbrev pub Compacts : {D : Type 0} → SharedState D → SeatState → Result Done MaintError → SeatState → Type 0
Compacts z old result new = (e : Installed) × CompactsFrom (Continues z old new) (HasPinned z old new) z old e result new
