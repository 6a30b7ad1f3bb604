-- What else is so of a store that ran: of its words and its devices, of faults that were met, and of the last edit.
use Rattle.std.specs.Prelude.{◌≡◌, ◌⊎◌, ℕ, ◌+◌, ◌≤◌, true, List, [], length, count_by}
use Rattle.std.specs.List.{list_any}
use Rattle.wp_model.specs.Flushed.{InstalledEdit}
use Rattle.wp_outside.specs.Disk.{IfKnown}
use Rattle.wp_outside.specs.Faults.{Rose}
use Rattle.wp_gatelog.specs.Spelling.{IsUnmadeAt, IsUpTo}
use Rattle.wp_fields.specs.declared.format.Format.{Format}
use Rattle.wp_entry.specs.Record.{IsRecord}
use Rattle.wp_core.specs.World.{World}
use Rattle.wp_core.specs.Runs.{Reaches}
use Rattle.wp_cuts.specs.Cut.{Cut, cut_at}
use Rattle.wp_text.specs.declared.script.Part.{Part}
use Rattle.wp_text.specs.declared.reply.Reply.{Reply}
use Rattle.wp_replies.specs.Explains.{Faults, IsLastEdit, all_replies, all_exchanges}
use Rattle.wp_replies.specs.Kind.{is_fault, is_stopped, is_tables_fault, is_halted}
use Rattle.wp_replies.specs.Known.{StoredState, is_stop}
use Rattle.wp_replies.specs.Replies.{Untaken}
use Rattle.wp_wal.specs.Spelling.{NEWEST, IsLogAt}
use Rattle.wp_wal.specs.Wal.{LeavesCutOrNext, LosesNothingAt}
use Rattle.wp_status.specs.Use.{DisksUse}

-- The machine reaches a world that was opened with just the history and the last edit that were found, and that has so many words
-- in its commit cache. The proof of a run takes it from the store that was opened. No reply but `crowded` depends on that
-- number.
pub record SharesWords (cells : ℕ) (found : StoredState) : Type 0 where
  pub world : World
  pub reached : Reaches world
  pub opened : world.opened ≡ found.history
  pub history : world.writes.history ≡ found.history
  pub edit : world.first_edit ≡ found.edit
  pub cache : length world.cache ≡ cells

-- a history cut at the base of the edit, which names the segment that spells it
abbrev pub named_cut : StoredState → Cut
named_cut s = cut_at s.history s.edit.segment.base

-- The log's bytes spelled what was found, at the place that the edit found names, under the id that was asked for where it had none. A
-- crash leaves the history that is left in the log, at the place that the last edit names, acknowledged, or it and the record that the
-- log failed to take, whole, of a version that is read. The log failed once at most, or a renewal stopped it behind a fault of the
-- tables; and so did the tables. Since before the store was opened the log's count of faults has risen just where the log failed, and
-- one of the tables' two just where these did. As long as the log is in the segment that was found, what was acknowledged there stays.
pub record IsStored (disks : DisksUse) (asked id : ℕ) (found left : StoredState) (failed : Untaken) (faults : Faults) : Type 0 where
  pub made : IfKnown disks.log.before (λ m. IsUnmadeAt found.edit.segment.place m.reads → id ≡ asked)
  pub spelled : IfKnown disks.log.before (λ m. IsLogAt id found.edit.segment.place (named_cut found) m.reads)
  pub stored : IfKnown disks.log.after (LeavesCutOrNext id left.edit.segment.place (named_cut left) failed.entries)
  pub durable : left.edit.segment ≡ found.edit.segment → LosesNothingAt found.edit.segment.place disks.log.before disks.log.after
  pub unfailed : faults.log ≡ 0 → failed.entries ≡ []
  pub whole : (failed.entries ≡ []) ⊎ ((format : Format) × IsUpTo NEWEST format × IsRecord format (length left.history + 1) failed.entries)
  pub once : faults.log + faults.renewals ≤ 1
  pub behind : faults.renewals ≤ faults.tables
  pub cause : 1 ≤ faults.log → Rose disks.log.faults_before disks.log.faults_after
  pub uncaused : faults.log ≡ 0 → disks.log.faults_after ≡ disks.log.faults_before
  pub tables_once : faults.tables ≤ 1
  pub tables_cause : 1 ≤ faults.tables → Rose disks.manifest.faults_before disks.manifest.faults_after ⊎ Rose disks.tables.faults_before disks.tables.faults_after
  pub tables_uncaused : faults.tables ≡ 0 → (disks.manifest.faults_after ≡ disks.manifest.faults_before) × (disks.tables.faults_after ≡ disks.tables.faults_before)

-- So many replies tell a fault of the log, and of the tables, and so many stop the log; one that tells of an earlier fault comes only
-- where there was one. The last edit is what the replies say.
pub record AreMet (found left : InstalledEdit) (faults : Faults) (run : List Part) (sessions : List (List Reply)) : Type 0 where
  pub log_failed : count_by is_fault (all_replies sessions) ≡ faults.log
  pub log_stopped : count_by is_stop (all_exchanges run sessions) ≡ faults.log + faults.renewals
  pub stopped : list_any is_stopped (all_replies sessions) ≡ true → 1 ≤ faults.log + faults.renewals
  pub tables_failed : count_by is_tables_fault (all_replies sessions) ≡ faults.tables
  pub halted : list_any is_halted (all_replies sessions) ≡ true → 1 ≤ faults.tables
  pub edit : IsLastEdit found left (all_replies sessions)
