-- From what a store was opened.
use Rattle.std.specs.Prelude.{◌≡◌, ◌<◌, ◌≤◌, ◌^◌, List, length, take, None, Some}
use Rattle.wp_model.specs.declared.entry.Entry.{Entry}
use Rattle.wp_model.specs.Flushed.{InstalledEdit}
use Rattle.wp_model.specs.Legal.{undone_last}
use Rattle.wp_tableset.specs.Set.{TableSetState}
use Rattle.wp_wal.specs.Wal.{WalState}
use Rattle.wp_parts.specs.declared.turn_value.TurnValue.{TurnValue}
use Rattle.wp_rule.specs.Shows.{WasLast}
use Rattle.wp_parts.specs.Parts.{content, log_first, set_first}

-- The values behind the turns were those of one store: its log, and its tables under the log's id, whose last edit names the log's
-- segment. Its base is within the history that was opened, and there is no undo.
pub record IsOneStore {D : Type 0} (opened : List Entry) (first : List (TurnValue D)) : Type 0 where
  pub wal : WalState
  pub set : TableSetState
  pub log : log_first first ≡ Some wal
  pub tables : set_first first ≡ Some set
  pub id : set.manifest.log.id ≡ wal.id
  pub id_fits : wal.id < 2 ^ 32
  pub edit : InstalledEdit
  pub last : WasLast content first edit
  pub segment : edit.segment ≡ wal.segment
  pub based : edit.segment.base ≤ length opened
  pub whole : undone_last (take edit.segment.base opened) ≡ None
