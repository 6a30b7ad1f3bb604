-- What lies behind the turns may go to another thread where its devices may: what is noted of their opening owns nothing.
use denote.RattleType.{RattleType}
use denote.Enum.Declared as E
use denote.Param.Send.{IsSend, view_send, recorded_send, struct_send, enum_send, plain_send, sendable}
use denote.Struct.Declared.{shape}
use Rattle.std.proofs.Crossing.{crosses, Box-send, Vec-send}
use Rattle.std.proofs.alloc.Global.TheSendSync as heap
use Rattle.wp_outside.specs.declared.disk.Peek.{Ghosts}
use Rattle.wp_model.proofs.entry.Entry.TheSendSync as entry
use Rattle.wp_model.proofs.segment.Segment.TheSendSync as segment
use Rattle.wp_history.proofs.Sent.{history_send}
use Rattle.wp_wal.proofs.wal.Wal.TheSendSync as wal
use Rattle.wp_tableset.proofs.gone.Gone.TheSendSync as gone
use Rattle.wp_tableset.proofs.set.TableSet.TheSendSync as set
use Rattle.wp_prepared.proofs.prepared.Prepared.TheSendSync as prepared
use Rattle.wp_snaps.proofs.snaps.Snaps.TheSendSync as snaps
use Rattle.wp_locks.proofs.locks.Locks.TheSendSync as locks
use Rattle.wp_parts.proofs.stock.Stock.TheSendSync as stock
use Rattle.wp_parts.specs.contracts.log.Log as Log
use Rattle.wp_parts.specs.contracts.log.Log.TheInside as LogInside
use Rattle.wp_parts.specs.contracts.edits.VersionSet as VersionSet
use Rattle.wp_parts.specs.contracts.edits.VersionSet.TheInside as EditsInside
use Rattle.wp_parts.specs.contracts.edits.FailedInstall as FailedInstall
use Rattle.wp_parts.specs.contracts.table_versions.TableVersions as TableVersions
use Rattle.wp_parts.specs.contracts.table_versions.TableVersions.TheInside as VersionsInside
use Rattle.wp_parts.specs.contracts.turn_value.TurnValue as TurnValue

pub log_send : (D : RattleType) (g : Ghosts D.Denot) → IsSend D → IsSend (Log.the_row D g)
log_send D g d =
    view_send (LogInside.the_row D g) _ _ _ _
    (recorded_send (LogInside.the_field D g).row _ _ (LogInside.the_type D g).to_one
    (struct_send (shape (LogInside.the_type D g)) (heap.the_field_send, (wal.the_send D g d, (history_send, (Vec-send _ entry.the_send, (plain_send _ _ _ _ _, (plain_send _ _ _ _ _, (plain_send _ _ _ _ _, (search crosses, (search (sendable, segment.the_send), (search crosses, tt))))))))))))

versions_send : IsSend TableVersions.the_row
versions_send =
    view_send VersionsInside.the_row _ _ _ _
    (recorded_send (VersionsInside.the_field).row _ _ (VersionsInside.the_type).to_one (struct_send (shape VersionsInside.the_type) (search crosses, tt)))

failed_send : IsSend FailedInstall.the_row
failed_send =
    recorded_send (FailedInstall.the_field).row _ _ (FailedInstall.the_type).to_one (struct_send (shape FailedInstall.the_type) (segment.the_field_send, (plain_send _ _ _ _ _, (gone.the_field_send, (Vec-send _ versions_send, tt)))))

pub edits_send : (D : RattleType) (g : Ghosts D.Denot) → IsSend D → IsSend (VersionSet.the_row D g)
edits_send D g d =
    view_send (EditsInside.the_row D g) _ _ _ _
    (recorded_send (EditsInside.the_field D g).row _ _ (EditsInside.the_type D g).to_one
    (struct_send (shape (EditsInside.the_type D g)) (heap.the_field_send, (set.the_send D g d, (plain_send _ _ _ _ _, (Vec-send _ versions_send, (search (sendable, failed_send), (search crosses, tt))))))))

pub part_send : (D : RattleType) (g : Ghosts D.Denot) → IsSend D → IsSend (TurnValue.the_row D g)
part_send D g d =
    recorded_send (TurnValue.the_field D g).row _ _ (TurnValue.the_type D g).to_one
    (enum_send (E.shape (TurnValue.the_type D g)) (tt, ((Box-send _ (log_send D g d), tt), ((Box-send _ prepared.the_send, tt), ((Box-send _ snaps.the_send, tt), ((Box-send _ stock.the_send, tt), ((Box-send _ locks.the_send, tt), ((Box-send _ (edits_send D g d), tt), tt))))))))
