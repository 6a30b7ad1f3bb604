-- The store may be shared by threads, and seats and notes may go to any, where the devices may.
use denote.RattleType.{RattleType}
use denote.Param.{number}
use denote.Param.Send.{IsSend, IsSync, view_send, view_sync, recorded_send, recorded_sync, struct_send, struct_sync, plain_sync}
use denote.Struct.Declared.{shape}
use Rattle.wp_outside.specs.declared.disk.Disk as disk
use Rattle.wp_outside.specs.declared.disk.Peek.{Ghosts}
use Rattle.atomic_table.proofs.badge.Badge.TheSendSync as badge
use Rattle.atomic_table.proofs.shared.Seat.TheSendSync as table
use Rattle.wp_model.proofs.word.Word.TheSendSync as word
use Rattle.wp_rule.proofs.words.Words.TheSendSync as words
use Rattle.wp_parts.specs.contracts.turn_value.TurnValue as TurnValue
use Rattle.wp_parts.specs.contracts.turn_value.TurnValueHoldsPart.TheImpl.{ghosts, no_dict}
use Rattle.wp_parts.proofs.Sent.{part_send}
use Rattle.wp_shared.proofs.sleepers.Sleepers.TheSendSync as sleepers
use Rattle.wp_shared.specs.contracts.shared.Shared as Shared
use Rattle.wp_shared.specs.contracts.shared.Shared.TheInside as SharedInside
use Rattle.wp_shared.specs.contracts.seat.Seat as Seat
use Rattle.wp_shared.specs.contracts.seat.Seat.TheInside as SeatInside
use Rattle.wp_shared.specs.contracts.note.Note as Note
use Rattle.wp_shared.specs.contracts.note.Note.TheInside as NoteInside

pub shared_sync : (D : RattleType) (k : disk.Ghosts D.Denot) (g : Ghosts D.Denot) → IsSend D → IsSync (Shared.the_row D k g)
shared_sync D k g d =
    view_sync (SharedInside.the_row D k g) _ _ _ _
    (recorded_sync (SharedInside.the_field D k g).row _ _ (SharedInside.the_type D k g).to_one
    (struct_sync (shape (SharedInside.the_type D k g)) (words.the_sync (TurnValue.the_row D g) (ghosts D k no_dict g no_dict) (part_send D g d), (plain_sync _ _ _ _ _, (plain_sync _ _ _ _ _, (sleepers.the_field_sync, tt))))))

pub seat_send : (D : RattleType) (g : Ghosts D.Denot) → IsSend D → IsSend (Seat.the_row D g)
seat_send D g d =
    view_send (SeatInside.the_row D g) _ _ _ _
    (recorded_send (SeatInside.the_field D g).row _ _ (SeatInside.the_type D g).to_one
    (struct_send (shape (SeatInside.the_type D g)) (table.the_send _ _ (part_send D g d), (word.the_send (number 32), tt))))

pub note_send : IsSend Note.the_row
note_send = view_send NoteInside.the_row _ _ _ _ (recorded_send (NoteInside.the_field).row _ _ (NoteInside.the_type).to_one (struct_send (shape NoteInside.the_type) (badge.the_send _, tt)))
