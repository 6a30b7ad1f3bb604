-- A history may go to another thread: the versions of its tables are noted alone.
use denote.Param.{number}
use denote.Param.Send.{IsSend, view_send, recorded_send, struct_send, plain_send, sendable}
use denote.Struct.Declared.{shape}
use Rattle.std.proofs.Crossing.{crosses, Vec-send}
use Rattle.std.proofs.MapsCrossing.{BTreeMap-send}
use Rattle.wp_model.proofs.carried.Carried.TheSendSync as carried
use Rattle.wp_model.proofs.entry.Entry.TheSendSync as entry
use Rattle.wp_model.proofs.word.Word.TheSendSync as word
use Rattle.wp_model.specs.contracts.word.WordPartialEq.TheImpl as eq
use Rattle.wp_model.specs.contracts.word.WordPartialOrd.TheImpl as partial
use Rattle.wp_history.proofs.last_changes.LastChanges.TheSendSync as changes
use Rattle.wp_history.specs.contracts.outline.Outline as Outline
use Rattle.wp_history.specs.contracts.outline.Outline.TheInside as OutlineInside
use Rattle.wp_history.specs.contracts.numbers.Numbers as Numbers
use Rattle.wp_history.specs.contracts.numbers.Numbers.TheInside as NumbersInside
use Rattle.wp_history.specs.contracts.history.History as History
use Rattle.wp_history.specs.contracts.history.History.TheInside as HistoryInside

numbers_send : IsSend Numbers.the_row
numbers_send =
    view_send NumbersInside.the_row _ _ _ _
    (recorded_send (NumbersInside.the_field).row _ _ (NumbersInside.the_type).to_one
    (struct_send (shape NumbersInside.the_type) (search crosses, (plain_send _ _ _ _ _, tt))))

outline_send : IsSend Outline.the_row
outline_send =
    view_send OutlineInside.the_row _ _ _ _
    (recorded_send (OutlineInside.the_field).row _ _ (OutlineInside.the_type).to_one
    (struct_send (shape OutlineInside.the_type) (plain_send _ _ _ _ _, (Vec-send _ carried.the_send, (Vec-send _ entry.the_send, (numbers_send, (plain_send _ _ _ _ _, (search crosses, tt))))))))

pub history_send : IsSend History.the_row
history_send =
    view_send HistoryInside.the_row _ _ _ _
    (recorded_send (HistoryInside.the_field).row _ _ (HistoryInside.the_type).to_one
    (struct_send (shape HistoryInside.the_type) (outline_send, (BTreeMap-send _ _ _ (eq.ghosts (number 64)) (partial.ghosts (number 64)) (word.the_send (number 64)) (word.the_send (number 256)), (search (sendable, changes.the_send), tt)))))
