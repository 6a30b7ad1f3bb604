use Rattle.std.proofs.Common.{◌<◌, List, [], ◌∷◌, length, take, subst, sym, ap, ◌∙◌, arith}
use Rattle.wp_core.specs.Views.{Fact, unprepared}
use Rattle.wp_shared.specs.Notes.{with_note, seat_of}
use Rattle.wp_open_txns.specs.Txn.{PreparedState}
use Rattle.wp_txn.specs.Recording.{NotesMore, notes_of_each}
use Rattle.wp_txn.proofs.Each.{mapped_next}
use Rattle.wp_txn.proofs.UnderLog.{one_noted, then_noted}
use Rattle.wp_txn.proofs.recording.note_decided.Goals as goal

pub loop-txn-preserved : goal.loop-txn-preserved
loop-txn-preserved g c =
    let s = c.args.seat.now in let t = c.loop-txn.seat in let u = c.note_unprepared.new.seat in let xs = c.args.txns.now in let i = c.loop-txn.txn-index in
    let x : PreparedState = c.txn-item.result in
    let lt : i < length xs = omega arith in
    let noted = c.note_unprepared.ensures ∙ ap (λ name. seat_of t (with_note (unprepared name) t.knows)) c.name.ensures in
    subst (λ (facts : List Fact). NotesMore s facts u) (sym (mapped_next (λ y. unprepared y.name) xs i x lt c.txn-item.is))
    (then_noted s t u (notes_of_each (take i xs)) (unprepared x.name ∷ []) c.loop-txn.invariant (one_noted t u (unprepared x.name) noted))
