use Rattle.std.proofs.Common.{take}
use Rattle.wp_txn.specs.Recording.{notes_of_each, NotesMore}
use Rattle.wp_txn.proofs.recording.note_decided.Given as goal

abbrev pub invariant-loop-txn : goal.invariant-loop-txn
invariant-loop-txn g l = NotesMore l.fn.seat (notes_of_each (take l.txn-index l.txns)) l.seat
