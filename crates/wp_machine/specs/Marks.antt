-- What an actor noted and its steps have not ended.
use Rattle.std.specs.Prelude.{ℕ, List, [], ◌∷◌, length, not, filter, Option, Some, None}
use Rattle.wp_model.specs.declared.entry.Entry.{Entry}
use Rattle.wp_model.specs.LockState.{LockState}
use Rattle.wp_core.specs.World.{Participant}
use Rattle.wp_core.specs.States.{WriteState, StoreState}
use Rattle.wp_core.specs.Steps.{Step}
use Rattle.wp_core.specs.Views.{Fact}
use Rattle.wp_core.specs.Notes.{ends}
use Rattle.wp_machine.specs.Machine.{reader_step, word_step, turn_step, write_step, prepared_step, snapshots_step, store_step, tables_step, locks_step, own_step}
use Rattle.wp_machine.specs.declared.step.Kind.{Kind}
use Rattle.wp_machine.specs.declared.step.Kind.TheVariants as kind
use Rattle.wp_machine.specs.declared.marks.Mark.{Mark}
use Rattle.wp_machine.specs.declared.marks.Mark.TheVariants as mark

-- the step that this kind is for an actor that makes and joins none
abbrev pub apart_step : WriteState → StoreState → LockState → Participant → Kind → Option Step
apart_step d t l p (kind.Reader k) = reader_step p k
apart_step d t l p (kind.Word k) = word_step d k
apart_step d t l p (kind.Turn k) = turn_step k
apart_step d t l p (kind.Write k) = write_step k
apart_step d t l p (kind.Prepared k) = prepared_step k
apart_step d t l p (kind.Snapshots k) = snapshots_step p k
apart_step d t l p (kind.Store k) = store_step d t k
apart_step d t l p (kind.Tables k) = tables_step k
apart_step d t l p (kind.Locks k) = locks_step l p k
apart_step d t l p (kind.Own k) = own_step p k
apart_step d t l p (kind.Actors k) = None

-- what the step leaves of the notes, with this history and so many words
abbrev pub left_by : Option Step → List Entry → ℕ → List Fact → List Fact
left_by None history words notes = notes
left_by (Some step) history words notes = filter (λ fact. not (ends history words step fact)) notes

-- what the marks leave noted: the newest mark comes first
abbrev pub notes_of : List Mark → List Fact
notes_of [] = []
notes_of (mark.Noted fact ∷ before) = fact.value ∷ notes_of before
notes_of (mark.Made writes store locks cache participant kind ∷ before) = left_by (apart_step writes.value store.value locks.value participant.value kind.value) writes.value.history (length cache.value) (notes_of before)
