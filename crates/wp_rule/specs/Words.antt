-- The words of a world, in their order, and which world may stand behind a seat.
use Rattle.std.specs.Prelude.{◌≡◌, ℕ, ◌+◌, ◌*◌, ◌<◌, slice_index, List, [], ◌∷◌, ◌++◌, length, Option, Some, None}
use mathlib.Core.Option.{some, none}
use mathlib.Core.Option as maybe
use lib.ListN.{get_elem?}
use Rattle.atomic_table.specs.Seated.{TableId}
use Rattle.wp_model.specs.declared.entry.Entry.{Entry}
use Rattle.wp_model.specs.Flushed.{InstalledEdit}
use Rattle.wp_core.specs.Turns.{Turn, Holders}
use Rattle.wp_core.specs.States.{Content, installed}
use Rattle.wp_core.specs.Changes.{turn_index}
use Rattle.wp_core.specs.World.{Actor, World}
use Rattle.wp_core.specs.Runs.{Reaches}
use Rattle.wp_rule.specs.declared.opening.Opening.{Opening}
use Rattle.wp_rule.specs.declared.word.Word.{Word}
use Rattle.wp_rule.specs.declared.word.Word.TheVariants.{Max, Cell, DelayedFlag, OldFlag}

-- 1 while somebody holds the turn
abbrev pub turn_word : Option ℕ → ℕ
turn_word None = 0
turn_word (Some by) = 1

-- the words of the six, in their order
abbrev pub turn_words : Holders → List ℕ
turn_words h = turn_word h.write ∷ turn_word h.prepared ∷ turn_word h.snapshots ∷ turn_word h.store ∷ turn_word h.locks ∷ turn_word h.tables ∷ []

-- Each with seven words behind it that stay 0. Eight words are a line of a processor's memory, which is handed from one processor
-- to another as a whole: so who takes a turn does not slow who takes another, or who loads the words before them.
abbrev pub lines_of : List ℕ → List ℕ
lines_of [] = []
lines_of (x ∷ xs) = x ∷ 0 ∷ 0 ∷ 0 ∷ 0 ∷ 0 ∷ 0 ∷ 0 ∷ lines_of xs

-- the published number, the bound, the delayed flag and the old-map flag, in one line; the six turns, in one each; and then the cache
abbrev pub words_of : World → List ℕ
words_of w = length w.writes.history ∷ w.max_evicted ∷ w.delayed_flag ∷ w.old_flag ∷ 0 ∷ 0 ∷ 0 ∷ 0 ∷ (lines_of (turn_words w.holders) ++ w.cache)

-- the place of a turn's word
abbrev pub turn_place : Turn → ℕ
turn_place turn = 8 * turn_index turn + 8

-- the place of a word that is loaded beside the published number
abbrev pub word_place : Word → ℕ
word_place Max = 1
word_place (Cell i) = 56 + i
word_place DelayedFlag = 2
word_place OldFlag = 3

-- it is a word of a table in which so many are the cache's
abbrev pub IsWordOf : ℕ → Word → Type 0
IsWordOf cells (Cell i) = i < cells
IsWordOf cells other = Unit {0}

-- what a world has there
abbrev pub word_in : Word → World → ℕ
word_in Max w = w.max_evicted
word_in (Cell i) w = slice_index w.cache i
word_in DelayedFlag w = w.delayed_flag
word_in OldFlag w = w.old_flag

-- The shared words, as clauses see them: in which table they lie, the history that was opened, how many of them are the
-- cache's, and the values behind the turns as they were handed in.
pub record SharedWords (S : Type 0) : Type 0 where
  pub table : TableId
  pub opened : List Entry
  pub cells : ℕ
  pub first : List S

-- those of a table, by what its rule is told
abbrev pub shared_words : {S : Type 0} → TableId → Opening S → SharedWords S
shared_words table key = record { table = table; opened = key.entries.value.entries; cells = key.cells; first = key.first.value.items }

-- the last edit, where it is the state of the tables turn
abbrev pub last_edit_in : Option Content → Option InstalledEdit
last_edit_in (Some (installed t)) = Some t.last
last_edit_in other = None

abbrev pub last_edit_of : {S : Type 0} → (S → Option Content) → maybe.Option S → Option InstalledEdit
last_edit_of content none = None
last_edit_of content (some x) = last_edit_in (content x)

-- the last edit of the tables as the words were made, by the values behind the turns
abbrev pub first_edit_of : {S : Type 0} → (S → Option Content) → List S → Option InstalledEdit
first_edit_of content first = last_edit_of content (get_elem? first 5)

-- a seat of them, by its number
pub record Place : Type 0 where
  pub opened : List Entry
  pub cells : ℕ
  pub first_edit : Option InstalledEdit
  pub by : ℕ

-- the place of a seat with this number
abbrev pub place_of : {S : Type 0} → (S → Option Content) → SharedWords S → ℕ → Place
place_of content words by = record { opened = words.opened; cells = words.cells; first_edit = first_edit_of content words.first; by = by }

-- a reached world of these words, in which the seat's actor is this one
pub record IsAt (p : Place) (a : Actor) (w : World) : Type 0 where
  pub reached : Reaches w
  pub opened : w.opened ≡ p.opened
  pub cells : length w.cache ≡ p.cells
  pub first_edit : p.first_edit ≡ Some w.first_edit
  pub there : get_elem? w.actors p.by ≡ some a

-- the seat's actor is this one in a world in which so many entries are published, and it has seen them all
pub record SawAll (p : Place) (a : Actor) (published : ℕ) : Type 0 where
  pub world : World
  pub there : IsAt p a world
  pub number : published ≡ length world.writes.history
  pub seen : world.writes.history ≡ a.participant.seen
