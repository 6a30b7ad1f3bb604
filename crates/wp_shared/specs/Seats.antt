-- A shared store and a seat at it, as clauses see them.
use Rattle.std.specs.Prelude.{◌≡◌, ℕ, true, List, [], ◌∷◌}
use Rattle.atomic_table.specs.Seated.{TableId}
use Rattle.wp_model.specs.declared.entry.Entry.{Entry}
use Rattle.wp_core.specs.States.{Content}
use Rattle.wp_core.specs.World.{Actor, Participant, World}
use Rattle.wp_rule.specs.Words.{SharedWords, Place, place_of, IsAt}
use Rattle.wp_parts.specs.declared.turn_value.TurnValue.{TurnValue}
use Rattle.wp_parts.specs.declared.turn_value.TurnValue.TheVariants as part
use Rattle.wp_parts.specs.Parts.{content}

-- The store: which table it is, the history that was opened, how many words its cache has, the values behind the turns as
-- they were handed in, and the greatest number that an entry may get.
pub record SharedState (D : Type 0) : Type 0 where
  pub table : TableId
  pub opened : List Entry
  pub cells : ℕ
  pub first : List (TurnValue D)
  pub limit : ℕ

-- a seat: at which table, its number there, what it knows, and which turns it holds, the one taken last first
pub record SeatState : Type 0 where
  pub table : TableId
  pub by : ℕ
  pub knows : Actor
  pub turns : List ℕ

-- who it is: what it has seen, had and done
abbrev pub participant_of : SeatState → Participant
participant_of s = s.knows.participant

-- what it has seen of the history
abbrev pub seen_by : SeatState → List Entry
seen_by s = s.knows.participant.seen

-- the states of the turns that it holds
abbrev pub held_by : SeatState → List Content
held_by s = s.knows.held

-- between calls each slot of a turn that is held has what stands in for its value
abbrev pub AllAway : {D : Type 0} → List (ℕ × TurnValue D) → Type 0
AllAway [] = Unit {0}
AllAway (c ∷ cs) = (c.1 ≡ part.Away) × AllAway cs

abbrev pub turns_of : {D : Type 0} → List (ℕ × TurnValue D) → List ℕ
turns_of [] = []
turns_of (c ∷ cs) = c.0 ∷ turns_of cs

-- a live seat at the table, which holds no turn
pub record IsFree (table : TableId) (s : SeatState) : Type 0 where
  pub same_table : s.table ≡ table
  pub live : s.knows.live ≡ true
  pub turns : s.turns ≡ []
  pub held : s.knows.held ≡ []

-- its words
abbrev pub words_in : {D : Type 0} → SharedState D → SharedWords (TurnValue D)
words_in z = record { table = z.table; opened = z.opened; cells = z.cells; first = z.first }

-- the seat's place
abbrev pub place_at : {D : Type 0} → SharedState D → ℕ → Place
place_at z by = place_of content (words_in z) by

-- a reached world of the store in which the seat's actor is what it knows
abbrev pub Stands : {D : Type 0} → SharedState D → SeatState → World → Type 0
Stands z s w = IsAt (place_at z s.by) s.knows w

-- a note: what its giver had seen
pub record NoteState : Type 0 where
  pub table : TableId
  pub seen : List Entry

abbrev pub seen_in : List Actor → List Entry
seen_in [] = []
seen_in (a ∷ others) = a.participant.seen

abbrev pub client_in : List Actor → List ℕ
client_in [] = []
client_in (a ∷ others) = a.participant.client
