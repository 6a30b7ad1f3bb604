-- The rule: the table shows a world that steps of the machine reach.
use Rattle.std.specs.Prelude.{◌≡◌, ◌≢◌, ℕ, true, false, List, [], ◌∷◌, length, Option, Some, None}
use mathlib.Core.Option.{some, none}
use mathlib.Core.Option as maybe
use lib.ListN.{get_elem?}
use Rattle.atomic_table.specs.Table.{State}
use Rattle.wp_model.specs.declared.entry.Entry.{Entry}
use Rattle.wp_core.specs.Lists.{EachAt}
use Rattle.wp_core.specs.Turns.{Turn, turn_holder}
use Rattle.wp_core.specs.Changes.{turn_index}
use Rattle.wp_core.specs.States.{Content}
use Rattle.wp_model.specs.Flushed.{InstalledEdit}
use Rattle.wp_core.specs.World.{Actor, World, new_actor, content_of}
use Rattle.wp_core.specs.Runs.{IsOpening, Reaches}
use Rattle.wp_core.specs.Sound.Actors.{IsIdle}
use Rattle.wp_core.specs.IsSound.{IsSound}
use Rattle.wp_rule.specs.Words.{words_of, first_edit_of, Place, IsAt}

-- the actor is not live, did nothing and has nothing, and took in nobody
abbrev pub DidNothing : Actor → Type 0
DidNothing a = (a.live ≡ false) × IsIdle a × (a.joined ≡ [])

-- as the table was made, of these values, the last edit of the tables' value was this one
abbrev pub WasLast : {S : Type 0} → (S → Option Content) → List S → InstalledEdit → Type 0
WasLast content first edit = first_edit_of content first ≡ Some edit

module _ {S : Type 0} (content : S → Option Content) (tells : S → Type 0) where
  -- the value stands for the state, and its devices tell what they should
  abbrev pub IsPart : S → Content → Type 0
  IsPart x c = (content x ≡ Some c) × tells x

  -- behind a free turn the value is home and stands for the turn's state; behind a held one it is out
  abbrev pub Rests : Option ℕ → Content → maybe.Option (maybe.Option S) → Type 0
  Rests None c home = (x : S) × (home ≡ some (some x)) × IsPart x c
  Rests (Some by) c home = home ≡ some none

  -- the run that led to the world is part of it, so that each change of the table has to be steps of the machine
  pub record Shows (first : List S) (opened : List Entry) (cells : ℕ) (s : State S Actor) : Type 0 where
    pub world : World
    pub reached : Reaches world
    pub opened_is : world.opened ≡ opened
    pub cells_are : length world.cache ≡ cells
    pub first_edit : WasLast content first world.first_edit
    pub words : s.words ≡ words_of world
    pub deep : length s.homes ≡ 6
    pub rests : (turn : Turn) → Rests (turn_holder world.holders turn) (content_of world turn) (get_elem? s.homes (turn_index turn))
    pub views : s.views ≡ world.actors

  -- the slots in the order of the turns, each with the state of an opening world
  pub record Founds (client : List ℕ) (opened : List Entry) (cells delayed_flag : ℕ) (slots : List S) : Type 0 where
    pub world : World
    pub opening : IsOpening world
    pub opened_is : world.opened ≡ opened
    pub cells_are : length world.cache ≡ cells
    pub flag_is : world.delayed_flag ≡ delayed_flag
    pub actors_are : world.actors ≡ new_actor true client opened ∷ []
    pub deep : length slots ≡ 6
    pub parts : (turn : Turn) → (x : S) × (get_elem? slots (turn_index turn) ≡ some x) × IsPart x (content_of world turn)

  -- What the closed table leaves: the world that it showed at the end, in which no turn is held, and behind each turn its
  -- state. Nobody did anything but the participants of the first seat: the world is sound with that seat as its only actor.
  pub record Leaves (first : List S) (p : Place) (a : Actor) (parts : Turn → S) : Type 0 where
    pub world : World
    pub before : IsAt p a world
    pub first_edit : WasLast content first world.first_edit
    pub free : (turn : Turn) → turn_holder world.holders turn ≡ None
    pub are_parts : (turn : Turn) → IsPart (parts turn) (content_of world turn)
    pub others : EachAt (λ j b. j ≢ 0 → DidNothing b) world.actors
    pub alone : IsSound (record world { actors = a ∷ [] })
