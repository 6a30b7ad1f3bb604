-- What a seat may do in one atomic step of the table: steps of the machine by its own actor, one after another.
use Rattle.std.specs.Prelude.{◌≡◌, ℕ, suc, List, [], ◌∷◌, length, slice_set, unwrap_or, false, Option, Some, None}
use Rattle.wp_model.specs.declared.entry.Entry.{Entry}
use Rattle.wp_model.specs.History.{named}
use Rattle.wp_judge.specs.Words.{CommitPair}
use Rattle.wp_core.specs.Cache.{with_pair}
use Rattle.wp_core.specs.Lists.{IsIn}
use Rattle.wp_core.specs.States.{WriteState, writes}
use Rattle.wp_core.specs.Turns.{Turn, turn_holder}
use Rattle.wp_core.specs.Views.{Fact, words_stay, undecided_at}
use Rattle.wp_core.specs.World.{Actor, World, content_of}
use Rattle.wp_core.specs.Steps.{Step, load_published, store_published, store_max_evicted, store_word, store_delayed_flag, store_old_flag, take_turn, give_turn, take_name, note, make_note, make_seat, learn, join_seat}
use Rattle.wp_core.specs.Effects.{done}
use Rattle.wp_core.specs.Needs.{Needs}
use Rattle.wp_core.specs.Notes.{ends, forgets}
use Rattle.wp_core.specs.Runs.{Reaches}
use Rattle.wp_rule.specs.Words.{Place, IsAt, words_of}

-- ---- steps of one actor

-- the world once the actor with this number made the step
abbrev pub world_after_step : World → ℕ → Actor → Step → World
world_after_step w by a step = done w by (forgets w.writes.history (length w.cache) step a) step

-- the first of these, or this one where there is none
abbrev pub first_of : List Actor → Actor → Actor
first_of [] a = a
first_of (b ∷ others) a = b

-- The actor once it made the step. That depends on no other actor, so it is what the step leaves where it is the only one.
abbrev pub actor_after_step : World → Actor → Step → Actor
actor_after_step w a step = first_of (world_after_step (record w { actors = a ∷ [] }) 0 a step).actors a

-- the needs of the steps are met, of each once those before it were made
abbrev pub AreMet : List Step → World → ℕ → Actor → Type 0
AreMet [] w by a = Unit {0}
AreMet (step ∷ steps) w by a = Needs w by a step × AreMet steps (world_after_step w by a step) by (actor_after_step w a step)

-- the world once all were made
abbrev pub world_after : List Step → World → ℕ → Actor → World
world_after [] w by a = w
world_after (step ∷ steps) w by a = world_after steps (world_after_step w by a step) by (actor_after_step w a step)

-- the actor once it made them all
abbrev pub actor_after : List Step → World → ℕ → Actor → Actor
actor_after [] w by a = a
actor_after (step ∷ steps) w by a = actor_after steps (world_after_step w by a step) by (actor_after_step w a step)

-- the step takes in another actor
abbrev pub TakesIn : Step → Type 0
TakesIn (learn other b) = Unit {0}
TakesIn (join_seat other b) = Unit {0}
TakesIn other = ⊥

-- the fact, if it was noted, outlasts the steps: none of them ends it
abbrev pub Outlasts : Fact → List Step → World → ℕ → Actor → Type 0
Outlasts fact [] w by a = Unit {0}
Outlasts fact (step ∷ steps) w by a = (TakesIn step → ⊥) × (ends w.writes.history (length w.cache) step fact ≡ false) × Outlasts fact steps (world_after_step w by a step) by (actor_after_step w a step)

-- The step changes no word, no turn and no other actor: it may be made beside any load.
abbrev pub IsQuiet : Step → Type 0
IsQuiet (store_published entry others) = ⊥
IsQuiet (store_max_evicted m) = ⊥
IsQuiet (store_word pair) = ⊥
IsQuiet (store_delayed_flag value) = ⊥
IsQuiet (store_old_flag value) = ⊥
IsQuiet (take_turn turn) = ⊥
IsQuiet (give_turn turn) = ⊥
IsQuiet make_note = ⊥
IsQuiet make_seat = ⊥
IsQuiet (learn other b) = ⊥
IsQuiet (join_seat other b) = ⊥
IsQuiet other = Unit {0}

-- each of them may be
abbrev pub AreQuiet : List Step → Type 0
AreQuiet [] = Unit {0}
AreQuiet (step ∷ steps) = IsQuiet step × AreQuiet steps

-- ---- what a seat may do, whichever world of the words it is in

-- the needs of one step are met
abbrev pub MayStep : Place → Actor → Step → Type 0
MayStep p a step = (w : World) → IsAt p a w → Needs w p.by a step

-- the steps, which may depend on the world, may be made beside a load
abbrev pub MayMake : Place → Actor → (World → List Step) → Type 0
MayMake p a steps = (w : World) → IsAt p a w → AreQuiet (steps w) × AreMet (steps w) w p.by a

-- What steps leave of a world: these words, the turns as they were, each free turn's state as it was, and no other actor
-- changed than their own, which is now this one.
pub record Leave (by : ℕ) (w : World) (words : List ℕ) (last : World) (b : Actor) : Type 0 where
  pub words_are : words_of last ≡ words
  pub opened : last.opened ≡ w.opened
  pub first_edit : last.first_edit ≡ w.first_edit
  pub cells : length last.cache ≡ length w.cache
  pub holders : last.holders ≡ w.holders
  pub contents : (turn : Turn) → turn_holder w.holders turn ≡ None → content_of last turn ≡ content_of w turn
  pub actors : last.actors ≡ slice_set w.actors by b

-- in this world the needs of the steps are met, and they lead to these words
abbrev pub LeadTo : Place → Actor → World → List Step → List ℕ → Type 0
LeadTo p a w steps words = AreMet steps w p.by a × Reaches (world_after steps w p.by a) × Leave p.by w words (world_after steps w p.by a) (actor_after steps w p.by a)

-- the steps may be made at a store of n into this word
abbrev pub MayStore : Place → Actor → (World → List Step) → ℕ → ℕ → Type 0
MayStore p a steps word n = (w : World) → IsAt p a w → LeadTo p a w (steps w) (slice_set (words_of w) word n)

-- ---- what it did

-- The seat was in a world, in which this was so, as the one actor. It made these steps, and was the other actor then.
pub record Moved (p : Place) (steps : World → List Step) (so : World → Type 0) (a b : Actor) : Type 0 where
  pub world : World
  pub before : IsAt p a world
  pub met : AreMet (steps world) world p.by a
  pub after : IsAt p b (world_after (steps world) world p.by a)
  pub actor : b ≡ actor_after (steps world) world p.by a
  pub so_is : so world

-- ---- stores, and what they note

-- the bound, and that it stays with the words of the cache
abbrev pub storing_max : ℕ → World → List Step
storing_max m w = store_max_evicted m ∷ note (words_stay m w.cache) ∷ []

-- a pair's word, and that the bound stays with the words of the cache
abbrev pub storing_word : CommitPair → World → List Step
storing_word pair w = store_word pair ∷ note (words_stay w.max_evicted (with_pair w.cache pair)) ∷ []

-- the pair that a word is, if it is one
abbrev pub storing : Option CommitPair → World → List Step
storing None w = []
storing (Some pair) w = storing_word pair w

-- the first of the pending entries is published
abbrev pub publishing : List Entry → List Step
publishing [] = []
publishing (entry ∷ others) = store_published entry others ∷ []

-- ---- a prepare that nobody has

-- The published number is loaded, and the prepare with this name is taken, under the number that the history has it: it is
-- noted as undecided.
abbrev pub taking_name : List ℕ → World → List Step
taking_name name w = let p = unwrap_or (named w.writes.history name) 0 in load_published ∷ take_name name p ∷ note (undecided_at name p) ∷ []

-- The first of the pending entries may be published as this number: the view has the state of the write turn, in which it is
-- the first, and the number is the next.
pub record MayPublishAs (p : Place) (a : Actor) (number : ℕ) : Type 0 where
  pub state : WriteState
  pub entry : Entry
  pub others : List Entry
  pub held : IsIn (writes state) a.held
  pub pending : state.pending ≡ entry ∷ others
  pub number_is : number ≡ suc (length state.history)
  pub may : MayStep p a (store_published entry others)
