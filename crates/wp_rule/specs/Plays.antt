-- What each kind of atomic step tells the seat that makes it.
use Rattle.std.specs.Prelude.{◌≡◌, ◌≢◌, ◌⊎◌, ℕ, List, [], ◌∷◌, ◌++◌, map, reverse, slice_index, Option, None}
use Rattle.atomic_table.specs.Table.{Me, Step, rest}
use Rattle.wp_core.specs.Turns.{Turn, write_turn, prepared_turn, snapshots_turn, tables_turn, turn_holder}
use Rattle.wp_core.specs.Changes.{turn_index}
use Rattle.wp_core.specs.Conditions.{MayGive}
use Rattle.wp_core.specs.Lists.{IsIn}
use Rattle.wp_core.specs.States.{Content, turn_of}
use Rattle.wp_core.specs.Views.{Fact, words_stay, delayed_flag_stays, old_flag_stays, tables_stay, nothing_flushed}
use Rattle.wp_core.specs.World.{Actor, World, content_of}
use Rattle.wp_core.specs.Steps.{take_turn, give_turn, note}
use Rattle.wp_core.specs.Steps as machine
use Rattle.wp_rule.specs.Words.{Place, IsAt, words_of}
use Rattle.wp_rule.specs.Moves.{MayStep, Moved}
use Rattle.wp_rule.specs.Shows.{IsPart}

-- ---- a turn that was found free

-- What it guards besides its state: bound and words, a flag, or which versions are in tables, and that no flushed one is in memory.
-- What is noted last stands first.
abbrev pub facts_at : Turn → World → List Fact
facts_at write_turn w = words_stay w.max_evicted w.cache ∷ []
facts_at prepared_turn w = delayed_flag_stays w.delayed_flag ∷ []
facts_at snapshots_turn w = old_flag_stays w.old_flag ∷ []
facts_at tables_turn w = nothing_flushed ∷ tables_stay w.store.tables w.store.floor ∷ []
facts_at other w = []

-- it is taken, and these are noted
abbrev pub taking : Turn → World → List machine.Step
taking turn w = take_turn turn ∷ map note (reverse (facts_at turn w))

-- the actor then: it has the state, and has noted these
abbrev pub with_turn : Turn → World → Actor → Actor
with_turn turn w a = record a { held = content_of w turn ∷ a.held; notes = facts_at turn w ++ a.notes }

-- ---- loads and stores

module _ {S : Type 0} (p : Place) where
  -- the steps were made, in a world that has the word that was found
  abbrev pub loads : (World → List machine.Step) → Step S → Me S Actor → ℕ → Me S Actor → Type 0
  loads steps st m found m' = (m'.1 ≡ m.1) × Moved p steps (λ w. found ≡ slice_index (words_of w) st.word) m.0 m'.0

  -- the steps were made
  abbrev pub stores : (World → List machine.Step) → Step S → Me S Actor → ℕ → Me S Actor → Type 0
  stores steps st m stored m' = (m'.1 ≡ m.1) × Moved p steps (λ w. Unit {0}) m.0 m'.0

  -- the turn was given, with the value that lay in its slot
  abbrev pub unclaims : Turn → Step S → Me S Actor → ℕ → Me S Actor → Type 0
  unclaims turn st m stored m' = (m'.1 ≡ rest m.1) × Moved p (λ w. give_turn turn ∷ []) (λ w. Unit {0}) m.0 m'.0

-- ---- turns

module _ {S : Type 0} (content : S → Option Content) (tells : S → Type 0) where
  -- the value is the turn's state as its holder left that at its last step
  pub record IsLeft (turn : Turn) (a : Actor) (value : S) : Type 0 where
    pub state : Content
    pub held : IsIn state a.held
    pub of_turn : turn_of state ≡ turn
    pub is_part : IsPart content tells value state

  -- the value may lie in the slot of a turn that is held: it stands in for one that is out, or it is the state as it was left
  abbrev pub MayLie : Turn → Actor → S → Type 0
  MayLie turn a value = (content value ≡ None) ⊎ IsLeft turn a value

  module _ (p : Place) where
    -- The turn may be given: it was taken last, and the value in its slot is its state as it was left.
    pub record MayUnclaim (turn : Turn) (m : Me S Actor) : Type 0 where
      pub value : S
      pub last_taken : m.1 ≡ (turn_index turn, value) ∷ rest m.1
      pub left : IsLeft turn m.0 value
      pub may : MayStep p m.0 (give_turn turn)

    -- The turn was free, with its state behind it, and all was so as it has to be to give it: so it may be given at once.
    pub record Claimed (turn : Turn) (m m' : Me S Actor) : Type 0 where
      pub value : S
      pub moved : Moved p (taking turn) (λ w. (turn_holder w.holders turn ≡ None) × IsPart content tells value (content_of w turn) × MayGive w turn) m.0 m'.0
      pub after : m' ≡ (with_turn turn moved.world m.0, (turn_index turn, value) ∷ m.1)
      pub back : MayUnclaim turn m'

    -- the turn was found held
    pub record WasHeld (turn : Turn) (m m' : Me S Actor) : Type 0 where
      pub same : m' ≡ m
      pub world : World
      pub before : IsAt p m.0 world
      pub held : turn_holder world.holders turn ≢ None

    abbrev pub claims : Turn → Step S → Me S Actor → ℕ → Me S Actor → Type 0
    claims turn st m found m' = (found ≡ 0 → Claimed turn m m') × (found ≢ 0 → WasHeld turn m m')
