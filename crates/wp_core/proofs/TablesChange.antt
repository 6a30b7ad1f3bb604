-- A step of who holds the tables turn: it changes what is installed, and the actor remembers it.
use Rattle.std.proofs.Common.{◌≡◌, inl, inr, ℕ, List, [], ◌∷◌, ◌++◌, length, map, set, refl}
use mathlib.Core.Option.{some}
use lib.ListN.{get_elem?}
use Rattle.wp_core.specs.Turns.{Holds, tables_turn}
use Rattle.wp_core.specs.States.{Content, Installed, installed}
use Rattle.wp_core.specs.Views.{Event, Fact}
use Rattle.wp_core.specs.World.{Actor, Participant, World, content_of, with_content}
use Rattle.wp_core.specs.World as world
use Rattle.wp_core.specs.Steps.{Step}
use Rattle.wp_core.specs.Changes.{change, held_with, remembers}
use Rattle.wp_core.specs.Notes.{forgets}
use Rattle.wp_core.specs.Sound.Actors.{participants_of}
use Rattle.wp_core.specs.Sound.Segments.{AreCoupled}
use Rattle.wp_core.specs.Sound.Store.{IsStored}
use Rattle.wp_core.specs.Sound.Pasts.{past_of, AreFaults, AreEdits}
use Rattle.wp_core.specs.Sound.Views.{IsSo}
use Rattle.wp_core.specs.IsSound.{IsSound}
use Rattle.wp_core.proofs.OwnersStay.{past_locked}
use Rattle.wp_core.proofs.Quiet.{idle_after, Stays}
use Rattle.wp_core.proofs.Remembers.{FindsNothing, TellsNothing, holders_still, board_still}
use Rattle.wp_core.proofs.AllParts.{SoIn, all_parts, views_still, readers_still, turns_changed, notes_stay, led_still}
use Rattle.wp_core.proofs.Gives.{not_theirs, not_free}

-- what is noted, with this in place of what the world has installed
abbrev pub SoInstalled : World → Installed → Participant → Fact → Type 0
SoInstalled w t = IsSo w.delayed_flag w.old_flag w.max_evicted w.cache w.writes w.prepared w.snapshots w.store w.locks t

module _ (w : World) (by : ℕ) (a : Actor) (step : Step) (e : Event) (t : Installed) where
  -- the actor before it knows the state
  abbrev pub actor_then : Actor
  actor_then = remembers (forgets w.writes.history (length w.cache) step a) e

  abbrev pub actor_after : Actor
  actor_after = record actor_then { held = held_with actor_then.held (installed t) }

  abbrev pub pasts_after : List (List (List Event))
  pasts_after = map (participants_of past_of) (set w.actors by actor_after)

  pub record TablesParts : Type 0 where
    pub nothing : FindsNothing e
    pub tells_nothing : TellsNothing e
    pub stored : IsStored w.writes.history w.writes.pending w.first_edit.segment.base w.snapshots w.store t
    pub coupled : AreCoupled w.writes t w.holders.write
    pub faults : AreFaults w.writes t.halted pasts_after
    pub edits : AreEdits w.first_edit t pasts_after
    pub so : (p : Participant) (fact : Fact) → Stays w step tables_turn fact → SoIn w p fact → SoInstalled w t p fact

  -- no fact speaks of a past
  so_past : (p : Participant) (past : List Event) (fact : Fact) → SoInstalled w t p fact → SoInstalled w t (record p { past = past }) fact
  so_past p past fact k = k

  pub tables_change : get_elem? w.actors by ≡ some a → Holds w.holders tables_turn by → TablesParts → IsSound w → IsSound (change w by actor_then (installed t))
  tables_change at holds k s =
      let b : Actor = actor_after in
      let c : Content = installed t in
      all_parts (with_content w c) (set w.actors by b)
      (record { history = s.history; cache = s.cache; decided = s.decided; undecided = s.undecided; delayed = s.delayed; flags = s.flags; versions = k.stored; in_step = λ free. absurd (not_free w.holders tables_turn by holds free); coupled = k.coupled; pending = s.pending })
      (views_still w by a b at refl s) (past_locked w.actors by a b e at refl refl w.opened w.writes.history w.locks s.locks) (record {
        holders = holders_still w.actors by a b e at refl refl w.opened w.writes.history w.locks k.nothing s.holders;
        board = board_still w.actors by a b e at refl refl (world.published w) w.locks k.tells_nothing s.board;
        faults = k.faults;
        edits = k.edits;
      }) (turns_changed w by a b at c holds refl s)
      (readers_still w by a b at refl s)
      (notes_stay w by a b at step w.holders (SoInstalled w t) refl
      (λ fact left m. record { guarded = m.guarded; is_so = so_past a.participant (a.participant.past ++ e ∷ []) fact (k.so a.participant fact (inl left) m.is_so) })
      (λ j x fact ne there m. record { guarded = m.guarded; is_so = k.so x.0 fact (inr (λ q. not_theirs w.holders tables_turn by j holds ne (m.guarded tables_turn q))) m.is_so }) s)
      (led_still w by a b at refl s) (idle_after w by a b tables_turn at holds s refl)
