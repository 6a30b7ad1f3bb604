-- What a seat leaves that takes a turn and notes what the turn guards.
use Rattle.std.proofs.Common.{◌≡◌, inl, inr, ℕ, Bool, true, false, List, [], ◌∷◌, map, reverse, length, set, refl, subst, ap, ◌∙◌, Option, Some, None}
use mathlib.Core.Option.{some}
use lib.ListN.{get_elem?}
use Rattle.wp_core.specs.Turns.{Turn, write_turn, prepared_turn, snapshots_turn, store_turn, locks_turn, tables_turn, turn_holder, with_holder, Holds}
use Rattle.wp_core.specs.States.{Content, WriteState, Installed, turn_of}
use Rattle.wp_model.specs.declared.segment.Segment.{Segment}
use Rattle.wp_model.specs.declared.version.Version.{Version}
use Rattle.wp_core.specs.Views.{Fact, tables_stay, nothing_flushed, delayed_flag_stays, old_flag_stays}
use Rattle.wp_core.specs.World.{Actor, World, content_of}
use Rattle.wp_core.specs.Conditions.{NoneNext, MayGive}
use Rattle.wp_core.specs.Steps.{take_turn, note}
use Rattle.wp_core.specs.Notes.{forgets}
use Rattle.wp_core.specs.Runs.{Reaches}
use Rattle.wp_core.specs.Sound.Segments.{AreCoupled}
use Rattle.wp_core.specs.IsSound.{IsSound}
use Rattle.wp_core.proofs.Frames.{here}
use Rattle.wp_core.proofs.Gives.{now_holder}
use Rattle.wp_rule.specs.Moves.{AreQuiet, AreMet, world_after_step, actor_after_step, world_after, actor_after}
use Rattle.wp_rule.specs.Plays.{facts_at, taking, with_turn}
use Rattle.wp_rule.specs.Knows.{KnowsGive}
use Rattle.wp_rule.proofs.Forgets.{forgets_nothing, take_ends, note_ends}
use Rattle.wp_rule.proofs.Quiet.{set_twice, quiet_reached, reached_next}

pub table_of : (w : World) (turn : Turn) → turn_of (content_of w turn) ≡ turn
table_of w write_turn = refl
table_of w prepared_turn = refl
table_of w snapshots_turn = refl
table_of w store_turn = refl
table_of w locks_turn = refl
table_of w tables_turn = refl

-- ---- a free turn is as it has to be to give it, and so it is once its state is held and its facts are noted

-- while the write turn is free no segment waits
none_waits : (t : WriteState) (e : Installed) {holder : Option ℕ} → AreCoupled t e holder → holder ≡ None → NoneNext t
none_waits t e k free = by_next t.next refl
  where
    by_closed : (segment : Segment) → t.next ≡ Some segment → (closed : Bool) → t.closed ≡ closed → NoneNext t
    by_closed segment is true closed = inr closed
    by_closed segment is false running = absurd (((k.next segment is).1 running).1 free)

    by_next : (next : Option Segment) → t.next ≡ next → NoneNext t
    by_next None none = inl none
    by_next (Some segment) is = by_closed segment is t.closed refl

pub may_give : (w : World) (turn : Turn) → IsSound w → turn_holder w.holders turn ≡ None → MayGive w turn
may_give w write_turn s free = (s.pending free, none_waits w.writes w.installed s.coupled free)
may_give w prepared_turn s free = s.flags.delayed_free free
may_give w snapshots_turn s free = s.flags.old_free free
may_give w store_turn s free = tt
may_give w locks_turn s free = tt
may_give w tables_turn s free = s.in_step free

pub knows_give : (w : World) (a : Actor) (turn : Turn) → MayGive w turn → KnowsGive (with_turn turn w a) turn
knows_give w a write_turn may = record { state = w.writes; held = inl refl; so_is = may }
knows_give w a prepared_turn may = record { state = w.prepared; held = inl refl; so_is = λ none. inl (ap delayed_flag_stays (may none)) }
knows_give w a snapshots_turn may = record { state = w.snapshots; held = inl refl; so_is = λ none. inl (ap old_flag_stays (may none)) }
knows_give w a store_turn may = record { state = w.store; held = inl refl; so_is = tt }
knows_give w a locks_turn may = record { state = w.locks; held = inl refl; so_is = tt }
knows_give w a tables_turn may = record { state = w.installed; held = inl refl; so_is = (inl refl, (w.store.floor, inr (inl (ap (λ (versions : List Version). tables_stay versions w.store.floor) may.1)))) }

-- ---- the steps

holds_now : (w : World) (by : ℕ) (t : Turn) (turn : Turn) → Some t ≡ Some turn → Holds (with_holder w.holders t (Some by)) turn by
holds_now w by t turn e = let same : t ≡ turn = cc in subst (λ (u : Turn). Holds (with_holder w.holders t (Some by)) u by) same (now_holder w.holders t (Some by))

pub taking_is_met : (w : World) (by : ℕ) (a : Actor) → IsSound w → a.live ≡ true → (turn : Turn) → turn_holder w.holders turn ≡ None → AreMet (taking turn w) w by a
taking_is_met w by a s live write_turn free = ((free, live), ((live, holds_now w by write_turn, (refl, refl)), tt))
taking_is_met w by a s live prepared_turn free = ((free, live), ((live, holds_now w by prepared_turn, refl), tt))
taking_is_met w by a s live snapshots_turn free = ((free, live), ((live, holds_now w by snapshots_turn, refl), tt))
taking_is_met w by a s live store_turn free = ((free, live), tt)
taking_is_met w by a s live locks_turn free = ((free, live), tt)
taking_is_met w by a s live tables_turn free = ((free, live), ((live, holds_now w by tables_turn, (refl, refl)), ((live, holds_now w by tables_turn, (s.in_step free).0), tt)))

abbrev noted : Actor → Fact → Actor
noted a fact = record a { notes = fact ∷ a.notes }

abbrev holding : Actor → Content → Actor
holding a c = record a { held = c ∷ a.held }

module _ (w : World) (by : ℕ) (a : Actor) where
  ends_none : (turn : Turn) → forgets w.writes.history (length w.cache) (take_turn turn) a ≡ a
  ends_none turn = forgets_nothing w.writes.history (length w.cache) (take_turn turn) a (take_ends turn)

  -- the turn's state is held, and the fact is noted
  both_kept : (turn : Turn) (c : Content) (fact : Fact)
      → noted (forgets w.writes.history (length w.cache) (note fact) (holding (forgets w.writes.history (length w.cache) (take_turn turn) a) c)) fact ≡ noted (holding a c) fact
  both_kept turn c fact = ap (λ b. noted (forgets w.writes.history (length w.cache) (note fact) (holding b c)) fact) (ends_none turn) ∙ ap (λ b. noted b fact) (forgets_nothing w.writes.history (length w.cache) (note fact) (holding a c) (note_ends fact))

  pub actor_taken : (turn : Turn) → actor_after (taking turn w) w by a ≡ with_turn turn w a
  actor_taken write_turn = both_kept write_turn _ _
  actor_taken prepared_turn = both_kept prepared_turn _ _
  actor_taken snapshots_turn = both_kept snapshots_turn _ _
  actor_taken store_turn = ap (λ b. holding b (content_of w store_turn)) (ends_none store_turn)
  actor_taken locks_turn = ap (λ b. holding b (content_of w locks_turn)) (ends_none locks_turn)
  actor_taken tables_turn =
      ap (λ b. noted (forgets w.writes.history (length w.cache) (note nothing_flushed) b) nothing_flushed) (both_kept tables_turn _ (tables_stay w.store.tables w.store.floor))
      ∙ ap (λ b. noted b nothing_flushed) (forgets_nothing w.writes.history (length w.cache) (note nothing_flushed) (noted (holding a (content_of w tables_turn)) (tables_stay w.store.tables w.store.floor)) (note_ends nothing_flushed))

  abbrev world_with : Turn → List Actor → World
  world_with turn actors = record w { holders = with_holder w.holders turn (Some by); actors = actors }

  -- the actor was put into its place twice, or once
  put_twice : (turn : Turn) (b c d : Actor) → c ≡ d → world_with turn (set (set w.actors by b) by c) ≡ world_with turn (set w.actors by d)
  put_twice turn b c d same = ap (world_with turn) (set_twice w.actors by b c ∙ ap (set w.actors by) same)

  pub world_taken : (turn : Turn) → world_after (taking turn w) w by a ≡ world_with turn (set w.actors by (with_turn turn w a))
  world_taken write_turn = put_twice write_turn _ _ _ (actor_taken write_turn)
  world_taken prepared_turn = put_twice prepared_turn _ _ _ (actor_taken prepared_turn)
  world_taken snapshots_turn = put_twice snapshots_turn _ _ _ (actor_taken snapshots_turn)
  world_taken store_turn = ap (λ b. world_with store_turn (set w.actors by b)) (actor_taken store_turn)
  world_taken locks_turn = ap (λ b. world_with locks_turn (set w.actors by b)) (actor_taken locks_turn)
  world_taken tables_turn = ap (world_with tables_turn) (set_twice (set w.actors by _) by _ _) ∙ put_twice tables_turn _ _ _ (actor_taken tables_turn)

  notes_are_quiet : (facts : List Fact) → AreQuiet (map note facts)
  notes_are_quiet [] = tt
  notes_are_quiet (fact ∷ facts) = (tt, notes_are_quiet facts)

  -- the actor is there once it took the turn
  there_taken : (turn : Turn) → get_elem? w.actors by ≡ some a → get_elem? (world_after_step w by a (take_turn turn)).actors by ≡ some (actor_after_step w a (take_turn turn))
  there_taken write_turn at = here w.actors by a _ at
  there_taken prepared_turn at = here w.actors by a _ at
  there_taken snapshots_turn at = here w.actors by a _ at
  there_taken store_turn at = here w.actors by a _ at
  there_taken locks_turn at = here w.actors by a _ at
  there_taken tables_turn at = here w.actors by a _ at

  pub taking_reached : (turn : Turn) → get_elem? w.actors by ≡ some a → Reaches w → AreMet (taking turn w) w by a → Reaches (world_after (taking turn w) w by a)
  taking_reached turn at reached met =
      quiet_reached (map note (reverse (facts_at turn w))) (world_after_step w by a (take_turn turn)) by (actor_after_step w a (take_turn turn)) (there_taken turn at) (reached_next w by a (take_turn turn) at reached met.0) (notes_are_quiet (reverse (facts_at turn w))) met.1
