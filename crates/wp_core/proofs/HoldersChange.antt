-- A turn is taken or given: of the parts of a world, those that speak of holders, and what is held and noted.
use Rattle.std.proofs.Common.{◌≡◌, ◌≢◌, ⊎_elim, ℕ, true, false, true≢false, not, length, set, refl, sym, ◌∙◌, Option, Some, None, List}
use mathlib.Core.Option.{some}
use lib.ListN.{get_elem?}
use Rattle.wp_model.specs.declared.segment.Segment.{Segment}
use Rattle.wp_core.specs.Turns.{Turn, write_turn, prepared_turn, snapshots_turn, tables_turn, Holders, Holds, with_holder}
use Rattle.wp_core.specs.States.{Content, WriteState}
use Rattle.wp_core.specs.Views.{Fact}
use Rattle.wp_core.specs.World.{Actor, World, content_of}
use Rattle.wp_core.specs.Steps.{Step}
use Rattle.wp_core.specs.Conditions.{NoneNext, MayGive}
use Rattle.wp_core.specs.Notes.{forgets, ends}
use Rattle.wp_core.specs.Sound.Actors.{AreIdle}
use Rattle.wp_core.specs.Sound.History.{IsPendingHeld}
use Rattle.wp_core.specs.Sound.Prepared.{AreFlags}
use Rattle.wp_core.specs.Sound.Segments.{AreCoupled}
use Rattle.wp_core.specs.Sound.Store.{IsInStep}
use Rattle.wp_core.specs.Sound.Views.{guarded_by}
use Rattle.wp_core.specs.IsSound.{IsSound}
use Rattle.wp_core.proofs.AllParts.{TurnParts, SoIn, views_of, pasts_of, readers_still, notes_stay, quiet_step}
use Rattle.wp_model.proofs.Tests.{none_some}

-- while the log is not closed no segment waits then
pub none_next : (t : WriteState) → NoneNext t → (segment : Segment) → t.next ≡ Some segment → t.closed ≡ false → ⊥
none_next t none segment is running = ⊎_elim (λ (e : t.next ≡ None). none_some t.next segment e is) (λ (closed : t.closed ≡ true). true≢false (sym closed ∙ running)) none

-- the turn has another holder, or none where it may be given
module _ (w : World) (x : Option ℕ) where
  flags_with : (t : Turn) → (x ≡ None → MayGive w t) → AreFlags w.delayed_flag w.old_flag w.prepared w.snapshots w.holders.prepared w.holders.snapshots
      → AreFlags w.delayed_flag w.old_flag w.prepared w.snapshots (with_holder w.holders t x).prepared (with_holder w.holders t x).snapshots
  flags_with prepared_turn may f = record { none_delayed = f.none_delayed; none_kept = f.none_kept; delayed_free = may; old_free = f.old_free }
  flags_with snapshots_turn may f = record { none_delayed = f.none_delayed; none_kept = f.none_kept; delayed_free = f.delayed_free; old_free = may }
  flags_with t may f = f

  in_step_with : (t : Turn) → (x ≡ None → MayGive w t) → IsInStep w.holders.tables w.store w.installed.last → IsInStep (with_holder w.holders t x).tables w.store w.installed.last
  in_step_with tables_turn may k = may
  in_step_with t may k = k

  pending_with : (t : Turn) → (x ≡ None → MayGive w t) → IsPendingHeld w.holders.write w.writes.pending → IsPendingHeld (with_holder w.holders t x).write w.writes.pending
  pending_with write_turn may k = λ free. (may free).0
  pending_with t may k = k

  coupled_with : (t : Turn) → (x ≡ None → MayGive w t) → AreCoupled w.writes w.installed w.holders.write → AreCoupled w.writes w.installed (with_holder w.holders t x).write
  coupled_with write_turn may k = record {
    last = k.last;
    failed = k.failed;
    next = λ segment is. ((k.next segment is).0, λ running. (((k.next segment is).1 running).0, λ free. none_next w.writes (may free).1 segment is running));
  }
  coupled_with t may k = k

  -- all parts, once the actor's turn is taken or given
  pub holder_changes : (by : ℕ) (a : Actor) (step : Step) (t : Turn) (held : List Content) → get_elem? w.actors by ≡ some a → (x ≡ None → MayGive w t)
      → TurnParts (with_holder w.holders t x) (content_of w) (set w.actors by (record (forgets w.writes.history (length w.cache) step a) { held = held }))
      → ((fact : Fact) (u : Turn) → not (ends w.writes.history (length w.cache) step fact) ≡ true → guarded_by fact ≡ Some u → Holds w.holders u by → Holds (with_holder w.holders t x) u by)
      → ((j : ℕ) (u : Turn) → j ≢ by → Holds w.holders u j → Holds (with_holder w.holders t x) u j) → AreIdle (set w.actors by (record (forgets w.writes.history (length w.cache) step a) { held = held })) → IsSound w
      → IsSound (record w { holders = with_holder w.holders t x; actors = set w.actors by (record (forgets w.writes.history (length w.cache) step a) { held = held }) })
  holder_changes by a step t held at may turns mine others idle s =
      let h : Holders = with_holder w.holders t x in
      let b : Actor = record (forgets w.writes.history (length w.cache) step a) { held = held } in
      quiet_step w (record w { holders = h }) by a b at refl
      (record { history = s.history; cache = s.cache; decided = s.decided; undecided = s.undecided; delayed = s.delayed; flags = flags_with t may s.flags; versions = s.versions; in_step = in_step_with t may s.in_step; coupled = coupled_with t may s.coupled; pending = pending_with t may s.pending })
      (views_of w s) s.locks (pasts_of w s) turns (readers_still w by a b at refl s)
      (notes_stay w by a b at step h (SoIn w) refl
      (λ fact left m. record { guarded = λ u is. mine fact u left is (m.guarded u is); is_so = m.is_so })
      (λ j x fact ne there m. record { guarded = λ u is. others j u ne (m.guarded u is); is_so = m.is_so }) s) idle s
