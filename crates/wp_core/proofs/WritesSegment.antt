-- Writing a segment of the log keeps a world sound.
use Rattle.std.proofs.Common.{◌≡◌, ◌⊎◌, ⊎_elim, inl, ℕ, false, length, sym, ap, Option, Some}
use mathlib.Core.Option.{some}
use lib.ListN.{get_elem?}
use Rattle.wp_model.specs.declared.segment.Segment.{Segment}
use Rattle.wp_core.specs.Turns.{write_turn}
use Rattle.wp_core.specs.Views.{Fact}
use Rattle.wp_core.specs.World.{Participant, Actor, World}
use Rattle.wp_core.specs.Steps.{write_segment}
use Rattle.wp_core.specs.Effects.{done}
use Rattle.wp_core.specs.Needs.{Needs}
use Rattle.wp_core.specs.Notes.{forgets}
use Rattle.wp_core.specs.IsSound.{IsSound}
use Rattle.wp_core.proofs.AllParts.{SoIn}
use Rattle.wp_core.proofs.Gives.{not_free}
use Rattle.wp_core.proofs.PendingSteps.{SoPending, with_segments, log_changes}
use Rattle.wp_core.proofs.Quiet.{notes_all}
use Rattle.wp_model.proofs.Tests.{same_some, none_some}

-- no fact speaks of segments
pub so_segments : (w : World) (segment : Segment) (next : Option Segment) (p : Participant) (fact : Fact) → SoIn w p fact → SoPending w (with_segments w.writes segment next) p fact
so_segments w segment next p fact k = k

pub writes_segment : (w : World) (by : ℕ) (a : Actor) (place : ℕ) → get_elem? w.actors by ≡ some a → Needs w by a (write_segment place) → IsSound w
    → IsSound (done w by (forgets w.writes.history (length w.cache) (write_segment place) a) (write_segment place))
writes_segment w by a place at n s =
    let written : Segment = record { place = place; base = length w.writes.history } in
    let k = s.history in
    log_changes w by a (write_segment place) w.writes.pending w.writes.logged w.writes.log w.writes.segment (Some written) at n.0
    (record { legal = k.legal; grown = k.grown; bounded = k.bounded; log = k.log; rest = k.rest; legal_next = k.legal_next; legal_failed = k.legal_failed; none_failed = k.none_failed; not_stopped = k.not_stopped; undo_closes = k.undo_closes })
    s.cache s.undecided s.delayed s.versions
    (record { log = s.faults.log; tables = s.faults.tables; not_logged = s.faults.not_logged; stopped = s.faults.stopped; based = s.faults.based; failed = s.faults.failed; renewing = s.faults.renewing; of_log = s.faults.of_log; behind = s.faults.behind; unfailed = s.faults.unfailed })
    (record {
      last = in_use;
      failed = λ edit q. ⊎_elim (λ (same : edit.segment ≡ w.installed.last.segment). inl same) (λ (next : w.writes.next ≡ Some edit.segment). absurd (none_some w.writes.next edit.segment n.3 next)) (s.coupled.failed edit q);
      next = λ segment q. let same : written ≡ segment = same_some written segment q in (ap (λ (x : Segment). x.base) (sym same), λ running. (n.1, λ free. not_free w.holders write_turn by n.0 free));
    })
    (notes_all w by (write_segment place) _ (so_segments w w.writes.segment (Some written))) s
  where
    in_use : (w.installed.last.segment ≡ w.writes.segment) ⊎ ((Some (record { place = place; base = length w.writes.history }) ≡ Some w.installed.last.segment) × (w.writes.closed ≡ false))
    in_use = ⊎_elim (λ (same : w.installed.last.segment ≡ w.writes.segment). inl same) (λ (next : (w.writes.next ≡ Some w.installed.last.segment) × (w.writes.closed ≡ false)). absurd (none_some w.writes.next w.installed.last.segment n.3 next.0)) s.coupled.last
