use Rattle.std.proofs.Common.{ℕ, List, [], ◌∷◌, refl, sym, subst, ap, ◌∙◌}
use Rattle.wp_core.specs.States.{writes, installed}
use Rattle.wp_core.specs.Turns.{write_turn}
use Rattle.wp_parts.specs.Stock.{store_state}
use Rattle.wp_shared.specs.Notes.{is_under, seeing, GoesOn}
use Rattle.wp_shared.proofs.Onward.{loose_under}
use Rattle.wp_maint.proofs.Onward.{goes_saw, in_step_on, still_edits}
use Rattle.wp_maint.proofs.Freezes.{holds_lent, none_shown, seen_shown, in_step_two, holds_given, holds_left, goes_five, grown_five, whole_five, frozen_five}
use Rattle.wp_maint.proofs.frozen.freeze_all.Goals as goal

pub freeze_some-frozen-requires-clause-holds : goal.freeze_some-frozen-requires-clause-holds
freeze_some-frozen-requires-clause-holds g c = holds_lent c.requires.holds c.take_log-log.ensures c.take_turn-stock.ensures.taken c.deref.ensures (ap store_state c.deref_mut.ensures.value)

pub freeze_some-frozen-requires-clause-pending : goal.freeze_some-frozen-requires-clause-pending
freeze_some-frozen-requires-clause-pending g c = none_shown c.requires.holds c.take_log-log.ensures c.take_turn-stock.ensures.taken c.deref.ensures

pub freeze_some-frozen-requires-clause-seen : goal.freeze_some-frozen-requires-clause-seen
freeze_some-frozen-requires-clause-seen g c = seen_shown c.requires.holds c.take_log-log.ensures c.take_turn-stock.ensures.taken c.deref.ensures

pub freeze_some-frozen-requires-clause-in_step : goal.freeze_some-frozen-requires-clause-in_step
freeze_some-frozen-requires-clause-in_step g c = in_step_two c.requires.holds c.take_log-log.ensures c.take_turn-stock.ensures.taken c.requires.in_step

pub freeze_some-frozen-requires-clause-stands : goal.freeze_some-frozen-requires-clause-stands
freeze_some-frozen-requires-clause-stands g c = c.take_turn-stock.ensures.taken.stands

pub give_turn-requires-clause-holds : goal.give_turn-requires-clause-holds
give_turn-requires-clause-holds g c =
    (writes c.take_log-log.result.value.state ∷ installed c.args.edits.now.state ∷ [], 0 ∷ 5 ∷ [], holds_given c.requires.holds c.take_log-log.ensures c.take_turn-stock.ensures.taken c.freeze_some-frozen.ensures.goes _ (c.freeze_some-frozen.ensures.same ∙ ap store_state c.deref_mut.ensures.value))

pub give_turn-requires-2-clause-holds : goal.give_turn-requires-2-clause-holds
give_turn-requires-2-clause-holds g c =
    let k = c.freeze_some-frozen.ensures.goes in let gave = c.give_turn.ensures _ _ (holds_given c.requires.holds c.take_log-log.ensures c.take_turn-stock.ensures.taken k _ (c.freeze_some-frozen.ensures.same ∙ ap store_state c.deref_mut.ensures.value)) in
    (installed c.args.edits.now.state ∷ [], 5 ∷ [], holds_left c.requires.holds c.take_log-log.ensures c.take_turn-stock.ensures.taken k gave)

pub returns : goal.returns
returns g c =
    let k0 = c.requires.holds in let k1 = c.take_log-log.ensures in let k2 = c.take_turn-stock.ensures.taken in let k3 = c.freeze_some-frozen.ensures.goes in
    let k4 = c.give_turn.ensures (writes c.take_log-log.result.value.state ∷ installed c.args.edits.now.state ∷ []) (0 ∷ 5 ∷ []) (holds_given k0 k1 k2 k3 _ (c.freeze_some-frozen.ensures.same ∙ ap store_state c.deref_mut.ensures.value)) in
    let k5 = c.give_turn-2.ensures (installed c.args.edits.now.state ∷ []) (5 ∷ []) (holds_left k0 k1 k2 k3 k4) in
    let s = c.args.seat.now in let u = c.give_turn-2.new.seat in let e = c.args.edits.now.state in
    let goes = subst (λ (turns : List ℕ). GoesOn (is_under write_turn) (installed e ∷ []) turns (seeing u.knows.participant.seen s) u) (sym k0.turn.turns) (goes_five k0 k1 k2 k3 k4 k5) in record {
      holds = still_edits k0 goes;
      in_step = in_step_on (seeing u.knows.participant.seen s) u (is_under write_turn) (installed e ∷ []) s.turns refl (λ versions floor. refl) goes e.last c.requires.in_step;
      goes = goes_saw s u (is_under write_turn) (installed e ∷ []) s.turns goes (grown_five k0 k1 k2 k3 k4 k5) (loose_under write_turn);
      whole = whole_five k0 k1 k2 k3 k4 k5;
      frozen = frozen_five k0 k1 k2 k3 k4 k5 c.freeze_some-frozen.result c.freeze_some-frozen.ensures.frozen;
    }
