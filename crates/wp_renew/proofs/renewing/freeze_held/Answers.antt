use Rattle.std.proofs.Common.{[], ◌∷◌, refl, ap, ◌∙◌}
use Rattle.std.proofs.lemmas.Result.{IfOk-weaker}
use Rattle.wp_core.specs.States.{installed, writes}
use Rattle.wp_core.specs.Views.{frozen_stay}
use Rattle.wp_shared.specs.Notes.{no_fact}
use Rattle.wp_shared.specs.Seats.{SeatState}
use Rattle.wp_parts.specs.Stock.{store_state}
use Rattle.wp_maint.specs.Flush.{versions_of, HasFrozen}
use Rattle.wp_maint.proofs.Freezes.{frozen_still}
use Rattle.wp_maint.proofs.Onward.{in_step_on}
use Rattle.wp_maint.proofs.Puts.{both_given, both_lent, both_left}
use Rattle.wp_renew.proofs.renewing.freeze_held.Goals as goal

pub freeze_in-frozen-requires-clause-holds : goal.freeze_in-frozen-requires-clause-holds
freeze_in-frozen-requires-clause-holds g c = both_lent c.requires.holds.turn c.take_turn-stock.ensures.taken (ap store_state c.deref_mut.ensures.value)

pub freeze_in-frozen-requires-clause-seen : goal.freeze_in-frozen-requires-clause-seen
freeze_in-frozen-requires-clause-seen g c = ap (λ (x : SeatState). x.knows.participant.seen) c.take_turn-stock.ensures.taken.goes.same ∙ c.requires.seen.0

pub freeze_in-frozen-requires-clause-in_step : goal.freeze_in-frozen-requires-clause-in_step
freeze_in-frozen-requires-clause-in_step g c =
    let k = c.take_turn-stock.ensures.taken in in_step_on c.args.seat.now c.take_turn-stock.new.seat no_fact _ _ refl (λ versions floor. refl) k.goes c.args.edits.now.state.last c.requires.in_step

pub freeze_in-frozen-requires-clause-stands : goal.freeze_in-frozen-requires-clause-stands
freeze_in-frozen-requires-clause-stands g c = c.take_turn-stock.ensures.taken.stands

pub give_turn-requires-clause-holds : goal.give_turn-requires-clause-holds
give_turn-requires-clause-holds g c =
    (writes c.args.log.now.state ∷ installed c.args.edits.now.state ∷ [], 0 ∷ 5 ∷ [], both_left c.requires.holds.turn c.take_turn-stock.ensures.taken c.freeze_in-frozen.ensures.goes (c.freeze_in-frozen.ensures.same ∙ ap store_state c.deref_mut.ensures.value))

pub returns : goal.returns
returns g c =
    let h = c.requires.holds.turn in let k = c.take_turn-stock.ensures.taken in let second = c.freeze_in-frozen.ensures.goes in let u = c.freeze_in-frozen.new.seat in let v = c.give_turn.new.seat in
    let gave = c.give_turn.ensures (writes c.args.log.now.state ∷ installed c.args.edits.now.state ∷ []) (0 ∷ 5 ∷ []) (both_left h k second (c.freeze_in-frozen.ensures.same ∙ ap store_state c.deref_mut.ensures.value)) in record {
      goes = both_given h k second gave;
      frozen = IfOk-weaker c.freeze_in-frozen.result _ (HasFrozen v.knows c.args.edits.now.state) (λ f is. frozen_still u.knows v.knows c.args.edits.now.state f (ap (λ (x : SeatState). x.knows.participant.seen) gave.goes.same) (gave.goes.noted (frozen_stay f.at (versions_of f)) refl) is.0) c.freeze_in-frozen.ensures.frozen;
      stands = gave.stands;
    }
