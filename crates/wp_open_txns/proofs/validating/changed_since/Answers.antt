use Rattle.std.proofs.Common.{◌≤◌, List, [], length, refl, sym, subst, ap, ◌∙◌, arith}
use Rattle.wp_model.specs.Changed.{conflict}
use Rattle.wp_model.specs.declared.entry.Entry.{Entry}
use Rattle.wp_core.specs.Lists.{IsIn}
use Rattle.wp_core.specs.Sound.Views.{OwnsKey}
use Rattle.wp_core.specs.States.{writes}
use Rattle.wp_core.specs.Views.{unchanged}
use Rattle.wp_core.proofs.KeepsSeen.{shorter}
use Rattle.wp_parts.specs.Log.{LogState}
use Rattle.wp_shared.specs.Seats.{SeatState}
use Rattle.wp_shared.specs.Turns.{HoldsTurn}
use Rattle.wp_shared.proofs.FromBase.{from_base}
use Rattle.wp_open_txns.proofs.GoesOn.{held_last}
use Rattle.wp_open_txns.proofs.KeyTaken.{log_held, looked, looked_at, noted_then}
use Rattle.wp_open_txns.proofs.validating.changed_since.Goals as goal

pub changed_in-number-requires-clause-held : goal.changed_in-number-requires-clause-held
changed_in-number-requires-clause-held g c = subst (λ (x : LogState). IsIn (writes x.state) c.take_log-log.new.seat.knows.held) (sym c.deref_mut.ensures.value) (held_last c.take_log-log.ensures.holds)

pub changed_in-number-requires-clause-has : goal.changed_in-number-requires-clause-has
changed_in-number-requires-clause-has g c = subst (λ (x : SeatState). OwnsKey x.knows.participant c.args.name.now c.args.key.now) (sym c.take_log-log.ensures.seat) c.requires.has

pub changed_in-number-requires-clause-pin : goal.changed_in-number-requires-clause-pin
changed_in-number-requires-clause-pin g c =
    let took = c.take_log-log.ensures in let pin = c.args.pin.now in
    let long = shorter c.take_log-log.result.value.state.history c.args.seat.now.knows.participant.seen took.grown in let low = c.requires.pin.1 in
    subst (λ (x : LogState). (x.first.segment.base ≤ pin.number) × (pin.number ≤ length x.state.history)) (sym c.deref_mut.ensures.value)
    (from_base took c.shows_one_store.ensures pin c.requires.pin.0, omega (arith, long, low))

pub give_turn-requires-clause-holds : goal.give_turn-requires-clause-holds
give_turn-requires-clause-holds g c = (
  [],
  [],
  subst (λ (x : LogState). HoldsTurn c.args.store.now c.changed_in-number.new.seat (writes x.state) [] []) (sym (c.changed_in-number.ensures.same ∙ c.deref_mut.ensures.value))
      (log_held c.args.store.now c.args.seat.now _ _ c.changed_in-number.new.seat _ c.take_log-log.ensures c.changed_in-number.ensures.goes c.requires.free),
)

pub returns-clause-goes_on : goal.returns-clause-goes_on
returns-clause-goes_on g c =
    let z = c.args.store.now in let old = c.args.seat.now in let took = c.take_log-log.ensures in let goes = c.changed_in-number.ensures.goes in let u = c.changed_in-number.new.seat in
    let held = subst (λ (x : LogState). HoldsTurn z u (writes x.state) [] []) (sym (c.changed_in-number.ensures.same ∙ c.deref_mut.ensures.value)) (log_held z old _ _ u _ took goes c.requires.free) in
    looked z old _ _ c.give_turn.new.seat _ took goes (c.give_turn.ensures [] [] held)

pub returns-clause-last : goal.returns-clause-last
returns-clause-last g c =
    let z = c.args.store.now in let old = c.args.seat.now in let took = c.take_log-log.ensures in let goes = c.changed_in-number.ensures.goes in let u = c.changed_in-number.new.seat in
    let held = subst (λ (x : LogState). HoldsTurn z u (writes x.state) [] []) (sym (c.changed_in-number.ensures.same ∙ c.deref_mut.ensures.value)) (log_held z old _ _ u _ took goes c.requires.free) in
    c.changed_in-number.ensures.last
    ∙ ap (λ (x : LogState). conflict x.state.history c.args.key.now c.args.pin.now.number) c.deref_mut.ensures.value
    ∙ ap (λ (h : List Entry). conflict h c.args.key.now c.args.pin.now.number) (sym (looked_at z old _ _ c.give_turn.new.seat _ took goes (c.give_turn.ensures [] [] held)))

pub returns-clause-noted : goal.returns-clause-noted
returns-clause-noted g c none =
    let z = c.args.store.now in let old = c.args.seat.now in let took = c.take_log-log.ensures in let goes = c.changed_in-number.ensures.goes in let u = c.changed_in-number.new.seat in
    let held = subst (λ (x : LogState). HoldsTurn z u (writes x.state) [] []) (sym (c.changed_in-number.ensures.same ∙ c.deref_mut.ensures.value)) (log_held z old _ _ u _ took goes c.requires.free) in
    noted_then z old _ _ c.give_turn.new.seat _ took goes (c.give_turn.ensures [] [] held) (unchanged c.args.name.now c.args.key.now c.args.pin.now.number) refl (c.changed_in-number.ensures.noted none)
