use Rattle.std.proofs.Common.{sym, subst, ◌∙◌}
use Rattle.std.specs.Prelude.{IfSome}
use Rattle.wp_model.specs.Flushed.{IsEditCovered}
use Rattle.wp_core.specs.Views.{tables_failed}
use Rattle.wp_shared.specs.Seats.{SeatState}
use Rattle.wp_maint.proofs.Found.{held_first, held_still, then_changes}
use Rattle.wp_maint.proofs.steps.halt.Goals as goal

pub find_edits-requires-clause-held : goal.find_edits-requires-clause-held
find_edits-requires-clause-held g c = let h = c.requires.held in (h.0, held_first c.args.seat.now h.0 h.1)

pub remember_fault-requires-clause-seat : goal.remember_fault-requires-clause-seat
remember_fault-requires-clause-seat g c =
    let h = c.requires.held in (held_still c.args.store.now c.args.seat.now c.find_edits.new.seat h.0 h.1 (c.find_edits.ensures h.0 (held_first c.args.seat.now h.0 h.1))).0 ∙ c.requires.seat

pub remember_fault-requires-clause-held : goal.remember_fault-requires-clause-held
remember_fault-requires-clause-held g c =
    let h = c.requires.held in let k = c.find_edits.ensures h.0 (held_first c.args.seat.now h.0 h.1) in
    (h.0, (held_still c.args.store.now c.args.seat.now c.find_edits.new.seat h.0 h.1 k).1, h.2, h.3)

pub remember_fault-requires-clause-covered : goal.remember_fault-requires-clause-covered
remember_fault-requires-clause-covered g c =
    let h = c.requires.held in let k = c.find_edits.ensures h.0 (held_first c.args.seat.now h.0 h.1) in
    subst (λ (s : SeatState). IfSome c.args.edits.now.state.failed (IsEditCovered s.knows.participant.seen)) (sym k.is) c.requires.covered

pub returns-clause-changes : goal.returns-clause-changes
returns-clause-changes g c t held =
    then_changes c.args.store.now c.args.seat.now c.find_edits.new.seat c.remember_fault.new.seat t (c.find_edits.ensures t (held_first c.args.seat.now t held)) c.args.edits.now.state (tables_failed c.args.edits.now.state.last c.args.edits.now.state.failed) _ c.remember_fault.ensures.goes
