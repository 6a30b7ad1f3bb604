use Rattle.wp_maint.proofs.Made.{stands_after}
use Rattle.wp_stages.proofs.Renews.{may_halt_next, same_failed, was_halted_beside}
use Rattle.wp_stages.proofs.steps.remember_tables_fault.Goals as goal

pub make_about-requires-clause-may : goal.make_about-requires-clause-may
make_about-requires-clause-may g c = let h = c.requires.held in may_halt_next _ _ h.1 h.0 h.2 c.args.edits.now.state.failed h.4 h.5

pub returns : goal.returns
returns g c =
    let s = c.args.seat.now in let u = c.make_about.new.seat in let h = c.requires.held in record {
      goes = λ d t held. was_halted_beside _ _ s u c.make_about.ensures.same d t held c.args.edits.now.state (same_failed s.knows h.1 d h.0 t h.2 held c.args.edits.now.state h.3) c.make_about.ensures.moved;
      stands = stands_after c.args.store.now _ _ s u c.make_about.ensures.same.1 c.make_about.ensures.moved;
    }
