use Rattle.std.specs.Prelude.{false}
use Rattle.wp_maint.proofs.Made.{may_install, was_installed, stands_after}
use Rattle.wp_maint.proofs.steps.remember_flush.Goals as goal

pub make_about-requires-clause-may : goal.make_about-requires-clause-may
make_about-requires-clause-may g c = let h = c.requires.held in may_install _ _ h.0 c.args.edits.now.state.last false h.1 h.3

pub returns : goal.returns
returns g c = let h = c.requires.held in let m = c.make_about.ensures.moved in record {
  goes = was_installed _ _ c.args.seat.now c.make_about.new.seat c.make_about.ensures.same h.0 c.args.edits.now.state h.1 false h.2 m;
  stands = stands_after c.args.store.now _ _ c.args.seat.now c.make_about.new.seat c.make_about.ensures.same.1 m;
}
