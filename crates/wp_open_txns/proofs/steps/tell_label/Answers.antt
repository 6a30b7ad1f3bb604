use Rattle.wp_open_txns.proofs.Made.{stands_after, may_tell, told_it}
use Rattle.wp_open_txns.proofs.steps.tell_label.Goals as goal

pub make_about-requires-clause-may : goal.make_about-requires-clause-may
make_about-requires-clause-may g c = may_tell _ _ c.requires.held.0 c.args.label.now c.requires.held.1

pub returns-clause-told : goal.returns-clause-told
returns-clause-told g c t held = told_it _ _ _ _ c.make_about.ensures.same t c.args.label.now held c.make_about.ensures.moved

pub returns-clause-stands : goal.returns-clause-stands
returns-clause-stands g c = stands_after c.args.store.now c.args.seat.now c.make_about.new.seat _ _ c.make_about.ensures.same.1 c.make_about.ensures.moved
