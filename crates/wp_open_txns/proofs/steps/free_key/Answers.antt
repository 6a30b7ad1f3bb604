use Rattle.wp_open_txns.proofs.Made.{stands_after, may_free_key, key_freed}
use Rattle.wp_open_txns.proofs.steps.free_key.Goals as goal

pub make_about-requires-clause-may : goal.make_about-requires-clause-may
make_about-requires-clause-may g c = may_free_key _ _ c.args.tables.now c.args.name.now c.args.key.now c.requires.has c.requires.noted c.requires.held

pub returns-clause-without : goal.returns-clause-without
returns-clause-without g c = key_freed _ _ _ _ c.make_about.ensures.same c.args.tables.now c.args.name.now c.args.key.now c.requires.held c.make_about.ensures.moved

pub returns-clause-stands : goal.returns-clause-stands
returns-clause-stands g c = stands_after c.args.store.now c.args.seat.now c.make_about.new.seat _ _ c.make_about.ensures.same.1 c.make_about.ensures.moved
