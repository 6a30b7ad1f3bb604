use Rattle.wp_open_txns.proofs.Made.{stands_after, may_free, freed_it, locked_are_held}
use Rattle.wp_open_txns.proofs.steps.free_transaction.Goals as goal

pub make_about-requires-clause-may : goal.make_about-requires-clause-may
make_about-requires-clause-may g c = may_free _ _ c.args.tables.now c.args.name.now c.requires.has c.requires.held c.requires.noted

pub returns-clause-without : goal.returns-clause-without
returns-clause-without g c = freed_it _ _ _ _ c.make_about.ensures.same c.args.tables.now c.args.name.now c.requires.held c.make_about.ensures.moved

pub returns-clause-stands : goal.returns-clause-stands
returns-clause-stands g c = stands_after c.args.store.now c.args.seat.now c.make_about.new.seat _ _ c.make_about.ensures.same.1 c.make_about.ensures.moved

pub returns-clause-keys : goal.returns-clause-keys
returns-clause-keys g c key = locked_are_held _ _ _ _ c.make_about.ensures.same c.args.tables.now c.args.name.now c.requires.held c.requires.has c.make_about.ensures.moved key
