use Rattle.wp_core.specs.Views.{frozen_stay}
use Rattle.wp_parts.specs.Stock.{store_state}
use Rattle.wp_shared.proofs.Noting.{may_note, noted}
use Rattle.wp_maint.specs.Flush.{versions_of}
use Rattle.wp_maint.proofs.steps.note_frozen.Goals as goal

pub make_about-requires-clause-may : goal.make_about-requires-clause-may
make_about-requires-clause-may g c = may_note _ _ (frozen_stay c.args.frozen.now.at (versions_of c.args.frozen.now)) c.requires.seat.1
    (record { state = c.args.edits.now.state; held = c.requires.held.0; so_is = record { state = store_state c.args.stock.now; held = c.requires.held.1; so_is = (c.requires.seen, c.requires.are) } })

pub returns : goal.returns
returns g c = noted _ _ (frozen_stay c.args.frozen.now.at (versions_of c.args.frozen.now)) c.args.seat.now c.make_about.new.seat c.make_about.ensures.same c.make_about.ensures.moved
