use Rattle.wp_core.specs.Views.{unchanged}
use Rattle.wp_shared.proofs.Noting.{may_note, noted}
use Rattle.wp_open_txns.proofs.steps.note_unchanged.Goals as goal

pub make_about-requires-clause-may : goal.make_about-requires-clause-may
make_about-requires-clause-may g c =
    may_note _ c.args.seat.now.knows (unchanged c.args.name.now c.args.key.now c.args.number) c.requires.seat.1 (c.requires.has, record { state = c.args.log.now.state; held = c.requires.held; so_is = c.requires.unchanged })

pub returns : goal.returns
returns g c = noted _ _ (unchanged c.args.name.now c.args.key.now c.args.number) _ _ c.make_about.ensures.same c.make_about.ensures.moved
