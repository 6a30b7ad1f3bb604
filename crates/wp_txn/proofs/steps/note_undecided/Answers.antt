use Rattle.wp_core.specs.Views.{undecided_at}
use Rattle.wp_shared.proofs.Noting.{may_note, noted}
use Rattle.wp_open_txns.specs.Actors.{transaction_in}
use Rattle.wp_open_txns.proofs.Made.{has_its}
use Rattle.wp_txn.proofs.steps.note_undecided.Goals as goal

pub make_about-requires-clause-may : goal.make_about-requires-clause-may
make_about-requires-clause-may g c =
    let a = c.args.seat.now.knows in let name = c.args.name.now in
    may_note _ a (undecided_at c.args.name.now c.args.number) c.requires.seat.1 (record { state = c.args.log.now.state; held = c.requires.held; so_is = ((transaction_in a.participant name, has_its a name c.requires.has), c.requires.prepare) })

pub returns : goal.returns
returns g c = noted _ _ (undecided_at c.args.name.now c.args.number) _ _ c.make_about.ensures.same c.make_about.ensures.moved
