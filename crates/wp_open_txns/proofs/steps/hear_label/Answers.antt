use Rattle.wp_open_txns.proofs.Made.{may_hear, heard_it, heard_all, published_then}
use Rattle.wp_open_txns.proofs.steps.hear_label.Goals as goal

pub make_about-requires-clause-may : goal.make_about-requires-clause-may
make_about-requires-clause-may g c = may_hear _ _ c.args.tables.now c.args.label.now c.args.number c.requires.held c.requires.there

pub returns-clause-heard : goal.returns-clause-heard
returns-clause-heard g c = heard_it _ (λ w. Unit {0}) _ _ c.make_about.ensures.same c.args.tables.now c.args.label.now c.requires.held c.args.number c.make_about.result c.requires.there c.make_about.ensures.moved

pub returns-clause-published : goal.returns-clause-published
returns-clause-published g c =
    let m = c.make_about.ensures.moved in published_then c.args.store.now c.args.seat.now c.make_about.new.seat c.args.tables.now _ _ m c.requires.held
    (heard_all _ (λ w. Unit {0}) _ _ c.make_about.ensures.same c.args.tables.now c.args.label.now c.requires.held c.args.number c.make_about.result c.requires.there m)
