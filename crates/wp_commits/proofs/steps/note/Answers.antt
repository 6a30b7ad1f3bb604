use Rattle.wp_shared.specs.Seats.{place_at}
use Rattle.wp_commits.specs.PairNotes.{fact_of}
use Rattle.wp_commits.proofs.Making.{may_note, noted}
use Rattle.wp_commits.proofs.steps.note.Goals as goal

pub make_about-requires-clause-may : goal.make_about-requires-clause-may
make_about-requires-clause-may g c = may_note (place_at c.args.store.now c.args.seat.now.by) c.args.seat.now.knows (fact_of c.args.what) c.requires.seat.1 c.requires.known

pub make_about-requires-clause-client : goal.make_about-requires-clause-client
make_about-requires-clause-client g c w = (tt, tt)

pub returns : goal.returns
returns g c = noted (place_at c.args.store.now c.args.seat.now.by) _ (fact_of c.args.what) c.args.seat.now c.make_about.new.seat c.make_about.ensures.same c.make_about.ensures.moved
