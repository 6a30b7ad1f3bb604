use Rattle.wp_judge.specs.Words.{commit_pair}
use Rattle.wp_shared.specs.Seats.{place_at}
use Rattle.wp_commits.proofs.Going.{may_note_own, noted_own}
use Rattle.wp_commits.proofs.steps.note_own.Goals as goal

pub make_about-requires-clause-may : goal.make_about-requires-clause-may
make_about-requires-clause-may g c =
    may_note_own (place_at c.args.store.now c.args.seat.now.by) c.args.seat.now.knows c.args.log.now.state c.args.place c.args.n c.requires.seat.1 c.requires.held c.requires.passed.0 c.requires.passed.1

pub make_about-requires-clause-client : goal.make_about-requires-clause-client
make_about-requires-clause-client g c w = (tt, (tt, (tt, tt)))

pub returns : goal.returns
returns g c =
    noted_own (place_at c.args.store.now c.args.seat.now.by) _ c.args.place (commit_pair c.args.n c.args.n) c.args.seat.now c.make_about.new.seat c.make_about.ensures.same c.make_about.ensures.moved
