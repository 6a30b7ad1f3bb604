use Rattle.wp_commits.proofs.Passed.{decided_to, passed_is}
use Rattle.wp_commits.proofs.Words.{bound_is}
use Rattle.wp_commits.proofs.steps.passed.Goals as goal

pub returns-clause-passed : goal.returns-clause-passed
returns-clause-passed g c = let z = c.args.store.now in let s = c.args.seat.now in let d = c.args.log.now.state in let t = c.args.tables.now in let w = c.requires.words in let b = c.max-bound in let f = b.ensures.found in
    passed_is c.passed.result s.knows d.history t.delayed_commits b.result w.0 w.1 w.2 (bound_is z s b.new.seat b.result b.ensures.same f w.0 w.1 w.2)
    (decided_to z s b.new.seat t b.ensures.same (f.0, f.1) c.requires.held.1 d c.requires.held.0 b.result f.2) c.passed.ensures
