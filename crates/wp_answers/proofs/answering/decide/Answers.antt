use Rattle.std.proofs.Common.{inr}
use Rattle.wp_client.proofs.WholeClients.{if_broken}
use Rattle.wp_answers.proofs.answering.decide.Goals as goal

pub returns-in-Begin-clause-answered : goal.returns-in-Begin-clause-answered
returns-in-Begin-clause-answered g c = rw c.in-Begin.is c.begin.ensures.answered

pub returns-in-Begin-clause-err : goal.returns-in-Begin-clause-err
returns-in-Begin-clause-err g c = rw c.in-Begin.is c.begin.ensures.err

pub returns-in-Take-clause-answered : goal.returns-in-Take-clause-answered
returns-in-Take-clause-answered g c = rw c.in-Take.is c.take.ensures.answered

pub returns-in-Take-clause-err : goal.returns-in-Take-clause-err
returns-in-Take-clause-err g c = rw c.in-Take.is c.take.ensures.err

pub returns-in-Prepare-clause-answered : goal.returns-in-Prepare-clause-answered
returns-in-Prepare-clause-answered g c = rw c.in-Prepare.is c.prepare.ensures.answered

pub returns-in-Prepare-clause-err : goal.returns-in-Prepare-clause-err
returns-in-Prepare-clause-err g c = rw c.in-Prepare.is c.prepare.ensures.err

pub returns-in-Commit-clause-answered : goal.returns-in-Commit-clause-answered
returns-in-Commit-clause-answered g c = rw c.in-Commit.is c.commit.ensures.answered

pub returns-in-Commit-clause-err : goal.returns-in-Commit-clause-err
returns-in-Commit-clause-err g c = rw c.in-Commit.is c.commit.ensures.err

pub returns-in-Rollback-clause-answered : goal.returns-in-Rollback-clause-answered
returns-in-Rollback-clause-answered g c = rw c.in-Rollback.is c.rollback.ensures.answered

pub returns-in-Rollback-clause-err : goal.returns-in-Rollback-clause-err
returns-in-Rollback-clause-err g c = rw c.in-Rollback.is c.rollback.ensures.err

pub returns-in-Leave-clause-answered : goal.returns-in-Leave-clause-answered
returns-in-Leave-clause-answered g c = rw c.in-Leave.is c.leave-left.ensures.answered

pub returns-in-Begin-clause-uncalled : goal.returns-in-Begin-clause-uncalled
returns-in-Begin-clause-uncalled g c = rw c.in-Begin.is (if_broken c.begin.result.1 (inr tt))

pub returns-in-Take-clause-uncalled : goal.returns-in-Take-clause-uncalled
returns-in-Take-clause-uncalled g c = rw c.in-Take.is (if_broken c.take.result.1 (inr tt))

pub returns-in-Prepare-clause-uncalled : goal.returns-in-Prepare-clause-uncalled
returns-in-Prepare-clause-uncalled g c = rw c.in-Prepare.is c.prepare.ensures.uncalled

pub returns-in-Commit-clause-uncalled : goal.returns-in-Commit-clause-uncalled
returns-in-Commit-clause-uncalled g c = rw c.in-Commit.is c.commit.ensures.uncalled

pub returns-in-Rollback-clause-uncalled : goal.returns-in-Rollback-clause-uncalled
returns-in-Rollback-clause-uncalled g c = rw c.in-Rollback.is c.rollback.ensures.uncalled
