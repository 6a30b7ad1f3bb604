use Rattle.std.proofs.Common.{[]}
use Rattle.std.proofs.lemmas.Result.{err_from_is_err_and}
use Rattle.wp_entry.specs.Reading.{commits_after}
use Rattle.wp_entry.proofs.CommitsLoop.{commit_read, commit_fails, commits_read}
use Rattle.wp_entry.proofs.reading.all_commits.Goals as goal

pub returns-in_err-p : goal.returns-in_err-p
returns-in_err-p c =
    let p = err_from_is_err_and c.from_residual.result c.from_residual.ensures.1 in
    rw (p.1, p.2) (commit_fails c.args.count c.loop.counter c.args.format c.args.due c.loop.commits.items c.loop.fields c.in_err-p.field-0.0 (commits_after c.args.count c.args.format c.args.due [] c.args.fields.now) c.loop-test.true c.in_err-p.ensures c.loop.invariant)

pub loop-preserved : goal.loop-preserved
loop-preserved c = rw c.in_ok-push.ensures.items (commit_read c.args.count c.loop.counter c.args.format c.args.due c.loop.commits.items c.loop.fields c.in_ok-p.p c.earlier.new.fields (commits_after c.args.count c.args.format c.args.due [] c.args.fields.now) c.loop-test.true c.in_ok-p.ensures c.loop.invariant)

pub returns : goal.returns
returns c = commits_read c.args.count c.loop.counter c.args.format c.args.due c.loop.commits.items c.loop.fields (commits_after c.args.count c.args.format c.args.due [] c.args.fields.now) c.loop-test.false c.loop.invariant
