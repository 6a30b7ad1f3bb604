use Rattle.std.specs.Option.{option_map}
use Rattle.std.proofs.lemmas.Result.{err_from_is_err_and}
use Rattle.wp_table.specs.Borrowed.{seen}
use Rattle.wp_table.specs.Judging.{last_after}
use Rattle.wp_table.proofs.Loop.{version_read, version_fails, versions_read}
use Rattle.wp_table.proofs.reading.last_after.Goals as goal

pub returns-in_err-next_version : goal.returns-in_err-next_version
returns-in_err-next_version c =
    let p = err_from_is_err_and c.from_residual.result c.from_residual.ensures.1 in
    rw (p.1, p.2) (version_fails c.args.format c.args.count c.loop.counter c.args.flushed (option_map seen c.loop.last) c.loop.fields c.in_err-next_version.field-0.0 (last_after c.args.format c.args.count c.args.flushed (option_map seen c.args.before) c.args.fields.now) c.loop-test.true c.in_err-next_version.ensures c.loop.invariant)

pub loop-preserved : goal.loop-preserved
loop-preserved c =
    version_read c.args.format c.args.count c.loop.counter c.args.flushed (option_map seen c.loop.last) c.loop.fields (seen c.in_ok-next_version.field-0) c.next_version.new.fields (last_after c.args.format c.args.count c.args.flushed (option_map seen c.args.before) c.args.fields.now) c.loop-test.true c.in_ok-next_version.ensures c.loop.invariant

pub returns : goal.returns
returns c = versions_read c.args.format c.args.count c.loop.counter c.args.flushed (option_map seen c.loop.last) c.loop.fields (last_after c.args.format c.args.count c.args.flushed (option_map seen c.args.before) c.args.fields.now) c.loop-test.false c.loop.invariant
