use Rattle.std.proofs.Common.{[], arith}
use Rattle.std.proofs.lemmas.List.{length_push}
use Rattle.std.proofs.lemmas.Result.{err_from_is_err_and}
use Rattle.wp_encoding.specs.Reading.{changes_after}
use Rattle.wp_encoding.proofs.Loop.{change_read, change_fails, all_read}
use Rattle.wp_encoding.proofs.reading.changes.Goals as goal

pub returns-in_err-change : goal.returns-in_err-change
returns-in_err-change c =
    let p = err_from_is_err_and c.from_residual.result c.from_residual.ensures.1 in
    rw (p.1, p.2) (change_fails c.args.count c.loop.counter c.loop.batch c.loop.fields c.in_err-change.field-0.0 (changes_after c.args.count [] c.args.fields.now) c.loop-test.true c.in_err-change.ensures.read c.loop.invariant.read)

pub loop-preserved : goal.loop-preserved
loop-preserved c = record {
  read = rw c.in_ok-append.ensures.appended (change_read c.args.count c.loop.counter c.loop.batch c.loop.fields c.in_ok-change.change c.next_change.new.fields (changes_after c.args.count [] c.args.fields.now) c.loop-test.true c.in_ok-change.ensures.read c.loop.invariant.read);
  in_order = c.in_ok-append.ensures.batch;
  counted = rw c.in_ok-append.ensures.appended (omega (arith, length_push c.loop.batch c.in_ok-change.change, c.loop.invariant.counted));
}

pub returns : goal.returns
returns c = all_read c.args.count c.loop.counter c.loop.batch c.loop.fields (changes_after c.args.count [] c.args.fields.now) c.loop-test.false c.loop.invariant.read
