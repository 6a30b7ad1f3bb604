use Rattle.std.proofs.Common.{[]}
use Rattle.std.proofs.lemmas.Result.{err_from_is_err_and}
use Rattle.wp_entry.specs.BaseReading.{carried_after}
use Rattle.wp_entry.proofs.BaseLoop.{one_read, one_fails, all_read}
use Rattle.wp_entry.proofs.base.all_carried.Goals as goal

pub returns-in_err-next : goal.returns-in_err-next
returns-in_err-next c =
    let p = err_from_is_err_and c.from_residual.result c.from_residual.ensures.1 in
    rw (p.1, p.2) (one_fails c.args.count c.loop.counter c.args.base c.loop.last c.loop.carried.items c.loop.fields c.in_err-next.field-0.0 (carried_after c.args.count c.args.base 0 [] c.args.fields.now) c.loop-test.true c.in_err-next.ensures c.loop.invariant)

pub loop-preserved : goal.loop-preserved
loop-preserved c = rw c.in_ok-push.ensures.items (one_read c.args.count c.loop.counter c.args.base c.loop.last c.loop.carried.items c.loop.fields c.in_ok-next.next c.one_carried.new.fields (carried_after c.args.count c.args.base 0 [] c.args.fields.now) c.loop-test.true c.in_ok-next.ensures c.loop.invariant)

pub returns : goal.returns
returns c = all_read c.args.count c.loop.counter c.args.base c.loop.last c.loop.carried.items c.loop.fields (carried_after c.args.count c.args.base 0 [] c.args.fields.now) c.loop-test.false c.loop.invariant
