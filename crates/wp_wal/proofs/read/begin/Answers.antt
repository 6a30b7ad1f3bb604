use Rattle.std.proofs.Common.{sym, arith}
use Rattle.std.proofs.lemmas.Result.{err_from_is_err_and}
use Rattle.wp_wal.proofs.Told.{begins_none, begins_one, begins_two, first_refused, missing, none_first, some_first}
use Rattle.wp_wal.proofs.read.begin.Goals as goal

pub returns-then-place-gt0-clause-err : goal.returns-then-place-gt0-clause-err
returns-then-place-gt0-clause-err c = missing c.args.format c.args.place c.args.records.now (none_first c.args.records.now (rw c.in_default.is at c.first.ensures.value)) c.if-place-gt0.true

pub returns-in_default-clause-ok : goal.returns-in_default-clause-ok
returns-in_default-clause-ok c = rw c.without_base.ensures.outline (begins_none c.args.format c.args.place c.args.records.now c.new.result (none_first c.args.records.now (rw c.in_default.is at c.first.ensures.value)) (omega (arith, c.if-place-gt0.false)) c.new.ensures.base c.new.ensures.entries)

pub returns-in_ok-outline-in-One-clause-ok : goal.returns-in_ok-outline-in-One-clause-ok
returns-in_ok-outline-in-One-clause-ok c =
    let its = c.in_ok-outline-in-One.ensures in
    rw (c.in-One.is, c.without_base-in-One.ensures.outline) (begins_one c.args.place c.args.records.now c.in_ok-outline-in-One.outline (some_first c.args.records.now c.in-Some.first.now (rw c.in-Some.is at c.first.ensures.value)) its.base its.entries)

pub returns-in_ok-take_base-in-Two-clause-ok : goal.returns-in_ok-take_base-in-Two-clause-ok
returns-in_ok-take_base-in-Two-clause-ok c =
    rw c.in-Two.is (begins_two c.args.place c.args.records.now c.in-Some.first.now c.in_ok-take_base-in-Two.field-0.outline (sym (rw c.in-Some.is at c.first.ensures.value)) (rw c.bytes.ensures at c.in_ok-take_base-in-Two.ensures.ok))

pub returns-in_err-take_base-in-Two-clause-err : goal.returns-in_err-take_base-in-Two-clause-err
returns-in_err-take_base-in-Two-clause-err c =
    let p = err_from_is_err_and c.from_residual-in_err-take_base-in-Two.result c.from_residual-in_err-take_base-in-Two.ensures.1 in
    rw (p.1, p.2, c.in-Two.is) (first_refused c.args.place c.args.records.now c.in-Some.first.now c.in_err-take_base-in-Two.field-0.0 (sym (rw c.in-Some.is at c.first.ensures.value)) (rw c.bytes.ensures at c.in_err-take_base-in-Two.ensures.err))
