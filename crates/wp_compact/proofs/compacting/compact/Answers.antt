use Rattle.wp_shared.proofs.Onward.{continues_none, continues_still}
use Rattle.wp_maint.specs.Calls.{KeepsEach}
use Rattle.wp_maint.proofs.BeforeInstall.{err_more, none_installed}
use Rattle.wp_compact.proofs.BeforeInstall.{compacted_before, none_taken}
use Rattle.wp_compact.proofs.Rounds.{compacts_since, each_since, grown_since}
use Rattle.wp_compact.proofs.compacting.compact.Goals as goal

pub loop-init : goal.loop-init
loop-init g c = (continues_none c.args.store.now c.args.seat.now c.requires, none_taken c.args.store.now c.args.seat.now c.args.seat.now)

pub try_compact-requires : goal.try_compact-requires
try_compact-requires g c = c.loop.invariant.0.free

pub returns-in-Some-try_compact-clause-answers : goal.returns-in-Some-try_compact-clause-answers
returns-in-Some-try_compact-clause-answers g c = compacts_since c.args.store.now c.args.seat.now c.loop.seat c.try_compact.new.seat c.loop.invariant.0 c.in-Some-try_compact.result c.in-Some-try_compact.ensures.says

pub returns-in-Some-try_compact-clause-before_devices : goal.returns-in-Some-try_compact-clause-before_devices
returns-in-Some-try_compact-clause-before_devices g c =
    let z = c.args.store.now in let s = c.args.seat.now in let t = c.loop.seat in let v = c.try_compact.new.seat in let result = c.in-Some-try_compact.result in let says = c.in-Some-try_compact.ensures.says in
    compacted_before z s v (KeepsEach z s v) result (returns-in-Some-try_compact-clause-answers g c)
    (err_more (each_since z s t v c.loop.invariant.0 (grown_since z s t v c.loop.invariant.0 result says) c.loop.invariant.1) result c.in-Some-try_compact.ensures.untouched)

pub returns-in-Some-try_compact-clause-behind_install : goal.returns-in-Some-try_compact-clause-behind_install
returns-in-Some-try_compact-clause-behind_install g c =
    let z = c.args.store.now in let s = c.args.seat.now in let v = c.try_compact.new.seat in none_installed (KeepsEach z s v) s v c.in-Some-try_compact.result (returns-in-Some-try_compact-clause-before_devices g c)

pub loop-preserved : goal.loop-preserved
loop-preserved g c =
    let z = c.args.store.now in let s = c.args.seat.now in let t = c.loop.seat in let v = c.try_compact.new.seat in let goes = c.in_default.ensures.says.1.goes_on in
    (continues_still z s t v s.knows.participant c.loop.invariant.0 goes, each_since z s t v c.loop.invariant.0 goes.seen c.loop.invariant.1 c.in_default.ensures.untouched)
