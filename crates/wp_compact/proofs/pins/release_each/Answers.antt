use Rattle.std.proofs.Common.{List, ◌++◌, append-nil, subst, ap, ◌∙◌, arith}
use Rattle.wp_core.specs.Reading.{Registration}
use Rattle.wp_shared.specs.Calls.{Continues}
use Rattle.wp_compact.proofs.Pinning.{continues_with, before_last, last_there, none_left, released_last}
use Rattle.wp_compact.proofs.pins.release_each.Goals as goal

pub loop-snapshot-init : goal.loop-snapshot-init
loop-snapshot-init g c front is = continues_with c.args.store.now c.args.seat.now (front ++ c.args.live.items) c.requires.free is

pub release-requires-clause-free : goal.release-requires-clause-free
release-requires-clause-free g c = (c.loop-snapshot.invariant c.requires.last.0 c.requires.last.1).free

pub release-requires-clause-registered : goal.release-requires-clause-registered
release-requires-clause-registered g c =
    let s = c.args.seat.now in let front = c.requires.last.0 in
    last_there c.args.store.now s c.loop-snapshot.seat s.knows.participant front c.pop.new.self.items c.loop-snapshot.live.items c.in-Some.snapshot c.in-Some.ensures.items (c.loop-snapshot.invariant front c.requires.last.1)

pub loop-snapshot-preserved : goal.loop-snapshot-preserved
loop-snapshot-preserved g c front is =
    let z = c.args.store.now in let s = c.args.seat.now in let t = c.loop-snapshot.seat in let rest = c.pop.new.self.items in
    released_last z s t c.release.new.seat (front ++ rest) c.in-Some.snapshot s.knows.participant (before_last z s t s.knows.participant front rest c.loop-snapshot.live.items c.in-Some.snapshot c.in-Some.ensures.items (c.loop-snapshot.invariant front is)) (let k = c.release.ensures in (k.0, k.1, k.2, k.3, k.4))

pub returns : goal.returns
returns g c front is =
    let s = c.args.seat.now in let none = none_left c.loop-snapshot.live.items (omega (arith, c.in_default.ensures.cases.0, c.loop-snapshot.live.ok.0)) in
    subst (λ (rs : List Registration). Continues c.args.store.now s c.loop-snapshot.seat (record s.knows.participant { registered = rs })) (ap (λ (l : List Registration). front ++ l) none ∙ append-nil front) (c.loop-snapshot.invariant front is)
