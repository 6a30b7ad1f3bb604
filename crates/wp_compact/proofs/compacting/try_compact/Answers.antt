use Rattle.std.proofs.Common.{ap}
use Rattle.wp_core.specs.World.{Participant}
use Rattle.wp_compact.proofs.BeforeInstall.{none_taken, each_between, round_more}
use Rattle.wp_compact.proofs.Rounds.{no_tables, knows_live, floor_registered, free_round, registered_round, round_so}
use Rattle.wp_compact.proofs.compacting.try_compact.Goals as goal

pub compact_pinned-result-requires-clause-free : goal.compact_pinned-result-requires-clause-free
compact_pinned-result-requires-clause-free g c = c.in-Ok.ensures.registered.free

pub compact_pinned-result-requires-clause-floor : goal.compact_pinned-result-requires-clause-floor
compact_pinned-result-requires-clause-floor g c = let p = c.in-Ok.pinned in
    (floor_registered c.args.store.now c.args.seat.now c.pin_all.new.seat p.floor p.live.items (ap (λ (q : Participant). q.registered) c.in-Ok.ensures.registered.participant), c.in-Ok.ensures.number)

pub compact_pinned-result-requires-clause-live : goal.compact_pinned-result-requires-clause-live
compact_pinned-result-requires-clause-live g c = let p = c.in-Ok.pinned in
    knows_live c.args.store.now c.args.seat.now c.pin_all.new.seat p.floor p.live.items (ap (λ (q : Participant). q.registered) c.in-Ok.ensures.registered.participant) c.in-Ok.ensures.number c.in-Ok.ensures.pinned c.in-Ok.ensures.listed

pub unpin-requires-clause-free : goal.unpin-requires-clause-free
unpin-requires-clause-free g c = let p = c.in-Ok.pinned in
    free_round c.args.store.now c.args.seat.now c.pin_all.new.seat c.compact_pinned-result.new.seat c.compact_pinned-result.new.seat p.floor p.live.items c.in-Ok.ensures.registered c.in-Ok.ensures.number c.in-Ok.ensures.pinned c.compact_pinned-result.result c.compact_pinned-result.ensures.says

pub unpin-requires-clause-last : goal.unpin-requires-clause-last
unpin-requires-clause-last g c = let p = c.in-Ok.pinned in
    (c.args.seat.now.knows.participant.registered, registered_round c.args.store.now c.args.seat.now c.pin_all.new.seat c.compact_pinned-result.new.seat c.compact_pinned-result.new.seat p.floor p.live.items c.in-Ok.ensures.registered c.in-Ok.ensures.number c.in-Ok.ensures.pinned c.compact_pinned-result.result c.compact_pinned-result.ensures.says)

pub returns-in-Err-clause-says : goal.returns-in-Err-clause-says
returns-in-Err-clause-says g c = (no_tables, c.in-Err.ensures.refused)

pub returns-in-Err-clause-untouched : goal.returns-in-Err-clause-untouched
returns-in-Err-clause-untouched g c = none_taken c.args.store.now c.args.seat.now c.pin_all.new.seat

pub returns-in-Ok-clause-says : goal.returns-in-Ok-clause-says
returns-in-Ok-clause-says g c =
    let z = c.args.store.now in let s = c.args.seat.now in let t = c.pin_all.new.seat in let u = c.compact_pinned-result.new.seat in let v = c.unpin.new.seat in let p = c.in-Ok.pinned in let k = c.in-Ok.ensures in
    round_so z s t u v p.floor p.live.items k.registered k.number k.pinned c.compact_pinned-result.result c.compact_pinned-result.ensures.says
    (c.unpin.ensures s.knows.participant.registered (registered_round z s t u v p.floor p.live.items k.registered k.number k.pinned c.compact_pinned-result.result c.compact_pinned-result.ensures.says))

pub returns-in-Ok-clause-untouched : goal.returns-in-Ok-clause-untouched
returns-in-Ok-clause-untouched g c =
    let z = c.args.store.now in let s = c.args.seat.now in let t = c.pin_all.new.seat in let u = c.compact_pinned-result.new.seat in let v = c.unpin.new.seat in let p = c.in-Ok.pinned in let k = c.in-Ok.ensures in
    let first = k.registered in let last = c.unpin.ensures s.knows.participant.registered (registered_round z s t u v p.floor p.live.items k.registered k.number k.pinned c.compact_pinned-result.result c.compact_pinned-result.ensures.says) in
    round_more (each_between z s t u v (first.same_by, first.made, first.joined) (ap (λ (q : Participant). q.past) first.participant) first.seen last.seen) c.compact_pinned-result.result c.compact_pinned-result.ensures.untouched
