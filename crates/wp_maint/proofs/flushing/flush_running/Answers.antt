use Rattle.std.proofs.Common.{refl, sym, subst, ap, arith}
use Rattle.wp_core.specs.World.{Participant}
use Rattle.wp_shared.specs.Calls.{GoesOnAs}
use Rattle.wp_shared.proofs.Onward.{starts_same, goes_still}
use Rattle.wp_maint.specs.Flush.{Freezes}
use Rattle.wp_maint.proofs.Onward.{goes_more, found_nothing, seat_still, saw_so, flushes_so}
use Rattle.wp_maint.proofs.flushing.flush_running.Goals as goal

pub returns-in_default-found-clause-says : goal.returns-in_default-found-clause-says
returns-in_default-found-clause-says g c =
    let k = c.freeze_all.ensures in let u = c.freeze_all.new.seat in let e = c.args.edits.now.state in
    found_nothing c.args.store.now c.args.seat.now u c.find_held.new.seat e k.goes c.find_held.ensures.found c.requires.running k.whole (subst (Freezes u.knows e) c.in_default-found.is c.in-Ok.ensures.frozen)

pub returns-clause-says : goal.returns-clause-says
returns-clause-says g c =
    let s = c.args.seat.now in let u = c.freeze_all.new.seat in let v = c.flush_ready.new.seat in let e = c.args.edits.now.state in let first = c.freeze_all.ensures.goes in
    flushes_so (GoesOnAs u v) (GoesOnAs s v) c.args.store.now s u v v e (seat_still s u s.knows.participant first) (ap (λ (p : Participant). p.past) first.participant) first.seen refl (starts_same v.knows.participant.seen) (goes_more s u v s.knows.participant first) (goes_still s u v s.knows.participant first) refl c.flush_ready.result c.flush_ready.ensures.says

pub flush_ready-requires-clause-whole : goal.flush_ready-requires-clause-whole
flush_ready-requires-clause-whole g c =
    let s = c.args.seat.now in let u = c.freeze_all.new.seat in let k = c.freeze_all.ensures.goes in
    saw_so c.args.store.now u s u.knows.participant.seen u.knows.participant.seen (sym k.same_by, sym k.made, sym k.joined) (sym (ap (λ (p : Participant). p.past) k.participant)) refl c.freeze_all.ensures.whole

pub make_ready-requires : goal.make_ready-requires
make_ready-requires g c = (c.freeze_all.new.seat.knows, (subst (Freezes c.freeze_all.new.seat.knows c.args.edits.now.state) c.in-Some.is c.in-Ok.ensures.frozen).0)

pub flush_ready-requires-clause-ready : goal.flush_ready-requires-clause-ready
flush_ready-requires-clause-ready g c =
    let a = c.freeze_all.new.seat.knows in let k = subst (Freezes a c.args.edits.now.state) c.in-Some.is c.in-Ok.ensures.frozen in
    let r = c.in-Ok-make_ready.ensures a k.0 in (r, let one = r.frozen.count in let two = k.0.count in let some = k.1 in omega (arith, one, two, some))
