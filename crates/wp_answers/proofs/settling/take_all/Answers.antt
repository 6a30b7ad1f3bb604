use Rattle.std.proofs.Common.{◌≡◌, List, [], take, ◌+◌, Err, sym, subst, arith}
use Rattle.wp_shared.specs.Seats.{SeatState}
use Rattle.wp_open_txns.specs.Calls.{TakesPrepared}
use Rattle.wp_open_txns.specs.Txn.{PreparedState}
use Rattle.wp_answers.specs.Settling.{HasTaken}
use Rattle.wp_answers.proofs.Settles.{refused_take_goes, holds_going}
use Rattle.wp_answers.proofs.Taking.{taken_none, next_taken, next_refused, whole_taken}
use Rattle.wp_answers.proofs.settling.take_all.Goals as goal

pub loop-name-init : goal.loop-name-init
loop-name-init g c = let long = c.in_ok-txns.ensures.capacity in record {
  taken = subst (λ (items : List PreparedState). HasTaken c.args.store.now c.args.seat.now [] items c.args.seat.now) (sym (c.in_ok-txns.ensures.items)) (taken_none c.args.store.now c.args.seat.now c.requires.idle);
  count = c.in_ok-txns.ensures.len;
  room = omega (arith, long);
}

pub take_prepared-requires : goal.take_prepared-requires
take_prepared-requires g c = c.loop-name.invariant.taken.holds.free

pub loop-name-preserved : goal.loop-name-preserved
loop-name-preserved g c =
    let z = c.args.store.now in let old = c.args.seat.now in let s = c.loop-name.seat in let t = c.take_prepared.new.seat in let txns = c.loop-name.txns.items in let i = c.loop-name.invariant in let count = i.count in let more = c.push_reserved.ensures.len in let room = i.room in let same = c.push_reserved.ensures.capacity in
    let taken = next_taken c.args.names.now c.loop-name.name-index c.name-item.result (omega arith) c.name-item.is z old s t txns i.taken c.requires.distinct c.in-Ok.txn (c.in-Ok.ensures) in record {
      taken = subst (λ (items : List PreparedState). HasTaken z old (take (c.loop-name.name-index + 1) c.args.names.now) items t) (sym c.push_reserved.ensures.items) taken;
      count = omega (arith, more, count);
      room = omega (arith, room, same);
    }

pub shows_world-requires : goal.shows_world-requires
shows_world-requires g c =
    let z = c.args.store.now in let s = c.loop-name.seat in let t = c.take_prepared.new.seat in let goes = refused_take_goes z s t c.name-item.result c.in-Err.why (c.in-Err.ensures) in
    (holds_going z s t c.loop-name.txns.items c.loop-name.invariant.taken.holds goes.0 goes.1).free.same_table

pub leave_all-requires : goal.leave_all-requires
leave_all-requires g c =
    let z = c.args.store.now in let s = c.loop-name.seat in let t = c.take_prepared.new.seat in let goes = refused_take_goes z s t c.name-item.result c.in-Err.why (c.in-Err.ensures) in
    rw c.shows_world.ensures.same (holds_going z s t c.loop-name.txns.items c.loop-name.invariant.taken.holds goes.0 goes.1)

pub returns-in-Err-clause-refused : goal.returns-in-Err-clause-refused
returns-in-Err-clause-refused g c =
    let z = c.args.store.now in let old = c.args.seat.now in let s = c.loop-name.seat in let t = c.shows_world.new.seat in let txns = c.loop-name.txns.items in let taken = c.loop-name.invariant.taken in
    let k = subst (λ (x : SeatState). TakesPrepared z s c.name-item.result (Err c.in-Err.why) x) (sym c.shows_world.ensures.same) (c.in-Err.ensures) in
    let goes = refused_take_goes z s t c.name-item.result c.in-Err.why k in
    next_refused c.args.names.now c.loop-name.name-index c.name-item.result (omega arith) c.name-item.is z old s t txns taken c.requires.distinct c.in-Err.why c.leave_all.new.seat c.shows_world.ensures.stands.0 c.shows_world.ensures.stands.1 (holds_going z s t txns taken.holds goes.0 goes.1) k c.leave_all.ensures

pub returns-clause-taken : goal.returns-clause-taken
returns-clause-taken g c =
    let z = c.args.store.now in let old = c.args.seat.now in let t = c.shows_world-2.new.seat in let names = c.args.names.now in
    whole_taken z old t names c.loop-name.name-index c.loop-name.txns.items (omega arith) (subst (λ (x : SeatState). HasTaken z old (take c.loop-name.name-index names) c.loop-name.txns.items x) (sym c.shows_world-2.ensures.same) c.loop-name.invariant.taken) c.shows_world-2.ensures.stands.0 c.shows_world-2.ensures.stands.1
