use Rattle.std.proofs.Common.{◌≡◌, suc, ◌+◌, length, sym, subst, arith}
use Rattle.std.specs.FinSet as set
use Rattle.wp_prepared.specs.Least.{AreBelow}
use Rattle.wp_shared.specs.Notes.{DelayedFlagTells}
use Rattle.wp_shared.specs.Seats.{SeatState, place_at}
use Rattle.wp_records.proofs.Heap.{heap_below, added_to, not_added, went_on, flag_after}
use Rattle.wp_records.proofs.Made.{may_put_number, number_put}
use Rattle.wp_records.proofs.stages.insert_number.Goals as goal

pub add-requires : goal.add-requires
add-requires g c =
    let v = c.published.ensures.value in let number : c.published.result + 1 ≡ suc (length c.args.log.now.state.history) = omega (arith, v) in
    subst (AreBelow c.args.tables.now.heap) (sym number)
    (heap_below c.args.store.now c.args.seat.now c.shows_world.new.seat c.args.log.now.state c.args.tables.now c.shows_world.ensures.same c.shows_world.ensures.stands c.requires.held c.requires.below)

pub returns-in_err-add-clause-seat : goal.returns-in_err-add-clause-seat
returns-in_err-add-clause-seat g c = not_added c.args.seat.now c.shows_world.new.seat c.args.log.now.state c.args.tables.now c.add.new.self c.shows_world.ensures.same c.requires.held c.in_err-add.ensures.err

pub returns-in_err-add-clause-flag : goal.returns-in_err-add-clause-flag
returns-in_err-add-clause-flag g c = let r = c.shows_world.new.seat in
    subst (DelayedFlagTells r.knows) (sym c.in_err-add.ensures.err) (subst (λ (x : SeatState). DelayedFlagTells x.knows c.args.tables.now) (sym c.shows_world.ensures.same) c.requires.flag)

pub make-requires-clause-may : goal.make-requires-clause-may
make-requires-clause-may g c = let s = c.args.seat.now in let r = c.shows_world.new.seat in let d = c.args.log.now.state in
    let v = c.published.ensures.value in let number : c.published.result + 1 ≡ suc (length d.history) = omega (arith, v) in
    let h = added_to s r d c.args.tables.now c.add.new.self c.shows_world.ensures.same c.requires.held (c.published.result + 1) number c.in_ok-add.ensures.ok in
    may_put_number (place_at c.args.store.now r.by) r.knows d h.0 h.1 c.requires.prepare

pub make-requires-clause-client : goal.make-requires-clause-client
make-requires-clause-client g c w = (tt, (tt, tt))

pub returns : goal.returns
returns g c = let s = c.args.seat.now in let r = c.shows_world.new.seat in let same = c.shows_world.ensures.same in let d = c.args.log.now.state in let old = c.args.tables.now in let new = c.add.new.self in let ok = c.in_ok-add.ensures.ok in let u = c.make.new.seat in
    let v = c.published.ensures.value in let number : c.published.result + 1 ≡ suc (length d.history) = omega (arith, v) in
    let h = added_to s r d old new same c.requires.held (c.published.result + 1) number ok in
    let k = number_put (place_at c.args.store.now r.by) _ r u c.make.ensures.same d h.0 new h.1 h.2 c.make.ensures.moved in
    record {
      seat = went_on s r d old new same c.requires.held u k.0;
      flag = flag_after s r d old new same c.requires.held u (set.insert old.heap (c.published.result + 1)) ok k.0 c.requires.flag;
      ok = k.1;
    }
