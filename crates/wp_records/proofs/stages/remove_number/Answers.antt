use Rattle.std.proofs.Common.{◌≡◌, suc, ◌+◌, length, ap, ◌∙◌, arith}
use Rattle.std.specs.FinMap as finite
use Rattle.std.specs.FinSet as set
use Rattle.wp_shared.specs.Seats.{place_at}
use Rattle.wp_records.proofs.Heap.{left_heap, same_held, went_on, flag_after}
use Rattle.wp_records.proofs.Made.{may_take_number, number_taken}
use Rattle.wp_records.proofs.stages.remove_number.Goals as goal

pub make-requires-clause-may : goal.make-requires-clause-may
make-requires-clause-may g c = let s = c.args.seat.now in let r = c.shows_world.new.seat in let d = c.args.log.now.state in let old = c.args.tables.now in
    may_take_number (place_at c.args.store.now r.by) r.knows d old (same_held s r d old c.remove.new.self c.shows_world.ensures.same c.requires.held) c.requires.prepare

pub make-requires-clause-client : goal.make-requires-clause-client
make-requires-clause-client g c w = (tt, (tt, tt))

pub returns : goal.returns
returns g c = let z = c.args.store.now in let s = c.args.seat.now in let r = c.shows_world.new.seat in let same = c.shows_world.ensures.same in let d = c.args.log.now.state in let old = c.args.tables.now in let new = c.remove.new.self in let u = c.make.new.seat in
    let v = c.published.ensures.value in let number : c.published.result + 1 ≡ suc (length d.history) = omega (arith, v) in
    let left : new ≡ record old { heap = set.remove old.heap (suc (length d.history)) } = left_heap z s r d old same c.shows_world.ensures.stands c.requires.held c.requires.prepare new
    (c.remove.ensures.heap ∙ ap (set.remove old.heap) number) (c.remove.ensures.delayed ∙ ap (set.remove old.delayed) number) (c.remove.ensures.delayed_commits ∙ ap (finite.remove old.delayed_commits) number) in
    let k = number_taken (place_at z r.by) _ r u c.make.ensures.same d old new (same_held s r d old new same c.requires.held) left c.make.ensures.moved in
    record {
      seat = went_on s r d old new same c.requires.held u k.0;
      flag = flag_after s r d old new same c.requires.held u (set.remove old.heap (suc (length d.history))) left k.0 c.requires.flag;
      below = k.1;
    }
