use Rattle.std.proofs.Common.{◌≡◌, suc, ◌+◌, length, arith}
use Rattle.wp_shared.specs.Seats.{place_at}
use Rattle.wp_parts.specs.Stock.{store_state}
use Rattle.wp_records.proofs.Made.{may_take, taken}
use Rattle.wp_records.proofs.Stock.{removed, went_on}
use Rattle.wp_records.proofs.stages.remove_versions.Goals as goal

pub make_about-requires-clause-may : goal.make_about-requires-clause-may
make_about-requires-clause-may g c = let z = c.args.store.now in let s = c.args.seat.now in let r = c.shows_world.new.seat in let d = c.args.log.now.state in let new = c.remove_from.new.self in
    let v = c.published.ensures.value in let number : c.published.result + 1 ≡ suc (length d.history) = omega (arith, v) in
    let h = removed s d c.args.stock.now new c.requires.held z r c.shows_world.ensures.same c.shows_world.ensures.stands (c.published.result + 1) number c.remove_from.ensures.memory c.remove_from.ensures.others in
    may_take (place_at z r.by) r.knows d h.0 (store_state new).memory h.1 h.3

pub make_about-requires-clause-client : goal.make_about-requires-clause-client
make_about-requires-clause-client g c w = (tt, (tt, tt))

pub returns : goal.returns
returns g c = let z = c.args.store.now in let s = c.args.seat.now in let r = c.shows_world.new.seat in let d = c.args.log.now.state in let new = c.remove_from.new.self in let u = c.make_about.new.seat in
    let v = c.published.ensures.value in let number : c.published.result + 1 ≡ suc (length d.history) = omega (arith, v) in
    let h = removed s d c.args.stock.now new c.requires.held z r c.shows_world.ensures.same c.shows_world.ensures.stands (c.published.result + 1) number c.remove_from.ensures.memory c.remove_from.ensures.others in
    let k = taken (place_at z r.by) _ r u c.make_about.ensures.same d h.0 (store_state new) h.1 h.2 c.make_about.ensures.moved in
    record { seat = went_on s d c.args.stock.now new c.requires.held z r c.shows_world.ensures.same c.shows_world.ensures.stands u k.0; nowhere = k.1 }
