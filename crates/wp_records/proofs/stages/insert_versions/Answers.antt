use Rattle.std.proofs.Common.{◌≡◌, suc, ◌+◌, length, arith}
use Rattle.wp_shared.specs.Seats.{place_at}
use Rattle.wp_parts.specs.Stock.{store_state}
use Rattle.wp_records.proofs.Made.{may_add, added}
use Rattle.wp_records.proofs.Stock.{not_inserted, inserted}
use Rattle.wp_records.proofs.stages.insert_versions.Goals as goal

pub returns-in_err-insert-clause-seat : goal.returns-in_err-insert-clause-seat
returns-in_err-insert-clause-seat g c = not_inserted c.args.seat.now c.args.log.now.state c.args.stock.now c.insert.new.self c.requires.held c.in_err-insert.ensures.err

pub make_about-requires-clause-may : goal.make_about-requires-clause-may
make_about-requires-clause-may g c = let s = c.args.seat.now in let d = c.args.log.now.state in let new = c.insert.new.self in
    let v = c.published.ensures.value in let number : c.published.result + 1 ≡ suc (length d.history) = omega (arith, v) in
    let h = inserted s d c.args.stock.now new c.requires.held (c.published.result + 1) c.args.batch.now number c.requires.entry c.requires.nowhere c.insert.ensures.others c.in_ok-insert.ensures.entry in
    may_add (place_at c.args.store.now s.by) s.knows d h.0 (store_state new).memory h.1 h.3

pub make_about-requires-clause-client : goal.make_about-requires-clause-client
make_about-requires-clause-client g c w = (tt, (tt, tt))

pub returns : goal.returns
returns g c = let s = c.args.seat.now in let d = c.args.log.now.state in let new = c.insert.new.self in
    let v = c.published.ensures.value in let number : c.published.result + 1 ≡ suc (length d.history) = omega (arith, v) in
    let h = inserted s d c.args.stock.now new c.requires.held (c.published.result + 1) c.args.batch.now number c.requires.entry c.requires.nowhere c.insert.ensures.others c.in_ok-insert.ensures.entry in
    let k = added (place_at c.args.store.now s.by) _ s c.make_about.new.seat c.make_about.ensures.same d h.0 (store_state new) h.1 h.2 c.make_about.ensures.moved in
    record { seat = k.0; ok = k.1 }
