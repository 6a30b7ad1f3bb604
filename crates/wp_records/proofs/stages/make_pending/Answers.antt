use Rattle.std.proofs.Common.{false, List, ap, ◌∙◌}
use Rattle.wp_model.specs.declared.entry.Entry.{Entry}
use Rattle.wp_shared.specs.Seats.{place_at}
use Rattle.wp_records.proofs.Begun.{begins_as, begins_one, begins_legal, begun}
use Rattle.wp_records.proofs.Made.{may_begin, began}
use Rattle.wp_records.proofs.stages.make_pending.Goals as goal

pub make_about-requires-clause-may : goal.make_about-requires-clause-may
make_about-requires-clause-may g c = let s = c.args.seat.now in let log = c.args.log.now in let left = c.reserve.new.self in let ok = c.in-Ok.ensures.ok in
    may_begin (place_at c.args.store.now s.by) s.knows log.state left.state c.requires.holds.turn.held c.requires.holds.pending
    (begins_as log left c.into_entries.result.items ok) (begins_one log left c.into_entries.result.items ok c.into_entries.ensures.one)
    (begins_legal log left c.args.entries (ok ∙ ap (λ (e : List Entry). record log.state { pending = e; logged = false }) c.into_entries.ensures.entries) c.requires.legal) c.devices_agree.ensures.next

pub make_about-requires-clause-client : goal.make_about-requires-clause-client
make_about-requires-clause-client g c w = (tt, (tt, (tt, (tt, tt))))

pub returns-clause-ok : goal.returns-clause-ok
returns-clause-ok g c = let z = c.args.store.now in let s = c.args.seat.now in let u = c.make_about.new.seat in let log = c.args.log.now in let left = c.reserve.new.self in let ok = c.in-Ok.ensures.ok in
    let k = began (place_at z s.by) _ s u c.make_about.ensures.same log.state left.state c.requires.holds.turn.held (begins_as log left c.into_entries.result.items ok) c.make_about.ensures.moved in
    begun log left c.args.entries (ok ∙ ap (λ (e : List Entry). record log.state { pending = e; logged = false }) c.into_entries.ensures.entries) z s u c.requires.holds c.reserve.ensures.first c.in-Ok.ensures.reserved k.0 k.1 k.2 k.3

pub returns-clause-one : goal.returns-clause-one
returns-clause-one g c = begins_one c.args.log.now c.reserve.new.self c.into_entries.result.items c.in-Ok.ensures.ok c.into_entries.ensures.one
