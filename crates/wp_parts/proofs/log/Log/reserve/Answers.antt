use Rattle.std.proofs.Common.{◌≤◌, length, rules}
use Rattle.wp_parts.specs.Log.{Ending}
use Rattle.wp_parts.proofs.LogLemmas.{form_due, made_pending}
use Rattle.wp_parts.proofs.log.Log.reserve.Goals as goal

pub reserve-requires-2 : goal.reserve-requires-2
reserve-requires-2 g c =
    let inside = c.self.inside in
    let ending : Ending = record { closed = inside.closed; stopped = inside.stopped; failed = inside.failed.value.items; next = inside.next } in
    rw c.deref.ensures.value (form_due inside.wal inside.first.value inside.history.entries inside.pending.items inside.logged ending inside.history.base inside.history.room c.self.invariant (rw (← c.self.view_is) at c.requires.nothing) c.args.entries.items
    (rw (← c.self.view_is) at c.requires.legal) c.requires.one (rw (← c.self.view_is) at c.requires.within))

pub invariant_of-self-2 : goal.invariant_of-self-2
invariant_of-self-2 g c =
    let inside = c.self.inside in
    let ending : Ending = record { closed = inside.closed; stopped = inside.stopped; failed = inside.failed.value.items; next = inside.next } in
    let fits : length c.args.entries.items ≤ c.reserve.new.self.room = search rules in
    rw (c.reserve.ensures.entries, c.reserve.ensures.base) (made_pending inside.wal inside.first.value inside.history.entries inside.pending.items inside.logged ending inside.history.base inside.history.room c.self.invariant
    (rw (← c.self.view_is) at c.requires.nothing) c.args.entries.items (rw (← c.self.view_is) at c.requires.legal) c.reserve-2.new.self c.reserve.new.self.room (rw (← c.self.view_is) at c.requires.running)
    (rw c.deref.ensures.value at c.in-Ok-reserve.ensures.ok) (rw c.deref.ensures.value at c.in-Ok-reserve.ensures.record) fits)
