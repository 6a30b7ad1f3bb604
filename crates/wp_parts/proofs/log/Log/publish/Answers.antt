use Rattle.wp_parts.specs.Log.{Ending}
use Rattle.wp_parts.proofs.LogLemmas.{first_follows, published}
use Rattle.wp_parts.proofs.log.Log.publish.Goals as goal

pub push-requires-clause-legal : goal.push-requires-clause-legal
push-requires-clause-legal g c =
    let inside = c.self.inside in
    first_follows inside.history.entries inside.pending.items c.remove-entry.result (rw (← c.self.view_is) at c.requires.some) c.remove-entry.ensures.value c.self.invariant.log.legal

pub invariant_of-self : goal.invariant_of-self
invariant_of-self g c =
    let inside = c.self.inside in
    let ending : Ending = record { closed = inside.closed; stopped = inside.stopped; failed = inside.failed.value.items; next = inside.next } in
    published inside.wal inside.first.value inside.history.entries inside.pending.items inside.logged ending inside.history.base inside.history.room c.self.invariant c.remove-entry.result c.remove-entry.new.self.items c.push.new.self.entries c.push.new.self.base c.push.new.self.room (rw (← c.self.view_is) at c.requires.logged) (rw (← c.self.view_is) at c.requires.some)
    c.remove-entry.ensures.value c.remove-entry.ensures.items c.push.ensures.entries c.push.ensures.base c.push.ensures.room
