use Rattle.wp_parts.specs.Log.{Ending}
use Rattle.wp_parts.proofs.LogLemmas.{stopped}
use Rattle.wp_parts.proofs.log.Log.stop.Goals as goal

pub invariant_of-self : goal.invariant_of-self
invariant_of-self g c =
    let inside = c.self.inside in
    let ending : Ending = record { closed = inside.closed; stopped = inside.stopped; failed = inside.failed.value.items; next = inside.next } in
    stopped inside.wal inside.first.value inside.history.entries inside.pending.items inside.logged ending inside.history.base inside.history.room c.self.invariant (rw (← c.self.view_is) at c.requires.running) (rw (← c.self.view_is) at c.requires.nothing)
