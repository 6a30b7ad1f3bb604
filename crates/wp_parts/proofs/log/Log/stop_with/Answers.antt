use Rattle.std.proofs.Common.{ap, Some}
use Rattle.wp_parts.specs.Log.{Ending}
use Rattle.wp_parts.proofs.LogLemmas.{stopped_with}
use Rattle.wp_parts.proofs.log.Log.stop_with.Goals as goal

pub invariant_of-self : goal.invariant_of-self
invariant_of-self g c =
    let inside = c.self.inside in
    let ending : Ending = record { closed = inside.closed; stopped = inside.stopped; failed = inside.failed.value.items; next = inside.next } in
    let running = rw (← c.self.view_is) at c.requires.running in
    let nothing = rw (← c.self.view_is) at c.requires.nothing in
    stopped_with inside.wal inside.first.value inside.history.entries inside.pending.items inside.logged ending inside.history.base inside.history.room c.self.invariant running nothing c.args.written (rw (← c.self.view_is) at c.requires.waits) _ (ap Some c.give_up.ensures)
