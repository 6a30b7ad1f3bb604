use Rattle.wp_parts.specs.Log.{Ending}
use Rattle.wp_parts.proofs.LogLemmas.{dropped}
use Rattle.wp_parts.proofs.log.Log.drop_pending.Goals as goal

pub invariant_of-self : goal.invariant_of-self
invariant_of-self g c =
    let inside = c.self.inside in
    let ending : Ending = record { closed = inside.closed; stopped = inside.stopped; failed = inside.failed.value.items; next = inside.next } in
    dropped inside.wal inside.first.value inside.history.entries inside.pending.items inside.logged ending inside.history.base inside.history.room c.self.invariant c.replace.new.dest.items (rw c.replace.ensures.after c.new.ensures.items) (rw (← c.self.view_is) at c.requires)
