use Rattle.wp_parts.specs.Log.{Ending}
use Rattle.wp_parts.proofs.LogLemmas.{waiting_tells}
use Rattle.wp_parts.proofs.log.Log.shows_waiting.Goals as goal

pub returns : goal.returns
returns g c =
    let inside = c.self.inside in
    let ending : Ending = record { closed = inside.closed; stopped = inside.stopped; failed = inside.failed.value.items; next = inside.next } in
    rw (← c.self.view_is) (waiting_tells inside.wal inside.first.value inside.history.entries inside.pending.items inside.logged ending c.self.invariant.log c.args.written.now (rw (← c.self.view_is) at c.requires))
