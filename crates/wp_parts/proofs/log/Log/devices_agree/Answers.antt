use Rattle.wp_parts.specs.Log.{Ending}
use Rattle.wp_parts.proofs.LogLemmas.{log_tells}
use Rattle.wp_parts.proofs.log.Log.devices_agree.Goals as goal

pub returns-clause-tells : goal.returns-clause-tells
returns-clause-tells g c =
    let inside = c.self.inside in
    let ending : Ending = record { closed = inside.closed; stopped = inside.stopped; failed = inside.failed.value.items; next = inside.next } in
    rw (← c.self.view_is) (log_tells inside.wal inside.first.value inside.history.entries inside.pending.items inside.logged ending c.self.invariant.log)
