use Rattle.std.proofs.Common.{◌+◌, ap, sym, ◌∙◌}
use Rattle.wp_parts.specs.Log.{Ending}
use Rattle.wp_parts.proofs.LogLemmas.{due_is, used, used_table}
use Rattle.wp_parts.proofs.log.Log.use_segment.Goals as goal

pub use_segment-requires : goal.use_segment-requires
use_segment-requires g c =
    let inside = c.self.inside in
    let ending : Ending = record { closed = inside.closed; stopped = inside.stopped; failed = inside.failed.value.items; next = inside.next } in
    let nothing = rw (← c.self.view_is) at c.requires.nothing in
    let waits = rw (← c.self.view_is) at c.requires.waits in
    record { due = due_is inside.wal inside.first.value inside.history.entries inside.pending.items inside.logged ending inside.history.base inside.history.room c.self.invariant nothing ∙ ap (λ n. n + 1) (sym waits.based) }

pub invariant_of-self : goal.invariant_of-self
invariant_of-self g c =
    let inside = c.self.inside in
    let ending : Ending = record { closed = inside.closed; stopped = inside.stopped; failed = inside.failed.value.items; next = inside.next } in
    let running = rw (← c.self.view_is) at c.requires.running in
    let nothing = rw (← c.self.view_is) at c.requires.nothing in
    let waits = rw (← c.self.view_is) at c.requires.waits in
    used inside.wal inside.first.value inside.history.entries inside.pending.items inside.logged ending inside.history.base inside.history.room c.self.invariant running nothing c.args.written waits c.use_segment.new.self c.use_segment.ensures.wal (c.use_segment.ensures.stores _ waits.beside)

pub returns-clause-table : goal.returns-clause-table
returns-clause-table g c =
    let inside = c.self.inside in
    let ending : Ending = record { closed = inside.closed; stopped = inside.stopped; failed = inside.failed.value.items; next = inside.next } in
    let running = rw (← c.self.view_is) at c.requires.running in
    let nothing = rw (← c.self.view_is) at c.requires.nothing in
    let waits = rw (← c.self.view_is) at c.requires.waits in
    rw (← c.self.view_is) (used_table inside.wal inside.first.value inside.history.entries inside.pending.items inside.logged ending inside.history.base inside.history.room c.self.invariant running nothing c.args.written waits c.use_segment.new.self c.use_segment.ensures.wal)
