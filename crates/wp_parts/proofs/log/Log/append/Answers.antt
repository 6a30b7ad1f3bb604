use Rattle.std.proofs.Common.{[], ap, sym, ◌∙◌, true≢false}
use Rattle.wp_cuts.specs.Cut.{Cut}
use Rattle.wp_gatelog.specs.Moments.{Leaves}
use Rattle.wp_outside.specs.Disk.{Passes}
use Rattle.wp_wal.specs.Spelling.{IsLogOrNextAt}
use Rattle.wp_parts.specs.Log.{Ending}
use Rattle.wp_parts.proofs.LogLemmas.{appended, appended_count, appended_faults, appended_table, at_cut, closed_now, closed_table, cut_was, is_reserved, wal_runs}
use Rattle.wp_parts.proofs.log.Log.append.Goals as goal

pub invariant_of-self : goal.invariant_of-self
invariant_of-self g c =
    let i = c.self.inside in let running = rw (← c.self.view_is) at c.requires.running in let some = rw (← c.self.view_is) at c.requires.some in let not_logged = rw (← c.self.view_is) at c.requires.unlogged in
    let ending : Ending = record { closed = i.closed; stopped = i.stopped; failed = i.failed.value.items; next = i.next } in
    let reserved = is_reserved i.wal i.first.value i.history.entries i.pending.items i.logged ending i.history.base i.history.room c.self.invariant running some not_logged in
    appended i.wal i.first.value i.history.entries i.pending.items i.logged ending i.history.base i.history.room c.self.invariant running some not_logged c.append.new.self c.append.ensures.later (c.append.ensures.durable c.self.invariant.log.cut [] reserved.stores) c.in-Ok.ensures.ok (c.in-Ok.ensures.appends c.self.invariant.log.cut i.pending.items reserved).stores

pub invariant_of-self-in-Err-DiskFault : goal.invariant_of-self-in-Err-DiskFault
invariant_of-self-in-Err-DiskFault g c =
    let i = c.self.inside in let running = rw (← c.self.view_is) at c.requires.running in let some = rw (← c.self.view_is) at c.requires.some in let not_logged = rw (← c.self.view_is) at c.requires.unlogged in
    let ending : Ending = record { closed = i.closed; stopped = i.stopped; failed = i.failed.value.items; next = i.next } in
    let reserved = is_reserved i.wal i.first.value i.history.entries i.pending.items i.logged ending i.history.base i.history.room c.self.invariant running some not_logged in
    let e = rw c.in-Err-DiskFault.field-0-is at c.in-Err-DiskFault.ensures in
    closed_now i.wal i.first.value i.history.entries i.pending.items i.logged ending i.history.base i.history.room c.self.invariant running some not_logged c.append.new.self c.append.ensures.later (c.append.ensures.durable c.self.invariant.log.cut [] reserved.stores) c.of.result.value.items (ap (λ v. v.items) c.of.ensures) e.err (e.appends c.self.invariant.log.cut i.pending.items reserved).refused

pub returns-in-Ok-clause-ok : goal.returns-in-Ok-clause-ok
returns-in-Ok-clause-ok g c =
    let i = c.self.inside in let running = rw (← c.self.view_is) at c.requires.running in let some = rw (← c.self.view_is) at c.requires.some in let not_logged = rw (← c.self.view_is) at c.requires.unlogged in
    let ending : Ending = record { closed = i.closed; stopped = i.stopped; failed = i.failed.value.items; next = i.next } in
    let reserved = is_reserved i.wal i.first.value i.history.entries i.pending.items i.logged ending i.history.base i.history.room c.self.invariant running some not_logged in
    rw (← c.self.view_is) (appended_table i.wal i.first.value i.history.entries i.pending.items i.logged ending i.history.base i.history.room c.self.invariant running some not_logged c.append.new.self c.append.ensures.later (c.append.ensures.durable c.self.invariant.log.cut [] reserved.stores) c.in-Ok.ensures.ok)

pub returns-in-Ok-clause-unfailed : goal.returns-in-Ok-clause-unfailed
returns-in-Ok-clause-unfailed g c =
    let i = c.self.inside in let running = rw (← c.self.view_is) at c.requires.running in let some = rw (← c.self.view_is) at c.requires.some in let not_logged = rw (← c.self.view_is) at c.requires.unlogged in
    let ending : Ending = record { closed = i.closed; stopped = i.stopped; failed = i.failed.value.items; next = i.next } in
    let reserved = is_reserved i.wal i.first.value i.history.entries i.pending.items i.logged ending i.history.base i.history.room c.self.invariant running some not_logged in
    rw (← c.self.view_is) (appended_faults i.wal i.first.value i.history.entries i.pending.items i.logged ending i.history.base i.history.room c.self.invariant running some not_logged c.append.new.self c.append.ensures.later (c.append.ensures.durable c.self.invariant.log.cut [] reserved.stores) c.in-Ok.ensures.ok)

pub returns-in-Ok-clause-counted : goal.returns-in-Ok-clause-counted
returns-in-Ok-clause-counted g c =
    let i = c.self.inside in let running = rw (← c.self.view_is) at c.requires.running in let some = rw (← c.self.view_is) at c.requires.some in let not_logged = rw (← c.self.view_is) at c.requires.unlogged in
    let ending : Ending = record { closed = i.closed; stopped = i.stopped; failed = i.failed.value.items; next = i.next } in
    let reserved = is_reserved i.wal i.first.value i.history.entries i.pending.items i.logged ending i.history.base i.history.room c.self.invariant running some not_logged in
    rw (← c.self.view_is) (appended_count i.wal i.first.value i.history.entries i.pending.items i.logged ending i.history.base i.history.room c.self.invariant running some not_logged c.append.new.self c.append.ensures.later (c.append.ensures.durable c.self.invariant.log.cut [] reserved.stores) c.in-Ok.ensures.ok)

pub returns-in-Err-DiskFault-clause-err : goal.returns-in-Err-DiskFault-clause-err
returns-in-Err-DiskFault-clause-err g c =
    let i = c.self.inside in let running = rw (← c.self.view_is) at c.requires.running in let some = rw (← c.self.view_is) at c.requires.some in let not_logged = rw (← c.self.view_is) at c.requires.unlogged in
    let ending : Ending = record { closed = i.closed; stopped = i.stopped; failed = i.failed.value.items; next = i.next } in
    let reserved = is_reserved i.wal i.first.value i.history.entries i.pending.items i.logged ending i.history.base i.history.room c.self.invariant running some not_logged in
    let e = rw c.in-Err-DiskFault.field-0-is at c.in-Err-DiskFault.ensures in
    rw (← c.self.view_is) (closed_table i.wal i.first.value i.history.entries i.pending.items i.logged ending i.history.base i.history.room c.self.invariant running some not_logged c.append.new.self c.append.ensures.later (c.append.ensures.durable c.self.invariant.log.cut [] reserved.stores) c.of.result.value.items (ap (λ v. v.items) c.of.ensures) e.err)

pub returns-in-Ok-clause-durable : goal.returns-in-Ok-clause-durable
returns-in-Ok-clause-durable g c =
    let i = c.self.inside in let running = rw (← c.self.view_is) at c.requires.running in let some = rw (← c.self.view_is) at c.requires.some in let not_logged = rw (← c.self.view_is) at c.requires.unlogged in
    let ending : Ending = record { closed = i.closed; stopped = i.stopped; failed = i.failed.value.items; next = i.next } in
    let reserved = is_reserved i.wal i.first.value i.history.entries i.pending.items i.logged ending i.history.base i.history.room c.self.invariant running some not_logged in
    rw (← c.self.view_is) (c.append.ensures.durable c.self.invariant.log.cut [] reserved.stores)

pub returns-in-Err-DiskFault-clause-durable : goal.returns-in-Err-DiskFault-clause-durable
returns-in-Err-DiskFault-clause-durable g c =
    let i = c.self.inside in let running = rw (← c.self.view_is) at c.requires.running in let some = rw (← c.self.view_is) at c.requires.some in let not_logged = rw (← c.self.view_is) at c.requires.unlogged in
    let ending : Ending = record { closed = i.closed; stopped = i.stopped; failed = i.failed.value.items; next = i.next } in
    let reserved = is_reserved i.wal i.first.value i.history.entries i.pending.items i.logged ending i.history.base i.history.room c.self.invariant running some not_logged in
    rw (← c.self.view_is) (c.append.ensures.durable c.self.invariant.log.cut [] reserved.stores)

pub returns-in-Ok-clause-passed : goal.returns-in-Ok-clause-passed
returns-in-Ok-clause-passed g c =
    let i = c.self.inside in let running = rw (← c.self.view_is) at c.requires.running in let some = rw (← c.self.view_is) at c.requires.some in let not_logged = rw (← c.self.view_is) at c.requires.unlogged in
    let ending : Ending = record { closed = i.closed; stopped = i.stopped; failed = i.failed.value.items; next = i.next } in
    let reserved = is_reserved i.wal i.first.value i.history.entries i.pending.items i.logged ending i.history.base i.history.room c.self.invariant running some not_logged in
    rw (← c.self.view_is) (at_cut i.wal i.first.value i.history.entries i.pending.items i.logged ending i.history.base i.history.room c.self.invariant (λ (x : Cut). Passes (Leaves (IsLogOrNextAt i.wal.id i.wal.segment.place x i.pending.items)) i.wal.moments c.append.new.self.moments) (cut_was i.wal i.first.value i.history.entries i.pending.items i.logged ending i.history.base i.history.room c.self.invariant running some not_logged)
    (c.append.ensures.appends c.self.invariant.log.cut i.pending.items reserved).any_moment)

pub returns-in-Err-DiskFault-clause-passed : goal.returns-in-Err-DiskFault-clause-passed
returns-in-Err-DiskFault-clause-passed g c =
    let i = c.self.inside in let running = rw (← c.self.view_is) at c.requires.running in let some = rw (← c.self.view_is) at c.requires.some in let not_logged = rw (← c.self.view_is) at c.requires.unlogged in
    let ending : Ending = record { closed = i.closed; stopped = i.stopped; failed = i.failed.value.items; next = i.next } in
    let reserved = is_reserved i.wal i.first.value i.history.entries i.pending.items i.logged ending i.history.base i.history.room c.self.invariant running some not_logged in
    rw (← c.self.view_is) (at_cut i.wal i.first.value i.history.entries i.pending.items i.logged ending i.history.base i.history.room c.self.invariant (λ (x : Cut). Passes (Leaves (IsLogOrNextAt i.wal.id i.wal.segment.place x i.pending.items)) i.wal.moments c.append.new.self.moments) (cut_was i.wal i.first.value i.history.entries i.pending.items i.logged ending i.history.base i.history.room c.self.invariant running some not_logged)
    (c.append.ensures.appends c.self.invariant.log.cut i.pending.items reserved).any_moment)

pub unreachable-requires : goal.unreachable-requires
unreachable-requires g c =
    let i = c.self.inside in
    let ending : Ending = record { closed = i.closed; stopped = i.stopped; failed = i.failed.value.items; next = i.next } in
    let e = rw c.in-Err-Closed.field-0-is at c.in-Err-Closed.ensures in
    true≢false (sym e.err.0 ∙ wal_runs i.wal i.first.value i.history.entries i.pending.items i.logged ending i.history.base i.history.room c.self.invariant (rw (← c.self.view_is) at c.requires.running))
