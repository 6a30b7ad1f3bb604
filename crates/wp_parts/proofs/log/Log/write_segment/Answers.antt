use Rattle.std.proofs.Common.{length, sym, ◌∙◌, true≢false}
use Rattle.wp_cuts.specs.Cut.{Cut}
use Rattle.wp_gatelog.specs.Moments.{Leaves}
use Rattle.wp_outside.specs.Disk.{Passes}
use Rattle.wp_wal.specs.Spelling.{IsLogAt}
use Rattle.wp_parts.specs.Log.{Ending}
use Rattle.wp_parts.proofs.LogLemmas.{at_cut, before_log, cut_is, of_stored, unwritten, wal_runs, waits_of, written}
use Rattle.wp_parts.proofs.log.Log.write_segment.Goals as goal

pub invariant_of-self : goal.invariant_of-self
invariant_of-self g c =
    let i = c.self.inside in let may = rw (← c.self.view_is) at c.requires.may in let is = rw (← c.self.view_is) at c.requires.segment in
    let ending : Ending = record { closed = i.closed; stopped = i.stopped; failed = i.failed.value.items; next = i.next } in
    let k = of_stored i.wal i.first.value i.history.entries i.pending.items i.logged ending i.history.base i.history.room c.self.invariant may.0 may.1 c.in-Ok.ensures.writes is.1 is.2 in
    written i.wal i.first.value i.history.entries i.pending.items i.logged ending i.history.base i.history.room c.self.invariant may.0 may.1 c.write_segment.new.self c.write_segment.ensures.later k.durable c.in-Ok.ensures.ok.2 k.still

pub invariant_of-self-in-Err-DiskFault : goal.invariant_of-self-in-Err-DiskFault
invariant_of-self-in-Err-DiskFault g c =
    let i = c.self.inside in let may = rw (← c.self.view_is) at c.requires.may in let is = rw (← c.self.view_is) at c.requires.segment in
    let ending : Ending = record { closed = i.closed; stopped = i.stopped; failed = i.failed.value.items; next = i.next } in
    let e = rw c.in-Err-DiskFault.field-0-is at c.in-Err-DiskFault.ensures in
    let k = of_stored i.wal i.first.value i.history.entries i.pending.items i.logged ending i.history.base i.history.room c.self.invariant may.0 may.1 e.writes is.1 is.2 in
    unwritten i.wal i.first.value i.history.entries i.pending.items i.logged ending i.history.base i.history.room c.self.invariant may.0 may.1 c.write_segment.new.self c.write_segment.ensures.later k.durable e.err k.refused

pub returns-in-Ok-clause-waits : goal.returns-in-Ok-clause-waits
returns-in-Ok-clause-waits g c =
    let i = c.self.inside in let may = rw (← c.self.view_is) at c.requires.may in let is = rw (← c.self.view_is) at c.requires.segment in
    let ending : Ending = record { closed = i.closed; stopped = i.stopped; failed = i.failed.value.items; next = i.next } in
    let k = of_stored i.wal i.first.value i.history.entries i.pending.items i.logged ending i.history.base i.history.room c.self.invariant may.0 may.1 c.in-Ok.ensures.writes is.1 is.2 in
    rw (← c.self.view_is) (
      waits_of i.wal i.first.value i.history.entries i.pending.items i.logged ending c.write_segment.new.self c.in-Ok.written c.in-Ok.ensures.ok.2 c.args.segment.now.base is.0 c.in-Ok.ensures.ok.0
          may.3 may.2 k.beside,
      c.in-Ok.ensures.ok.1,
    )

pub returns-in-Ok-clause-place : goal.returns-in-Ok-clause-place
returns-in-Ok-clause-place g c =
    let i = c.self.inside in let may = rw (← c.self.view_is) at c.requires.may in let is = rw (← c.self.view_is) at c.requires.segment in
    let ending : Ending = record { closed = i.closed; stopped = i.stopped; failed = i.failed.value.items; next = i.next } in
    let k = of_stored i.wal i.first.value i.history.entries i.pending.items i.logged ending i.history.base i.history.room c.self.invariant may.0 may.1 c.in-Ok.ensures.writes is.1 is.2 in
    rw (← c.self.view_is) (before_log i.wal.segment.place (length c.args.segment.now.bytes) c.in-Ok.written.segment.place c.in-Ok.ensures.place.0, k.place)

pub returns-in-Ok-clause-durable : goal.returns-in-Ok-clause-durable
returns-in-Ok-clause-durable g c =
    let i = c.self.inside in let may = rw (← c.self.view_is) at c.requires.may in let is = rw (← c.self.view_is) at c.requires.segment in
    let ending : Ending = record { closed = i.closed; stopped = i.stopped; failed = i.failed.value.items; next = i.next } in
    let k = of_stored i.wal i.first.value i.history.entries i.pending.items i.logged ending i.history.base i.history.room c.self.invariant may.0 may.1 c.in-Ok.ensures.writes is.1 is.2 in
    rw (← c.self.view_is) k.durable

pub returns-in-Err-DiskFault-clause-durable : goal.returns-in-Err-DiskFault-clause-durable
returns-in-Err-DiskFault-clause-durable g c =
    let i = c.self.inside in let may = rw (← c.self.view_is) at c.requires.may in let is = rw (← c.self.view_is) at c.requires.segment in
    let ending : Ending = record { closed = i.closed; stopped = i.stopped; failed = i.failed.value.items; next = i.next } in
    let k = of_stored i.wal i.first.value i.history.entries i.pending.items i.logged ending i.history.base i.history.room c.self.invariant may.0 may.1 c.write_segment.ensures.writes is.1 is.2 in
    rw (← c.self.view_is) k.durable

pub returns-in-Ok-clause-passed : goal.returns-in-Ok-clause-passed
returns-in-Ok-clause-passed g c =
    let i = c.self.inside in let may = rw (← c.self.view_is) at c.requires.may in let is = rw (← c.self.view_is) at c.requires.segment in
    let ending : Ending = record { closed = i.closed; stopped = i.stopped; failed = i.failed.value.items; next = i.next } in
    let k = of_stored i.wal i.first.value i.history.entries i.pending.items i.logged ending i.history.base i.history.room c.self.invariant may.0 may.1 c.in-Ok.ensures.writes is.1 is.2 in
    rw (← c.self.view_is) (at_cut i.wal i.first.value i.history.entries i.pending.items i.logged ending i.history.base i.history.room c.self.invariant (λ (x : Cut). Passes (Leaves (IsLogAt i.wal.id i.wal.segment.place x)) i.wal.moments c.write_segment.new.self.moments) (cut_is i.wal i.first.value i.history.entries i.pending.items i.logged ending i.history.base i.history.room c.self.invariant may.1) k.any_moment)

pub returns-in-Err-DiskFault-clause-passed : goal.returns-in-Err-DiskFault-clause-passed
returns-in-Err-DiskFault-clause-passed g c =
    let i = c.self.inside in let may = rw (← c.self.view_is) at c.requires.may in let is = rw (← c.self.view_is) at c.requires.segment in
    let ending : Ending = record { closed = i.closed; stopped = i.stopped; failed = i.failed.value.items; next = i.next } in
    let k = of_stored i.wal i.first.value i.history.entries i.pending.items i.logged ending i.history.base i.history.room c.self.invariant may.0 may.1 c.write_segment.ensures.writes is.1 is.2 in
    rw (← c.self.view_is) (at_cut i.wal i.first.value i.history.entries i.pending.items i.logged ending i.history.base i.history.room c.self.invariant (λ (x : Cut). Passes (Leaves (IsLogAt i.wal.id i.wal.segment.place x)) i.wal.moments c.write_segment.new.self.moments) (cut_is i.wal i.first.value i.history.entries i.pending.items i.logged ending i.history.base i.history.room c.self.invariant may.1) k.any_moment)

pub unreachable-requires : goal.unreachable-requires
unreachable-requires g c =
    let i = c.self.inside in
    let ending : Ending = record { closed = i.closed; stopped = i.stopped; failed = i.failed.value.items; next = i.next } in
    let e = rw c.in-Err-Closed.field-0-is at c.in-Err-Closed.ensures in
    true≢false (sym e.err.0 ∙ wal_runs i.wal i.first.value i.history.entries i.pending.items i.logged ending i.history.base i.history.room c.self.invariant (rw (← c.self.view_is) at c.requires.may.0))
