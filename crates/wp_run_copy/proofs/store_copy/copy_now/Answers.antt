use Rattle.std.proofs.Common.{◌≡◌, ◌++◌, Some, refl, sym, subst, arith}
use Rattle.wp_core.specs.Lists.{IsIn}
use Rattle.wp_core.specs.Reading.{Registration}
use Rattle.wp_read.specs.Registers.{without_last}
use Rattle.wp_run_copy.proofs.Idle.{all_then, free_first, none_taken, registered_still, released, whole_then}
use Rattle.wp_run_copy.proofs.store_copy.copy_now.Goals as goal

pub snapshot-requires : goal.snapshot-requires
snapshot-requires g c = free_first c.args.store.now _ c.args.first c.requires.first

pub returns-in-Err-clause-unused : goal.returns-in-Err-clause-unused
returns-in-Err-clause-unused g c = none_taken c.args.store.now _ c.args.first c.requires.first _ c.in-Err.ensures.refused

pub returns-in-Err-clause-refused : goal.returns-in-Err-clause-refused
returns-in-Err-clause-refused g c = record { cause = refl; later = record { log = omega arith; manifest = omega arith; tables = omega arith } }

pub copy_at-seat-requires-clause-whole : goal.copy_at-seat-requires-clause-whole
copy_at-seat-requires-clause-whole g c =
    let taken = c.in-Ok.ensures.taken in whole_then c.args.store.now _ c.args.first c.requires.first _ c.in-Ok.taken taken.0 taken.1 c.requires.whole

pub release-requires-clause-registered : goal.release-requires-clause-registered
release-requires-clause-registered g c =
    let at = c.copy_at-seat in
    subst (λ (r : Registration). IsIn r at.result.seat.knows.participant.registered) (sym at.ensures.snapshot)
    (registered_still c.args.store.now _ c.args.first c.requires.first c.in-Ok.taken _ c.in-Ok.ensures.registered _ at.ensures.continues)

pub returns-clause-unused : goal.returns-clause-unused
returns-clause-unused g c =
    let at = c.copy_at-seat in
    let gave = c.release.ensures in
    let rest = subst (λ (r : Registration). gave.0 ++ gave.1 ≡ without_last (Some r) at.result.seat.knows.participant.registered) at.ensures.snapshot gave.5 in
    released c.args.store.now _ c.args.first c.requires.first c.in-Ok.taken _ c.in-Ok.ensures.registered _ at.ensures.continues _ _ rest gave.4

pub returns-clause-made : goal.returns-clause-made
returns-clause-made g c =
    let taken = c.in-Ok.ensures.taken in
    let all = all_then c.args.store.now _ c.args.first c.requires.first _ c.in-Ok.taken taken.0 taken.1 in
    rw all at c.copy_at-seat.ensures.made
