use Rattle.std.proofs.Common.{refl, ap}
use Rattle.wp_contents.specs.Devices.{devices_of}
use Rattle.wp_shared.specs.Seats.{SeatState}
use Rattle.wp_run.proofs.Opened.{refused_fronts}
use Rattle.wp_run.proofs.Stored.{is_durable}
use Rattle.wp_run_copy.proofs.Ends.{told_ends, unopened_ends}
use Rattle.wp_run_copy.proofs.Stands.{stands_as}
use Rattle.wp_run_copy.proofs.store_copy.copy_store.Goals as goal

pub returns-clause-copies : goal.returns-clause-copies
returns-clause-copies g c =
    let opened = c.in-Ok.opened in
    let left = c.end_idle-history.result in
    let run = c.end_idle-history.ensures.run in
    let based = c.shows_base.ensures in
    let stands =
    stands_as opened.0 _ left.history.entries left.history.base based.0 c.in-Ok.ensures.store.0 c.in-Ok.ensures.store.1 c.requires.ranges.2 opened.1.knows c.in-Ok.ensures.stands (ap (λ (seat : SeatState). seat.knows.participant.seen) c.in-Ok.ensures.seat)
    c.in-Ok.ensures.opened run (c.end_idle-history.ensures.base run.ended.first_edit run.ended.first_is) based.1 opened.2 c.in-Ok.ensures.id in
    told_ends _ opened.2 opened.0.opened stands (devices_of g.E.Peek.moments g.E.Peek.faults) c.copy_now-seat.result.1 c.tell-status.result.0 c.tell-status.result.1 refl c.tell-status.ensures.told c.copy_now-seat.ensures.made c.copy_now-seat.ensures.refused

pub returns-clause-durable : goal.returns-clause-durable
returns-clause-durable g c = is_durable c.args.options.id _ c.in-Ok.ensures.opened c.end_idle-history.ensures.run.ended c.shows_reading.ensures

pub returns-in-Err-clause-copies : goal.returns-in-Err-clause-copies
returns-in-Err-clause-copies g c = unopened_ends _ c.in-Err.field-0.why c.from-status.result c.from-status.ensures (c.in-Err.ensures.refused, (refl, refl, refl))

pub returns-in-Err-clause-durable : goal.returns-in-Err-clause-durable
returns-in-Err-clause-durable g c =
    let refused = c.in-Err.ensures.refused in
    record {
      manifest = refused.manifest_durable;
      tables = refused_fronts _ _ _ _ _ c.in-Err.field-0.why (λ e. ap (λ disk. g.D.Peek.moments disk) e) c.shows_reading.ensures refused.left;
      log_later = refused.log_later;
      manifest_later = refused.manifest_later;
      tables_later = refused.tables_later;
    }
