use Rattle.std.proofs.Common.{sym, subst, ap}
use Rattle.wp_outside.specs.declared.disk.Disks.{Disks}
use Rattle.wp_contents.specs.Devices.{devices_of}
use Rattle.wp_shared.specs.Seats.{SeatState}
use Rattle.wp_threads.specs.Explained.{HaveRun}
use Rattle.wp_run.proofs.Opened.{refused_fronts}
use Rattle.wp_run.proofs.Stored.{is_durable}
use Rattle.wp_run.proofs.TopLemmas.{serves_run, serves_refused, is_first}
use Rattle.wp_run.proofs.Whole.{as_many}
use Rattle.wp_run.proofs.serve.serve.Goals as goal

pub run_script-run-requires-clause-first : goal.run_script-run-requires-clause-first
run_script-run-requires-clause-first g c κs within = is_first c.in-Ok.store c.args.parts.now c.args.seating.client c.in-Ok.first c.in-Ok.ensures.seat c.requires.seating.0

pub finish-requires : goal.finish-requires
finish-requires g c = record { parts = as_many c.args.parts.now c.run_script-run.ensures.run.run c.run_script-run.result.answers.items c.run_script-run.ensures.run.whole }

pub returns-in-Ok-clause-serves : goal.returns-in-Ok-clause-serves
returns-in-Ok-clause-serves g c =
    let left = c.run_script-run.result in
    let ran = subst (λ (ds : Disks g.row.D.Denot). HaveRun c.in-Ok.store c.args.parts.now left.answers.items left.history.entries (devices_of g.D.Peek.moments g.D.Peek.faults ds)) (sym c.finish.ensures.disks) c.run_script-run.ensures.run in
    let ended = c.finish.ensures.ended in
    serves_run c.in-Ok.store _ left.answers.items left.history.entries left.history.base ended.0 c.in-Ok.ensures.store.0 c.in-Ok.ensures.store.1 c.requires.ranges.2
    c.in-Ok.first.knows c.in-Ok.ensures.stands (ap (λ (seat : SeatState). seat.knows.participant.seen) c.in-Ok.ensures.seat) c.in-Ok.ensures.opened ran
    (c.run_script-run.ensures.base ran.ended.first_edit ran.ended.first_is) ended.1 c.finish.result.status ended.2

pub returns-in-Ok-clause-durable : goal.returns-in-Ok-clause-durable
returns-in-Ok-clause-durable g c =
    let left = c.run_script-run.result in
    let ran = subst (λ (ds : Disks g.row.D.Denot). HaveRun c.in-Ok.store c.args.parts.now left.answers.items left.history.entries (devices_of g.D.Peek.moments g.D.Peek.faults ds)) (sym c.finish.ensures.disks) c.run_script-run.ensures.run in
    is_durable c.args.choice.store.id _ c.in-Ok.ensures.opened ran.ended c.shows_reading.ensures

pub returns-in-Err-clause-serves : goal.returns-in-Err-clause-serves
returns-in-Err-clause-serves g c = serves_refused c.in-Err.field-0.why c.from-status.result _ c.from-status.ensures c.in-Err.ensures.refused

pub returns-in-Err-clause-durable : goal.returns-in-Err-clause-durable
returns-in-Err-clause-durable g c =
    let refused = c.in-Err.ensures.refused in
    record {
      manifest = refused.manifest_durable;
      tables = refused_fronts _ _ _ _ _ c.in-Err.field-0.why (λ e. ap (λ disk. g.D.Peek.moments disk) e) c.shows_reading.ensures refused.left;
      log_later = refused.log_later;
      manifest_later = refused.manifest_later;
      tables_later = refused.tables_later;
    }
