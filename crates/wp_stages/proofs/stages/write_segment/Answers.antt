use Rattle.std.proofs.Common.{[], ◌∷◌, refl, sym, ap, ◌∙◌}
use Rattle.wp_core.specs.States.{WriteState, writes, installed}
use Rattle.wp_core.specs.Views.{log_failed}
use Rattle.wp_shared.specs.Notes.{no_fact}
use Rattle.wp_shared.specs.Seats.{SeatState}
use Rattle.wp_maint.proofs.Made.{second_held}
use Rattle.wp_stages.proofs.StageLemmas.{none_waits, beside_none, beside_some, both_on, found_then, goes_then_more}
use Rattle.wp_stages.proofs.stages.write_segment.Goals as goal

pub remember_segment-requires-clause-seat : goal.remember_segment-requires-clause-seat
remember_segment-requires-clause-seat g c = c.requires.holds.turn.same_table

pub remember_segment-requires-clause-held : goal.remember_segment-requires-clause-held
remember_segment-requires-clause-held g c = c.requires.holds.turn.held ∙ ap (λ (t : WriteState). writes t ∷ installed c.args.edits.now.state ∷ []) (sym c.in-Ok.ensures.ok)

pub remember_segment-requires-clause-may : goal.remember_segment-requires-clause-may
remember_segment-requires-clause-may g c =
    let same = c.in-Ok.ensures.ok in let open_ = ap (λ (t : WriteState). t.closed) same ∙ c.requires.running.0 in (
      ap (λ (t : WriteState). t.pending) same ∙ c.requires.running.1,
      open_,
      none_waits c.write_segment.new.self.state c.devices_agree-in-Ok.ensures.next open_,
      (λ is. c.in-Ok.ensures.waits.1 (is ∙ ap (λ (t : WriteState). t.segment.place) same)),
      c.in-Ok.ensures.waits.0.based,
    )

pub find_edits-requires-clause-seat : goal.find_edits-requires-clause-seat
find_edits-requires-clause-seat g c = c.requires.holds.turn.same_table

pub find_edits-requires-clause-held : goal.find_edits-requires-clause-held
find_edits-requires-clause-held g c = let e = c.args.edits.now.state in (e, second_held c.args.seat.now.knows (writes c.args.log.now.state) (installed e) c.requires.holds.turn.held)

pub remember_log_fault-requires-clause-seat : goal.remember_log_fault-requires-clause-seat
remember_log_fault-requires-clause-seat g c =
    let e = c.args.edits.now.state in let k = c.find_edits.ensures e (second_held c.args.seat.now.knows (writes c.args.log.now.state) (installed e) c.requires.holds.turn.held) in
    ap (λ (x : SeatState). x.table) k.is ∙ c.requires.holds.turn.same_table

pub remember_log_fault-requires-clause-held : goal.remember_log_fault-requires-clause-held
remember_log_fault-requires-clause-held g c =
    let e = c.args.edits.now.state in let d = c.args.log.now.state in let k = c.find_edits.ensures e (second_held c.args.seat.now.knows (writes d) (installed e) c.requires.holds.turn.held) in (
      d,
      ap (λ (x : SeatState). x.knows.held) k.is ∙ c.requires.holds.turn.held,
      c.in-Err.ensures.err,
      c.requires.running.0,
      c.requires.running.1,
      c.devices_agree.ensures.log.none_failed c.requires.running.0,
      none_waits d c.devices_agree.ensures.next c.requires.running.0,
      c.requires.below,
    )

pub returns-in-Ok : goal.returns-in-Ok
returns-in-Ok g c =
    let z = c.args.store.now in let s = c.args.seat.now in let u = c.remember_segment.new.seat in let e = c.args.edits.now in let log = c.args.log.now in let now = c.write_segment.new.self in record {
      state = c.in-Ok.ensures.ok;
      first = c.in-Ok.ensures.first;
      waits = c.in-Ok.ensures.waits.0;
      holds = both_on z s u e e log now log.state no_fact c.requires.holds s.knows.participant _ c.remember_segment.ensures.goes refl c.in-Ok.ensures.first;
      goes = c.remember_segment.ensures.goes;
      survives = beside_some log now c.in-Ok.ensures.passed c.in-Ok.ensures.durable c.in-Ok.written c.in-Ok.ensures.waits.0 c.in-Ok.ensures.waits.1 c.in-Ok.ensures.ok c.in-Ok.ensures.id c.args.segment.now c.requires.segment c.in-Ok.ensures.place;
      log_is = c.devices_agree.ensures.log;
      still_log = c.devices_agree-in-Ok.ensures.log;
      stands = c.remember_segment.ensures.stands;
    }

pub returns-in-Err : goal.returns-in-Err
returns-in-Err g c =
    let z = c.args.store.now in let s = c.args.seat.now in let t = c.find_edits.new.seat in let u = c.remember_log_fault.new.seat in let e = c.args.edits.now in let log = c.args.log.now in let now = c.write_segment.new.self in
    let k = c.find_edits.ensures e.state (second_held s.knows (writes log.state) (installed e.state) c.requires.holds.turn.held) in
    let held = writes now.state ∷ installed e.state ∷ [] in let events = log_failed [] ∷ [] in
    let more = goes_then_more z s t u e.state k held no_fact events c.remember_log_fault.ensures.goes in record {
      state = c.in-Err.ensures.err;
      first = c.in-Err.ensures.first;
      holds = both_on z s u e e log now log.state no_fact c.requires.holds _ now.state more refl c.in-Err.ensures.first;
      found = found_then z s t u e.state k held no_fact events c.remember_log_fault.ensures.goes;
      goes = more;
      rose = c.in-Err.ensures.cause;
      survives = beside_none log now c.in-Err.ensures.passed c.in-Err.ensures.durable;
      log_is = c.devices_agree.ensures.log;
      still_log = c.devices_agree-in-Err.ensures.log;
      stands = c.remember_log_fault.ensures.stands;
    }
