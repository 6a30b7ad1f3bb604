use Rattle.std.proofs.Common.{◌≡◌, ◌<◌, List, length, Err, None, refl, sym, subst, ap, ◌∙◌}
use Rattle.std.specs.Prelude.{Result}
use Rattle.std.proofs.lemmas.List.{length-map}
use Rattle.std.proofs.lemmas.Result.{err_from_is_err_and}
use Rattle.wp_model.specs.History.{undecided}
use Rattle.wp_model.specs.Legal.{undone_last}
use Rattle.wp_tableset.specs.Changes.{Asked, one_part}
use Rattle.wp_core.specs.States.{Content}
use Rattle.wp_core.specs.World.{Actor, World}
use Rattle.wp_shared.specs.Notes.{GoesOn}
use Rattle.wp_maint.specs.Holding.{is_of_tables}
use Rattle.wp_maint.proofs.Puts.{tables_beneath}
use Rattle.wp_shared.specs.Calls.{GoesOnAs}
use Rattle.wp_parts.specs.Log.{LogState, IsSegmentOf}
use Rattle.wp_shared.specs.Seats.{SeatState, Stands}
use Rattle.wp_maint.specs.declared.renewed.Renewed.{Renewed}
use Rattle.wp_maint.specs.declared.renewed.RenewError.{RenewError}
use Rattle.wp_maint.specs.Renewing.{HasPlace, HasSegment, RenewsHolding}
use Rattle.wp_stages.proofs.StageLemmas.{none_waits}
use Rattle.wp_renew.proofs.Whole.{at_start, failed_since, not_written, not_placed, told, not_installed, may_put, went_through}
use Rattle.wp_renew.proofs.renewing.renew_in.Goals as goal

-- ---- the table

pub write_table-requires-clause-ready : goal.write_table-requires-clause-ready
write_table-requires-clause-ready g c = c.requires.ready.0.ready

pub returns-in_err-tabled : goal.returns-in_err-tabled
returns-in_err-tabled g c =
    let z = c.args.store.now in let s = c.args.seat.now in let e = c.args.edits.now in let log = c.args.log.now in let r = c.args.ready.flush in
    let one = c.write_table.new in let q = err_from_is_err_and c.from_residual.result c.from_residual.ensures.1 in
    subst (λ (r : Result Renewed RenewError). RenewsHolding (GoesOnAs s one.seat) z s e log r one.seat one.edits one.log) (sym (q.1 ∙ ap Err q.2))
    (not_written z s e log c.requires.holds c.requires.running.0 c.requires.running.1 c.requires.running.2 c.requires.coupled c.requires.below c.requires.seen.0 c.requires.seen.1 c.requires.stands c.requires.in_step c.requires.edits c.requires.log r.frozen r.edit c.requires.ready.0.asked c.requires.ready.0.frozen
    c.in_err-tabled.field-0.0 one.seat one.edits one.log c.in_err-tabled.ensures.writes)

-- ---- the segment

pub write_segment-requires-clause-holds : goal.write_segment-requires-clause-holds
write_segment-requires-clause-holds g c = c.in_ok-tabled.ensures.writes.3

pub write_segment-requires-clause-running : goal.write_segment-requires-clause-running
write_segment-requires-clause-running g c = let same = c.in_ok-tabled.ensures.writes.1 in (ap (λ (l : LogState). l.state.closed) same ∙ c.requires.running.1, ap (λ (l : LogState). l.state.pending) same ∙ c.requires.running.2)

pub write_segment-requires-clause-below : goal.write_segment-requires-clause-below
write_segment-requires-clause-below g c = subst (λ (l : LogState). l.state.segment.base < length l.state.history) (sym c.in_ok-tabled.ensures.writes.1) c.requires.below

pub write_segment-requires-clause-whole : goal.write_segment-requires-clause-whole
write_segment-requires-clause-whole g c = subst (λ (l : LogState). undone_last l.state.history ≡ None) (sym c.in_ok-tabled.ensures.writes.1) c.requires.whole

pub write_segment-requires-clause-segment : goal.write_segment-requires-clause-segment
write_segment-requires-clause-segment g c = subst (λ (l : LogState). IsSegmentOf l c.args.ready.segment) (sym c.in_ok-tabled.ensures.writes.1) c.requires.ready.1

pub write_segment-requires-clause-stands : goal.write_segment-requires-clause-stands
write_segment-requires-clause-stands g c = subst (λ (x : SeatState). (w : World) × Stands c.args.store.now x w) (sym c.in_ok-tabled.ensures.writes.0) c.requires.stands

pub give_up-requires : goal.give_up-requires
give_up-requires g c = failed_since _ _ _ _ _ _ c.in-Err.why _ _ c.in_ok-tabled.ensures.past (ap (λ (a : Actor). a.participant.past) c.words.ensures) c.in-Err.ensures

pub returns-in-Err : goal.returns-in-Err
returns-in-Err g c =
    let z = c.args.store.now in let s = c.args.seat.now in let e = c.args.edits.now in let log = c.args.log.now in let r = c.args.ready.flush in
    let one = c.write_table.new in let k = c.in_ok-tabled.ensures.writes in let holds = at_start z s one.seat one.edits log one.log k.0 k.1 k.3 in
    let two = c.write_segment.new in
    not_placed z s e log c.requires.holds c.requires.running.0 c.requires.running.1 c.requires.running.2 c.requires.coupled c.requires.below c.requires.seen.0 c.requires.seen.1 c.requires.stands c.requires.in_step c.requires.edits c.requires.log r.frozen r.edit c.requires.ready.0.asked c.requires.ready.0.frozen
    one.edits c.in_ok-tabled.tabled k.2 k.4 k.5 holds c.in-Err.why two.seat two.log c.write_table.ensures.edits k.6 (subst (λ (x : SeatState × LogState). HasPlace z x.0 one.edits x.1 (Err c.in-Err.why) two.seat two.log) (λ i. (k.0 i, k.1 i)) c.in-Err.ensures)

pub shows_waiting-requires : goal.shows_waiting-requires
shows_waiting-requires g c = c.in-Ok.ensures.waits

-- ---- the edit

pub install-requires : goal.install-requires
install-requires g c =
    let z = c.args.store.now in let s = c.args.seat.now in let e = c.args.edits.now in let log = c.args.log.now in let r = c.args.ready.flush in
    let one = c.write_table.new in let k = c.in_ok-tabled.ensures.writes in let holds = at_start z s one.seat one.edits log one.log k.0 k.1 k.3 in
    let two = c.write_segment.new in let p = subst (λ (x : SeatState × LogState). HasSegment z x.0 one.edits x.1 c.in-Ok.written two.seat two.log) (λ i. (k.0 i, k.1 i)) c.in-Ok.ensures in
    told z s e log c.requires.holds c.requires.running.0 c.requires.running.1 c.requires.running.2 c.requires.coupled c.requires.below c.requires.seen.0 c.requires.seen.1 c.requires.stands c.requires.in_step c.requires.edits c.requires.log r.frozen r.edit c.requires.ready.0.asked c.requires.ready.0.frozen
    one.edits c.in_ok-tabled.tabled k.2 k.4 k.5 holds c.in-Ok.written two.seat two.log p (none_waits log.state c.requires.log.none_waits c.requires.running.1)

pub returns-in_err-table : goal.returns-in_err-table
returns-in_err-table g c =
    let z = c.args.store.now in let s = c.args.seat.now in let e = c.args.edits.now in let log = c.args.log.now in let r = c.args.ready.flush in
    let one = c.write_table.new in let k = c.in_ok-tabled.ensures.writes in let holds = at_start z s one.seat one.edits log one.log k.0 k.1 k.3 in
    let two = c.write_segment.new in let p = subst (λ (x : SeatState × LogState). HasSegment z x.0 one.edits x.1 c.in-Ok.written two.seat two.log) (λ i. (k.0 i, k.1 i)) c.in-Ok.ensures in
    let three = c.install.new in let q = err_from_is_err_and c.from_residual-in_err-table.result c.from_residual-in_err-table.ensures.1 in
    subst (λ (r : Result Renewed RenewError). RenewsHolding (GoesOnAs s three.seat) z s e log r three.seat three.edits three.log) (sym (q.1 ∙ ap Err q.2))
    (not_installed z s e log c.requires.holds c.requires.running.0 c.requires.running.1 c.requires.running.2 c.requires.coupled c.requires.below c.requires.seen.0 c.requires.seen.1 c.requires.stands c.requires.in_step c.requires.edits c.requires.log r.frozen r.edit c.requires.ready.0.asked c.requires.ready.0.frozen
    one.edits c.in_ok-tabled.tabled k.2 k.4 k.5 holds c.in-Ok.written two.seat two.log p c.in_err-table.field-0.0 three.seat three.edits three.log c.in_err-table.ensures.leaves)

-- ---- all of it

pub put_table-requires-clause-holds : goal.put_table-requires-clause-holds
put_table-requires-clause-holds g c = tables_beneath c.in_ok-table.ensures.leaves.holds.turn

pub put_table-requires-clause-may : goal.put_table-requires-clause-may
put_table-requires-clause-may g c =
    let z = c.args.store.now in let s = c.args.seat.now in let e = c.args.edits.now in let log = c.args.log.now in let r = c.args.ready.flush in
    let one = c.write_table.new in let k = c.in_ok-tabled.ensures.writes in let holds = at_start z s one.seat one.edits log one.log k.0 k.1 k.3 in
    let two = c.write_segment.new in let p = subst (λ (x : SeatState × LogState). HasSegment z x.0 one.edits x.1 c.in-Ok.written two.seat two.log) (λ i. (k.0 i, k.1 i)) c.in-Ok.ensures in
    let three = c.install.new in may_put z s e log c.requires.holds c.requires.running.0 c.requires.running.1 c.requires.running.2 c.requires.coupled c.requires.below c.requires.seen.0 c.requires.seen.1 c.requires.stands c.requires.in_step c.requires.edits c.requires.log r.frozen r.edit c.requires.ready.0.asked c.requires.ready.0.frozen
    one.edits c.in_ok-tabled.tabled k.2 k.4 k.5 holds c.in-Ok.written two.seat two.log p three.seat three.edits three.log c.in_ok-table.ensures.leaves _ (c.in_ok-table.ensures.table ∙ ap (λ (x : Asked). one_part x.versions) (c.in_ok-tabled.ensures.writes.5 ∙ c.requires.ready.0.asked))

pub returns : goal.returns
returns g c =
    let z = c.args.store.now in let s = c.args.seat.now in let e = c.args.edits.now in let log = c.args.log.now in let r = c.args.ready.flush in
    let one = c.write_table.new in let k = c.in_ok-tabled.ensures.writes in let holds = at_start z s one.seat one.edits log one.log k.0 k.1 k.3 in
    let two = c.write_segment.new in let p = subst (λ (x : SeatState × LogState). HasSegment z x.0 one.edits x.1 c.in-Ok.written two.seat two.log) (λ i. (k.0 i, k.1 i)) c.in-Ok.ensures in
    let three = c.install.new in went_through z s e log c.requires.holds c.requires.running.0 c.requires.running.1 c.requires.running.2 c.requires.coupled c.requires.below c.requires.seen.0 c.requires.seen.1 c.requires.stands c.requires.in_step c.requires.edits c.requires.log r.frozen r.edit c.requires.ready.0.asked c.requires.ready.0.frozen
    one.edits c.in_ok-tabled.tabled k.2 k.4 k.5 holds c.in-Ok.written two.seat two.log p three.seat three.edits three.log c.in_ok-table.ensures.leaves c.put_table.new.seat (subst (λ (l : List Content). GoesOn is_of_tables l three.seat.turns three.seat c.put_table.new.seat) c.in_ok-table.ensures.leaves.holds.turn.held c.put_table.ensures.goes) _ refl (c.undecided_count.ensures ∙ length-map (undecided log.state.history) _) c.put_table.ensures.in_step
