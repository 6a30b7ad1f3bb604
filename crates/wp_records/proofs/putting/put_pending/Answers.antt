use Rattle.std.proofs.Common.{◌≢◌, suc, List, [], length, refl, sym, subst, ap, ◌∙◌}
use Rattle.std.specs.Prelude.{Result, Err}
use Rattle.std.proofs.lemmas.Result.{err_from_is_err_and}
use Rattle.wp_model.specs.declared.entry.Entry.{Entry}
use Rattle.wp_wal.specs.Wal.{WalState}
use Rattle.wp_core.specs.States.{WriteState}
use Rattle.wp_core.specs.Views.{pair_not_delayed, unprepared}
use Rattle.wp_rule.specs.Knows.{Noted}
use Rattle.wp_parts.specs.Log.{LogState}
use Rattle.wp_shared.specs.Notes.{GoesOn}
use Rattle.wp_shared.specs.Seats.{SeatState}
use Rattle.wp_commits.specs.Ways.{ways_of, RisesFor}
use Rattle.wp_records.specs.declared.error.WriteError.{WriteError}
use Rattle.wp_records.specs.declared.error.WriteError.TheVariants.{Memory}
use Rattle.wp_records.specs.Records.{Puts}
use Rattle.wp_records.specs.Stages.{is_guarded, HoldsPending, IsReadied}
use Rattle.wp_records.proofs.Joined.{logged_join}
use Rattle.wp_records.proofs.Puts.{not_put, not_ready, not_logged, put_logged, ready_cleared, appended}
use Rattle.wp_records.proofs.Readied.{may_still}
use Rattle.wp_records.proofs.putting.put_pending.Goals as goal

pub shows_world-requires : goal.shows_world-requires
shows_world-requires g c = c.ready.ensures.holds.turn.same_table

pub append-requires-clause-holds : goal.append-requires-clause-holds
append-requires-clause-holds g c = subst (λ (x : SeatState). HoldsPending c.args.store.now x c.args.log.now) (sym c.shows_world.ensures.same) c.ready.ensures.holds

pub append-requires-clause-undelayed : goal.append-requires-clause-undelayed
append-requires-clause-undelayed g c = subst (λ (x : SeatState). Noted x.knows pair_not_delayed) (sym c.shows_world.ensures.same) c.ready.ensures.undelayed

pub publish_all-requires-clause-some : goal.publish_all-requires-clause-some
publish_all-requires-clause-some g c = let l = c.in_ok-append.ensures {u = tt} in subst (λ (e : List Entry). e ≢ []) (sym (ap (λ (x : WriteState). x.pending) l.state)) c.requires.unlogged.some

pub publish_all-requires-clause-running : goal.publish_all-requires-clause-running
publish_all-requires-clause-running g c = let l = c.in_ok-append.ensures {u = tt} in ap (λ (x : WriteState). x.closed) l.state ∙ c.requires.unlogged.running

pub publish_all-requires-clause-may : goal.publish_all-requires-clause-may
publish_all-requires-clause-may g c =
    let s = c.args.seat.now in let t = c.shows_world.new.seat in let log = c.args.log.now in let back = sym c.shows_world.ensures.same in let cells = c.args.store.now.cells in
    let seat = subst (λ (x : SeatState). GoesOn is_guarded s.knows.held s.turns s x) back c.ready.ensures.seat in
    (logged_join c.args.store.now t c.append.new.seat log c.append.new.log cells c.requires.one (may_still s.knows t.knows log.state.history log.state.pending (ap (λ (x : SeatState). x.knows.participant) seat.same) (λ name there. seat.noted (unprepared name) refl there) c.requires.may) c.requires.apart
    (subst (λ (x : SeatState). IsReadied x.knows cells log.state) back c.in-Ok.ensures.ok) (c.in_ok-append.ensures {u = tt})).0

pub publish_all-requires-clause-versions : goal.publish_all-requires-clause-versions
publish_all-requires-clause-versions g c =
    let s = c.args.seat.now in let t = c.shows_world.new.seat in let log = c.args.log.now in let back = sym c.shows_world.ensures.same in let cells = c.args.store.now.cells in
    let seat = subst (λ (x : SeatState). GoesOn is_guarded s.knows.held s.turns s x) back c.ready.ensures.seat in
    (logged_join c.args.store.now t c.append.new.seat log c.append.new.log cells c.requires.one (may_still s.knows t.knows log.state.history log.state.pending (ap (λ (x : SeatState). x.knows.participant) seat.same) (λ name there. seat.noted (unprepared name) refl there) c.requires.may) c.requires.apart
    (subst (λ (x : SeatState). IsReadied x.knows cells log.state) back c.in-Ok.ensures.ok) (c.in_ok-append.ensures {u = tt})).1

pub returns : goal.returns
returns g c =
    let z = c.args.store.now in let s = c.args.seat.now in let r = c.ready.new.seat in let t = c.shows_world.new.seat in let log = c.args.log.now in let same = c.shows_world.ensures.same in
    let logged = c.in_ok-append.ensures {u = tt} in (
      put_logged z s t c.append.new.seat c.publish_all.new.seat log c.append.new.log c.publish_all.new.log (subst (λ (x : SeatState). GoesOn is_guarded s.knows.held s.turns s x) (sym same) c.ready.ensures.seat)
          (subst (λ (x : SeatState). RisesFor z.cells (length log.state.history) s.knows x.knows (ways_of z.cells (suc (length log.state.history)) log.state.pending)) (sym same) c.in-Ok.ensures.bound)
          (λ any. ready_cleared z s r t log c.ready.ensures.seat c.ready.ensures.holds same c.shows_world.ensures.stands c.in-Ok.ensures.bound (c.in-Ok.ensures.waits any)) logged c.publish_all.ensures.put,
      appended log c.append.new.log c.publish_all.new.log log.state.pending logged.appended c.publish_all.ensures.uncalled,
    )

pub take_back-requires : goal.take_back-requires
take_back-requires g c = record { holds = c.ready.ensures.holds; unlogged = c.requires.unlogged.unlogged; undelayed = c.ready.ensures.undelayed }

pub returns-in_default : goal.returns-in_default
returns-in_default g c =
    let z = c.args.store.now in let s = c.args.seat.now in let t = c.ready.new.seat in let u = c.take_back.new.seat in let log = c.args.log.now in let left = c.take_back.new.log in let back = c.take_back.ensures in let r = c.in_default.ensures.refused in
    let wal = ap (λ (x : LogState). x.wal) back.log in
    not_ready z s t u log left c.ready.ensures.seat r.0 r.3 r.1 r.2 Memory refl
    (not_put z t u log left back.holds _ _ back.seat (ap (λ (x : LogState). x.state.history) back.log) (ap (λ (x : LogState). x.state.closed) back.log ∙ c.requires.unlogged.running))
    (wal ∙ ap (λ (w : WalState). record log.wal { reserved = w.reserved }) (sym wal))

pub returns-in_err-append : goal.returns-in_err-append
returns-in_err-append g c =
    let z = c.args.store.now in let s = c.args.seat.now in let t = c.shows_world.new.seat in let log = c.args.log.now in let back = sym c.shows_world.ensures.same in
    let ways = ways_of z.cells (suc (length log.state.history)) log.state.pending in
    let p = err_from_is_err_and c.from_residual.result c.from_residual.ensures.1 in
    subst (λ (r : Result (Unit {0}) WriteError). Puts z s log log.state.pending r c.append.new.seat c.append.new.log) (sym (p.1 ∙ ap Err p.2))
    (not_logged z s t c.append.new.seat log c.append.new.log (subst (λ (x : SeatState). GoesOn is_guarded s.knows.held s.turns s x) back c.ready.ensures.seat) ways
    (subst (λ (x : SeatState). RisesFor z.cells (length log.state.history) s.knows x.knows ways) back c.in-Ok.ensures.bound) refl _ c.in_err-append.ensures)
