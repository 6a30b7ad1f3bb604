use Rattle.std.proofs.Common.{[], ◌∷◌, refl, sym, ap, ◌∙◌}
use Rattle.wp_core.specs.States.{installed}
use Rattle.wp_core.specs.Turns.{write_turn}
use Rattle.wp_core.specs.World.{Participant}
use Rattle.wp_shared.specs.Calls.{GoesOnAs, with_events}
use Rattle.wp_shared.specs.Notes.{no_fact, is_under, seeing}
use Rattle.wp_shared.specs.Seats.{SeatState}
use Rattle.wp_shared.proofs.Onward.{goes_none, goes_same, goes_seeing, goes_still, holds_next, loose_none, loose_under}
use Rattle.wp_maint.proofs.BeforeInstall.{devices_more}
use Rattle.wp_maint.proofs.Onward.{found_halted, goes_more, renews_so, in_step_on}
use Rattle.wp_renew.proofs.renewing.renew_tables.Goals as goal

pub returns-then-is_halted-clause-says : goal.returns-then-is_halted-clause-says
returns-then-is_halted-clause-says g c =
    let s = c.args.seat.now in
    found_halted c.args.store.now s s c.find_held.new.seat c.args.edits.now.state (goes_none s) c.find_held.ensures.found (sym c.is_halted.ensures ∙ c.if-is_halted.true) c.flushed.result c.flushed.ensures.number

-- ---- the log is renewed, under the write turn

pub returns-clause-holds : goal.returns-clause-holds
returns-clause-holds g c =
    let k = c.renew_held-result.ensures in let left = c.renew_held-result.new.edits in let gave = c.give_turn.ensures (installed left.state ∷ []) (5 ∷ []) k.holds.turn in
    record { turn = holds_next k.holds.turn gave.goes; of_store = k.holds.edits_of_store }

pub returns-clause-in_step : goal.returns-clause-in_step
returns-clause-in_step g c =
    let k = c.renew_held-result.ensures in let left = c.renew_held-result.new.edits in let gave = c.give_turn.ensures (installed left.state ∷ []) (5 ∷ []) k.holds.turn in
    in_step_on c.renew_held-result.new.seat c.give_turn.new.seat _ _ _ refl (λ vs floor. refl) gave.goes left.state.last k.in_step

pub returns-clause-says : goal.returns-clause-says
returns-clause-says g c =
    let z = c.args.store.now in let s = c.args.seat.now in let t = c.take_log-log.new.seat in let u = c.renew_held-result.new.seat in let v = c.give_turn.new.seat in let p = s.knows.participant in
    let took = c.take_log-log.ensures in let h = c.take_log-log.result.value.state.history in let e = c.args.edits.now in let left = c.renew_held-result.new.edits in
    let k = c.renew_held-result.ensures in let gave = c.give_turn.ensures (installed left.state ∷ []) (5 ∷ []) k.holds.turn in
    let first : GoesOnAs s t p = goes_still s (seeing h s) t p (goes_seeing s h took.grown) (goes_same (seeing h s) t no_fact _ _ loose_none took.goes) in
    let last : GoesOnAs u v u.knows.participant = goes_same u v (is_under write_turn) _ _ (loose_under write_turn) gave.goes in let same = gave.goes.same in
    renews_so (GoesOnAs t u) (GoesOnAs s v) z s t u v e.state (first.same_by, first.made, first.joined) (ap (λ (x : Participant). x.past) first.participant) first.seen (sym (ap (λ (x : SeatState). x.knows.participant.past) same)) last.seen
    (λ events x. goes_still s u v (with_events events p) (goes_more s t u p first events x) last) (λ x. goes_still s u v p (goes_still s t u p first x) last) (sym (ap (λ (x : SeatState). x.knows.participant.seen) same)) c.renew_held-result.result k.says

pub returns-clause-untouched : goal.returns-clause-untouched
returns-clause-untouched g c = devices_more (λ same. same.0) c.renew_held-result.result c.renew_held-result.ensures.untouched
