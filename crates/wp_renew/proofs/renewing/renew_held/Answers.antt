use Rattle.std.proofs.Common.{ℕ, [], ◌∷◌, Err, sym, subst, ap, ◌∙◌}
use Rattle.std.specs.Prelude.{Result}
use Rattle.std.proofs.lemmas.Result.{err_from_is_err_and}
use Rattle.wp_model.specs.declared.segment.Segment.{Segment}
use Rattle.wp_core.specs.Lists.{IsIn}
use Rattle.wp_core.specs.States.{writes, installed}
use Rattle.wp_core.specs.Views.{stopped}
use Rattle.wp_shared.specs.Calls.{GoesOnAs, with_events}
use Rattle.wp_shared.specs.Notes.{with_participant, no_fact, GoesOn}
use Rattle.wp_shared.specs.Seats.{SeatState}
use Rattle.wp_maint.specs.declared.renewed.Renewed.{Renewed}
use Rattle.wp_maint.specs.declared.renewed.RenewError.{RenewError}
use Rattle.wp_maint.specs.Finding.{Remembers}
use Rattle.wp_maint.specs.Renewing.{RenewsHolding}
use Rattle.wp_maint.proofs.Made.{first_held, second_held}
use Rattle.wp_renew.proofs.Renewed.{closed_before, nothing_to_renew}
use Rattle.wp_renew.proofs.Whole.{base_below, held_later, no_room, in_step_still}
use Rattle.wp_renew.proofs.renewing.renew_held.Goals as goal

pub find_edits-requires-clause-seat : goal.find_edits-requires-clause-seat
find_edits-requires-clause-seat g c = c.requires.holds.turn.same_table

pub find_edits-requires-clause-held : goal.find_edits-requires-clause-held
find_edits-requires-clause-held g c = let e = c.args.edits.now.state in (e, second_held c.args.seat.now.knows (writes c.args.log.now.state) (installed e) c.requires.holds.turn.held)

-- the log was closed before
pub returns-then-is_closed : goal.returns-then-is_closed
returns-then-is_closed g c =
    let z = c.args.store.now in let s = c.args.seat.now in let e = c.args.edits.now in let log = c.args.log.now in
    let k = c.find_edits.ensures e.state (second_held s.knows (writes log.state) (installed e.state) c.requires.holds.turn.held) in
    closed_before z s e log c.requires.holds c.requires.running c.requires.seen.0 c.requires.seen.1 c.requires.in_step c.requires.stands c.devices_agree.ensures.edits (c.devices_agree.ensures.manifest, c.devices_agree.ensures.tables) c.devices_agree-2.ensures.log (c.devices_agree-2.ensures.tells, c.devices_agree-2.ensures.next) c.find_edits.new.seat c.find_closed.new.seat c.published.result k c.published.ensures.value
    (c.find_closed.ensures ∙ ap (λ (n : ℕ). with_participant (with_events (stopped n ∷ []) c.find_edits.new.seat.knows.participant) c.find_edits.new.seat) (sym c.published.ensures.value)) (sym c.is_closed.ensures ∙ c.if-is_closed.true)

-- the log has this base already
pub returns-then-base-published : goal.returns-then-base-published
returns-then-base-published g c =
    let z = c.args.store.now in let s = c.args.seat.now in let e = c.args.edits.now in let log = c.args.log.now in
    let t = c.shows_segment.new.seat in let u = c.find_edits-then-base-published.new.seat in
    let k = c.find_edits-then-base-published.ensures e.state (second_held t.knows (writes log.state) (installed e.state) (ap (λ (x : SeatState). x.knows.held) c.shows_segment.ensures.same ∙ c.requires.holds.turn.held)) in
    nothing_to_renew z s e log c.requires.holds c.requires.running c.requires.seen.0 c.requires.seen.1 c.requires.in_step c.requires.stands c.devices_agree.ensures.edits (c.devices_agree.ensures.manifest, c.devices_agree.ensures.tables) c.devices_agree-2.ensures.log (c.devices_agree-2.ensures.tells, c.devices_agree-2.ensures.next) u (subst (λ (x : SeatState). Remembers z x e.state u) c.shows_segment.ensures.same k) (sym c.is_closed.ensures ∙ c.if-is_closed.false) (c.shows_segment.ensures.whole c.requires.seen.1).1
    (ap (λ (x : Segment). x.base) c.shows_segment.ensures.segment ∙ sym c.base.ensures ∙ c.if-base-published.true ∙ c.published-2.ensures.value)

pub find_closed-requires-clause-seat : goal.find_closed-requires-clause-seat
find_closed-requires-clause-seat g c = let e = c.args.edits.now.state in
    ap (λ (x : SeatState). x.table) (c.find_edits.ensures e (second_held c.args.seat.now.knows (writes c.args.log.now.state) (installed e) c.requires.holds.turn.held)).is ∙ c.requires.holds.turn.same_table

pub find_closed-requires-clause-held : goal.find_closed-requires-clause-held
find_closed-requires-clause-held g c = let e = c.args.edits.now.state in let d = c.args.log.now.state in let s = c.args.seat.now in
    let k = c.find_edits.ensures e (second_held s.knows (writes d) (installed e) c.requires.holds.turn.held) in
    (subst (λ (x : SeatState). IsIn (writes d) x.knows.held) (sym k.is) (first_held s.knows (writes d) (installed e ∷ []) c.requires.holds.turn.held), sym c.is_closed.ensures ∙ c.if-is_closed.true)

pub find_edits-requires-then-base-published-clause-held : goal.find_edits-requires-then-base-published-clause-held
find_edits-requires-then-base-published-clause-held g c = let e = c.args.edits.now.state in
    (e, second_held c.shows_segment.new.seat.knows (writes c.args.log.now.state) (installed e) (ap (λ (x : SeatState). x.knows.held) c.shows_segment.ensures.same ∙ c.requires.holds.turn.held))

-- there is something to renew

pub renew_in-requires-clause-below : goal.renew_in-requires-clause-below
renew_in-requires-clause-below g c = let log = c.args.log.now in
    base_below log c.devices_agree-2.ensures.log (c.shows_segment.ensures.whole c.requires.seen.1).1 (λ is. c.if-base-published.false (c.base.ensures ∙ is ∙ sym c.published-2.ensures.value))

pub renew_in-requires-clause-in_step : goal.renew_in-requires-clause-in_step
renew_in-requires-clause-in_step g c = let s = c.args.seat.now in let goes = subst (λ (x : SeatState). GoesOn no_fact x.knows.held x.turns x c.make_renewal_ready.new.seat) c.shows_segment.ensures.same c.in_ok-ready.ensures.goes in
    in_step_still c.args.store.now s c.make_renewal_ready.new.seat c.make_renewal_ready.new.seat c.args.edits.now c.args.log.now goes c.requires.in_step

pub returns-in_err-ready : goal.returns-in_err-ready
returns-in_err-ready g c =
    let z = c.args.store.now in let s = c.args.seat.now in let t = c.make_renewal_ready.new.seat in let e = c.args.edits.now in let log = c.args.log.now in
    let goes = subst (λ (x : SeatState). GoesOn no_fact x.knows.held x.turns x t) c.shows_segment.ensures.same c.in_err-ready.ensures.goes in
    let whole = c.shows_segment.ensures.whole c.requires.seen.1 in
    let q = err_from_is_err_and c.from_residual.result c.from_residual.ensures.1 in
    subst (λ (r : Result Renewed RenewError). RenewsHolding (GoesOnAs s t) z s e log r t e log) (sym (q.1 ∙ ap Err q.2))
    (no_room z s t t e log goes c.requires.holds c.requires.running (sym c.is_closed.ensures ∙ c.if-is_closed.false) c.requires.seen.1 c.shows_segment.ensures.segment
    (base_below log c.devices_agree-2.ensures.log whole.1 (λ is. c.if-base-published.false (c.base.ensures ∙ is ∙ sym c.published-2.ensures.value)))
    c.requires.seen.0 whole.1 c.requires.stands c.devices_agree.ensures.edits c.devices_agree-2.ensures.log (c.devices_agree.ensures.manifest, c.devices_agree.ensures.tables) (c.devices_agree-2.ensures.tells, c.devices_agree-2.ensures.next) c.requires.in_step)

pub returns : goal.returns
returns g c =
    let z = c.args.store.now in let s = c.args.seat.now in let t = c.make_renewal_ready.new.seat in let u = c.renew_in.new.seat in let e = c.args.edits.now in let log = c.args.log.now in
    let goes = subst (λ (x : SeatState). GoesOn no_fact x.knows.held x.turns x t) c.shows_segment.ensures.same c.in_ok-ready.ensures.goes in
    held_later z s t u e log goes c.renew_in.new.edits c.renew_in.new.log c.renew_in.result c.renew_in.ensures
