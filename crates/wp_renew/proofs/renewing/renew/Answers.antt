use Rattle.std.proofs.Common.{[], ◌∷◌, refl, sym, subst, ap}
use Rattle.wp_core.specs.States.{installed}
use Rattle.wp_core.specs.Turns.{tables_turn}
use Rattle.wp_core.specs.World.{Participant}
use Rattle.wp_rule.specs.Knows.{KnowsTables}
use Rattle.wp_parts.specs.VersionSet.{VersionSetState, IsEdits}
use Rattle.wp_parts.specs.Parts.{EditsStand}
use Rattle.wp_shared.specs.Calls.{GoesOnAs, Continues, with_events}
use Rattle.wp_shared.specs.Notes.{no_fact, is_under}
use Rattle.wp_shared.specs.Seats.{SeatState}
use Rattle.wp_shared.proofs.Onward.{loose_none, loose_under, goes_same, goes_still, goes_free, holds_alone}
use Rattle.wp_maint.specs.Calls.{LeavesOnce}
use Rattle.wp_maint.specs.Holding.{HoldsEdits}
use Rattle.wp_maint.proofs.BeforeInstall.{devices_more, kept_once, none_renewed, renewal_more, renewed_before, renewed_grown, left_once}
use Rattle.wp_maint.proofs.Found.{held_first}
use Rattle.wp_maint.proofs.Onward.{goes_more, renews_so}
use Rattle.wp_renew.proofs.renewing.renew.Goals as goal

pub renew_tables-result-requires-clause-holds : goal.renew_tables-result-requires-clause-holds
renew_tables-result-requires-clause-holds g c = subst (HoldsEdits c.args.store.now c.take_turn-edits.new.seat) (sym c.deref_mut.ensures.value) (record { turn = holds_alone c.requires c.take_turn-edits.ensures.taken; of_store = c.take_turn-edits.ensures.of_store })

pub renew_tables-result-requires-clause-in_step : goal.renew_tables-result-requires-clause-in_step
renew_tables-result-requires-clause-in_step g c = subst (λ (e : VersionSetState). KnowsTables c.take_turn-edits.new.seat.knows e.state.last) (sym c.deref_mut.ensures.value) c.take_turn-edits.ensures.taken.knows

pub give_turn-requires-clause-holds : goal.give_turn-requires-clause-holds
give_turn-requires-clause-holds g c = ([], [], c.renew_tables-result.ensures.holds.turn)

pub returns-clause-answers : goal.returns-clause-answers
returns-clause-answers g c =
    let z = c.args.store.now in let s = c.args.seat.now in let t = c.take_turn-edits.new.seat in let u = c.renew_tables-result.new.seat in let v = c.give_turn.new.seat in
    let e = c.deref_mut.result.now.state in let p : Participant = s.knows.participant in
    let first : GoesOnAs s t p = goes_same s t no_fact (installed c.take_turn-edits.result.value.state ∷ s.knows.held) (5 ∷ s.turns) loose_none c.take_turn-edits.ensures.taken.goes in
    let given = c.give_turn.ensures [] [] c.renew_tables-result.ensures.holds.turn in
    let last : GoesOnAs u v u.knows.participant = goes_same u v (is_under tables_turn) [] [] (loose_under tables_turn) given.goes in
    let freed = given.free refl refl in let same = given.goes.same in (
      e,
      renews_so (GoesOnAs t u) (Continues z s v) z s t u v e (first.same_by, first.made, first.joined) (ap (λ (x : Participant). x.past) first.participant) first.seen (sym (ap (λ (x : SeatState). x.knows.participant.past) same)) last.seen
          (λ events k. goes_free z s v (with_events events p) freed (goes_still s u v (with_events events p) (goes_more s t u p first events k) last))
          (λ k. goes_free z s v p freed (goes_still s u v p (goes_still s t u p first k) last)) (sym (ap (λ (x : SeatState). x.knows.participant.seen) same)) c.renew_tables-result.result c.renew_tables-result.ensures.says,
    )

pub returns-clause-before_install : goal.returns-clause-before_install
returns-clause-before_install g c =
    let z = c.args.store.now in let s = c.args.seat.now in let t = c.take_turn-edits.new.seat in let v = c.give_turn.new.seat in
    let before = c.deref_mut.result.now in let after = c.renew_tables-result.new.edits in let result = c.renew_tables-result.result in
    let taken = c.take_turn-edits.ensures.taken in let same = taken.goes.same in let holds = subst (HoldsEdits z t) (sym c.deref_mut.ensures.value) (record { turn = holds_alone c.requires taken; of_store = c.take_turn-edits.ensures.of_store }) in let answers = returns-clause-answers g c in
    renewed_before z s v (LeavesOnce z s v) result answers
    (renewal_more
    (left_once z s t v before after taken.stands (ap (λ (x : SeatState). x.by) same, ap (λ (x : SeatState). x.knows.made) same, ap (λ (x : SeatState). x.knows.joined) same) (ap (λ (x : SeatState). x.knows.participant) same) (held_first t before.state holds.turn.held) holds.of_store c.renew_tables-result.ensures.holds.of_store
    (subst IsEdits (sym c.deref_mut.ensures.value) (subst IsEdits c.deref.ensures c.devices_agree.ensures.edits)) (subst IsEdits c.deref-2.ensures c.devices_agree-2.ensures.edits) (renewed_grown z s v result answers))
    result c.renew_tables-result.ensures.manifest)

pub returns-clause-untouched : goal.returns-clause-untouched
returns-clause-untouched g c =
    let z = c.args.store.now in let s = c.args.seat.now in let t = c.take_turn-edits.new.seat in let v = c.give_turn.new.seat in
    let before = c.deref_mut.result.now in let after = c.renew_tables-result.new.edits in let result = c.renew_tables-result.result in
    let taken = c.take_turn-edits.ensures.taken in let same = taken.goes.same in let holds = subst (HoldsEdits z t) (sym c.deref_mut.ensures.value) (record { turn = holds_alone c.requires taken; of_store = c.take_turn-edits.ensures.of_store }) in
    devices_more
    (kept_once z s t v before after taken.stands (ap (λ (x : SeatState). x.by) same, ap (λ (x : SeatState). x.knows.made) same, ap (λ (x : SeatState). x.knows.joined) same) (ap (λ (x : SeatState). x.knows.participant) same) (held_first t before.state holds.turn.held) holds.of_store c.renew_tables-result.ensures.holds.of_store
    (subst IsEdits (sym c.deref_mut.ensures.value) (subst IsEdits c.deref.ensures c.devices_agree.ensures.edits)) (subst IsEdits c.deref-2.ensures c.devices_agree-2.ensures.edits) (renewed_grown z s v result (returns-clause-answers g c))
    (subst EditsStand (sym c.deref_mut.ensures.value) (subst EditsStand c.deref.ensures (c.devices_agree.ensures.manifest, c.devices_agree.ensures.tables))))
    result c.renew_tables-result.ensures.untouched

pub returns-clause-behind_install : goal.returns-clause-behind_install
returns-clause-behind_install g c = let z = c.args.store.now in let s = c.args.seat.now in let v = c.give_turn.new.seat in none_renewed (LeavesOnce z s v) s v c.renew_tables-result.result (returns-clause-before_install g c)
