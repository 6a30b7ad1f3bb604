use Rattle.std.proofs.Common.{◌≤◌, List, refl, subst, sym, ap, ◌∙◌}
use Rattle.wp_core.specs.Conditions.{KeepsStore}
use Rattle.wp_core.specs.States.{Content, StoreState}
use Rattle.wp_core.specs.Views.{nothing_flushed}
use Rattle.wp_parts.specs.Stock.{store_state}
use Rattle.wp_shared.specs.Notes.{GoesOn}
use Rattle.wp_shared.specs.Seats.{SeatState}
use Rattle.wp_maint.specs.Holding.{is_of_tables}
use Rattle.wp_maint.proofs.Puts.{beside_held, holds_taken, holds_changed, put, put_in_step, tables_alone}
use Rattle.wp_compact.proofs.Replaces.{may_put}
use Rattle.wp_compact.proofs.merging.put_tables.Goals as goal

pub replace_versions-requires-clause-seat : goal.replace_versions-requires-clause-seat
replace_versions-requires-clause-seat g c = (holds_taken c.requires.holds c.take_turn-stock.ensures.taken).same_table

pub replace_versions-requires-clause-held : goal.replace_versions-requires-clause-held
replace_versions-requires-clause-held g c = (store_state c.take_turn-stock.result.value, (holds_taken c.requires.holds c.take_turn-stock.ensures.taken).held, ap (λ (x : StoreState). x.memory) (ap store_state c.deref.ensures ∙ c.replace.ensures) ∙ ap (λ (x : StoreState). x.memory) (ap store_state c.deref_mut.ensures.value))

pub replace_versions-requires-clause-may : goal.replace_versions-requires-clause-may
replace_versions-requires-clause-may g c w stands =
    let t = store_state c.take_turn-stock.result.value in let k = c.take_turn-stock.ensures.taken in
    let shown = ap store_state c.deref.ensures ∙ c.replace.ensures in let tables = ap (λ (x : StoreState). x.tables) shown ∙ c.requires.tables in let floor = ap (λ (x : StoreState). x.floor) shown in
    let p = may_put c.args.store.now c.args.seat.now c.args.edits.now.state c.args.floor c.requires.may c.take_turn-stock.new.seat t (ap (λ (x : SeatState). x.knows.participant) k.goes.same) (λ fact there. k.goes.noted fact refl there) (holds_taken c.requires.holds k).held w stands in
    subst (λ (x : StoreState). (w.store.floor ≤ x.floor) × KeepsStore w (record w.store { tables = x.tables; floor = x.floor }) w.installed) (λ i. record { memory = t.memory; tables = sym tables i; floor = sym floor i }) p

pub give_turn-requires-clause-holds : goal.give_turn-requires-clause-holds
give_turn-requires-clause-holds g c =
    let s = c.args.seat.now in let h = c.requires.holds in
    (s.knows.held, s.turns, holds_changed (tables_alone h) c.take_turn-stock.ensures.taken (ap store_state c.deref.ensures) (beside_held h.turn.held c.replace_versions.ensures.goes))

pub returns-clause-goes : goal.returns-clause-goes
returns-clause-goes g c =
    let s = c.args.seat.now in let h = c.requires.holds in let k = c.take_turn-stock.ensures.taken in let same = ap store_state c.deref.ensures in let two = beside_held h.turn.held c.replace_versions.ensures.goes in
    subst (λ (l : List Content). GoesOn is_of_tables l s.turns s c.give_turn.new.seat) h.turn.held
    (put (tables_alone h) k same two (c.give_turn.ensures s.knows.held s.turns (holds_changed (tables_alone h) k same two)))

pub returns-clause-in_step : goal.returns-clause-in_step
returns-clause-in_step g c =
    let s = c.args.seat.now in let h = c.requires.holds in let k = c.take_turn-stock.ensures.taken in let same = ap store_state c.deref.ensures in let two = beside_held h.turn.held c.replace_versions.ensures.goes in
    put_in_step (tables_alone h) k same two (c.give_turn.ensures s.knows.held s.turns (holds_changed (tables_alone h) k same two)) (c.replace_versions.ensures.gone (k.goes.noted nothing_flushed refl c.requires.may.replace.gone)) c.replace_versions.ensures.named
    (ap (λ (x : StoreState). x.tables) (same ∙ c.replace.ensures) ∙ c.requires.tables)
