use Rattle.std.proofs.Common.{ℕ, List, [], ◌∷◌, refl, subst, sym, ap}
use Rattle.std.proofs.lemmas.Result.{IfOk-weaker}
use Rattle.wp_core.specs.States.{StoreState, store, installed}
use Rattle.wp_parts.specs.Stock.{store_state}
use Rattle.wp_shared.specs.Notes.{no_fact, seeing, GoesOn}
use Rattle.wp_shared.specs.Seats.{SeatState}
use Rattle.wp_shared.specs.Turns.{HoldsTurn}
use Rattle.wp_shared.proofs.Goes.{none_under_store}
use Rattle.wp_core.specs.World.{Participant}
use Rattle.wp_compact.specs.Compaction.{AreLow}
use Rattle.wp_maint.proofs.Onward.{in_step_on}
use Rattle.wp_maint.proofs.Puts.{holds_taken}
use Rattle.wp_compact.proofs.StillTabled.{some_weaker, match_weaker, live_still, may_merge_still, holds_seen, looked, same_looked, grown_looked, found_looked, passed_looked}
use Rattle.wp_compact.proofs.unchanged.find_tables.Goals as goal

pub tables_in-tables-requires-clause-holds : goal.tables_in-tables-requires-clause-holds
tables_in-tables-requires-clause-holds g c =
    subst (λ (x : StoreState). HoldsTurn c.args.store.now c.take_turn-stock.new.seat (store x) (installed c.args.edits.now.state ∷ []) (5 ∷ [])) (sym (ap store_state c.deref.ensures)) (holds_taken c.requires.holds c.take_turn-stock.ensures.taken)

pub tables_in-tables-requires-clause-in_step : goal.tables_in-tables-requires-clause-in_step
tables_in-tables-requires-clause-in_step g c =
    let s = c.args.seat.now in
    in_step_on s c.take_turn-stock.new.seat no_fact (store (store_state c.take_turn-stock.result.value) ∷ s.knows.held) (3 ∷ s.turns) refl (λ versions floor. refl) c.take_turn-stock.ensures.taken.goes c.args.edits.now.state.last c.requires.in_step

pub tables_in-tables-requires-clause-live : goal.tables_in-tables-requires-clause-live
tables_in-tables-requires-clause-live g c =
    let p = c.args.pinned.now in let k = c.take_turn-stock.ensures.taken.goes in
    live_still c.args.seat.now.knows c.take_turn-stock.new.seat.knows p.floor.number p.live.items (ap (λ (x : SeatState). x.knows.participant) k.same) (λ fact guard there. k.noted fact refl there) c.requires.live

pub tables_in-tables-requires-clause-bases : goal.tables_in-tables-requires-clause-bases
tables_in-tables-requires-clause-bases g c =
    let p = c.args.pinned.now in
    (subst (λ (q : Participant). AreLow q.seen p.floor.number p.live.items c.args.bases) (sym (ap (λ (x : SeatState). x.knows.participant) c.take_turn-stock.ensures.taken.goes.same)) c.requires.bases.0, c.requires.bases.1)

pub give_turn-requires-clause-holds : goal.give_turn-requires-clause-holds
give_turn-requires-clause-holds g c = (installed c.args.edits.now.state ∷ [], 5 ∷ [], holds_seen c.requires.holds c.take_turn-stock.ensures.taken c.tables_in-tables.ensures.goes)

pub returns-clause-goes : goal.returns-clause-goes
returns-clause-goes g c =
    let h = c.requires.holds in let one = c.take_turn-stock.ensures.taken in let two = c.tables_in-tables.ensures.goes in let three = c.give_turn.ensures (installed c.args.edits.now.state ∷ []) (5 ∷ []) (holds_seen h one two) in let v = c.give_turn.new.seat in
    subst (λ (turns : List ℕ). GoesOn no_fact (installed c.args.edits.now.state ∷ []) turns (seeing v.knows.participant.seen c.args.seat.now) v) (sym h.turn.turns) (looked h one two three)

pub returns-clause-grown : goal.returns-clause-grown
returns-clause-grown g c =
    let h = c.requires.holds in let one = c.take_turn-stock.ensures.taken in let two = c.tables_in-tables.ensures.goes in let three = c.give_turn.ensures (installed c.args.edits.now.state ∷ []) (5 ∷ []) (holds_seen h one two) in
    grown_looked h one two three c.tables_in-tables.ensures.grown

pub returns-clause-may : goal.returns-clause-may
returns-clause-may g c =
    let h = c.requires.holds in let one = c.take_turn-stock.ensures.taken in let two = c.tables_in-tables.ensures.goes in let three = c.give_turn.ensures (installed c.args.edits.now.state ∷ []) (5 ∷ []) (holds_seen h one two) in
    let e = c.args.edits.now.state in let p = c.args.pinned.now in
    IfOk-weaker c.tables_in-tables.result _ _ (λ found may. some_weaker found _ _ (λ tables here. may_merge_still c.tables_in-tables.new.seat.knows c.give_turn.new.seat.knows e p.floor.number p.live.items c.args.bases (same_looked h one two three) (λ fact there. three.goes.noted fact (none_under_store fact) there) here) may) c.tables_in-tables.ensures.may

pub returns-clause-found : goal.returns-clause-found
returns-clause-found g c =
    let h = c.requires.holds in let one = c.take_turn-stock.ensures.taken in let two = c.tables_in-tables.ensures.goes in
    found_looked h one two (c.give_turn.ensures (installed c.args.edits.now.state ∷ []) (5 ∷ []) (holds_seen h one two)) c.tables_in-tables.ensures.grown

pub returns-clause-tables : goal.returns-clause-tables
returns-clause-tables g c =
    let h = c.requires.holds in let one = c.take_turn-stock.ensures.taken in let two = c.tables_in-tables.ensures.goes in let three = c.give_turn.ensures (installed c.args.edits.now.state ∷ []) (5 ∷ []) (holds_seen h one two) in
    IfOk-weaker c.tables_in-tables.result _ _ (λ found k. match_weaker found _ _ _ (passed_looked h one two three c.args.pinned.now.floor.number c.args.bases.installed) k) c.tables_in-tables.ensures.tables
