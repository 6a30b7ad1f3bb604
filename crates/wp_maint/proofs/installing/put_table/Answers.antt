use Rattle.std.proofs.Common.{List, refl, subst, sym, ap, ◌∙◌}
use Rattle.std.specs.Arc.{arc_value}
use Rattle.std.specs.Option.{option_map}
use Rattle.wp_model.specs.declared.version.Version.{Version}
use Rattle.wp_merge.specs.Merge.{joined, sorted_of}
use Rattle.wp_core.specs.Sound.Store.{NoneFlushed}
use Rattle.wp_core.specs.States.{StoreState}
use Rattle.wp_rule.specs.Knows.{KnowsMoved}
use Rattle.wp_parts.specs.Stock.{StockState, store_state}
use Rattle.wp_maint.proofs.Installed.{knows_moved, none_flushed, tables_named}
use Rattle.wp_maint.proofs.Puts.{holds_lent, holds_changed, put, put_in_step}
use Rattle.wp_maint.proofs.installing.put_table.Goals as goal

pub move_versions-requires-clause-seat : goal.move_versions-requires-clause-seat
move_versions-requires-clause-seat g c = c.take_turn-stock.ensures.taken.holds.same_table

pub move_versions-requires-clause-held : goal.move_versions-requires-clause-held
move_versions-requires-clause-held g c =
    let k = c.take_turn-stock.ensures.taken in let lent = store_state c.deref_mut.result.now in let s = c.args.seat.now in let held = (holds_lent c.requires.holds k (ap store_state c.deref_mut.ensures.value)).held in
    let e = c.args.edits.now.state in
    let moved = knows_moved c.args.store.now s e c.args.frozen (option_map arc_value c.args.table) c.requires.may c.take_turn-stock.new.seat k.stands.0 k.stands.1 (λ fact there. k.goes.noted fact refl there) lent s.knows.held held (store_state c.install_flushed.new.self) c.install_flushed.ensures.memory
    (c.install_flushed.ensures.tables ∙ ap (λ (l : List (List Version)). sorted_of (joined l)) c.with_first-tables.ensures) in (
      lent,
      s.knows.held,
      held,
      c.requires.holds.tables,
      ap (λ (x : StockState). x.floor) c.deref.ensures ∙ c.install_flushed.ensures.floor,
      subst (λ (x : StockState). KnowsMoved lent e.last.flushed (store_state x).memory (store_state x).tables) (sym c.deref.ensures) moved,
    )

pub move_versions-requires-clause-gone : goal.move_versions-requires-clause-gone
move_versions-requires-clause-gone g c =
    let k = c.take_turn-stock.ensures.taken in let lent = store_state c.deref_mut.result.now in let s = c.args.seat.now in let held = (holds_lent c.requires.holds k (ap store_state c.deref_mut.ensures.value)).held in
    let e = c.args.edits.now.state in
    subst (λ (x : StockState). NoneFlushed (store_state x).memory e.last.flushed) (sym c.deref.ensures)
    (none_flushed c.args.store.now s e c.args.frozen (option_map arc_value c.args.table) c.requires.may c.take_turn-stock.new.seat k.stands.0 k.stands.1 (λ fact there. k.goes.noted fact refl there) lent s.knows.held held (store_state c.install_flushed.new.self) c.install_flushed.ensures.memory
    (c.install_flushed.ensures.tables ∙ ap (λ (l : List (List Version)). sorted_of (joined l)) c.with_first-tables.ensures))

pub give_turn-requires-clause-holds : goal.give_turn-requires-clause-holds
give_turn-requires-clause-holds g c =
    let s = c.args.seat.now in let h = c.requires.holds in let k = c.take_turn-stock.ensures.taken in
    (s.knows.held, s.turns, holds_changed h k (ap store_state c.deref.ensures) (c.move_versions.ensures.goes (store_state c.deref_mut.result.now) s.knows.held (holds_lent h k (ap store_state c.deref_mut.ensures.value)).held))

pub returns-clause-goes : goal.returns-clause-goes
returns-clause-goes g c =
    let s = c.args.seat.now in let h = c.requires.holds in let k = c.take_turn-stock.ensures.taken in let same = ap store_state c.deref.ensures in
    let two = c.move_versions.ensures.goes (store_state c.deref_mut.result.now) s.knows.held (holds_lent h k (ap store_state c.deref_mut.ensures.value)).held in
    put h k same two (c.give_turn.ensures s.knows.held s.turns (holds_changed h k same two))

pub returns-clause-in_step : goal.returns-clause-in_step
returns-clause-in_step g c =
    let s = c.args.seat.now in let h = c.requires.holds in let k = c.take_turn-stock.ensures.taken in let same = ap store_state c.deref.ensures in
    let lent = store_state c.deref_mut.result.now in let held = (holds_lent h k (ap store_state c.deref_mut.ensures.value)).held in let two = c.move_versions.ensures.goes lent s.knows.held held in
    put_in_step h k same two (c.give_turn.ensures s.knows.held s.turns (holds_changed h k same two)) c.move_versions.ensures.flushed c.move_versions.ensures.named
    (ap (λ (x : StoreState). x.tables) same ∙ tables_named c.args.store.now s c.args.edits.now.state c.args.frozen (option_map arc_value c.args.table) c.requires.may c.take_turn-stock.new.seat k.stands.0 k.stands.1 (λ fact there. k.goes.noted fact refl there) lent s.knows.held held (store_state c.install_flushed.new.self) c.install_flushed.ensures.memory
    (c.install_flushed.ensures.tables ∙ ap (λ (l : List (List Version)). sorted_of (joined l)) c.with_first-tables.ensures))
