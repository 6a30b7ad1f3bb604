use Rattle.std.proofs.Common.{[], subst, sym, ap, ◌∙◌}
use Rattle.std.proofs.lemmas.Result.{IfOk-weaker}
use Rattle.wp_merge.specs.Merge.{joined}
use Rattle.wp_merge.proofs.Sorted.{in_order_sorted}
use Rattle.wp_parts.specs.Stock.{StockState, store_state}
use Rattle.wp_shared.proofs.Onward.{holds_alone}
use Rattle.wp_compact.specs.Compaction.{HadVersions}
use Rattle.wp_compact.specs.Decided.{AreSeen}
use Rattle.wp_compact.proofs.Tabled.{are_seen, had_versions, looked_on, same_look}
use Rattle.wp_compact.proofs.decided.tabled.Goals as goal

pub give_turn-requires-clause-holds : goal.give_turn-requires-clause-holds
give_turn-requires-clause-holds g c = ([], [], holds_alone c.requires c.take_turn-stock.ensures.taken)

pub returns-clause-continues : goal.returns-clause-continues
returns-clause-continues g c = let k = c.take_turn-stock.ensures.taken in looked_on k (c.give_turn.ensures [] [] (holds_alone c.requires k))

pub returns-clause-same : goal.returns-clause-same
returns-clause-same g c = let k = c.take_turn-stock.ensures.taken in same_look k (c.give_turn.ensures [] [] (holds_alone c.requires k))

pub returns-clause-seen : goal.returns-clause-seen
returns-clause-seen g c =
    IfOk-weaker c.copy_tables-tables.result _ _ (λ tables is. subst (AreSeen c.args.seat.now.knows.participant.seen) (sym (is ∙ ap (λ (x : StockState). (store_state x).tables) c.deref.ensures))
    (are_seen c.take_turn-stock.ensures.taken (in_order_sorted (joined c.take_turn-stock.result.value.parts.tables)))) c.copy_tables-tables.ensures.tables

pub returns-clause-tabled : goal.returns-clause-tabled
returns-clause-tabled g c =
    let k = c.take_turn-stock.ensures.taken in let v = c.give_turn.new.seat in
    IfOk-weaker c.copy_tables-tables.result _ _ (λ tables is. subst (HadVersions c.args.store.now c.args.seat.now v) (sym (is ∙ ap (λ (x : StockState). (store_state x).tables) c.deref.ensures))
    (had_versions k v (same_look k (c.give_turn.ensures [] [] (holds_alone c.requires k))))) c.copy_tables-tables.ensures.tables
