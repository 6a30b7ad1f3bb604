use Rattle.wp_parts.proofs.StockLemmas.{removed}
use Rattle.wp_parts.proofs.stock.Stock.remove_from.Goals as goal

pub returns-clause-memory : goal.returns-clause-memory
returns-clause-memory c key p =
    let old = c.self.inside.store in
    rw (← c.self.view_is, c.remove_from.ensures) (removed c.args.n old.memory old.frozen key p)
