use Rattle.wp_parts.proofs.StockLemmas.{in_step}
use Rattle.wp_parts.proofs.stock.Stock.install_flushed.Goals as goal

pub returns-clause-memory : goal.returns-clause-memory
returns-clause-memory c key p =
    let old = c.self.inside.store in
    rw (← c.self.view_is, c.put_tables.ensures, c.remove_flushed.ensures) (in_step c.args.flushed old.memory old.frozen key p)
