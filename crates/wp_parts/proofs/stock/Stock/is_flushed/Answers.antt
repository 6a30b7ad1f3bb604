use Rattle.std.proofs.Common.{sym, ◌∙◌}
use Rattle.wp_parts.proofs.StockLemmas.{nothing_in_memory, something_in_memory}
use Rattle.wp_parts.proofs.stock.Stock.is_flushed.Goals as goal

pub returns-clause-none : goal.returns-clause-none
returns-clause-none c is =
    let s = c.self.inside.store in
    rw (← c.self.view_is) (nothing_in_memory s.memory s.frozen (sym c.is_flushed.ensures ∙ is))

pub returns-clause-some : goal.returns-clause-some
returns-clause-some c is =
    let s = c.self.inside.store in
    rw (← c.self.view_is) (something_in_memory s.memory s.frozen (sym c.is_flushed.ensures ∙ is))
