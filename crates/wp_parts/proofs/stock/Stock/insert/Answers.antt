use Rattle.std.proofs.Common.{◌≡◌, ap}
use Rattle.std.proofs.lemmas.Result.{on_ok_weaker}
use Rattle.wp_store.specs.Store.{StoreParts}
use Rattle.wp_parts.proofs.StockLemmas.{inserted}
use Rattle.wp_parts.proofs.stock.Stock.insert.Goals as goal

pub returns-clause-entry : goal.returns-clause-entry
returns-clause-entry c =
    let old = c.self.inside.store in
    let frozen : c.insert.new.self.frozen ≡ old.frozen = ap (λ (s : StoreParts). s.frozen) c.insert.ensures.others in
    rw (← c.self.view_is, frozen) (on_ok_weaker c.insert.result (λ has entry is none. inserted c.args.n c.args.batch.now old.memory c.insert.new.self.memory old.frozen entry has is none) c.insert.ensures.ok)
