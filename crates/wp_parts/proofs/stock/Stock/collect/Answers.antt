use Rattle.std.proofs.Common.{◌≡◌, ◌∷◌, ◌++◌, List}
use Rattle.std.proofs.lemmas.Result.{IfOk-weaker}
use Rattle.wp_model.specs.declared.version.Version.{Version}
use Rattle.wp_merge.specs.Merge.{AreMerged, joined, sorted_of}
use Rattle.wp_store.specs.Store.{newest_of}
use Rattle.wp_parts.proofs.StockLemmas.{both_merged}
use Rattle.wp_parts.proofs.stock.Stock.collect.Goals as goal

pub returns : goal.returns
returns c =
    let s = c.self.inside.store in
    let n = c.args.n in
    let key = c.args.key.now in
    rw (← c.self.view_is) (IfOk-weaker c.collect.result
    (λ (found : List Version). (all : List Version) → AreMerged (s.memory ∷ s.frozen ++ s.tables) all → found ≡ newest_of n key all)
    (λ (found : List Version). found ≡ newest_of n key (sorted_of (sorted_of (joined (s.memory ∷ s.frozen)) ++ sorted_of (joined s.tables))))
    (λ found each. each (sorted_of (sorted_of (joined (s.memory ∷ s.frozen)) ++ sorted_of (joined s.tables))) (both_merged s.memory s.frozen s.tables)) c.collect.ensures)
