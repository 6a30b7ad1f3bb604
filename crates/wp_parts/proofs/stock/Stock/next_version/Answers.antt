use Rattle.std.proofs.Common.{◌≡◌, [], ◌∷◌, ◌++◌, ℕ, List, Option}
use Rattle.std.specs.Option.{option_map}
use Rattle.std.proofs.lemmas.Result.{IfOk-weaker}
use Rattle.wp_model.specs.declared.version.Version.{Version}
use Rattle.wp_model.specs.Rows.{next_version}
use Rattle.wp_merge.specs.Merge.{AreMerged, joined, sorted_of}
use Rattle.wp_parts.proofs.StockLemmas.{both_merged}
use Rattle.wp_parts.proofs.stock.Stock.next_version.Goals as goal

pub returns-clause-found : goal.returns-clause-found
returns-clause-found c =
    let s = c.self.inside.store in
    let next = λ (all : List Version). option_map (λ (v : Version). (v.key, v ∷ [])) (next_version c.args.above c.args.key.now all) in
    rw (← c.self.view_is) (IfOk-weaker c.next_version.result
    (λ (found : Option (List ℕ × List Version)). (all : List Version) → AreMerged (s.memory ∷ s.frozen ++ s.tables) all → found ≡ next all)
    (λ (found : Option (List ℕ × List Version)). found ≡ next (sorted_of (sorted_of (joined (s.memory ∷ s.frozen)) ++ sorted_of (joined s.tables))))
    (λ found each. each (sorted_of (sorted_of (joined (s.memory ∷ s.frozen)) ++ sorted_of (joined s.tables))) (both_merged s.memory s.frozen s.tables)) c.next_version.ensures.found)

pub returns-clause-in_range : goal.returns-clause-in_range
returns-clause-in_range c =
    let s = c.self.inside.store in
    rw (← c.self.view_is) (c.next_version.ensures.in_range (sorted_of (sorted_of (joined (s.memory ∷ s.frozen)) ++ sorted_of (joined s.tables))) (both_merged s.memory s.frozen s.tables))
