use Rattle.std.proofs.Common.{◌≡◌, ◌∷◌, List, ap, ◌∙◌, rules}
use Rattle.std.proofs.lemmas.Result.{IfOk-weaker}
use Rattle.wp_model.specs.declared.version.Version.{Version}
use Rattle.wp_merge.specs.Merge.{joined, sorted_of}
use Rattle.wp_parts.proofs.stock.Stock.freeze.Goals as goal

pub returns-clause-versions : goal.returns-clause-versions
returns-clause-versions c =
    let s = c.self.inside.store in
    let all_frozen : c.freeze.new.self.frozen ≡ s.memory ∷ s.frozen = search rules in
    rw (← c.self.view_is) (IfOk-weaker c.share_frozen.result (λ (parts : List (List Version)). parts ≡ c.freeze.new.self.frozen) (λ (parts : List (List Version)). sorted_of (joined parts) ≡ sorted_of (joined (s.memory ∷ s.frozen)))
    (λ parts is. ap (λ (ps : List (List Version)). sorted_of (joined ps)) (is ∙ all_frozen)) c.share_frozen.ensures)
