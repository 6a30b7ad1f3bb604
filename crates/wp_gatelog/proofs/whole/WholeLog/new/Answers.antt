use Rattle.std.proofs.Common.{List, ℕ, ◌∷◌, [], ◌++◌, ap, ◌∙◌, ◌≡◌, rules}
use Rattle.wp_gatelog.specs.Spelling.{stamped}
use Rattle.wp_gatelog.proofs.WholeLemmas.{whole_none}
use Rattle.wp_gatelog.proofs.whole.WholeLog.new.Goals as goal

pub returns : goal.returns
returns c =
    let gate : c.in_ok-bytes.bytes.items ≡ 1 ∷ [] = search rules in
    whole_none c.args.magic (stamped c.args.format c.args.id) c.push_piece.new.out.items
    (c.in_ok-push_piece.ensures.pushed ∙ ap (λ (l : List ℕ). l ++ c.head_bytes.result) gate ∙ ap (λ (l : List ℕ). 1 ∷ l) c.head_bytes.ensures)
