use Rattle.std.proofs.Common.{◌≡◌, ℕ, List, ◌∷◌, ◌++◌, ap, ◌∙◌, sym, rules}
use Rattle.wp_gatelog.proofs.HeadLemmas.{identity_spelled}
use Rattle.wp_gatelog.proofs.head.stamp_in.Goals as goal

pub returns : goal.returns
returns c =
    let same : c.in_ok-found.found.now ≡ c.args.magic.now = search rules in
    let front : c.args.bytes.now ≡ c.in_ok-found.found.now ++ c.piece.new.self = sym c.of-fields.ensures ∙ c.in_ok-found.ensures.spelling in
    let second : c.piece.new.self ≡ c.in_ok-version.version ∷ c.u8.new.self = c.in_ok-version.ensures.spelling in
    (c.in_ok-format.ensures.found.0, (c.u8-2.new.self, identity_spelled c.args.magic.now c.args.bytes.now c.piece.new.self c.u8.new.self c.u32.new.self c.u8-2.new.self c.in_ok-format.format c.in_ok-id.id c.in_ok-first.first (front ∙ ap (λ (l : List ℕ). l ++ c.piece.new.self) same) (second ∙ ap (λ (v : ℕ). v ∷ c.u8.new.self) c.in_ok-format.ensures.found.1) (c.in_ok-id.ensures.spelling) (c.in_ok-first.ensures.spelling)))
