use Rattle.std.proofs.Common.{◌≡◌, ◌<◌, ◌^◌, ◌-◌, ℕ, List, ◌∷◌, [], ◌++◌, take, length, ap, ◌∙◌, arith, rules}
use Rattle.wp_gatelog.proofs.FramedLemmas.{length-frame_of}
use Rattle.wp_gatelog.proofs.WholeLemmas.{whole_more}
use Rattle.wp_gatelog.proofs.whole.WholeLog.with.Goals as goal

pub returns : goal.returns
returns c = λ magic stamp records whole.
    let frame : List ℕ = c.args.frame.now in
    let old : List ℕ = c.self.inside.bytes.items in
    let small : length c.bytes.result.now < 2 ^ 63 = search rules in
    let size : c.len.result ≡ length old = search rules in
    whole_more magic stamp records old frame c.push_piece.new.out.items (c.len.result - 1) (omega (arith, small, ap length c.bytes.ensures, length-frame_of frame)) (rw (← c.self.view_is) at whole) (omega (arith, size))
    (c.in_ok-push_piece.ensures.pushed ∙ ap (λ (l : List ℕ). l ++ c.bytes.result.now) (c.in_ok-push_u8.ensures.pushed ∙ ap (λ (l : List ℕ). l ++ 1 ∷ []) c.truncate.ensures.items)
    ∙ ap (λ (l : List ℕ). (take (c.len.result - 1) old ++ 1 ∷ []) ++ l) c.bytes.ensures)
