use Rattle.std.proofs.Common.{◌≡◌, ◌<◌, [], ◌∷◌, ◌++◌, get_or, length, sym, ◌∙◌, arith}
use Rattle.std.proofs.lemmas.List.{take_more}
use Rattle.wp_compact.proofs.unchanged.are_equal.Goals as goal

pub loop-i-preserved : goal.loop-i-preserved
loop-i-preserved c =
    let versions = c.args.versions.now in let others = c.args.others.now in let i = c.loop-i.i in let x = c.index-versions-i.result in let y = c.index-others-i.result in
    let lt : i < length versions = omega arith in let lt_other : i < length others = omega arith in
    let same : get_or versions i x ≡ get_or others i y = sym c.index-versions-i.is ∙ c.is_equal.ensures.0 c.if-not-is_equal.false ∙ c.index-others-i.is in
    take_more versions i x lt ∙ (λ j. c.loop-i.invariant j ++ same j ∷ []) ∙ sym (take_more others i y lt_other)
