use Rattle.std.proofs.Common.{◌≡◌, sym, ap, ◌∙◌, arith}
use Rattle.wp_judge.specs.Words.{delta_bound}
use Rattle.wp_judge.proofs.Packing.{word_small}
use Rattle.wp_judge.proofs.words.pack.Goals as goal

pub overflow_mul-result : goal.overflow_mul-result
overflow_mul-result c =
    let pair = c.requires.pair in let ordered = pair.ordered in let few = pair.few in
    let same : c.delta_bound.result ≡ delta_bound c.count_words.result = c.delta_bound.ensures.bound ∙ ap delta_bound (sym c.count_words.ensures.count) in
    let small = word_small c.count_words.result c.args.p 1 (omega (arith, ordered, few)) (omega arith) in
    rw same (omega (arith, small))

pub overflow_add-result : goal.overflow_add-result
overflow_add-result c =
    let delta = c.delta_of.ensures.range in
    let same : c.delta_bound.result ≡ delta_bound c.count_words.result = c.delta_bound.ensures.bound ∙ ap delta_bound (sym c.count_words.ensures.count) in
    let small = word_small c.count_words.result c.args.p c.delta_of.result delta.1 delta.0 in
    rw same (omega (arith, small))
