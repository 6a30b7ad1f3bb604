use Rattle.std.proofs.Common.{◌∙◌}
use Rattle.std.proofs.lemmas.Result.{IfOk-weaker}
use Rattle.wp_copy.proofs.Made.{cut_of, made_of, may_of}
use Rattle.wp_copy.proofs.copying.copy_at.Goals as goal

pub checkpoint-outcome-requires-clause-cut : goal.checkpoint-outcome-requires-clause-cut
checkpoint-outcome-requires-clause-cut g c =
    let source = c.source_at.ensures in
    cut_of c.args.store.now c.args.seat c.source_at.new.seat c.args.snapshot source.continues source.legal source.within c.requires.whole c.number-at.result c.number-at.ensures c.deref.result.now (c.deref.ensures.value ∙ c.in-Ok.ensures.prepares)

pub checkpoint-outcome-requires-clause-rows : goal.checkpoint-outcome-requires-clause-rows
checkpoint-outcome-requires-clause-rows g c =
    let source = c.source_at.ensures in
    may_of c.args.store.now c.args.seat c.source_at.new.seat c.args.snapshot source.continues source.legal source.within c.requires.whole c.number-at.result c.number-at.ensures c.deref.result.now (c.deref.ensures.value ∙ c.in-Ok.ensures.prepares)
    c.in-Ok.scan c.of-rows.result c.of-rows.ensures c.in-Ok.ensures.rows

pub returns-clause-made : goal.returns-clause-made
returns-clause-made g c =
    let source = c.source_at.ensures in
    IfOk-weaker c.checkpoint-outcome.result _ _
    (λ made is. made_of c.args.store.now c.args.seat c.source_at.new.seat c.args.snapshot source.continues source.legal source.within c.requires.whole c.number-at.result c.number-at.ensures c.deref.result.now (c.deref.ensures.value ∙ c.in-Ok.ensures.prepares)
    c.in-Ok.scan c.of-rows.result c.of-rows.ensures c.in-Ok.ensures.rows c.args.id _ made.0 _ is) c.checkpoint-outcome.ensures.made
