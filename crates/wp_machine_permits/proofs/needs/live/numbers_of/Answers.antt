use Rattle.std.proofs.Common.{ℕ, [], ◌∷◌, ◌++◌, map, sym, ap, ◌∙◌}
use Rattle.std.proofs.lemmas.List.{map_more, take_all}
use Rattle.wp_model.specs.Snapshots.{LiveSnapshot}
use Rattle.wp_machine_permits.proofs.needs.live.numbers_of.Goals as goal

pub loop-pair-preserved : goal.loop-pair-preserved
loop-pair-preserved c =
    c.in_ok-push.ensures.items ∙ (λ j. c.loop-pair.invariant j ++ (c.pair-item.is j).0 ∷ [])
    ∙ sym (map_more (λ (pair : ℕ × LiveSnapshot). pair.0) c.args.pairs.now c.loop-pair.pair-index c.pair-item.result c.loop-pair-test.true)

pub returns : goal.returns
returns c = c.loop-pair.invariant ∙ ap (map (λ (pair : ℕ × LiveSnapshot). pair.0)) (take_all c.loop-pair.pair-index c.args.pairs.now c.loop-pair-test.false)
