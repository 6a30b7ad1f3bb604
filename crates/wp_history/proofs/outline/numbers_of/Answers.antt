use Rattle.std.proofs.Common.{ℕ, [], ◌∷◌, ◌++◌, map, take, sym, ap, ◌∙◌}
use Rattle.std.proofs.lemmas.List.{map_more}
use Rattle.wp_model.specs.declared.carried.Carried.{Carried}
use Rattle.wp_history.proofs.outline.numbers_of.Goals as goal

abbrev number : Carried → ℕ
number x = x.number

pub loop-x-preserved : goal.loop-x-preserved
loop-x-preserved c =
    let before = map number (take c.loop-x.x-index c.args.carried.now) in
    c.in_ok-push.ensures.items
    ∙ (λ j. c.loop-x.invariant j ++ number c.x-item.result ∷ [])
    ∙ sym (map_more number c.args.carried.now c.loop-x.x-index c.x-item.result c.loop-x-test.true ∙ ap (λ (x : Carried). before ++ number x ∷ []) (sym c.x-item.is))
