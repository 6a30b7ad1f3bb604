use Rattle.std.proofs.Common.{List, [], ◌∷◌, ◌++◌, take, sym, ap, ◌∙◌}
use Rattle.std.specs.List.{flat_map}
use Rattle.std.proofs.lemmas.List.{flat_map_more, take_more}
use Rattle.wp_model.specs.declared.change.Change.{Change}
use Rattle.wp_text.specs.Lines.{change_words}
use Rattle.wp_text.proofs.lines.push_batch.Goals as goal

pub loop-change-preserved : goal.loop-change-preserved
loop-change-preserved c =
    let changes = c.changes-change-items.result.now in
    let i = c.loop-change.change-index in
    let x = c.change-item.result in
    let more = take_more changes i x c.loop-change-test.true ∙ ap (λ (y : Change). take i changes ++ y ∷ []) (sym c.change-item.is) in
    c.in_ok-push_change.ensures
    ∙ (λ j. c.loop-change.invariant j ++ change_words x)
    ∙ flat_map_more change_words c.args.out.now.items (take i changes) x
    ∙ ap (λ (cs : List Change). c.args.out.now.items ++ flat_map change_words cs) (sym more)
