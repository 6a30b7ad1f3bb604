use Rattle.std.proofs.Common.{List, [], ◌∷◌, ◌++◌, take, sym, ap, ◌∙◌}
use Rattle.std.specs.List.{flat_map}
use Rattle.std.proofs.lemmas.List.{flat_map_more, take_more}
use Rattle.wp_model.specs.Rows.{Pair}
use Rattle.wp_text.specs.Lines.{row_words}
use Rattle.wp_text.proofs.lines.push_rows.Goals as goal

pub loop-row-preserved : goal.loop-row-preserved
loop-row-preserved c =
    let pairs = c.as_slice-row-items.result.now in
    let i = c.loop-row.row-index in
    let x = c.row-item.result in
    let more = take_more pairs i x c.loop-row-test.true ∙ ap (λ (y : Pair). take i pairs ++ y ∷ []) (sym c.row-item.is) in
    c.in_ok-push_row.ensures
    ∙ (λ j. c.loop-row.invariant j ++ row_words x)
    ∙ flat_map_more row_words c.args.out.now.items (take i pairs) x
    ∙ ap (λ (ps : List Pair). c.args.out.now.items ++ flat_map row_words ps) (sym more)
