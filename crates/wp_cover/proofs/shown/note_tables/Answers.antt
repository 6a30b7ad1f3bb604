use Rattle.std.proofs.Common.{◌+◌, List, drop, map, sym, ap, subst}
use Rattle.std.specs.Arc.{arc_value}
use Rattle.std.proofs.lemmas.List.{drop_all}
use Rattle.wp_model.specs.declared.version.Version.{Version}
use Rattle.wp_merge.specs.Merge.{joined}
use Rattle.wp_cover.specs.Shown.{Notes}
use Rattle.wp_cover.proofs.Places.{next_item}
use Rattle.wp_cover.proofs.Shows.{none_noted, notes_append}
use Rattle.wp_cover.proofs.shown.note_tables.Goals as goal

pub loop-table-preserved : goal.loop-table-preserved
loop-table-preserved c = λ new after.
    let history = c.args.decisions.now in
    let cut = ap (λ ts. joined (map arc_value ts)) (next_item c.args.tables.now c.loop-table.table-index c.table-item.result c.loop-table-test.true c.table-item.is) in
    let here = subst (λ (vs : List Version). Notes history c.args.n vs c.loop-table.newest c.note_table.new.newest) c.deref.ensures c.in_ok-note_table.ensures in
    c.loop-table.invariant new
    (subst (λ (vs : List Version). Notes history c.args.n vs c.loop-table.newest new) (sym cut)
    (notes_append history c.args.n (arc_value c.table-item.result) (joined (map arc_value (drop (c.loop-table.table-index + 1) c.args.tables.now))) c.loop-table.newest c.note_table.new.newest new here after))

pub returns : goal.returns
returns c =
    c.loop-table.invariant c.loop-table.newest
    (none_noted c.args.decisions.now c.args.n (joined (map arc_value (drop c.loop-table.table-index c.args.tables.now))) c.loop-table.newest (ap (λ ts. joined (map arc_value ts)) (drop_all c.loop-table.table-index c.args.tables.now c.loop-table-test.false)))
