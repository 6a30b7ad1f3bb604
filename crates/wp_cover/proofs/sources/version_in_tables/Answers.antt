use Rattle.std.proofs.Common.{◌+◌, List, drop, map, sym, ap, ◌∙◌}
use Rattle.std.specs.Arc.{arc_value}
use Rattle.wp_model.specs.declared.version.Version.{Version}
use Rattle.wp_model.specs.Versions.{version_at}
use Rattle.wp_merge.specs.Merge.{joined}
use Rattle.wp_merge.proofs.Sorted.{at_append}
use Rattle.wp_cover.proofs.Places.{first_found, none_found, next_item}
use Rattle.wp_cover.proofs.sources.version_in_tables.Goals as goal

pub returns-then-is_some : goal.returns-then-is_some
returns-then-is_some c =
    let key = c.args.key.now in
    let p = c.args.number in
    let here = arc_value c.table-item.result in
    let rest = joined (map arc_value (drop (c.loop-table.table-index + 1) c.args.tables.now)) in
    let cut = ap (λ ts. version_at (joined (map arc_value ts)) key p) (next_item c.args.tables.now c.loop-table.table-index c.table-item.result c.loop-table-test.true c.table-item.is) in
    first_found c.version_in_table-found.result (version_at here key p) (version_at rest key p) (sym c.is_some.ensures ∙ c.if-is_some.true) (c.version_in_table-found.ensures ∙ ap (λ (vs : List Version). version_at vs key p) c.deref.ensures)
    ∙ sym (at_append here rest key p) ∙ sym cut ∙ c.loop-table.invariant

pub loop-table-preserved : goal.loop-table-preserved
loop-table-preserved c =
    let key = c.args.key.now in
    let p = c.args.number in
    let here = arc_value c.table-item.result in
    let rest = joined (map arc_value (drop (c.loop-table.table-index + 1) c.args.tables.now)) in
    let cut = ap (λ ts. version_at (joined (map arc_value ts)) key p) (next_item c.args.tables.now c.loop-table.table-index c.table-item.result c.loop-table-test.true c.table-item.is) in
    none_found c.version_in_table-found.result (version_at here key p) (version_at rest key p) (sym c.is_some.ensures ∙ c.if-is_some.false) (c.version_in_table-found.ensures ∙ ap (λ (vs : List Version). version_at vs key p) c.deref.ensures)
    ∙ sym (at_append here rest key p) ∙ sym cut ∙ c.loop-table.invariant
