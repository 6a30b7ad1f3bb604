use Rattle.std.proofs.Common.{◌+◌, drop, map, sym, ap, subst, ◌∙◌}
use Rattle.std.specs.Arc.{arc_value}
use Rattle.wp_merge.specs.Merge.{joined}
use Rattle.wp_cover.specs.Present.{AreParts}
use Rattle.wp_cover.specs.Sources.{all_of}
use Rattle.wp_cover.proofs.Presence.{parts_both, parts_split}
use Rattle.wp_cover.proofs.Places.{next_item}
use Rattle.wp_cover.proofs.present.are_tables_part.Goals as goal

pub returns-then-not-branch : goal.returns-then-not-branch
returns-then-not-branch c =
    let history = c.args.sources.now.history.now in
    let all = all_of c.args.sources.now in
    let here_is = arc_value c.table-item.result in
    let rest_is = joined (map arc_value (drop (c.loop-table.table-index + 1) c.args.sources.now.tables.now)) in
    let cut = ap (λ ts. joined (map arc_value ts)) (next_item c.args.sources.now.tables.now c.loop-table.table-index c.table-item.result c.loop-table-test.true c.table-item.is) in (
      λ no. absurd cc,
      λ parts. sym c.if-not-branch.true ∙ c.in_ok-is_table_part.ensures.1 (subst (AreParts history all) (sym c.deref.ensures) (parts_split history all here_is rest_is (subst (AreParts history all) cut (c.loop-table.invariant.onward parts))).0),
    )

pub loop-table-preserved : goal.loop-table-preserved
loop-table-preserved c =
    let history = c.args.sources.now.history.now in
    let all = all_of c.args.sources.now in
    let here_is = arc_value c.table-item.result in
    let rest_is = joined (map arc_value (drop (c.loop-table.table-index + 1) c.args.sources.now.tables.now)) in
    let cut = ap (λ ts. joined (map arc_value ts)) (next_item c.args.sources.now.tables.now c.loop-table.table-index c.table-item.result c.loop-table-test.true c.table-item.is) in
    let here = subst (AreParts history all) c.deref.ensures (c.in_ok-is_table_part.ensures.0 c.if-not-branch.false) in
    record {
      onward = λ parts. (parts_split history all here_is rest_is (subst (AreParts history all) cut (c.loop-table.invariant.onward parts))).1;
      back = λ rest. c.loop-table.invariant.back (subst (AreParts history all) (sym cut) (parts_both history all here_is rest_is here rest));
    }
