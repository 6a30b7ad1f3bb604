use Rattle.std.proofs.Common.{sym, map, ◌∙◌}
use Rattle.std.specs.Arc.{arc_value}
use Rattle.std.proofs.lemmas.Result.{IfOk-weaker}
use Rattle.wp_merge.specs.Merge.{joined}
use Rattle.wp_cover.proofs.Presence.{all_part, list_part, stored_part}
use Rattle.wp_cover.proofs.present.are_part.Goals as goal

pub returns-then-not-is_list_part : goal.returns-then-not-is_list_part
returns-then-not-is_list_part c =
    let s = c.args.sources.now in (
      λ no. absurd cc,
      λ every. sym c.if-not-is_list_part.true ∙ c.is_list_part.ensures.part.1 (list_part s.history.now s.list.now (joined (map arc_value s.tables.now)) s.flushed c.is_list_part.ensures.in_order every),
    )

pub returns : goal.returns
returns c =
    let s = c.args.sources.now in
    IfOk-weaker c.are_tables_part.result _ _ (λ yes parts. (
      λ is. all_part s.history.now s.list.now (joined (map arc_value s.tables.now)) s.flushed c.requires.fixed (c.is_list_part.ensures.part.0 c.if-not-is_list_part.false) (parts.0 is),
      λ every. parts.1 (stored_part s.history.now s.list.now (joined (map arc_value s.tables.now)) s.flushed every),
    )) c.are_tables_part.ensures
