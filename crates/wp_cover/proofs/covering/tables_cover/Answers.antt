use Rattle.std.proofs.Common.{◌↔◌, ◌≡◌, ◌++◌, ℕ, true, List, [], map, length, sym, ap, subst, ◌∙◌}
use Rattle.std.specs.Arc.{arc_value}
use Rattle.std.proofs.lemmas.Result.{IfOk-weaker}
use Rattle.wp_model.specs.declared.version.Version.{Version}
use Rattle.wp_model.specs.Covered.{IsCovered}
use Rattle.wp_model.specs.Flushed.{later_versions}
use Rattle.wp_model.specs.Versions.{AreInOrder}
use Rattle.wp_model.proofs.VersionLists.{in_order_nil}
use Rattle.wp_merge.specs.Merge.{joined}
use Rattle.wp_cover.specs.Sources.{AreFixed}
use Rattle.wp_cover.proofs.covering.tables_cover.Goals as goal

pub of-none-requires : goal.of-none-requires
of-none-requires c = subst AreInOrder (sym c.new.ensures.items) in_order_nil

pub are_covering-requires-clause-fixed : goal.are_covering-requires-clause-fixed
are_covering-requires-clause-fixed c =
    let rest = joined (map arc_value c.args.tables.now) ++ later_versions c.args.history.now.entries c.args.flushed in
    subst (λ (vs : List Version). AreFixed c.args.history.now (vs ++ rest)) (sym (c.of-none.ensures ∙ c.new.ensures.items)) c.requires.fixed

pub returns : goal.returns
returns c =
    let history = c.args.history.now.entries in
    let rest = joined (map arc_value c.args.tables.now) ++ later_versions history c.args.flushed in
    let alone = ap (λ (vs : List Version). vs ++ rest) (c.of-none.ensures ∙ c.new.ensures.items) in
    IfOk-weaker c.are_covering.result _ _ (λ yes covers. subst (λ (vs : List Version). (yes ≡ true) ↔ IsCovered vs history [] (length history)) alone (subst (λ (n : ℕ). (yes ≡ true) ↔ IsCovered (c.of-none.result ++ rest) history [] n) c.published.ensures.value covers)) c.are_covering.ensures
