use Rattle.std.proofs.Common.{◌↔◌, ◌≡◌, true, List, sym, subst}
use Rattle.std.proofs.lemmas.Result.{IfOk-weaker}
use Rattle.wp_model.specs.declared.version.Version.{Version}
use Rattle.wp_model.specs.Covered.{IsCovered}
use Rattle.wp_cover.specs.Sources.{AreFixed}
use Rattle.wp_cover.proofs.Places.{list_alone}
use Rattle.wp_cover.proofs.covering.covers.Goals as goal

pub are_covering-requires-clause-fixed : goal.are_covering-requires-clause-fixed
are_covering-requires-clause-fixed c =
    let alone = list_alone c.args.history.now.entries c.args.versions.now c.published.result c.published.ensures.value in
    subst (AreFixed c.args.history.now) (sym alone) c.requires.fixed

pub returns : goal.returns
returns c =
    let alone = list_alone c.args.history.now.entries c.args.versions.now c.published.result c.published.ensures.value in
    IfOk-weaker c.are_covering.result _ _ (λ yes covers. subst (λ (vs : List Version). (yes ≡ true) ↔ IsCovered vs c.args.history.now.entries c.args.numbers.now c.args.from) alone covers) c.are_covering.ensures
