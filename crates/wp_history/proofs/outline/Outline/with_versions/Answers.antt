use Rattle.wp_history.specs.History.{cut_of}
use Rattle.wp_history.proofs.Kept.{kept_with, with_versions_is, cut_is_orderly}
use Rattle.wp_history.proofs.outline.Outline.with_versions.Goals as goal

pub invariant_of-outline : goal.invariant_of-outline
invariant_of-outline c = (kept_with _ _ c.args.versions.value _ c.outline.invariant.0, c.outline.invariant.1, c.outline.invariant.2)

pub returns-clause-whole : goal.returns-clause-whole
returns-clause-whole c =
    let inside = c.outline.inside in
    with_versions_is (cut_of inside.base inside.carried.items inside.later.items) inside.versions.value c.args.versions.value inside.room c.args.self c.outline.view_is c.outline.invariant.0.cut.numbered

pub returns-clause-cut : goal.returns-clause-cut
returns-clause-cut c =
    let inside = c.outline.inside in
    cut_is_orderly (cut_of inside.base inside.carried.items inside.later.items) inside.versions.value inside.room c.args.self c.outline.view_is c.outline.invariant.0.cut
