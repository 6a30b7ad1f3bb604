use Rattle.std.proofs.Common.{◌≡◌, ◌⊎◌, ap, sym, ◌∙◌, subst, inl, map}
use Rattle.std.specs.Arc.{arc_value}
use Rattle.std.proofs.lemmas.Result.{IfOk-weaker}
use Rattle.wp_model.specs.Versions.{AreInOrder}
use Rattle.wp_model.proofs.VersionLists.{in_order_nil}
use Rattle.wp_cuts.proofs.Standing.{cut_numbered}
use Rattle.wp_history.specs.Outline.{cut_in}
use Rattle.wp_merge.specs.Merge.{AreMerged}
use Rattle.wp_contents.specs.Opens.{all_in}
use Rattle.wp_open.proofs.Base.{has_cut}
use Rattle.wp_open.proofs.standing.versions_below.Goals as goal

pub of-requires : goal.of-requires
of-requires c = subst AreInOrder (sym c.new.ensures.items) in_order_nil

pub returns-then-base-eq0-clause-numbered : goal.returns-then-base-eq0-clause-numbered
returns-then-base-eq0-clause-numbered c = cut_numbered c.args.outline.now.entries (cut_in c.args.outline.now) (has_cut c.args.outline.now c.base.ensures.within c.base.ensures.starts)

pub returns-in_err-shared-clause-numbered : goal.returns-in_err-shared-clause-numbered
returns-in_err-shared-clause-numbered c = cut_numbered c.args.outline.now.entries (cut_in c.args.outline.now) (has_cut c.args.outline.now c.base.ensures.within c.base.ensures.starts)

pub returns-clause-either : goal.returns-clause-either
returns-clause-either c =
    let parts = map arc_value c.args.tables.now in
    let shared = map arc_value c.in_ok-shared.shared.items in
    IfOk-weaker c.merged_tables.result (AreMerged shared) (λ versions. (versions ≡ all_in parts) ⊎ (c.args.outline.now.base ≡ 0))
    (λ versions merged. inl (c.merged_lists_are_sorted.ensures.merged shared versions merged ∙ ap all_in c.in_ok-shared.ensures)) c.merged_tables.ensures

pub returns-clause-numbered : goal.returns-clause-numbered
returns-clause-numbered c = cut_numbered c.args.outline.now.entries (cut_in c.args.outline.now) (has_cut c.args.outline.now c.base.ensures.within c.base.ensures.starts)
