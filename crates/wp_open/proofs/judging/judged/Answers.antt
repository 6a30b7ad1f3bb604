use Rattle.std.proofs.Common.{map, refl, sym, ap, subst, arith}
use Rattle.std.specs.Arc.{arc_value}
use Rattle.std.proofs.lemmas.Result.{err_from_is_err_and}
use Rattle.wp_cuts.specs.Cut.{Cut}
use Rattle.wp_cuts.specs.LegalCut.{AreBelow}
use Rattle.wp_history.specs.Outline.{cut_in}
use Rattle.wp_manifest.specs.Edit.{Edit}
use Rattle.wp_contents.specs.Opens.{AreCovering, all_in}
use Rattle.wp_refused.proofs.Stages.{not_covering}
use Rattle.wp_open.proofs.Within.{end_over, full_moved, history_judged, undos_over}
use Rattle.wp_open.proofs.judging.judged.Goals as goal

-- ---- no history stands for what the log tells and the tables

pub returns-in_err-history-clause-cause : goal.returns-in_err-history-clause-cause
returns-in_err-history-clause-cause c =
    let p = err_from_is_err_and c.from_residual.result c.from_residual.ensures.1 in
    rw (p.1, p.2) (history_judged (cut_in c.args.outline) c.args.edit.now (map arc_value c.args.tables.now) c.in_err-history.field-0.0 c.in_err-history.ensures.cause)

pub returns-in_err-are_covering-clause-cause : goal.returns-in_err-are_covering-clause-cause
returns-in_err-are_covering-clause-cause c =
    let p = err_from_is_err_and c.from_residual-in_err-are_covering.result c.from_residual-in_err-are_covering.ensures.1 in rw (p.1, p.2) tt

-- ---- what the covering asks

pub are_covering-requires-clause-base : goal.are_covering-requires-clause-base
are_covering-requires-clause-base c =
    let low = c.requires.within.base in
    omega (arith, low, c.in_ok-history.ensures.base, ap (λ (e : Edit). e.flushed) c.edit.view_is)

pub are_covering-requires-clause-within : goal.are_covering-requires-clause-within
are_covering-requires-clause-within c =
    let high = end_over (cut_in c.args.outline) c.args.edit.now c.in_ok-history.history.entries (map arc_value c.args.tables.now) c.requires.within c.in_ok-history.ensures.full in
    omega (arith, high, ap (λ (e : Edit). e.flushed) c.edit.view_is)

pub are_covering-requires-clause-full : goal.are_covering-requires-clause-full
are_covering-requires-clause-full c =
    full_moved (cut_in c.args.outline) (cut_in c.in_ok-history.history) c.in_ok-history.history.entries (map arc_value c.args.tables.now) (map arc_value c.args.tables.now) c.in_ok-history.ensures.full c.in_ok-history.ensures.cut refl

pub are_covering-requires-clause-below : goal.are_covering-requires-clause-below
are_covering-requires-clause-below c = subst (λ (d : Cut). AreBelow d (all_in (map arc_value c.args.tables.now))) (sym c.in_ok-history.ensures.cut) c.in_ok-history.ensures.below

-- ---- they do not cover it, or do

pub returns-then-not-branch-clause-cause : goal.returns-then-not-branch-clause-cause
returns-then-not-branch-clause-cause c =
    let edit = c.args.edit.now in
    let parts = map arc_value c.args.tables.now in
    let history = c.in_ok-history.history in
    let covering = c.in_ok-are_covering.ensures.covering edit (ap (λ (e : Edit). e.flushed) c.edit.view_is) in (
      undos_over (cut_in c.args.outline) history.entries parts c.in_ok-history.ensures.full c.are_covering.ensures.legal,
      subst (λ (d : Cut). AreCovering d edit parts → ⊥) c.in_ok-history.ensures.cut (not_covering c.in_ok-are_covering.field-0 (AreCovering (cut_in history) edit parts) covering c.if-not-branch.true),
    )

pub returns-clause-covering : goal.returns-clause-covering
returns-clause-covering c =
    let edit = c.args.edit.now in
    let parts = map arc_value c.args.tables.now in
    let covering = c.in_ok-are_covering.ensures.covering edit (ap (λ (e : Edit). e.flushed) c.edit.view_is) in
    subst (λ (d : Cut). AreCovering d edit parts) c.in_ok-history.ensures.cut (covering.0 c.if-not-branch.false)
