use Rattle.std.proofs.Common.{ap, arith}
use Rattle.wp_manifest.specs.Edit.{Edit}
use Rattle.wp_open.proofs.Within.{ahead_by, behind_by, within_by}
use Rattle.wp_open.proofs.opening.is_within.Goals as goal

pub returns-then-base-flushed-clause-err : goal.returns-then-base-flushed-clause-err
returns-then-base-flushed-clause-err c = ahead_by c.args.outline.now c.args.edit.now c.base-base.result _ c.base-base.ensures.value (ap (λ (e : Edit). e.flushed) c.edit.view_is) (omega (arith, c.if-base-flushed.true))

pub returns-then-flushed-length-clause-err : goal.returns-then-flushed-length-clause-err
returns-then-flushed-length-clause-err c =
    behind_by c.args.outline.now c.args.edit.now c.base-base.result _ c.base-base.ensures.value (ap (λ (e : Edit). e.flushed) c.edit.view_is) c.published-length.result c.published-length.ensures.value c.published-length.ensures.from (omega (arith, c.if-base-flushed.false)) (omega (arith, c.if-flushed-length.true))

pub returns-clause-ok : goal.returns-clause-ok
returns-clause-ok c =
    within_by c.args.outline.now c.args.edit.now c.base-base.result _ c.base-base.ensures.value (ap (λ (e : Edit). e.flushed) c.edit.view_is) c.published-length.result c.published-length.ensures.value c.published-length.ensures.from (omega (arith, c.if-base-flushed.false)) (omega (arith, c.if-flushed-length.false))
