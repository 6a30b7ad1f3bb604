use Rattle.std.proofs.Common.{List, None, subst, arith}
use Rattle.std.proofs.lemmas.List.{take_all}
use Rattle.wp_model.specs.declared.change.Change.{Change}
use Rattle.wp_history.specs.Holders.{Marks}
use Rattle.wp_history.proofs.Holding.{leaves_by, marks_more}
use Rattle.wp_history.proofs.holders.free_keys.Goals as goal

pub loop-change-preserved : goal.loop-change-preserved
loop-change-preserved c =
    let updates = rw c.key.ensures at c.remove.ensures.updates in
    marks_more None c.args.changes.now c.loop-change.change-index c.change-item.result c.args.keys.now c.loop-change.keys c.remove.new.self c.loop-change-test.true c.change-item.is c.loop-change.invariant
    (leaves_by _ None c.loop-change.keys c.remove.new.self updates.0 c.remove.ensures.ordered)

pub returns : goal.returns
returns c = subst (λ (cs : List Change). Marks None cs c.args.keys.now c.loop-change.keys) (take_all c.loop-change.change-index c.args.changes.now (omega (arith, c.loop-change-test.false))) c.loop-change.invariant
