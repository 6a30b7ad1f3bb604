use Rattle.std.proofs.Common.{List, Some, subst, arith}
use Rattle.std.proofs.lemmas.List.{take_all}
use Rattle.wp_model.specs.declared.change.Change.{Change}
use Rattle.wp_history.specs.Holders.{Marks}
use Rattle.wp_history.proofs.Holding.{marks_more}
use Rattle.wp_history.proofs.last_changes.put_under.Goals as goal

pub loop-change-preserved : goal.loop-change-preserved
loop-change-preserved c =
    marks_more (Some c.args.number) c.args.changes.now c.loop-change.change-index c.change-item.result c.args.last.now c.loop-change.last c.put_one.new.last c.loop-change-test.true c.change-item.is c.loop-change.invariant
    (rw c.key.ensures at c.in_ok-put_one.ensures)

pub returns : goal.returns
returns c = subst (λ (cs : List Change). Marks (Some c.args.number) cs c.args.last.now c.loop-change.last) (take_all c.loop-change.change-index c.args.changes.now (omega (arith, c.loop-change-test.false))) c.loop-change.invariant
