use Rattle.std.proofs.Common.{Some, sym, ap, ◌∙◌}
use Rattle.wp_history.specs.declared.last_changes.LastChanges.{LastChanges}
use Rattle.wp_history.specs.Holders.{Marks}
use Rattle.wp_history.proofs.Holding.{marks_none}
use Rattle.wp_history.proofs.LastChanges.{was_put}
use Rattle.wp_history.proofs.last_changes.behind.Goals as goal
use Rattle.wp_history.proofs.last_changes.behind.Goals.{in-Some+else-is_err, in_default}

pub returns : goal.returns
returns c =
    let before = c.in_ok-changes.changes in
    elim c.match-batch.branch [
      | in-Some+else-is_err w ↦
          let marks : Marks (Some c.args.number) w.changes.result.now before.last w.put_under.new.last = was_put w.put_under.result (sym w.is_err.ensures.value ∙ w.if-is_err.false) w.put_under.ensures in
          let its = rw w.changes.ensures.value at marks in
          (before, c.in_ok-changes.was, ap (λ (x : LastChanges). x.from) w.changes-is, rw w.changes-is (rw w.in-Some.is its))
      | in_default w ↦ (before, c.in_ok-changes.was, ap (λ (x : LastChanges). x.from) w.changes-is, rw w.changes-is (rw w.in_default.is (marks_none (Some c.args.number) before.last)))
    ]
