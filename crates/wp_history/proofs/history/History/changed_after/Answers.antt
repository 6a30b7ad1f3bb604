use Rattle.std.proofs.Common.{◌≡◌, Option, sym, subst, ◌∙◌}
use Rattle.std.specs.Option.{IfSome}
use Rattle.wp_model.specs.Changed.{conflict}
use Rattle.wp_history.specs.declared.last_changes.LastChanges.{LastChanges}
use Rattle.wp_history.specs.LastChanges.{AreLastChanges}
use Rattle.wp_history.proofs.LastChanges.{changes_begun, is_last_above, none_above}
use Rattle.wp_history.proofs.history.History.changed_after.Goals as goal
use Rattle.wp_history.proofs.history.History.changed_after.Goals.{in-Some, in-Some-2, in-None}

pub returns-clause-last : goal.returns-clause-last
returns-clause-last c =
    let h = c.self.inside.outline in
    let are : AreLastChanges h c.begun-changes.result = changes_begun h c.take.result c.begun-changes.result c.published.result c.published.ensures.from c.published.ensures.value (subst (λ (o : Option LastChanges). IfSome o (AreLastChanges h)) (sym c.take.ensures.value) c.self.invariant.1) c.begun-changes.ensures in
    let found : c.of.result ≡ conflict h.entries c.args.key.now c.begun-changes.result.from = c.of.ensures ∙ are.each.each c.args.key.now in
    rw (← c.self.view_is)
    (elim c.match-of.branch [
      | in-Some w ↦ w.number-is ∙ sym (is_last_above h.entries c.args.key.now c.begun-changes.result.from w.in-Some.number (sym found ∙ w.in-Some.is) c.args.n w.if-number-n.true)
      | in-Some-2 w ↦ w.number-is ∙ sym (none_above h.entries c.args.key.now c.begun-changes.result.from w.in-Some.number (sym found ∙ w.in-Some.is) c.args.n w.if-number-n.false)
      | in-None w ↦ w.number-is ∙ w.changed_after-number.ensures
    ])
