use Rattle.std.proofs.Common.{Option, sym, subst, arith}
use Rattle.std.specs.Option.{IfSome}
use Rattle.wp_history.specs.declared.last_changes.LastChanges.{LastChanges}
use Rattle.wp_history.specs.LastChanges.{AreLastChanges}
use Rattle.wp_history.proofs.Judged.{kept_pushed}
use Rattle.wp_history.proofs.LastChanges.{changes_pushed}
use Rattle.wp_history.proofs.history.History.push.Goals as goal

pub push-requires-clause-orderly : goal.push-requires-clause-orderly
push-requires-clause-orderly c = (rw (← c.self.view_is) at c.requires.legal).orderly

pub invariant_of-self : goal.invariant_of-self
invariant_of-self c =
    let after = rw (← c.self.view_is) at c.requires.legal in (
      kept_pushed _ _ _ c.push.ensures.base c.self.invariant.0 c.args.entry c.push.ensures.entries after (rw (← c.self.view_is) at c.requires.few),
      changes_pushed _ _ _ _ c.args.entry _ _ c.push.ensures.base c.push.ensures.entries c.self.invariant.0.legal after (subst (λ (o : Option LastChanges). IfSome o (AreLastChanges c.self.inside.outline)) (sym c.take.ensures.value) c.self.invariant.1) c.behind-changes.ensures c.batch_of.ensures (omega (arith, c.published-number.ensures.value)),
    )
