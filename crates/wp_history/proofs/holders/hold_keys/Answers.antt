use Rattle.std.proofs.Common.{List, not, sym, ap, subst, arith, ◌∙◌}
use Rattle.std.proofs.lemmas.List.{take_all}
use Rattle.wp_model.specs.declared.change.Change.{Change}
use Rattle.wp_history.proofs.Taking.{AreHeld, held_more, one_held}
use Rattle.wp_history.proofs.holders.hold_keys.Goals as goal

pub returns-then-is_some : goal.returns-then-is_some
returns-then-is_some c =
    let found = rw (c.in_ok-copy.ensures ∙ c.key.ensures) at c.in_ok-held.ensures.old in
    (one_held c.args.number c.args.changes.now c.loop-change.change-index c.change-item.result c.args.keys.now c.loop-change.keys c.loop-change-test.true c.change-item.is c.requires c.loop-change.invariant c.in_ok-held.held found (sym c.is_some.ensures ∙ c.if-is_some.true), λ e. absurd cc)

pub loop-change-preserved : goal.loop-change-preserved
loop-change-preserved c =
    let updates = rw (c.in_ok-copy.ensures ∙ c.key.ensures) at c.in_ok-held.ensures.updates in
    let found = rw (c.in_ok-copy.ensures ∙ c.key.ensures) at c.in_ok-held.ensures.old in
    held_more c.args.number c.args.changes.now c.loop-change.change-index c.change-item.result c.args.keys.now c.loop-change.keys c.loop-change-test.true c.change-item.is c.requires c.loop-change.invariant c.in_ok-held.held c.insert.new.self found (sym c.is_some.ensures ∙ c.if-is_some.false) updates.0 c.in_ok-held.ensures.ordered

pub returns : goal.returns
returns c =
    let all = subst (λ (cs : List Change). AreHeld c.args.number cs c.args.keys.now c.loop-change.keys) (take_all c.loop-change.change-index c.args.changes.now (omega (arith, c.loop-change-test.false))) c.loop-change.invariant in
    (sym (ap not all.free), λ yes. all.marks)
