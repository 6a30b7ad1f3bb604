use Rattle.std.proofs.Common.{true≢false, sym, subst, ◌∙◌}
use Rattle.wp_keep.specs.declared.pair.Pair.{Pair}
use Rattle.std.specs.Prelude.{◌≡◌, true, List}
use Rattle.wp_keep.specs.Keep.{is_committed}
use Rattle.wp_compact.proofs.Covering.{committed_true, committed_only}
use Rattle.wp_compact.proofs.Decisions.{decided_told, decided_visible, decided_invisible}
use Rattle.wp_compact.proofs.decided.decide_base.Goals as goal

pub returns-then-is_told : goal.returns-then-is_told
returns-then-is_told c =
    decided_told c.args.decisions.now c.args.number c.args.commit c.args.committed.now.items
    (subst (λ (x : List Pair). is_committed x c.args.number c.args.commit ≡ true) c.deref.ensures.value (c.is_told.ensures c.if-is_told.true))

pub returns-then-not-is_committed : goal.returns-then-not-is_committed
returns-then-not-is_committed c =
    let h = c.args.decisions.now in let p = c.args.number in let n = c.args.commit in
    decided_invisible h p n c.args.committed.now.items (λ at. true≢false (sym (committed_true h p n at) ∙ sym c.is_committed.ensures ∙ c.if-not-is_committed.true))

pub returns : goal.returns
returns c =
    let h = c.args.decisions.now in let p = c.args.number in let n = c.args.commit in
    decided_visible h p n c.args.committed.now.items c.push.new.self.items c.in_ok-push.ensures.items (committed_only h p n (sym c.is_committed.ensures ∙ c.if-not-is_committed.false))
