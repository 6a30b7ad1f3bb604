use Rattle.std.proofs.Common.{◌≡◌, ℕ, true, List, [], ◌∷◌, ◌++◌, subst, ap, ◌∙◌}
use Rattle.wp_keep.specs.declared.pair.Pair.{Pair}
use Rattle.wp_keep.specs.Keep.{is_committed}
use Rattle.wp_core.specs.Sound.Reader.{IsRight}
use Rattle.wp_compact.proofs.Decisions.{decided_told, decided_visible, decided_invisible}
use Rattle.wp_compact.proofs.decided.decide_at.Goals as goal

pub returns-then-is_told-clause-decided : goal.returns-then-is_told-clause-decided
returns-then-is_told-clause-decided g c =
    decided_told c.args.seat.now.knows.participant.seen c.args.number c.args.snapshot.now.number c.args.committed.now.items
    (subst (λ (x : List Pair × ℕ). is_committed x.0 c.args.number x.1 ≡ true) (λ i. (c.deref.ensures.value i, c.number-at.ensures i)) (c.is_told.ensures c.if-is_told.true))

pub returns-then-not-visible-clause-decided : goal.returns-then-not-visible-clause-decided
returns-then-not-visible-clause-decided g c =
    let seen = c.args.seat.now.knows.participant.seen in let n = c.args.snapshot.now.number in
    decided_invisible seen c.args.number n c.args.committed.now.items (subst (IsRight seen c.args.number n) c.if-not-visible.true c.visible.ensures.right)

pub returns-clause-decided : goal.returns-clause-decided
returns-clause-decided g c =
    let seen = c.args.seat.now.knows.participant.seen in let n = c.args.snapshot.now.number in let before = c.args.committed.now.items in
    decided_visible seen c.args.number n before c.push.new.self.items (c.in_ok-push.ensures.items ∙ ap (λ (m : ℕ). before ++ (record { number = c.args.number; commit = m }) ∷ []) c.number-at.ensures)
    (subst (IsRight seen c.args.number n) c.if-not-visible.false c.visible.ensures.right)
