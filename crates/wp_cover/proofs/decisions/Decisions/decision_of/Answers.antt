use Rattle.std.proofs.Common.{Some, sym, ap, ◌∙◌, inl, inr}
use Rattle.wp_model.specs.Decision.{decision_in}
use Rattle.wp_cover.proofs.Based.{no_prepared, other_at, prepared_decides}
use Rattle.wp_cover.proofs.decisions.Decisions.decision_of.Goals as goal

pub returns-then-is_fixed : goal.returns-then-is_fixed
returns-then-is_fixed c = rw (← c.self.view_is) (sym (c.is_fixed.ensures.decided (sym c.is_fixed.ensures.value ∙ c.if-is_fixed.true)))

pub returns-then-is_some : goal.returns-then-is_some
returns-then-is_some c = rw (← c.self.view_is) (c.copied.ensures ∙ c.get.ensures.value ∙ prepared_decides c.self.inside.history.now.entries c.self.inside.deciders c.args.p _ c.prepare_at.result c.self.invariant c.prepare_at.ensures (sym c.is_some.ensures ∙ c.if-is_some.true))

pub returns-in-Write : goal.returns-in-Write
returns-in-Write c =
    let h = c.self.inside.history.now in
    let there = other_at h c.args.p _ _ _ _ _ c.is_fixed.ensures.value c.if-is_fixed.false c.prepare_at.ensures c.is_some.ensures c.if-is_some.false c.in_ok-entry_at.ensures.behind in
    rw (← c.self.view_is) (elim c.in-Write.is [
      | inl w ↦ sym (ap (decision_in h.entries c.args.p) (there ∙ (λ i. Some (w.1 i))))
      | inr w ↦ sym (ap (decision_in h.entries c.args.p) (there ∙ (λ i. Some (w.2 i))))
    ])

pub returns-in-Prepare : goal.returns-in-Prepare
returns-in-Prepare c =
    let h = c.self.inside.history.now in
    let there = other_at h c.args.p _ _ _ _ _ c.is_fixed.ensures.value c.if-is_fixed.false c.prepare_at.ensures c.is_some.ensures c.if-is_some.false c.in_ok-entry_at.ensures.behind in
    rw (← c.self.view_is) (elim c.in-Prepare.is [
      | inl w ↦ absurd (no_prepared _ c.prepare_at.result _ w.0 w.1 c.prepare_at.ensures (sym c.is_some.ensures ∙ c.if-is_some.false) (there ∙ (λ i. Some (w.2 i))))
      | inr (inl w) ↦ sym (ap (decision_in h.entries c.args.p) (there ∙ (λ i. Some (w.1 i))))
      | inr (inr w) ↦ sym (ap (decision_in h.entries c.args.p) (there ∙ (λ i. Some (w.1 i))))
    ])
