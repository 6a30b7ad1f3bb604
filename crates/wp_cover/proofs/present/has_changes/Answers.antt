use Rattle.std.proofs.Common.{refl, sym, ap, ◌∙◌, Some}
use Rattle.wp_model.specs.Versions.{version_at}
use Rattle.wp_cover.specs.Sources.{all_of}
use Rattle.wp_cover.proofs.Presence.{one_missing, none_missing}
use Rattle.wp_cover.proofs.present.has_changes.Goals as goal

pub returns-then-not-are_same : goal.returns-then-not-are_same
returns-then-not-are_same c = (
  λ no. absurd cc,
  λ has.
      let there = one_missing (all_of c.args.sources.now) c.args.number c.args.batch.now c.changes-change-items.result.now c.loop-change.change-index c.change-item.result c.changes-change-items.ensures.batch c.changes-change-items.ensures.value c.loop-change-test.true c.change-item.is c.loop-change.invariant.onward has in
      sym c.if-not-are_same.true ∙ c.are_same.ensures.1 (c.find.ensures ∙ ap (λ k. version_at (all_of c.args.sources.now) k c.args.number) c.key.ensures ∙ there ∙ ap (λ v. Some v) (sym (c.bytes_of.ensures ∙ c.value.ensures))),
)

pub returns : goal.returns
returns c = (
  λ _. none_missing (all_of c.args.sources.now) c.args.number c.args.batch.now c.changes-change-items.result.now c.loop-change.change-index c.loop-change-test.false c.loop-change.invariant.back,
  λ _. refl,
)
