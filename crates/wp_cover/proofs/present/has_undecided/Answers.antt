use Rattle.std.proofs.Common.{refl, sym, ap, ◌∙◌, eqb, get_or, List, subst}
use Rattle.std.specs.List.{list_any}
use Rattle.std.proofs.lemmas.Bool.{eq-eqb}
use Rattle.std.proofs.lemmas.List.Folds.{list_any_at}
use Rattle.wp_model.specs.declared.change.Change.{Change}
use Rattle.wp_history_laws.proofs.Undecided.{is_undecided_by_list}
use Rattle.wp_cover.specs.Present.{HasChanges}
use Rattle.wp_cover.specs.Sources.{all_of}
use Rattle.wp_cover.proofs.Presence.{batches_parts, batches_from}
use Rattle.wp_cover.proofs.present.has_undecided.Goals as goal

pub batch_at-requires : goal.batch_at-requires
batch_at-requires c =
    let items = c.undecided-p-items.result.now in
    let p = get_or items c.loop-p.p-index 0 in
    sym (is_undecided_by_list c.args.sources.now.history.now.entries p) ∙ ap (list_any (λ k. eqb k p)) (sym c.undecided-p-items.ensures) ∙ list_any_at (λ k. eqb k p) items c.loop-p.p-index 0 c.loop-p-test.true (eq-eqb p p refl)

pub returns-then-not-has_changes : goal.returns-then-not-has_changes
returns-then-not-has_changes c = (
  λ no. absurd cc,
  λ has.
      let here = (batches_parts c.args.sources.now.history.now.entries (all_of c.args.sources.now) c.undecided-p-items.result.now c.loop-p.p-index c.loop-p-test.true (c.loop-p.invariant.onward has)).0 in
      sym c.if-not-has_changes.true ∙ c.has_changes.ensures.1 (subst (λ (changes : List Change). HasChanges (all_of c.args.sources.now) (get_or c.undecided-p-items.result.now c.loop-p.p-index 0) changes) (sym c.batch_at.ensures) here),
)

pub loop-p-preserved : goal.loop-p-preserved
loop-p-preserved c =
    let here = subst (λ (changes : List Change). HasChanges (all_of c.args.sources.now) (get_or c.undecided-p-items.result.now c.loop-p.p-index 0) changes) c.batch_at.ensures (c.has_changes.ensures.0 c.if-not-has_changes.false) in
    record {
      onward = λ has. (batches_parts c.args.sources.now.history.now.entries (all_of c.args.sources.now) c.undecided-p-items.result.now c.loop-p.p-index c.loop-p-test.true (c.loop-p.invariant.onward has)).1;
      back = λ rest. c.loop-p.invariant.back (batches_from c.args.sources.now.history.now.entries (all_of c.args.sources.now) c.undecided-p-items.result.now c.loop-p.p-index c.loop-p-test.true here rest);
    }
