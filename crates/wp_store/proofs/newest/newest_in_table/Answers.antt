use Rattle.std.proofs.Common.{sym, ap, subst, ◌∷◌, take, ◌∙◌}
use Rattle.std.specs.Iterator.Adapters.{take_source, take_count}
use Rattle.std.specs.List.{list_all}
use Rattle.std.proofs.lemmas.Bool.{and_parts}
use Rattle.wp_model.specs.Versions.{AreInOrder}
use Rattle.wp_table.specs.Borrowed.{seen}
use Rattle.wp_table.specs.Table.{has_words}
use Rattle.wp_store.proofs.NewestOfKey.{in_order-newest}
use Rattle.wp_store.proofs.Taken.{taken_next, taken_all}
use Rattle.wp_store.proofs.newest.newest_in_table.Goals as goal

pub loop-version-init : goal.loop-version-init
loop-version-init g c =
    let begun = c.into_iter-version-iterator.ensures.into_iter_gives in
    let source = ap take_source begun ∙ c.take-version-items.ensures.source in
    let found = source ∙ c.versions.ensures.found in
    let count = ap take_count begun ∙ c.take-version-items.ensures.count in
    record {
      newest = rw c.new-list.ensures.items (λ i. take (count i) (found i));
      in_range = ap (list_all has_words) source ∙ c.versions.ensures.in_range;
    }

pub copy-requires : goal.copy-requires
copy-requires g c =
    let rest = take_source c.next.new.self in
    (and_parts (has_words (seen c.in-Some.version)) (list_all has_words rest) (sym (ap (list_all has_words) c.in-Some.ensures.steps.0) ∙ c.loop-version.invariant.in_range)).0

pub loop-version-preserved : goal.loop-version-preserved
loop-version-preserved g c =
    let step = c.in-Some.ensures.steps in
    let before = c.loop-version.invariant in
    let rest = take_source c.next.new.self in
    let more = step.0 ∙ (λ i. sym c.in_ok-copy.ensures i ∷ rest) in
    record {
      newest = taken_next c.loop-version.list.items _ _ _ _ _ _ _ c.in_ok-push.ensures.items more step.1 before.newest;
      in_range = (and_parts (has_words (seen c.in-Some.version)) (list_all has_words rest) (sym (ap (list_all has_words) step.0) ∙ before.in_range)).1;
    }

pub of-requires : goal.of-requires
of-requires g c =
    let all = taken_all c.loop-version.list.items _ _ _ (λ some. (c.in-None.ensures.steps some).0) c.loop-version.invariant.newest in
    subst AreInOrder (sym all) (in_order-newest c.args.key.now c.args.n c.args.table.now c.versions.ensures.in_order)
