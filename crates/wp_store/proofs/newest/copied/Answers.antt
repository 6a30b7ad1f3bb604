use Rattle.std.proofs.Common.{sym, ap, subst, ◌∷◌, take, ◌∙◌}
use Rattle.std.specs.Iterator.Adapters.{take_source, take_count}
use Rattle.wp_model.specs.declared.version.Version.{Version}
use Rattle.wp_model.specs.Versions.{AreInOrder}
use Rattle.wp_memtable.specs.Memtable.{under}
use Rattle.wp_store.proofs.NewestOfKey.{in_order-take}
use Rattle.wp_store.proofs.Taken.{taken_next, taken_all}
use Rattle.wp_store.proofs.newest.copied.Goals as goal

pub loop-number-init : goal.loop-number-init
loop-number-init c =
    let key = c.args.key.now in
    let begun = c.into_iter-number-iterator.ensures.into_iter_gives in
    let source = ap take_source begun ∙ c.take-number-items.ensures.source in
    let count = ap take_count begun ∙ c.take-number-items.ensures.count in
    rw c.new-list.ensures.items (λ i. take (count i) (under key (source i)))

pub loop-number-preserved : goal.loop-number-preserved
loop-number-preserved c =
    let key = c.args.key.now in
    let step = c.in-Some.ensures.steps in
    let more = ap (under key) step.0 ∙ ap (λ (version : Version). version ∷ under key (take_source c.next.new.self)) (sym c.in_ok-copied_version.ensures) in
    taken_next c.loop-number.list.items _ _ _ _ _ _ _ c.in_ok-push.ensures.items more step.1 c.loop-number.invariant

pub of-requires : goal.of-requires
of-requires c =
    let key = c.args.key.now in
    let all = taken_all c.loop-number.list.items _ _ _ (λ some. ap (under key) (c.in-None.ensures.steps some).0) c.loop-number.invariant in
    subst AreInOrder (sym all) (in_order-take _ c.args.n c.requires)
