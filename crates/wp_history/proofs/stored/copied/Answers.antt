use Rattle.std.proofs.Common.{List, Some, sym, subst}
use Rattle.wp_model.specs.Rows.{Pair}
use Rattle.wp_history.specs.History.{IsStore}
use Rattle.wp_history.proofs.Holding.{leaves_by, nothing_under}
use Rattle.wp_history.proofs.StoreMaps.{but_left, AreLeft, all_left, none_copied, copied_one}
use Rattle.wp_history.proofs.stored.copied.Goals as goal

pub loop-key-init : goal.loop-key-init
loop-key-init c = λ values had.
    let begun = c.into_iter-key-iterator.ensures.into_iter_gives.0 in
    let none = none_copied values c.args.store.now c.new-copy.result had (nothing_under c.new-copy.result c.new-copy.ensures.empty c.new-copy.ensures.ordered) in
    (subst (λ (es : List Pair). AreLeft es values) (sym begun) (all_left values c.args.store.now had), subst (λ (es : List Pair). IsStore (but_left es values) c.new-copy.result) (sym begun) none)

pub loop-key-preserved-in_ok-insert : goal.loop-key-preserved-in_ok-insert
loop-key-preserved-in_ok-insert c = λ values had.
    let updates = rw (c.in_ok-copy.ensures, c.in_ok-copy-2.ensures) at c.in_ok-insert.ensures.updates in
    copied_one values _ c.in-Some.key.now c.in-Some.value.now _ c.loop-key.copy c.insert.new.self c.in-Some.ensures.steps
    (leaves_by c.in-Some.key.now (Some c.in-Some.value.now) c.loop-key.copy c.insert.new.self updates.0 c.in_ok-insert.ensures.ordered) (c.loop-key.invariant values had)

pub loop-key-preserved : goal.loop-key-preserved
loop-key-preserved c = λ values had.
    let updates = rw (c.in_ok-copy.ensures, c.in_ok-copy-2.ensures) at c.in_ok-insert.ensures.updates in
    copied_one values _ c.in-Some.key.now c.in-Some.value.now _ c.loop-key.copy c.insert.new.self c.in-Some.ensures.steps
    (leaves_by c.in-Some.key.now (Some c.in-Some.value.now) c.loop-key.copy c.insert.new.self updates.0 c.in_ok-insert.ensures.ordered) (c.loop-key.invariant values had)

pub returns : goal.returns
returns c = λ values had. subst (λ (es : List Pair). IsStore (but_left es values) c.loop-key.copy) c.in-None.ensures.steps.0 (c.loop-key.invariant values had).1
