use Rattle.std.proofs.Common.{◌≡◌, ◌+◌, ◌-◌, ℕ, min, length, take, refl, ap, ◌∙◌, subst, arith}
use Rattle.wp_model.specs.History.{value_at}
use Rattle.wp_cover.specs.Store.{IsStore}
use Rattle.wp_cover.proofs.Stores.{store_behind, store_whole}
use Rattle.wp_cover.proofs.store.store_at.Goals as goal

pub loop-entry-init : goal.loop-entry-init
loop-entry-init c =
    let base = c.args.history.now.base in
    subst (λ (n : ℕ). IsStore (λ key. value_at c.args.history.now.entries key n) c.in_ok-store.store) (let e : base ≡ base + 0 = omega arith in e) c.in_ok-store.ensures

pub loop-entry-preserved : goal.loop-entry-preserved
loop-entry-preserved c =
    store_behind c.args.history.now.entries c.later.result.now _ c.args.history.now.base _ c.loop-entry.entry-index c.entry-item.result c.changes_of.result.now c.loop-entry.store c.leave_changes.new.store
    c.later.ensures.legal c.later.ensures.value c.later.ensures.within refl c.loop-entry-test.true c.entry-item.is c.changes_of.ensures c.loop-entry.invariant c.in_ok-leave_changes.ensures

pub returns : goal.returns
returns c =
    let base = c.args.history.now.base in
    let last = c.min-last.ensures ∙ ap (min c.args.n) c.published.ensures.value in
    let first = take (c.min-last.result - c.base.result) c.later.result.now in
    let front : first ≡ take (c.min-last.result - base) c.later.result.now = ap (λ (b : ℕ). take (c.min-last.result - b) c.later.result.now) c.base.ensures.value in
    let end : c.loop-entry.entry-index ≡ length first = omega (arith, c.loop-entry-test.false, c.loop-entry.auto.entry-index-end) in
    store_whole c.args.history.now.entries first c.later.result.now base c.args.n c.min-last.result c.loop-entry.entry-index c.loop-entry.store c.requires c.later.ensures.within c.later.ensures.value last front end c.loop-entry.invariant
