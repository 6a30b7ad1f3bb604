use Rattle.std.proofs.Common.{ℕ, List, Some, ap}
use Rattle.wp_model.specs.History.{value_at}
use Rattle.wp_cover.proofs.Stores.{all_left, none_copied, copied_next, all_copied, leaves_same}
use Rattle.wp_cover.proofs.store.base_store.Goals as goal

pub loop-key-init : goal.loop-key-init
loop-key-init c =
    let values = λ (key : List ℕ). value_at c.args.history.now.entries key c.args.history.now.base in
    let all = c.into_iter-key-iterator.ensures.into_iter_gives.0 in
    record {
      left = all_left values c.store-key-items.result.now _ c.store-key-items.ensures all;
      has = none_copied values c.store-key-items.result.now _ c.new-store.result c.store-key-items.ensures all c.new-store.ensures.empty;
    }

pub loop-key-preserved : goal.loop-key-preserved
loop-key-preserved c =
    let so_far = c.loop-key.invariant in
    let one = leaves_same c.bytes.result.now c.in-Some.key.now _ _ c.loop-key.store c.leave.new.store c.bytes.ensures.value (ap (λ (v : List ℕ). Some v) c.bytes-in-loop-key.ensures.value) c.in_ok-leave.ensures in
    let next = copied_next (λ (key : List ℕ). value_at c.args.history.now.entries key c.args.history.now.base) _ _ c.in-Some.key.now c.in-Some.value.now c.loop-key.store c.leave.new.store c.in-Some.ensures.steps so_far.left so_far.has one in
    record { left = next.left; has = next.has }

pub returns : goal.returns
returns c = all_copied (λ (key : List ℕ). value_at c.args.history.now.entries key c.args.history.now.base) _ c.loop-key.store c.in-None.ensures.steps.0 c.loop-key.invariant.has
