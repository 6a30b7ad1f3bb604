use Rattle.std.proofs.Common.{◌≡◌, ℕ, ◌+◌, ◌-◌, ◌<◌, length, drop, subst, ◌∙◌, arith}
use Rattle.std.specs.Option.{option_copied}
use Rattle.wp_model.specs.Batch.{key_of, value_of}
use Rattle.wp_cover.specs.Store.{LeavesChanges}
use Rattle.wp_cover.proofs.Stores.{leaves_same, leaves_more}
use Rattle.wp_cover.proofs.store.leave_changes.Goals as goal

pub loop-i-preserved : goal.loop-i-preserved
loop-i-preserved c =
    let change = c.index-changes-i.result in
    let next : c.loop-i.i ≡ c.loop-i.i - 1 + 1 = omega (arith, c.loop-i-test.true) in
    let lt : c.loop-i.i - 1 < length c.args.changes.now = omega (arith, c.loop-i-test.true, c.loop-i.invariant.within) in
    let one = leaves_same c.bytes.result.now (key_of change) (option_copied c.bytes_of.result) (value_of change) c.loop-i.store c.leave.new.store (c.bytes.ensures.value ∙ c.key.ensures) (c.bytes_of.ensures ∙ c.value.ensures) c.in_ok-leave.ensures in
    record {
      within = omega (arith, c.loop-i.invariant.within);
      left = leaves_more c.args.changes.now c.loop-i.i (c.loop-i.i - 1) change c.args.store.now c.loop-i.store c.leave.new.store next lt c.index-changes-i.is c.loop-i.invariant.left one;
    }

pub returns : goal.returns
returns c =
    let start : c.loop-i.i ≡ 0 = omega (arith, c.loop-i-test.false) in
    subst (λ (i : ℕ). LeavesChanges (drop i c.args.changes.now) c.args.store.now c.loop-i.store) start c.loop-i.invariant.left
