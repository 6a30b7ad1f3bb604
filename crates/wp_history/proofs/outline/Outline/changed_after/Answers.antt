use Rattle.std.proofs.Common.{◌≡◌, ℕ, ◌+◌, ◌-◌, Some, None, sym, ap, ◌∙◌, arith}
use Rattle.wp_model.specs.Batch.{change_to}
use Rattle.wp_model.specs.History.{changes_of}
use Rattle.wp_history_laws.proofs.Unchanged.{unchanged_later}
use Rattle.wp_history.proofs.Conflict.{found_last, still_none}
use Rattle.wp_history.proofs.Full.{later_at}
use Rattle.wp_history.proofs.outline.Outline.changed_after.Goals as goal

pub returns-in-Some : goal.returns-in-Some
returns-in-Some c =
    let h = c.args.self.now in
    let here = later_at h.entries h.base _ _ _ c.later-later.ensures.value c.index-later-i.is in
    let j : ℕ = h.base + c.loop-i.i in
    let same : c.base-in-Some.result + (c.loop-i.i - 1) + 1 ≡ j = omega arith in
    ap (λ (m : ℕ). Some m) same ∙ found_last h.entries c.args.key.now _ c.index-later-i.result (omega arith) here _ c.args.n j (omega arith) (omega arith) c.loop-i.invariant.none c.in-Some.ensures

pub loop-i-preserved : goal.loop-i-preserved
loop-i-preserved c =
    let h = c.args.self.now in
    let here = later_at h.entries h.base _ _ _ c.later-later.ensures.value c.index-later-i.is in
    let unchanged : change_to (changes_of h.entries c.index-later-i.result) c.args.key.now ≡ None = sym c.in_default.ensures in
    record {
      within = omega arith;
      none = still_none h.entries c.args.key.now _ c.index-later-i.result (omega arith) here _ (omega arith) c.loop-i.invariant.none unchanged;
    }

pub returns : goal.returns
returns c =
    let h = c.args.self.now in
    sym (unchanged_later h.entries c.args.key.now (h.base + c.loop-i.i) c.args.n (omega (arith, c.loop-i-test.false)) c.loop-i.invariant.none)
