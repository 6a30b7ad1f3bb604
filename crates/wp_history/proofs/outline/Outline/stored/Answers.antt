use Rattle.std.proofs.Common.{◌≡◌, ℕ, ◌+◌, ◌<◌, List, length, take, ap, subst, arith}
use Rattle.std.proofs.lemmas.List.{length-drop, take_all}
use Rattle.wp_model.specs.declared.entry.Entry.{Entry}
use Rattle.wp_model.specs.History.{newest}
use Rattle.wp_history.specs.History.{IsStore}
use Rattle.wp_history.proofs.Full.{later_at, behind_all, naming_by}
use Rattle.wp_history.proofs.StoreMaps.{entry_made}
use Rattle.wp_history.proofs.outline.Outline.stored.Goals as goal

pub loop-entry-init : goal.loop-entry-init
loop-entry-init c =
    let h = c.args.self.now in
    let first : h.base ≡ h.base + 0 = omega arith in
    subst (λ (n : ℕ). IsStore (newest (take n h.entries)) c.in_ok-store.store) first (c.in_ok-store.ensures _ c.requires)

pub loop-entry-preserved : goal.loop-entry-preserved
loop-entry-preserved c =
    let h = c.args.self.now in
    let here = later_at h.entries h.base _ _ _ c.later-later.ensures.value c.entry-item.is in
    let within : h.base + c.loop-entry.entry-index < length h.entries = omega (arith, c.loop-entry-test.true, ap length c.later-later.ensures.value, length-drop h.base h.entries, c.later-later.ensures.within) in
    entry_made h.entries _ _ c.entry-item.result (naming_by h c.later-later.ensures.starts c.later-later.ensures.orderly) (omega arith) within here _ c.loop-entry.store c.leave_batch.new.store
    c.batch_of.ensures c.in_ok-leave_batch.ensures c.loop-entry.invariant

pub returns : goal.returns
returns c =
    let h = c.args.self.now in
    subst (λ (es : List Entry). IsStore (newest es) c.loop-entry.store) (take_all _ h.entries (behind_all h.entries h.base c.later-later.result.now c.loop-entry.entry-index c.later-later.ensures.value (omega (arith, c.loop-entry-test.false)))) c.loop-entry.invariant
