use Rattle.std.proofs.Common.{◌≡◌, ◌+◌, length, subst, arith}
use Rattle.wp_history.specs.Outline.{RestoreUpTo}
use Rattle.wp_history.proofs.Full.{there_at, behind_all}
use Rattle.wp_history.proofs.Judged.{restore_none, restore_more, restore_to, wrong_at}
use Rattle.wp_history.proofs.outline.Outline.first_wrong.Goals as goal

pub loop-i-init : goal.loop-i-init
loop-i-init c = restore_none c.args.self.now _ (omega arith)

pub restores_prior-requires-clause-orderly : goal.restores_prior-requires-clause-orderly
restores_prior-requires-clause-orderly c =
    let h = c.args.self.now in
    rw c.base-base.ensures.value
    (c.later-later.ensures.orderly (h.base + c.loop-i.i) c.index-later-i.result (omega arith) (there_at h.entries h.base c.loop-i.i c.later-later.result.now c.index-later-i.result c.later-later.ensures.value c.later-later.ensures.within c.loop-i-test.true c.index-later-i.is))

pub returns-then-not-restores_prior-clause-some : goal.returns-then-not-restores_prior-clause-some
returns-then-not-restores_prior-clause-some c =
    let h = c.args.self.now in
    let judged = rw c.base-base.ensures.value at c.restores_prior.ensures in
    wrong_at h (h.base + c.loop-i.i) _ c.index-later-i.result (omega arith) (omega arith)
    (there_at h.entries h.base c.loop-i.i c.later-later.result.now c.index-later-i.result c.later-later.ensures.value c.later-later.ensures.within c.loop-i-test.true c.index-later-i.is) c.loop-i.invariant
    (λ restores. let yes = judged.1 restores in let no = c.if-not-restores_prior.true in absurd cc)

pub loop-i-preserved : goal.loop-i-preserved
loop-i-preserved c =
    let h = c.args.self.now in
    let judged = rw c.base-base.ensures.value at c.restores_prior.ensures in
    let there = there_at h.entries h.base c.loop-i.i c.later-later.result.now c.index-later-i.result c.later-later.ensures.value c.later-later.ensures.within c.loop-i-test.true c.index-later-i.is in
    subst (RestoreUpTo h) (let e : h.base + c.loop-i.i + 1 ≡ h.base + (c.loop-i.i + 1) = omega arith in e)
    (restore_more h (h.base + c.loop-i.i) c.index-later-i.result there (judged.0 c.if-not-restores_prior.false) c.loop-i.invariant)

pub returns-clause-none : goal.returns-clause-none
returns-clause-none c =
    let h = c.args.self.now in
    restore_to h (h.base + c.loop-i.i) (length h.entries) (behind_all h.entries h.base c.later-later.result.now c.loop-i.i c.later-later.ensures.value c.loop-i-test.false) c.loop-i.invariant
