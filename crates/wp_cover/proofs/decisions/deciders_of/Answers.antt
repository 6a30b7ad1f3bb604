use Rattle.std.proofs.Common.{◌≡◌, ◌+◌, ℕ, List, take, subst, arith}
use Rattle.wp_model.specs.declared.entry.Entry.{Entry}
use Rattle.wp_cover.specs.Decisions.{HasDeciders}
use Rattle.wp_cover.proofs.Based.{none_decided, all_behind}
use Rattle.wp_cover.proofs.Stores.{deciders_behind}
use Rattle.wp_cover.proofs.decisions.deciders_of.Goals as goal

pub loop-i-init : goal.loop-i-init
loop-i-init c =
    let base = c.args.history.now.base in
    subst (λ (n : ℕ). HasDeciders (take n c.args.history.now.entries) c.new-deciders.result) (let e : base ≡ base + 0 = omega arith in e)
    (none_decided (take base c.args.history.now.entries) c.new-deciders.result c.later-entry-items.ensures.starts c.new-deciders.ensures.empty)

pub loop-i-preserved : goal.loop-i-preserved
loop-i-preserved c =
    deciders_behind c.args.history.now.entries c.later-entry-items.result.now c.args.history.now.base c.loop-i.i (c.base.result + c.loop-i.i + 1) c.entry-item.result c.loop-i.deciders c.note.new.deciders c.later-entry-items.ensures.value c.later-entry-items.ensures.within c.loop-i-test.true c.entry-item.is (omega (arith, c.base.ensures.value)) c.loop-i.invariant c.in_ok-note.ensures

pub returns : goal.returns
returns c =
    subst (λ (h : List Entry). HasDeciders h c.loop-i.deciders) (all_behind c.args.history.now.entries c.later-entry-items.result.now c.args.history.now.base c.loop-i.i c.later-entry-items.ensures.value c.loop-i-test.false) c.loop-i.invariant
