use Rattle.std.proofs.Common.{◌≡◌, ℕ, ◌+◌, take, sym, ap, ◌∙◌, None, arith}
use Rattle.wp_model.specs.Batch.{change_to}
use Rattle.wp_model.specs.History.{changes_of, newest}
use Rattle.wp_history_laws.proofs.Newest.{unchanged_at, changed_at}
use Rattle.wp_history.proofs.Full.{later_at, naming_by}
use Rattle.wp_history.proofs.outline.Outline.value_at.Goals as goal

pub returns-in-Some : goal.returns-in-Some
returns-in-Some c =
    let here = later_at c.args.self.now.entries c.args.self.now.base _ _ _ c.later-later.ensures.value c.index-later-i.is in
    sym (c.loop-i.invariant.same ∙ changed_at c.args.self.now.entries c.args.key.now _ _ c.index-later-i.result _ (naming_by c.args.self.now c.later-later.ensures.starts c.later-later.ensures.orderly) (omega arith) (omega arith) here c.in-Some.ensures)

pub loop-i-preserved : goal.loop-i-preserved
loop-i-preserved c =
    let here = later_at c.args.self.now.entries c.args.self.now.base _ _ _ c.later-later.ensures.value c.index-later-i.is in
    let unchanged : change_to (changes_of c.args.self.now.entries c.index-later-i.result) c.args.key.now ≡ None = sym c.in_default.ensures in
    record {
      within = omega arith;
      same = c.loop-i.invariant.same ∙ unchanged_at c.args.self.now.entries c.args.key.now _ _ c.index-later-i.result (naming_by c.args.self.now c.later-later.ensures.starts c.later-later.ensures.orderly) (omega arith) (omega arith) here unchanged;
    }

pub returns : goal.returns
returns c =
    let h = c.args.self.now in
    let first : h.base + c.loop-i.i ≡ h.base = omega (arith, c.loop-i-test.false) in
    c.get.ensures.value ∙ c.requires.store.each c.args.key.now ∙ sym (c.loop-i.invariant.same ∙ ap (λ (m : ℕ). newest (take m h.entries) c.args.key.now) first)
