use Rattle.std.proofs.Common.{◌-◌, ◌<◌, ◌≤◌, rules, ◌∙◌, arith}
use Rattle.std.specs.Slice.{IsItemAt}
use Rattle.wp_history.specs.History.{cut_of}
use Rattle.wp_history.proofs.Full.{got, none_before, behind_at, behind_whole}
use Rattle.wp_history.proofs.outline.Outline.entry_at.Goals as goal

pub returns-then-n-self-clause-behind : goal.returns-then-n-self-clause-behind
returns-then-n-self-clause-behind c =
    let inside = c.self.inside in
    let le : c.args.n ≤ inside.base = search rules in
    rw (← c.self.view_is) (none_before (cut_of inside.base inside.carried.items inside.later.items) inside.versions.value c.args.n le)

pub returns-then-n-self-clause-whole : goal.returns-then-n-self-clause-whole
returns-then-n-self-clause-whole c = λ none. returns-then-n-self-clause-behind c ∙ behind_whole c.args.self.now c.args.n none

pub returns-clause-behind : goal.returns-clause-behind
returns-clause-behind c =
    let inside = c.self.inside in
    let above : inside.base < c.args.n = omega (arith, c.if-n-self.false) in
    let is : IsItemAt c.deref.result.now (c.args.n - inside.base - 1) c.get.result = search rules in
    let found = got c.deref.result.now (c.args.n - inside.base - 1) c.get.result is in
    let there = rw c.deref.ensures.value at found in
    rw (← c.self.view_is) (there ∙ behind_at (cut_of inside.base inside.carried.items inside.later.items) inside.versions.value c.args.n above)

pub returns-clause-whole : goal.returns-clause-whole
returns-clause-whole c = λ none. returns-clause-behind c ∙ behind_whole c.args.self.now c.args.n none
