use Rattle.std.proofs.Common.{MatchOption, sym, subst, ap, ◌∙◌, arith}
use Rattle.wp_prepared.specs.DelayedSet.{first_passed}
use Rattle.wp_prepared.specs.Passed.{NonePassed, IsFirstPassed}
use Rattle.wp_prepared.proofs.Commits.{none_by_least, passed_by_search}
use Rattle.wp_prepared.proofs.delayed.DelayedSet.passed.Goals as goal

pub returns-then-m-self : goal.returns-then-m-self
returns-then-m-self c =
    subst (λ s. NonePassed s.commits c.args.m) c.self.view_is (none_by_least c.self.inside.least c.args.m c.self.inside.entries.items (omega (arith, c.if-m-self.true)) c.self.invariant.1)

pub returns : goal.returns
returns c =
    let found = ap (first_passed c.args.m) (sym c.deref.ensures.value) ∙ sym c.first_passed.ensures in
    subst (λ s. MatchOption c.first_passed.result (NonePassed s.commits c.args.m) (IsFirstPassed s.commits c.args.m)) c.self.view_is (passed_by_search c.args.m c.self.inside.entries.items c.first_passed.result c.self.invariant.0 found)
