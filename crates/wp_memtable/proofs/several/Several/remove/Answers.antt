use Rattle.std.proofs.Common.{◌≡◌, ◌<◌, filter, length, refl, sym, arith}
use Rattle.wp_memtable.proofs.KeyVersions.{other, removed_by, changes_in, found_at, found_nowhere, newest-removed}
use Rattle.wp_memtable.proofs.several.Several.remove.Goals as goal

removed : (c : goal.Joined-remove) → c.remove.new.self.items ≡ filter (other c.args.n) c.self.inside.newest_first.items
removed c =
    let there = c.in-Some.ensures.variant.0 refl in
    let within : c.newer_than-place.result < length c.self.inside.newest_first.items = omega (arith, c.self.inside.newest_first.ok.0) in
    let is = rw (c.remove.ensures.succeeds c.in-Some.field-0.now there) at c.remove.ensures.items in
    removed_by c.args.n _ _ c.newer_than-place.result c.in-Some.field-0.now c.self.invariant c.newer_than-place.ensures within c.in-Some.ensures.lookup c.if-number-n.true is

pub returns-in-Some-clause-versions : goal.returns-in-Some-clause-versions
returns-in-Some-clause-versions c = rw (← c.self.view_is) (removed c)

pub returns-in-Some-clause-had : goal.returns-in-Some-clause-had
returns-in-Some-clause-had c =
    let there = c.in-Some.ensures.variant.0 refl in
    let within : c.newer_than-place.result < length c.self.inside.newest_first.items = omega (arith, c.self.inside.newest_first.ok.0) in
    rw (← c.self.view_is) (sym (found_at c.args.n _ c.newer_than-place.result c.in-Some.field-0.now within c.in-Some.ensures.lookup c.if-number-n.true))

pub invariant_of-self : goal.invariant_of-self
invariant_of-self c = newest-removed c.args.n _ _ c.self.invariant (removed c)

pub returns-in-Some-clause-newest_first : goal.returns-in-Some-clause-newest_first
returns-in-Some-clause-newest_first c = invariant_of-self c

pub returns-in_default-clause-versions : goal.returns-in_default-clause-versions
returns-in_default-clause-versions c =
    rw (← c.self.view_is) (changes_in c.args.n _ c.newer_than-place.result c.get.result c.self.invariant c.newer_than-place.ensures (λ h. c.get.ensures.variant.1 (omega (arith, h, c.self.inside.newest_first.ok.0))) c.get.ensures.lookup (rw c.in-Some.is c.if-number-n.false))

pub returns-in_default-2-clause-versions : goal.returns-in_default-2-clause-versions
returns-in_default-2-clause-versions c =
    rw (← c.self.view_is) (changes_in c.args.n _ c.newer_than-place.result c.get.result c.self.invariant c.newer_than-place.ensures (λ h. c.get.ensures.variant.1 (omega (arith, h, c.self.inside.newest_first.ok.0))) c.get.ensures.lookup (rw c.in_default.is tt))

pub returns-in_default-clause-had : goal.returns-in_default-clause-had
returns-in_default-clause-had c = sym (found_nowhere c.args.n _ (returns-in_default-clause-versions c))

pub returns-in_default-2-clause-had : goal.returns-in_default-2-clause-had
returns-in_default-2-clause-had c = sym (found_nowhere c.args.n _ (returns-in_default-2-clause-versions c))
