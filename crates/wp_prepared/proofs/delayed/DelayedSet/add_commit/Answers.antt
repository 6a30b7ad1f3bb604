use Rattle.std.proofs.Common.{sym, subst, ap, ◌∙◌, arith, Err}
use Rattle.std.specs.Cmp.{nat_cmp_total}
use Rattle.std.specs.FinSet.{contains, contains-from_list}
use Rattle.std.specs.FinMap as finite
use Rattle.std.specs.List.Sorted.{IsStrictlyIncreasing}
use Rattle.std.proofs.lemmas.Bool.{both_ways}
use Rattle.wp_prepared.proofs.Ascending.{is_ok-place}
use Rattle.wp_prepared.proofs.Commits.{commit-set, distinct, from-set, lower}
use Rattle.wp_prepared.proofs.Maps.{from_entries_inserted}
use Rattle.wp_prepared.proofs.Numbered.{numbers-set, same_place}
use Rattle.wp_prepared.proofs.Sets.{set_of_numbers}
use Rattle.wp_prepared.specs.DelayedSet.{numbers_in, commits_in}
use Rattle.wp_prepared.proofs.delayed.DelayedSet.add_commit.Goals as goal

pub place_of-requires : goal.place_of-requires
place_of-requires c = rw c.deref.ensures.value c.self.invariant.0

pub invariant_of-self : goal.invariant_of-self
invariant_of-self c =
    let xs = c.self.inside.entries.items in
    let place = same_place xs _ c.args.p _ _ c.deref.ensures.value c.in-Ok.is c.place_of.ensures in
    let lower_is = c.min-self-inside.ensures in (
      subst IsStrictlyIncreasing (sym (numbers-set xs c.in-Ok.place _ place.1)) c.self.invariant.0,
      from-set c.min-self-inside.result xs c.in-Ok.place c.args.p c.args.c (omega arith) (lower c.min-self-inside.result c.self.inside.least xs (omega arith) c.self.invariant.1),
    )

pub returns-in-Ok-clause-numbers : goal.returns-in-Ok-clause-numbers
returns-in-Ok-clause-numbers c =
    let xs = c.self.inside.entries.items in
    let place = same_place xs _ c.args.p _ _ c.deref.ensures.value c.in-Ok.is c.place_of.ensures in
    ap set_of_numbers (numbers-set xs c.in-Ok.place _ place.1) ∙ ap (λ s. s.numbers) c.self.view_is

pub returns-in-Ok-clause-commits : goal.returns-in-Ok-clause-commits
returns-in-Ok-clause-commits c =
    let xs = c.self.inside.entries.items in
    let place = same_place xs _ c.args.p _ _ c.deref.ensures.value c.in-Ok.is c.place_of.ensures in
    from_entries_inserted (commits_in xs) _ c.args.p c.args.c (λ q. commit-set xs c.in-Ok.place c.args.p c.args.c q (distinct xs c.self.invariant.0) place.0 place.1)
    ∙ ap (λ s. finite.insert s.commits c.args.p c.args.c) c.self.view_is

pub returns-in_default-clause-commits : goal.returns-in_default-clause-commits
returns-in_default-clause-commits c =
    let xs = c.self.inside.entries.items in
    let place = same_place xs _ c.args.p _ _ c.deref.ensures.value c.in_default.is c.place_of.ensures in
    let none = is_ok-place (numbers_in xs) c.args.p (Err c.in_default.field-0) place in
    absurd (both_ways (contains c.args.self.now.numbers c.args.p) (sym (ap (λ s. contains s.numbers c.args.p) c.self.view_is) ∙ contains-from_list nat_cmp_total (numbers_in xs) c.args.p ∙ sym none) c.requires)
