use Rattle.std.proofs.Common.{sym, subst, ap, ◌∙◌}
use Rattle.std.specs.FinSet as set
use Rattle.std.specs.List.Sorted.{IsStrictlyIncreasing}
use Rattle.wp_prepared.proofs.Ascending.{rising-insert, set_of-insert, set_of-present}
use Rattle.wp_prepared.proofs.Commits.{commits-insert, from-insert}
use Rattle.wp_prepared.proofs.Maps.{map_of}
use Rattle.wp_prepared.proofs.Numbered.{numbers-insert, same_place}
use Rattle.wp_prepared.proofs.Sets.{set_of_numbers}
use Rattle.wp_prepared.specs.DelayedSet.{numbers_in, commits_in}
use Rattle.wp_prepared.proofs.delayed.DelayedSet.insert.Goals as goal

pub place_of-requires : goal.place_of-requires
place_of-requires c = rw c.deref.ensures.value c.self.invariant.0

pub invariant_of-self : goal.invariant_of-self
invariant_of-self c =
    let xs = c.self.inside.entries.items in
    let place = same_place xs _ c.args.p _ _ c.deref.ensures.value c.in-Err.is c.place_of.ensures in
    let items = rw c.unwrap.ensures at c.insert.ensures.items in
    rw items (
      subst IsStrictlyIncreasing (sym (numbers-insert xs c.in-Err.place _)) (rising-insert (numbers_in xs) c.args.p c.in-Err.place place c.self.invariant.0),
      from-insert _ xs c.in-Err.place c.args.p c.self.invariant.1,
    )

pub returns-in-Err-clause-numbers : goal.returns-in-Err-clause-numbers
returns-in-Err-clause-numbers c =
    let xs = c.self.inside.entries.items in
    let items = rw c.unwrap.ensures at c.insert.ensures.items in
    ap (λ ys. set_of_numbers (numbers_in ys)) items ∙ ap set_of_numbers (numbers-insert xs c.in-Err.place _) ∙ set_of-insert (numbers_in xs) c.args.p _ ∙ ap (λ s. set.insert s.numbers c.args.p) c.self.view_is

pub returns-in-Err-clause-commits : goal.returns-in-Err-clause-commits
returns-in-Err-clause-commits c =
    let xs = c.self.inside.entries.items in
    let items = rw c.unwrap.ensures at c.insert.ensures.items in
    ap (λ ys. map_of (commits_in ys)) items ∙ ap map_of (commits-insert xs c.in-Err.place c.args.p) ∙ ap (λ s. s.commits) c.self.view_is

pub returns-in_default-clause-numbers : goal.returns-in_default-clause-numbers
returns-in_default-clause-numbers c =
    let xs = c.self.inside.entries.items in
    let place = same_place xs _ c.args.p _ _ c.deref.ensures.value c.in_default.is c.place_of.ensures in
    let numbers = ap (λ s. s.numbers) c.self.view_is in
    sym numbers ∙ set_of-present (numbers_in xs) c.args.p _ place ∙ ap (λ s. set.insert s c.args.p) numbers
