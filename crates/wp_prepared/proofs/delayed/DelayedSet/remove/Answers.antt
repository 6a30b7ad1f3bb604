use Rattle.std.proofs.Common.{sym, subst, ap, ◌∙◌, Err}
use Rattle.std.specs.FinSet as set
use Rattle.std.specs.FinMap as finite
use Rattle.wp_prepared.proofs.Ascending.{is_ok-place, set_of-remove, set_of-absent, rising-remove}
use Rattle.wp_prepared.proofs.Commits.{commit-remove, commit-absent, distinct, from-remove}
use Rattle.wp_prepared.proofs.Maps.{map_of, from_entries_removed}
use Rattle.wp_prepared.proofs.Numbered.{numbers-remove, same_place}
use Rattle.wp_prepared.proofs.Sets.{set_of_numbers}
use Rattle.wp_prepared.specs.DelayedSet.{numbers_in, commits_in, AreFrom}
use Rattle.wp_prepared.proofs.delayed.DelayedSet.remove.Goals as goal
use Rattle.std.specs.List.Sorted.{IsStrictlyIncreasing}

pub place_of-requires : goal.place_of-requires
place_of-requires c = rw c.deref.ensures.value c.self.invariant.0

pub invariant_of-self : goal.invariant_of-self
invariant_of-self c =
    let xs = c.self.inside.entries.items in
    let place = same_place xs _ c.args.p _ _ c.deref.ensures.value c.in-Ok.is c.place_of.ensures in
    let least = subst (AreFrom c.least_in-self-inside.result) (c.deref-then-eq.ensures.value ∙ c.remove-gone.ensures.items) c.least_in-self-inside.ensures in
    rw c.remove-gone.ensures.items (subst IsStrictlyIncreasing (sym (numbers-remove xs c.in-Ok.place)) (rising-remove (numbers_in xs) c.in-Ok.place place.0 c.self.invariant.0), least)

pub invariant_of-self-else-eq : goal.invariant_of-self-else-eq
invariant_of-self-else-eq c =
    let xs = c.self.inside.entries.items in
    let place = same_place xs _ c.args.p _ _ c.deref.ensures.value c.in-Ok.is c.place_of.ensures in
    rw c.remove-gone.ensures.items (
      subst IsStrictlyIncreasing (sym (numbers-remove xs c.in-Ok.place)) (rising-remove (numbers_in xs) c.in-Ok.place place.0 c.self.invariant.0),
      from-remove c.self.inside.least xs c.in-Ok.place c.self.invariant.1,
    )

pub returns-then-eq-clause-numbers : goal.returns-then-eq-clause-numbers
returns-then-eq-clause-numbers c =
    let xs = c.self.inside.entries.items in
    let place = same_place xs _ c.args.p _ _ c.deref.ensures.value c.in-Ok.is c.place_of.ensures in
    ap (λ ys. set_of_numbers (numbers_in ys)) c.remove-gone.ensures.items
    ∙ ap set_of_numbers (numbers-remove xs c.in-Ok.place)
    ∙ set_of-remove (numbers_in xs) c.args.p c.in-Ok.place c.self.invariant.0 place
    ∙ ap (λ s. set.remove s.numbers c.args.p) c.self.view_is

pub returns-then-eq-clause-commits : goal.returns-then-eq-clause-commits
returns-then-eq-clause-commits c =
    let xs = c.self.inside.entries.items in
    let place = same_place xs _ c.args.p _ _ c.deref.ensures.value c.in-Ok.is c.place_of.ensures in
    ap (λ ys. map_of (commits_in ys)) c.remove-gone.ensures.items
    ∙ from_entries_removed (commits_in xs) _ c.args.p (λ q. commit-remove xs c.in-Ok.place c.args.p q (distinct xs c.self.invariant.0) place.0 place.1)
    ∙ ap (λ s. finite.remove s.commits c.args.p) c.self.view_is

pub returns-else-eq-clause-numbers : goal.returns-else-eq-clause-numbers
returns-else-eq-clause-numbers c =
    let xs = c.self.inside.entries.items in
    let place = same_place xs _ c.args.p _ _ c.deref.ensures.value c.in-Ok.is c.place_of.ensures in
    ap (λ ys. set_of_numbers (numbers_in ys)) c.remove-gone.ensures.items
    ∙ ap set_of_numbers (numbers-remove xs c.in-Ok.place)
    ∙ set_of-remove (numbers_in xs) c.args.p c.in-Ok.place c.self.invariant.0 place
    ∙ ap (λ s. set.remove s.numbers c.args.p) c.self.view_is

pub returns-else-eq-clause-commits : goal.returns-else-eq-clause-commits
returns-else-eq-clause-commits c =
    let xs = c.self.inside.entries.items in
    let place = same_place xs _ c.args.p _ _ c.deref.ensures.value c.in-Ok.is c.place_of.ensures in
    ap (λ ys. map_of (commits_in ys)) c.remove-gone.ensures.items
    ∙ from_entries_removed (commits_in xs) _ c.args.p (λ q. commit-remove xs c.in-Ok.place c.args.p q (distinct xs c.self.invariant.0) place.0 place.1)
    ∙ ap (λ s. finite.remove s.commits c.args.p) c.self.view_is

pub returns-in_default-clause-numbers : goal.returns-in_default-clause-numbers
returns-in_default-clause-numbers c =
    let xs = c.self.inside.entries.items in
    let place = same_place xs _ c.args.p _ _ c.deref.ensures.value c.in_default.is c.place_of.ensures in
    let numbers = ap (λ s. s.numbers) c.self.view_is in
    sym numbers ∙ set_of-absent (numbers_in xs) c.args.p _ place ∙ ap (λ s. set.remove s c.args.p) numbers

pub returns-in_default-clause-commits : goal.returns-in_default-clause-commits
returns-in_default-clause-commits c =
    let xs = c.self.inside.entries.items in
    let place = same_place xs _ c.args.p _ _ c.deref.ensures.value c.in_default.is c.place_of.ensures in
    let absent = sym (is_ok-place (numbers_in xs) c.args.p (Err c.in_default.field-0) place) in
    let commits = ap (λ s. s.commits) c.self.view_is in
    sym commits ∙ from_entries_removed (commits_in xs) (commits_in xs) c.args.p (λ q. commit-absent xs c.args.p q absent) ∙ ap (λ m. finite.remove m c.args.p) commits
