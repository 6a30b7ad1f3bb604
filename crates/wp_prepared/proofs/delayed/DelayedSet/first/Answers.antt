use Rattle.std.proofs.Common.{subst, sym, ap, ◌∙◌, option_map}
use Rattle.std.specs.List.{slice_get}
use Rattle.wp_prepared.specs.DelayedSet.{number_of, numbers_in}
use Rattle.wp_prepared.specs.Least.{IsLeastOrNone}
use Rattle.wp_prepared.proofs.Commits.{first_least}
use Rattle.wp_prepared.proofs.Sets.{set_of_numbers}
use Rattle.wp_prepared.proofs.delayed.DelayedSet.first.Goals as goal

pub returns-in_err-first : goal.returns-in_err-first
returns-in_err-first c =
    let xs = c.self.inside.entries.items in
    let found = c.in_err-first.ensures.value in
    rw (c.from_residual.ensures, ← c.self.view_is) (subst (λ o. IsLeastOrNone (set_of_numbers (numbers_in xs)) (option_map number_of o)) (sym (found ∙ ap (λ ys. slice_get ys 0) c.deref.ensures.value)) (first_least xs c.self.invariant.0))

pub returns : goal.returns
returns c =
    let xs = c.self.inside.entries.items in
    let found = c.in_ok-first.ensures.value in
    rw (← c.self.view_is) (subst (λ o. IsLeastOrNone (set_of_numbers (numbers_in xs)) (option_map number_of o)) (sym (found ∙ ap (λ ys. slice_get ys 0) c.deref.ensures.value)) (first_least xs c.self.invariant.0))
