use Rattle.std.proofs.Common.{sym, ap, ◌∙◌, arith, Err}
use Rattle.wp_prepared.proofs.Ascending.{is_ok-place}
use Rattle.wp_prepared.proofs.Commits.{commit-at, none_there, distinct}
use Rattle.wp_prepared.proofs.Maps.{get-map_of}
use Rattle.wp_prepared.proofs.Numbered.{count_numbers, same_place}
use Rattle.wp_prepared.proofs.delayed.DelayedSet.commit_of.Goals as goal

pub place_of-requires : goal.place_of-requires
place_of-requires c = rw c.deref.ensures.value c.self.invariant.0

pub index-requires : goal.index-requires
index-requires c =
    let xs = c.self.inside.entries.items in
    let place = same_place xs _ c.args.p _ _ c.deref.ensures.value c.in-Ok.is c.place_of.ensures in
    omega (arith, place.0, count_numbers xs, c.self.inside.entries.ok)

pub returns-in-Ok : goal.returns-in-Ok
returns-in-Ok c =
    let xs = c.self.inside.entries.items in
    let place = same_place xs _ c.args.p _ _ c.deref.ensures.value c.in-Ok.is c.place_of.ensures in
    rw (← c.self.view_is) (ap (λ x. x.commit) c.index.ensures ∙ sym (commit-at xs c.in-Ok.place c.args.p _ (distinct xs c.self.invariant.0) place.0 place.1) ∙ sym (get-map_of _ c.args.p))

pub returns-in-Err : goal.returns-in-Err
returns-in-Err c =
    let xs = c.self.inside.entries.items in
    let place = same_place xs _ c.args.p _ _ c.deref.ensures.value c.in-Err.is c.place_of.ensures in
    rw (← c.self.view_is) (sym (none_there xs c.args.p (sym (is_ok-place _ c.args.p (Err c.in-Err.field-0) place))) ∙ sym (get-map_of _ c.args.p))
