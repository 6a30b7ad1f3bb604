use Rattle.std.proofs.Common.{rules}
use Rattle.std.proofs.lemmas.List.Sorted.{answers_always}
use Rattle.wp_history.proofs.Halves.{found_there, found_nowhere}
use Rattle.wp_history.proofs.outline.carried_in.Goals as goal

pub returns-in-Ok : goal.returns-in-Ok
returns-in-Ok c =
    let found = c.binary_search_by_key.ensures in
    let by_number = found.position (λ x. x.number) (answers_always _ _ _ (λ f a r g called. search rules)) in
    found_there c.args.carried.now c.args.p c.binary_search_by_key.result c.requires found.bound by_number c.in-Ok.place c.index-carried-place.result c.in-Ok.is c.index-carried-place.is

pub returns-in-Err : goal.returns-in-Err
returns-in-Err c =
    let found = c.binary_search_by_key.ensures in
    let by_number = found.position (λ x. x.number) (answers_always _ _ _ (λ f a r g called. search rules)) in
    found_nowhere c.args.carried.now c.args.p c.binary_search_by_key.result c.requires found.bound by_number _ c.in-Err.is
