use Rattle.std.proofs.Common.{rules}
use Rattle.std.proofs.lemmas.List.Sorted.{answers_always}
use Rattle.wp_prepared.proofs.Numbered.{found_place}
use Rattle.wp_prepared.proofs.delayed.place_of.Goals as goal

pub returns : goal.returns
returns c =
    let found = c.binary_search_by_key.ensures in
    let by_number = found.position (λ x. x.number) (answers_always _ _ _ (λ f a r g called. search rules)) in
    found_place c.args.entries.now c.args.p c.binary_search_by_key.result c.requires found.bound by_number
