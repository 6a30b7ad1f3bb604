use Rattle.std.proofs.Common.{rules, subst}
use Rattle.std.specs.List.Sorted.{IsSearchInRange}
use Rattle.std.proofs.lemmas.List.Sorted.{answers_always}
use Rattle.wp_prepared.proofs.Queues.{searched, place_or_none}
use Rattle.wp_prepared.proofs.heap.place_of.Goals as goal

pub returns : goal.returns
returns c =
    let queue = c.args.queue.now in
    let found = c.binary_search_by_key.ensures in
    let within = subst (IsSearchInRange c.binary_search_by_key.result) queue.ok.0 found.bound in
    let by_number = found.position (λ x. x.number) (answers_always _ _ _ (λ f a r g called. search rules)) in
    let place = searched queue.items c.args.p c.binary_search_by_key.result c.requires within by_number in
    rw c.ok.ensures.value (place_or_none queue.items c.args.p c.binary_search_by_key.result place)
