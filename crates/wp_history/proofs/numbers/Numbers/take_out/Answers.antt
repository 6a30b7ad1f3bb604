use Rattle.std.proofs.Common.{◌∙◌}
use Rattle.wp_history_laws.proofs.Ascending.{place_of, removed_there, none_there}
use Rattle.wp_history.proofs.numbers.Numbers.take_out.Goals as goal

pub returns-in-Ok-clause-items : goal.returns-in-Ok-clause-items
returns-in-Ok-clause-items c =
    let place = place_of _ c.args.p _ _ _ c.requires c.list.ensures c.binary_search.ensures.position c.in-Ok.is in
    c.remove.ensures.items ∙ removed_there _ c.args.p _ c.requires place

pub returns-in_default-clause-items : goal.returns-in_default-clause-items
returns-in_default-clause-items c = none_there _ c.args.p _ (place_of _ c.args.p _ _ _ c.requires c.list.ensures c.binary_search.ensures.position c.in_default.is)
