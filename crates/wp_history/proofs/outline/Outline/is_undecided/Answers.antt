use Rattle.std.proofs.Common.{◌∙◌}
use Rattle.wp_history_laws.proofs.Ascending.{is_found}
use Rattle.wp_history.proofs.outline.Outline.is_undecided.Goals as goal

pub returns : goal.returns
returns c = c.is_ok.ensures.value ∙ is_found c.args.self.now.entries c.undecided.result.now c.args.p c.binary_search.result c.undecided.ensures c.binary_search.ensures.position
