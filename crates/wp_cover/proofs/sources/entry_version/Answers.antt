use Rattle.std.proofs.Common.{◌∙◌}
use Rattle.wp_cover.proofs.Based.{prepared_version}
use Rattle.wp_cover.proofs.sources.entry_version.Goals as goal

pub returns-in-Some : goal.returns-in-Some
returns-in-Some c = c.change_to.ensures ∙ prepared_version c.args.history.now.entries c.args.p _ _ c.args.key.now c.in-Some.ensures
