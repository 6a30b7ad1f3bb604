use Rattle.wp_cover.proofs.Based.{none_fixed}
use Rattle.wp_machine_permits.proofs.needs.edits.are_covered.Goals as goal

pub covers-requires-clause-fixed : goal.covers-requires-clause-fixed
covers-requires-clause-fixed c = none_fixed c.args.history.now _ c.requires
