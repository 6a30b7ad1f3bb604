use Rattle.wp_maint.proofs.Made.{may_find, found}
use Rattle.wp_maint.proofs.steps.find_edits.Goals as goal

pub make-requires-clause-may : goal.make-requires-clause-may
make-requires-clause-may g c = may_find _ _ c.requires.held.0 c.requires.held.1

pub returns : goal.returns
returns g c t held = found c.args.store.now _ c.args.seat.now c.make.new.seat c.make.ensures.same t held c.make.ensures.moved
