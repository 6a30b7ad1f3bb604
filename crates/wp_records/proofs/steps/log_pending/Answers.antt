use Rattle.wp_records.proofs.Made.{may_log, logged}
use Rattle.wp_records.proofs.steps.log_pending.Goals as goal

pub make-requires-clause-may : goal.make-requires-clause-may
make-requires-clause-may g c = let h = c.requires.held in may_log _ _ h.0 h.1 h.2

pub returns : goal.returns
returns g c = let h = c.requires.held in logged _ _ c.args.seat.now c.make.new.seat c.make.ensures.same h.0 c.args.log.now.state h.1 h.3 c.make.ensures.moved
