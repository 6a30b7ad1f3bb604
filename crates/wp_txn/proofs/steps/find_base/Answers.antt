use Rattle.wp_shared.proofs.OneStep.{becomes}
use Rattle.wp_txn.proofs.UnderLog.{may_find_base, base_found}
use Rattle.wp_txn.proofs.steps.find_base.Goals as goal

pub make-requires-clause-may : goal.make-requires-clause-may
make-requires-clause-may g c = may_find_base _ _ c.args.log.now.state c.requires.held c.requires.waits

pub returns : goal.returns
returns g c = becomes c.args.seat.now c.make.new.seat _ c.make.ensures.same (base_found _ _ _ _ c.args.log.now.state c.make.ensures.moved c.requires.held)
