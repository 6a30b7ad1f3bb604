use Rattle.wp_shared.proofs.OneStep.{becomes}
use Rattle.wp_txn.proofs.DirectWrites.{may_lock_direct, direct_locked}
use Rattle.wp_txn.proofs.steps.lock_direct.Goals as goal

pub make_about-requires-clause-may : goal.make_about-requires-clause-may
make_about-requires-clause-may g c = let f = c.requires.free in may_lock_direct _ _ f.0 c.args.key.now c.requires.seat.1 c.requires.none f.1 f.2

pub returns : goal.returns
returns g c t held = becomes c.args.seat.now c.make_about.new.seat _ c.make_about.ensures.same (direct_locked _ _ _ _ t c.args.key.now c.make_about.ensures.moved held)
