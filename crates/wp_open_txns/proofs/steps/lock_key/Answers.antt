use Rattle.wp_open_txns.proofs.Made.{may_lock, key_locked}
use Rattle.wp_open_txns.proofs.steps.lock_key.Goals as goal

pub make_about-requires-clause-may : goal.make_about-requires-clause-may
make_about-requires-clause-may g c = let f = c.requires.free in may_lock _ _ f.0 c.args.name.now c.args.key.now c.requires.has c.requires.unlocked c.requires.noted f.1 f.2

pub returns : goal.returns
returns g c t held = key_locked _ _ _ _ c.make_about.ensures.same t c.args.name.now c.args.key.now held c.make_about.ensures.moved
