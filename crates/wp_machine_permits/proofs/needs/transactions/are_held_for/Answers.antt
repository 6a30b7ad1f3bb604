use Rattle.wp_machine_permits.proofs.Changes.{held_from, from_held}
use Rattle.wp_machine_permits.proofs.needs.transactions.are_held_for.Goals as goal

pub returns : goal.returns
returns c = (λ e. held_from c.args.locks.now _ _ (c.each_is_held_for.ensures.0 e), λ h. c.each_is_held_for.ensures.1 (from_held c.args.locks.now _ _ h))
