use Rattle.wp_machine_permits.proofs.Stores.{each_of, of_each}
use Rattle.wp_machine_permits.proofs.needs.stored.are_of.Goals as goal

pub returns : goal.returns
returns c = (λ e. each_of _ _ (c.each_is_of.ensures.0 e), λ h. c.each_is_of.ensures.1 (of_each _ _ h))
