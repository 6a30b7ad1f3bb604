use Rattle.wp_machine_permits.proofs.Stores.{each_next, next_each}
use Rattle.wp_machine_permits.proofs.needs.stored.are_next.Goals as goal

pub returns : goal.returns
returns c =
    let each = rw c.published.ensures.value at c.each_is_next.ensures in
    (λ e. each_next _ _ _ (each.0 e), λ h. each.1 (next_each _ _ _ h))
