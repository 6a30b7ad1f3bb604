use Rattle.wp_machine_permits.proofs.Changes.{has_there, there_has}
use Rattle.wp_machine_permits.proofs.needs.versions.has_changes.Goals as goal

pub returns : goal.returns
returns c =
    let there = rw c.changes.ensures.value at c.are_there.ensures in
    (λ e. has_there _ _ _ (there.0 e), λ h. there.1 (there_has _ _ _ h))
