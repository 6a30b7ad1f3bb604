use Rattle.wp_machine_permits.proofs.ListFacts.{none_from, from_none}
use Rattle.wp_machine_permits.proofs.needs.versions.none_at.Goals as goal

pub returns : goal.returns
returns c = (λ e. none_from _ _ (c.are_not_at.ensures.0 e), λ h. c.are_not_at.ensures.1 (from_none _ _ h))
