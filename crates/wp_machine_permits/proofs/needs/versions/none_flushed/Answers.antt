use Rattle.wp_machine_permits.proofs.ListFacts.{flushed_from, from_flushed}
use Rattle.wp_machine_permits.proofs.needs.versions.none_flushed.Goals as goal

pub returns : goal.returns
returns c = (λ e. flushed_from _ _ (c.are_above.ensures.0 e), λ h. c.are_above.ensures.1 (from_flushed _ _ h))
