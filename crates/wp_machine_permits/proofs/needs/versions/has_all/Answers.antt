use Rattle.wp_machine_permits.proofs.ListFacts.{all_had, had_all}
use Rattle.wp_machine_permits.proofs.needs.versions.has_all.Goals as goal

pub returns : goal.returns
returns c = (λ e. all_had _ _ (c.each_is_among.ensures.0 e), λ h. c.each_is_among.ensures.1 (had_all _ _ h))
