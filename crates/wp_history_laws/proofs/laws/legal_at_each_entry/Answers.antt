use Rattle.wp_history_laws.proofs.Growth.{after_front}
use Rattle.wp_history_laws.proofs.laws.legal_at_each_entry.Goals as goal

pub returns : goal.returns
returns c = λ front more entry. after_front front entry more
