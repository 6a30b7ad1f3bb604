use Rattle.wp_model.proofs.Entries.{undone_after}
use Rattle.wp_history_laws.proofs.laws.last_entry_undoes.Goals as goal

pub returns : goal.returns
returns c = undone_after
