use Rattle.wp_table.proofs.Whole.{spelled_elsewhere}
use Rattle.wp_table.proofs.laws.tables_have_one_store.Goals as goal

pub returns : goal.returns
returns c = spelled_elsewhere
