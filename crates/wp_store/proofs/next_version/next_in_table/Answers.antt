use Rattle.wp_store.proofs.NextKey.{stored_words}
use Rattle.wp_store.proofs.NextVersion.{next_copyable}
use Rattle.wp_store.proofs.next_version.next_in_table.Goals as goal

pub returns-clause-copied : goal.returns-clause-copied
returns-clause-copied g c = next_copyable c.args.above c.args.key.now c.args.table.now c.next_version.result c.next_version.ensures.in_range c.next_version.ensures.found

pub returns-clause-in_range : goal.returns-clause-in_range
returns-clause-in_range g c = stored_words c.args.table.now c.next_version.ensures.in_range
