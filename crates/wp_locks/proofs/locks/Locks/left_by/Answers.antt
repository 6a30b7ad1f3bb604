use Rattle.std.proofs.Common.{ap}
use Rattle.wp_history_laws.proofs.Opened.{tables_opened}
use Rattle.wp_locks.proofs.Maps.{map_of}
use Rattle.wp_locks.proofs.locks.Locks.left_by.Goals as goal

pub returns : goal.returns
returns c = tables_opened c.args.history.now.entries _ c.in_ok-names_of.ensures c.in_ok-keys_of.ensures (ap map_of c.new.ensures.empty)
