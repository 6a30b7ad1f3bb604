use Rattle.wp_tableset.proofs.SetLemmas.{ready_of, stores_new}
use Rattle.wp_tableset.proofs.set.TableSet.new.Goals as goal

pub invariant_of-result : goal.invariant_of-result
invariant_of-result g c = ready_of c.args.manifest c.requires.stores.0 c.requires.stores.1 c.requires.running

pub returns-clause-stores : goal.returns-clause-stores
returns-clause-stores g c = λ edits parts stores rests. stores_new _ edits parts stores rests
