use Rattle.wp_shared.specs.Calls.{Continues}
use Rattle.wp_maint.proofs.Renewing.{opens_amid, opens_renewed, opens_broken, opens_log_fault, opens_memory}
use Rattle.wp_maint.proofs.laws.renewals_open_throughout.Goals as goal

pub returns-clause-amid : goal.returns-clause-amid
returns-clause-amid g c old new log moved asked k at_end named = opens_amid old new log moved asked k at_end named

pub returns-clause-renewed : goal.returns-clause-renewed
returns-clause-renewed g c z old new e one done k = opens_renewed z old new e one (Continues z old new) done k

pub returns-clause-broken_off : goal.returns-clause-broken_off
returns-clause-broken_off g c z old new e one k = opens_broken z old new e one (Continues z old new) k

pub returns-clause-log_fault : goal.returns-clause-log_fault
returns-clause-log_fault g c z old new e one k = opens_log_fault z old new e one (Continues z old new) k

pub returns-clause-memory : goal.returns-clause-memory
returns-clause-memory g c z old new e one k = opens_memory z old new e one (Continues z old new) k
