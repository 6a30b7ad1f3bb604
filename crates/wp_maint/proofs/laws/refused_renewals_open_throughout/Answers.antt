use Rattle.wp_shared.specs.Calls.{Continues}
use Rattle.wp_maint.proofs.Unmoved.{opens_amid, opens_closed, opens_each, opens_halted, opens_nothing}
use Rattle.wp_maint.proofs.laws.refused_renewals_open_throughout.Goals as goal

pub returns-clause-each : goal.returns-clause-each
returns-clause-each g c z one e k stand of_store log is stands log_of_store w reached here there = opens_each z one e k stand of_store log is stands log_of_store w reached here there

pub returns-clause-amid : goal.returns-clause-amid
returns-clause-amid g c z one e k stand of_store w reached here l m t spells at_m at_t = opens_amid z one e k stand of_store w reached here l m t spells at_m at_t

pub returns-clause-closed : goal.returns-clause-closed
returns-clause-closed g c z old new e one n k = opens_closed z one (Continues z old new) old new e n k

pub returns-clause-nothing : goal.returns-clause-nothing
returns-clause-nothing g c z old new e one k = opens_nothing z one (Continues z old new) old new e k

pub returns-clause-halted : goal.returns-clause-halted
returns-clause-halted g c z old new one k l m t spells at_m at_t = opens_halted z one old new k l m t spells at_m at_t
