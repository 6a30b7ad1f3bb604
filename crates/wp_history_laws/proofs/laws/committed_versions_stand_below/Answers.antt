use Rattle.wp_history_laws.proofs.RowNumbers.{committed_within, committed_decided, committed_below}
use Rattle.wp_history_laws.proofs.laws.committed_versions_stand_below.Goals as goal

pub returns-clause-within : goal.returns-clause-within
returns-clause-within c = λ history n p legal within committed. committed_within history n p legal within committed

pub returns-clause-decided : goal.returns-clause-decided
returns-clause-decided c = λ history n p legal within committed. committed_decided history n p legal within committed

pub returns-clause-below : goal.returns-clause-below
returns-clause-below c = λ history n p q key value legal within ends committed version undecided changed. committed_below history n p legal within committed q key value ends version undecided changed
