use Rattle.wp_history_laws.proofs.NewestVersion.{one_or_none, newest_is_value, none_is_no_value}
use Rattle.wp_history_laws.proofs.laws.newest_committed_is_the_value.Goals as goal

pub returns-clause-either : goal.returns-clause-either
returns-clause-either c = one_or_none

pub returns-clause-newest : goal.returns-clause-newest
returns-clause-newest c = newest_is_value

pub returns-clause-none : goal.returns-clause-none
returns-clause-none c = none_is_no_value
