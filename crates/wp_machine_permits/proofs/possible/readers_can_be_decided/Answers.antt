use Rattle.wp_machine_permits.proofs.Runs.{by_word, above_bound, by_prepared, below_bound, by_old_commits}
use Rattle.wp_machine_permits.proofs.possible.readers_can_be_decided.Goals as goal

pub returns-clause-by_word : goal.returns-clause-by_word
returns-clause-by_word c = by_word

pub returns-clause-above_bound : goal.returns-clause-above_bound
returns-clause-above_bound c = above_bound

pub returns-clause-by_prepared : goal.returns-clause-by_prepared
returns-clause-by_prepared c = by_prepared

pub returns-clause-below_bound : goal.returns-clause-below_bound
returns-clause-below_bound c = below_bound

pub returns-clause-by_old_commits : goal.returns-clause-by_old_commits
returns-clause-by_old_commits c = by_old_commits
