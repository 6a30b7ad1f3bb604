use Rattle.wp_cuts.proofs.Copying.{copy_covers, copy_reopens}
use Rattle.wp_cuts.proofs.laws.copied_versions_reopen.Goals as goal

pub returns-clause-covered : goal.returns-clause-covered
returns-clause-covered c = copy_covers

pub returns-clause-opens : goal.returns-clause-opens
returns-clause-opens c = copy_reopens
