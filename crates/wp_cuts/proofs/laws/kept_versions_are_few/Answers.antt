use Rattle.wp_cuts.proofs.Keeping.{kept_few}
use Rattle.wp_cuts.proofs.laws.kept_versions_are_few.Goals as goal

pub returns : goal.returns
returns c = λ history d kept keys floor legal cut above are values. kept_few history d kept keys floor legal cut above are values
