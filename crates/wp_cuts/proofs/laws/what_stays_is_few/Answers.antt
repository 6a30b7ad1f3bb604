use Rattle.wp_keep.specs.Keep.{retained_of}
use Rattle.wp_cuts.proofs.Keeping.{kept_few}
use Rattle.wp_cuts.proofs.Staying.{are_kept}
use Rattle.wp_cuts.proofs.laws.what_stays_is_few.Goals as goal

pub returns-clause-kept : goal.returns-clause-kept
returns-clause-kept c = are_kept

pub returns-clause-few : goal.returns-clause-few
returns-clause-few c = λ committed history d newer versions numbers keys floor legal cut go from values.
    kept_few history d (retained_of committed versions numbers floor) keys floor legal cut from.above (are_kept committed history newer versions numbers d.base floor go from) values
