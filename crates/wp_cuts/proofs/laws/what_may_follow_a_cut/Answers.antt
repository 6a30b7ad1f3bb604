use Rattle.wp_history_laws.proofs.Growth.{legal_naming}
use Rattle.wp_cuts.proofs.Several.{all_orderly_to, all_orderly_from}
use Rattle.wp_cuts.proofs.Standing.{orderly_to, orderly_from}
use Rattle.wp_cuts.proofs.laws.what_may_follow_a_cut.Goals as goal

pub returns-clause-one : goal.returns-clause-one
returns-clause-one c = λ history d entry legal cut. (orderly_to history d entry (legal_naming history legal.each) cut, orderly_from history d entry (legal_naming history legal.each) cut)

pub returns-clause-several : goal.returns-clause-several
returns-clause-several c = λ history d entries legal cut. (all_orderly_to history entries d (legal_naming history legal.each) cut, all_orderly_from history entries d (legal_naming history legal.each) cut)
