use Rattle.wp_history_laws.proofs.Growth.{legal_naming}
use Rattle.wp_cuts.proofs.Agreeing.{cuts_agree}
use Rattle.wp_cuts.proofs.laws.cuts_agree.Goals as goal

pub returns : goal.returns
returns c = λ one other d legal also. cuts_agree one other d (legal_naming one legal.each) (legal_naming other also.each)
