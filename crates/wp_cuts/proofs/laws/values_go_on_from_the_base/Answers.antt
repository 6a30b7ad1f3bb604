use Rattle.wp_history_laws.proofs.Growth.{legal_naming}
use Rattle.wp_cuts.proofs.Standing.{value_from_base}
use Rattle.wp_cuts.proofs.laws.values_go_on_from_the_base.Goals as goal

pub returns : goal.returns
returns c = λ history d values key n legal. value_from_base history d values key n (legal_naming history legal.each)
