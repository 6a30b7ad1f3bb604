use Rattle.wp_cuts.proofs.Reopening.{reopened}
use Rattle.wp_cuts.proofs.laws.covered_cut_reopens.Goals as goal

pub returns : goal.returns
returns c = λ history d versions numbers from legal cut order far covered. reopened history d versions legal cut order numbers from far covered
