use Rattle.wp_args.proofs.Uniqueness.{one_choice}
use Rattle.wp_args.proofs.laws.words_choose_once.Goals as goal

pub returns : goal.returns
returns c = one_choice
