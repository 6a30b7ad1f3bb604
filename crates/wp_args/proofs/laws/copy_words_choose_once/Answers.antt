use Rattle.wp_args.proofs.Uniqueness.{one_copy}
use Rattle.wp_args.proofs.laws.copy_words_choose_once.Goals as goal

pub returns : goal.returns
returns c = one_copy
