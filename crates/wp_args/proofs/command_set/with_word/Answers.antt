use Rattle.wp_args.proofs.Globals.{kept}
use Rattle.wp_args.proofs.command_set.with_word.Goals as goal

pub returns-clause-local : goal.returns-clause-local
returns-clause-local c = kept c.args.command c.number_word.result c.arg.result c.number_word.ensures.local c.arg.ensures
