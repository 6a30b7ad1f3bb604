use Rattle.wp_args.proofs.Globals.{kept}
use Rattle.wp_args.proofs.command_set.with_option.Goals as goal

pub returns-clause-local : goal.returns-clause-local
returns-clause-local c = kept c.args.command c.number_option.result c.arg.result c.number_option.ensures.local c.arg.ensures
