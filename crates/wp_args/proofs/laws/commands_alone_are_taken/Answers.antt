use Rattle.wp_args.proofs.Literals.{run_alone, show_alone}
use Rattle.wp_args.proofs.laws.commands_alone_are_taken.Goals as goal

pub returns-clause-run : goal.returns-clause-run
returns-clause-run c = run_alone

pub returns-clause-show : goal.returns-clause-show
returns-clause-show c = show_alone
