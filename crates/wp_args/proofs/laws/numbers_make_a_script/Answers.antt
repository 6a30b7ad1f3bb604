use Rattle.wp_args.proofs.Literals.{make_alone, make_beside}
use Rattle.wp_args.proofs.laws.numbers_make_a_script.Goals as goal

pub returns-clause-alone : goal.returns-clause-alone
returns-clause-alone c = make_alone

pub returns-clause-beside : goal.returns-clause-beside
returns-clause-beside c = make_beside
