use Rattle.wp_args.proofs.Literals.{copy_alone, copy_not_run, many_bits_not_copied, more_not_copy, run_not_copy}
use Rattle.wp_args.proofs.laws.copies_are_chosen_apart.Goals as goal

pub returns-clause-alone : goal.returns-clause-alone
returns-clause-alone c = copy_alone

pub returns-clause-no_run : goal.returns-clause-no_run
returns-clause-no_run c = copy_not_run

pub returns-clause-no_other : goal.returns-clause-no_other
returns-clause-no_other c = run_not_copy

pub returns-clause-no_more : goal.returns-clause-no_more
returns-clause-no_more c = more_not_copy

pub returns-clause-many_bits : goal.returns-clause-many_bits
returns-clause-many_bits c = many_bits_not_copied
