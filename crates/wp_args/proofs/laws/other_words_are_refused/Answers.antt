use Rattle.wp_args.proofs.Literals.{help_refused, many_bits_refused, many_clients_refused, no_limit_refused, no_lines_refused, past_limit_refused}
use Rattle.wp_args.proofs.laws.other_words_are_refused.Goals as goal

pub returns-clause-help : goal.returns-clause-help
returns-clause-help c = help_refused

pub returns-clause-many_bits : goal.returns-clause-many_bits
returns-clause-many_bits c = many_bits_refused

pub returns-clause-no_limit : goal.returns-clause-no_limit
returns-clause-no_limit c = no_limit_refused

pub returns-clause-past_limit : goal.returns-clause-past_limit
returns-clause-past_limit c = past_limit_refused

pub returns-clause-many_clients : goal.returns-clause-many_clients
returns-clause-many_clients c = many_clients_refused

pub returns-clause-no_lines : goal.returns-clause-no_lines
returns-clause-no_lines c = no_lines_refused
