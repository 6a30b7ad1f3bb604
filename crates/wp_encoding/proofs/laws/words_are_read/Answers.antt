use Rattle.wp_encoding.proofs.WordLemmas.{word_takes, word_again, word_fails, word_refused}
use Rattle.wp_encoding.proofs.laws.words_are_read.Goals as goal

pub returns-clause-spelled : goal.returns-clause-spelled
returns-clause-spelled c = word_again

pub returns-clause-only : goal.returns-clause-only
returns-clause-only c = λ most bytes word rest h e. let found = word_takes most bytes (word, rest) h e in (found.1, found.0.parts)

pub returns-clause-refused : goal.returns-clause-refused
returns-clause-refused c = λ most bytes fault. (word_fails most bytes fault, word_refused most bytes fault)
