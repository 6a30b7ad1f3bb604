use Rattle.std.proofs.Common.{Err, ap, ◌∙◌}
use Rattle.wp_text.proofs.NamesLemmas.{all_read, one_refused, not_read}
use Rattle.wp_text.proofs.names.names_of.Goals as goal

pub returns-in_err-read : goal.returns-in_err-read
returns-in_err-read c =
    let e = c.from_residual-in_err-read.ensures in
    not_read (λ names. names.items) _ c.from_residual-in_err-read.result c.in_err-read.field-0.0 e.1 e.0 (λ bad. one_refused _ _ _ c.loop-word-test.true (c.read.ensures.bad_word.0 (c.in_err-read.was ∙ ap Err bad)))

pub returns : goal.returns
returns c = all_read _ _ _ c.loop-word-test.false c.loop-word.invariant.0 c.loop-word.invariant.1
