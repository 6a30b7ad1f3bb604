use Rattle.std.proofs.Common.{codes, ap, ◌∙◌}
use Rattle.std.proofs.lemmas.Result.{IfOk-weaker}
use Rattle.clap.specs.Words.{App, with_rule}
use Rattle.wp_args.specs.CommandSet.{number_word}
use Rattle.wp_args.proofs.command_set.make_command.Goals as goal

pub returns-clause-rules : goal.returns-clause-rules
returns-clause-rules c =
    let seed = c.in_ok-command.ensures.rules ∙ ap (λ (made : App). with_rule made (number_word (codes "SEED"))) c.in_ok-store_command.ensures.rules in
    let clients = c.in_ok-command-2.ensures.rules ∙ ap (λ (made : App). with_rule made (number_word (codes "CLIENTS"))) seed in
    IfOk-weaker c.with_word-3.result _ _ (λ made is. is ∙ ap (λ (made : App). with_rule made (number_word (codes "LINES"))) clients) c.with_word-3.ensures.rules

pub returns-clause-local : goal.returns-clause-local
returns-clause-local c =
    IfOk-weaker c.with_word-3.result _ _ (λ made is. is ∙ c.in_ok-command-2.ensures.local ∙ c.in_ok-command.ensures.local ∙ c.in_ok-store_command.ensures.local) c.with_word-3.ensures.local
