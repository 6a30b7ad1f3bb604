use Rattle.std.proofs.Common.{ap, ◌∙◌, ◌≡◌, map, string_bytes}
use Rattle.clap.specs.Words.{app_of, is_simple, subcommand_of, subcommand_rows_of}
use Rattle.wp_args.specs.CommandSet.{copy_set}
use Rattle.wp_args.proofs.Refusals.{copy_refused, copy_set_is_simple}
use Rattle.wp_args.proofs.copy_choice.copy_choice_of.Goals as goal

pub returns-in-Ok-clause-refused : goal.returns-in-Ok-clause-refused
returns-in-Ok-clause-refused c =
    let words = map string_bytes c.args.words.now in
    let set : app_of c.in_ok-copy_set.field-0 ≡ copy_set = c.in_ok-copy_set.ensures.set in
    let matched = c.in-Ok.ensures.matches (ap is_simple set ∙ copy_set_is_simple) in
    copy_refused words (subcommand_rows_of c.in-Ok.matches) c.copied_in.result (matched.1 ∙ ap (λ a. subcommand_of a words) set) c.copied_in.ensures.none
