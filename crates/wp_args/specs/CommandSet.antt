-- The commands and options of the program, as `clap` reads words by them.
use Rattle.std.specs.Prelude.{[], ◌∷◌, Some, codes, true}
use Rattle.clap.specs.Words.{App, Rule, Text, new_app, new_rule, with_rule, with_subcommand}
use Rattle.clap.specs.Simple.{on_top}
use Rattle.wp_args.specs.declared.limits.TheConstants.{BITS, LIMIT, ID}

-- an option with one value, and its value where it is not given
abbrev pub number_option : Text → Text → Rule
number_option name default = record (new_rule name) { long = Some name; defaults = default ∷ [] }

-- a command on a store, with the options that each of these takes
abbrev pub store_command : Text → App
store_command name =
    with_rule (with_rule (with_rule (new_app name)
    (number_option (codes "bits") BITS.now))
    (number_option (codes "limit") LIMIT.now))
    (number_option (codes "id") ID.now)

-- a number that has to be given, in its place
abbrev pub number_word : Text → Rule
number_word name = record (new_rule name) { required = true }

-- the command that makes its script, with its numbers
abbrev pub make_command : App
make_command =
    with_rule (with_rule (with_rule (store_command (codes "make"))
    (number_word (codes "SEED")))
    (number_word (codes "CLIENTS")))
    (number_word (codes "LINES"))

-- the program without its commands: it has no help
abbrev pub program : App
program = on_top (λ top. record top { disable_help_flag = true; disable_help_subcommand = true })
    (new_app (codes "wp"))

-- with the commands that have options alone
abbrev pub plain_commands : App
plain_commands =
    with_subcommand (with_subcommand program (store_command (codes "run")).top) (store_command (codes "show")).top

abbrev pub command_set : App
command_set = with_subcommand plain_commands make_command.top

-- the program with the command that a copy of a store is made by
abbrev pub copy_set : App
copy_set = with_subcommand program (store_command (codes "copy")).top
