-- Which words are refused.
use Rattle.std.proofs.Common.{◌≡◌, true, refl, List, Option, Some, None, IfNone}
use Rattle.clap.specs.Words.{Row, Text, is_simple, subcommand_of}
use Rattle.wp_args.specs.Choice.{IsEntered, IsTaken}
use Rattle.wp_args.specs.CommandSet.{command_set, copy_set}
use Rattle.wp_args.specs.CopyChoice.{IsCopyEntered, IsCopyTaken}
use Rattle.wp_args.specs.declared.choice.Choice.{Choice}
use Rattle.wp_args.specs.declared.choice.StoreOptions.{StoreOptions}

-- so `clap` says exactly what it makes of words for it
pub command_set_is_simple : is_simple command_set ≡ true
command_set_is_simple = refl

-- words whose command is no choice's are refused
pub refused : (words : List Text) (entered : Option (Text × List Row)) (answer : Option Choice) → entered ≡ subcommand_of command_set words
    → IfNone answer ((choice : Choice) → ¬ IsEntered entered choice) → IfNone answer (¬ IsTaken words)
refused words entered (Some choice) is none = tt
refused words entered None is none = λ taken. none taken.0 (rw is taken.1.entered)

-- the same where a store is copied
pub copy_set_is_simple : is_simple copy_set ≡ true
copy_set_is_simple = refl

pub copy_refused : (words : List Text) (entered : Option (Text × List Row)) (answer : Option StoreOptions) → entered ≡ subcommand_of copy_set words
    → IfNone answer ((options : StoreOptions) → ¬ IsCopyEntered entered options) → IfNone answer (¬ IsCopyTaken words)
copy_refused words entered (Some options) is none = tt
copy_refused words entered None is none = λ taken. none taken.0 (rw is taken.1.entered)
