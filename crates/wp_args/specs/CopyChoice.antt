-- What a command line chooses where a store is copied.
use Rattle.std.specs.Prelude.{◌≡◌, List, [], Option, Some, None}
use Rattle.clap.specs.Words.{Row, Text, fault_of, subcommand_of}
use Rattle.wp_args.specs.Choice.{HasOptions}
use Rattle.wp_args.specs.CommandSet.{copy_set}
use Rattle.wp_args.specs.declared.choice.StoreOptions.{StoreOptions}

-- a command is named, of which the program has one here, and its options are these
abbrev pub IsCopyEntered : Option (Text × List Row) → StoreOptions → Type 0
IsCopyEntered None options = ⊥
IsCopyEntered (Some entered) options = HasOptions entered.1 options

-- the words choose a copy with these options: `clap` takes them for the program with `copy`
pub record IsCopyChoice (words : List Text) (options : StoreOptions) : Type 0 where
  pub accepted : fault_of copy_set words ≡ []
  pub entered : IsCopyEntered (subcommand_of copy_set words) options

-- the words are a command line by which a store is copied
abbrev pub IsCopyTaken : List Text → Type 0
IsCopyTaken words = (options : StoreOptions) × IsCopyChoice words options
