-- What a command line chooses.
use Rattle.std.specs.Prelude.{◌≡◌, ◌≤◌, ℕ, List, [], Option, Some, None, codes, decimal}
use Rattle.clap.specs.Words.{Row, Text, fault_of, first_of, subcommand_of}
use Rattle.wp_args.specs.CommandSet.{command_set}
use Rattle.wp_args.specs.declared.choice.Action.{Action}
use Rattle.wp_args.specs.declared.choice.Action.TheVariants.{Run, Show, Make}
use Rattle.wp_args.specs.declared.choice.Choice.{Choice}
use Rattle.wp_args.specs.declared.choice.StoreOptions.{StoreOptions}
use Rattle.wp_args.specs.declared.limits.TheConstants.{MOST_BITS, MOST_LIMIT, MOST_ID, MOST_SEED, MOST_CLIENTS, MOST_LINES}

-- the word that names the command
abbrev pub command_name : Action → Text
command_name Run = codes "run"
command_name Show = codes "show"
command_name (Make seed clients lines) = codes "make"

-- the argument's entry is the number in decimal digits, with no sign and no leading zero, and the number is in
-- its range
pub record HasNumber (entries : List Row) (argument : Text) (least most number : ℕ) : Type 0 where
  pub spelled : first_of argument entries ≡ Some (decimal number)
  pub low : least ≤ number
  pub high : number ≤ most

-- the numbers of the script that is made
pub record HasMaking (entries : List Row) (seed clients lines : ℕ) : Type 0 where
  pub seed_is : HasNumber entries (codes "SEED") 0 MOST_SEED seed
  pub clients_are : HasNumber entries (codes "CLIENTS") 1 MOST_CLIENTS clients
  pub lines_are : HasNumber entries (codes "LINES") 1 MOST_LINES lines

-- the numbers of a command that has some
abbrev pub HasNumbers : List Row → Action → Type 0
HasNumbers entries (Make seed clients lines) = HasMaking entries seed clients lines
HasNumbers entries other = Unit {0}

-- the numbers of the options of a command on a store
pub record HasOptions (entries : List Row) (options : StoreOptions) : Type 0 where
  pub bits : HasNumber entries (codes "bits") 0 MOST_BITS options.bits
  pub limit : HasNumber entries (codes "limit") 1 MOST_LIMIT options.limit
  pub id : HasNumber entries (codes "id") 1 MOST_ID options.id

-- the command's name and the entries of its matches are the choice's
pub record HasEntries (name : Text) (entries : List Row) (choice : Choice) : Type 0 where
  pub action : name ≡ command_name choice.action
  pub numbers : HasNumbers entries choice.action
  pub options : HasOptions entries choice.store

-- a command is named, and it is the choice's
abbrev pub IsEntered : Option (Text × List Row) → Choice → Type 0
IsEntered None choice = ⊥
IsEntered (Some entered) choice = HasEntries entered.0 entered.1 choice

-- the words choose this: `clap` takes them for the program's commands, and their command is the choice's
pub record IsChoice (words : List Text) (choice : Choice) : Type 0 where
  pub accepted : fault_of command_set words ≡ []
  pub entered : IsEntered (subcommand_of command_set words) choice

-- the words are a command line of the program
abbrev pub IsTaken : List Text → Type 0
IsTaken words = (choice : Choice) × IsChoice words choice
