-- Words choose one thing at most.
use Rattle.std.proofs.Common.{arith, ap, refl, sym, ◌∙◌, ◌≡◌, ◌<◌, ◌^◌, ℕ, List, Option, Some, None}
use Rattle.clap.specs.Words.{Row, Text, subcommand_of}
use Rattle.wp_args.specs.Choice.{HasNumber, HasNumbers, HasOptions, IsChoice, IsEntered, command_name}
use Rattle.wp_args.specs.CommandSet.{command_set, copy_set}
use Rattle.wp_args.specs.CopyChoice.{IsCopyChoice, IsCopyEntered}
use Rattle.wp_args.specs.declared.choice.Action.{Action}
use Rattle.wp_args.specs.declared.choice.Action.TheVariants.{Run, Show, Make}
use Rattle.wp_args.specs.declared.choice.Choice.{Choice}
use Rattle.wp_args.specs.declared.choice.StoreOptions.{StoreOptions}
use Rattle.wp_args.proofs.Entries.{one_number}
use Rattle.wp_args.proofs.Numerals.{first_byte}

same_number : {entries : List Row} {argument : Text} {least most : ℕ} {one other : ℕ} → most < 2 ^ 64 → HasNumber entries argument least most one → HasNumber entries argument least most other
    → one ≡ other
same_number {entries} {argument} {least} {most} {one} {other} fits a b = one_number entries argument least most one other fits (omega (arith, b.high)) b.spelled a

one_action : (entries : List Row) (one other : Action) → command_name one ≡ command_name other → HasNumbers entries one → HasNumbers entries other → one ≡ other
one_action entries Run Run is a b = refl
one_action entries Show Show is a b = refl
one_action entries (Make seed clients lines) (Make seed-2 clients-2 lines-2) is a b =
    let seed-is = same_number (omega arith) a.seed_is b.seed_is in
    let clients-are = same_number (omega arith) a.clients_are b.clients_are in
    let lines-are = same_number (omega arith) a.lines_are b.lines_are in
    λ i. Make (seed-is i) (clients-are i) (lines-are i)
one_action entries Run Show is a b = let first : ◌≡◌ {A = ℕ} 114 115 = ap first_byte is in absurd (omega arith)
one_action entries Run (Make seed clients lines) is a b = let first : ◌≡◌ {A = ℕ} 114 109 = ap first_byte is in absurd (omega arith)
one_action entries Show Run is a b = let first : ◌≡◌ {A = ℕ} 115 114 = ap first_byte is in absurd (omega arith)
one_action entries Show (Make seed clients lines) is a b = let first : ◌≡◌ {A = ℕ} 115 109 = ap first_byte is in absurd (omega arith)
one_action entries (Make seed clients lines) Run is a b = let first : ◌≡◌ {A = ℕ} 109 114 = ap first_byte is in absurd (omega arith)
one_action entries (Make seed clients lines) Show is a b = let first : ◌≡◌ {A = ℕ} 109 115 = ap first_byte is in absurd (omega arith)

same_options : (entries : List Row) (one other : StoreOptions) → HasOptions entries one → HasOptions entries other → one ≡ other
same_options entries one other a b =
    let bits = same_number (omega arith) a.bits b.bits in
    let limit = same_number (omega arith) a.limit b.limit in
    let id = same_number (omega arith) a.id b.id in
    λ i. record { bits = bits i; limit = limit i; id = id i }

one_entered : (entered : Option (Text × List Row)) (one other : Choice) → IsEntered entered one → IsEntered entered other → one ≡ other
one_entered None one other a b = absurd a
one_entered (Some entered) one other a b =
    let action = one_action entered.1 one.action other.action (sym a.action ∙ b.action) a.numbers b.numbers in
    let store = same_options entered.1 one.store other.store a.options b.options in
    λ i. record { action = action i; store = store i }

pub one_choice : (words : List Text) (one other : Choice) → IsChoice words one → IsChoice words other → one ≡ other
one_choice words one other a b = one_entered (subcommand_of command_set words) one other a.entered b.entered

copy_entered_once : (entered : Option (Text × List Row)) (one other : StoreOptions) → IsCopyEntered entered one → IsCopyEntered entered other → one ≡ other
copy_entered_once None one other a b = absurd a
copy_entered_once (Some entered) one other a b = same_options entered.1 one other a b

pub one_copy : (words : List Text) (one other : StoreOptions) → IsCopyChoice words one → IsCopyChoice words other → one ≡ other
one_copy words one other a b = copy_entered_once (subcommand_of copy_set words) one other a.entered b.entered
