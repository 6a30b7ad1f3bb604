-- The entries of a command's options.
use Rattle.std.proofs.Common.{arith, sym, ◌∙◌, ◌≡◌, ◌<◌, ◌^◌, ℕ, List, Option, Some, decimal}
use Rattle.std.proofs.lemmas.Fmt.{decimal_injective}
use Rattle.clap.specs.Words.{Row, Text, first_of, first_value, rows_of}
use Rattle.clap.specs.declared.parser.matches.Found.{Found}
use Rattle.clap.proofs.WalkLemmas.{first_value-rows}
use Rattle.wp_args.specs.Choice.{HasNumber}

-- what `get_str` reads is the entry
pub entry_is : (found : Found) (option : Text) (read : Option Text) → read ≡ first_value found option → first_of option (rows_of found) ≡ read
entry_is found option read is = sym (is ∙ first_value-rows found option)

-- an entry spells one number at most
pub one_number : (entries : List Row) (option : Text) (least most number other : ℕ) → most < 2 ^ 64 → other < 2 ^ 64
    → first_of option entries ≡ Some (decimal other) → HasNumber entries option least most number → number ≡ other
one_number entries option least most number other fits small is has =
    let same : decimal number ≡ decimal other = cc (is, has.spelled) in
    decimal_injective number other (omega (arith, has.high)) small same
