-- What the program's commands make of words that are written out.
use Rattle.std.proofs.Common.{arith, rules, refl, sym, ap, ◌∙◌, ◌≡◌, ◌<◌, ◌≤◌, ◌^◌, ℕ, List, [], ◌∷◌, Some, codes, decimal}
use Rattle.std.proofs.lemmas.Fmt.{decimal-digits_value}
use Rattle.clap.specs.Words.{Row, Text, first_of}
use Rattle.clap.specs.declared.error.kind.ErrorKind.TheVariants as kind
use Rattle.clap.proofs.OnLiterals.{clap_on_literals}
use Rattle.wp_args.specs.declared.limits.TheConstants.{MOST_LIMIT, MOST_ID, MOST_SEED, LIMIT}
use Rattle.wp_args.specs.Choice.{HasEntries, HasMaking, HasNumber, HasNumbers, HasOptions, IsChoice, IsTaken, command_name}
use Rattle.wp_args.specs.CopyChoice.{IsCopyChoice, IsCopyTaken}
use Rattle.wp_args.specs.declared.choice.Action.{Action}
use Rattle.wp_args.specs.declared.choice.Action.TheVariants.{Run, Show, Make}
use Rattle.wp_args.proofs.Entries.{one_number}
use Rattle.wp_args.proofs.Numerals.{first_byte, own}

ten : codes "10" ≡ decimal 10
ten = sym (decimal-digits_value own (codes "10") (search rules) (omega arith) (λ zero. omega arith) (omega arith))

largest : LIMIT.now ≡ decimal MOST_LIMIT
largest = sym (decimal-digits_value own LIMIT.now (search rules) (omega arith) (λ zero. omega arith) (omega arith))

past : codes "70368744177664" ≡ decimal 70368744177664
past = sym (decimal-digits_value own (codes "70368744177664") (search rules) (omega arith) (λ zero. omega arith) (omega arith))

one : codes "1" ≡ decimal 1
one = sym (decimal-digits_value own (codes "1") (search rules) (omega arith) (λ zero. omega arith) (omega arith))

seventeen : codes "17" ≡ decimal 17
seventeen = sym (decimal-digits_value own (codes "17") (search rules) (omega arith) (λ zero. omega arith) (omega arith))

nought : codes "0" ≡ decimal 0
nought = sym (decimal-digits_value own (codes "0") (search rules) (omega arith) (λ zero. refl) (omega arith))

seven : codes "7" ≡ decimal 7
seven = sym (decimal-digits_value own (codes "7") (search rules) (omega arith) (λ zero. omega arith) (omega arith))

eight : codes "8" ≡ decimal 8
eight = sym (decimal-digits_value own (codes "8") (search rules) (omega arith) (λ zero. omega arith) (omega arith))

thousand : codes "1000" ≡ decimal 1000
thousand = sym (decimal-digits_value own (codes "1000") (search rules) (omega arith) (λ zero. omega arith) (omega arith))

-- an entry that spells a number of its range
has_number : (entries : List Row) (argument text : Text) (least most number : ℕ) → text ≡ decimal number → least ≤ number → number ≤ most → first_of argument entries ≡ Some text → HasNumber entries argument least most number
has_number entries argument text least most number is low high entry = record { spelled = entry ∙ ap Some is; low = low; high = high }

-- the defaults are in range
default_options : (entries : List Row) (bits : ℕ) → HasNumber entries (codes "bits") 0 16 bits → first_of (codes "limit") entries ≡ Some LIMIT.now → first_of (codes "id") entries ≡ Some (codes "1")
    → HasOptions entries (record { bits = bits; limit = MOST_LIMIT; id = 1 })
default_options entries bits has_bits limit id = record {
  bits = has_bits;
  limit = has_number entries (codes "limit") LIMIT.now 1 MOST_LIMIT MOST_LIMIT largest (omega arith) (omega arith) limit;
  id = has_number entries (codes "id") (codes "1") 1 MOST_ID 1 one (omega arith) (omega arith) id;
}

has_defaults : (name : Text) (entries : List Row) (action : Action) → name ≡ command_name action → HasNumbers entries action → (bits : ℕ) → HasNumber entries (codes "bits") 0 16 bits
    → first_of (codes "limit") entries ≡ Some LIMIT.now → first_of (codes "id") entries ≡ Some (codes "1")
    → HasEntries name entries (record { action = action; store = record { bits = bits; limit = MOST_LIMIT; id = 1 } })
has_defaults name entries action named numbers bits has_bits limit id = record { action = named; numbers = numbers; options = default_options entries bits has_bits limit id }

default_bits : (entries : List Row) → first_of (codes "bits") entries ≡ Some (codes "10") → HasNumber entries (codes "bits") 0 16 10
default_bits entries = has_number entries (codes "bits") (codes "10") 0 16 10 ten (omega arith) (omega arith)

pub run_alone : IsChoice (codes "wp" ∷ codes "run" ∷ []) (record { action = Run; store = record { bits = 10; limit = MOST_LIMIT; id = 1 } })
unfolding clap_on_literals
run_alone = record { accepted = refl; entered = has_defaults _ _ Run refl tt 10 (default_bits _ refl) refl refl }

pub show_alone : IsChoice (codes "wp" ∷ codes "show" ∷ []) (record { action = Show; store = record { bits = 10; limit = MOST_LIMIT; id = 1 } })
unfolding clap_on_literals
show_alone = record { accepted = refl; entered = has_defaults _ _ Show refl tt 10 (default_bits _ refl) refl refl }

has_making : (entries : List Row) → first_of (codes "SEED") entries ≡ Some (codes "7") → first_of (codes "CLIENTS") entries ≡ Some (codes "8") → first_of (codes "LINES") entries ≡ Some (codes "1000") → HasMaking entries 7 8 1000
has_making entries seed clients lines = record {
  seed_is = has_number entries (codes "SEED") (codes "7") 0 MOST_SEED 7 seven (omega arith) (omega arith) seed;
  clients_are = has_number entries (codes "CLIENTS") (codes "8") 1 16 8 eight (omega arith) (omega arith) clients;
  lines_are = has_number entries (codes "LINES") (codes "1000") 1 1000 1000 thousand (omega arith) (omega arith) lines;
}

pub make_alone : IsChoice (codes "wp" ∷ codes "make" ∷ codes "7" ∷ codes "8" ∷ codes "1000" ∷ []) (record { action = Make 7 8 1000; store = record { bits = 10; limit = MOST_LIMIT; id = 1 } })
unfolding clap_on_literals
make_alone = record { accepted = refl; entered = has_defaults _ _ (Make 7 8 1000) refl (has_making _ refl refl refl) 10 (default_bits _ refl) refl refl }

pub make_beside : IsChoice (codes "wp" ∷ codes "make" ∷ codes "7" ∷ codes "--bits" ∷ codes "0" ∷ codes "8" ∷ codes "1000" ∷ []) (record { action = Make 7 8 1000; store = record { bits = 0; limit = MOST_LIMIT; id = 1 } })
unfolding clap_on_literals
make_beside = record { accepted = refl; entered = has_defaults _ _ (Make 7 8 1000) refl (has_making _ refl refl refl) 0 (has_number _ (codes "bits") (codes "0") 0 16 0 nought (omega arith) (omega arith) refl) refl refl }

pub help_refused : ¬ IsTaken (codes "wp" ∷ codes "--help" ∷ [])
unfolding clap_on_literals
help_refused = λ taken. let unknown : kind.UnknownArgument ∷ [] ≡ [] = taken.1.accepted in cc

-- an option whose text spells this number, which is out of its range
out_of_range : (entries : List Row) (option text : Text) (least most spelled number : ℕ) → spelled < 2 ^ 64 → most < 2 ^ 64 → text ≡ decimal spelled → (least ≤ spelled → most < spelled)
    → first_of option entries ≡ Some text → HasNumber entries option least most number → ⊥
out_of_range entries option text least most spelled number small fits is out entry has =
    let same = one_number entries option least most number spelled fits small (entry ∙ ap Some is) has in
    omega (arith, out (omega (arith, has.low)), has.high)

pub many_bits_refused : ¬ IsTaken (codes "wp" ∷ codes "run" ∷ codes "--bits" ∷ codes "17" ∷ [])
unfolding clap_on_literals
many_bits_refused = λ taken. out_of_range _ (codes "bits") (codes "17") 0 16 17 taken.0.store.bits (omega arith) (omega arith) seventeen (λ low. omega arith) refl taken.1.entered.options.bits

pub no_limit_refused : ¬ IsTaken (codes "wp" ∷ codes "run" ∷ codes "--limit" ∷ codes "0" ∷ [])
unfolding clap_on_literals
no_limit_refused = λ taken. out_of_range _ (codes "limit") (codes "0") 1 MOST_LIMIT 0 taken.0.store.limit (omega arith) (omega arith) nought (λ low. omega arith) refl taken.1.entered.options.limit

pub past_limit_refused : ¬ IsTaken (codes "wp" ∷ codes "run" ∷ codes "--limit" ∷ codes "70368744177664" ∷ [])
unfolding clap_on_literals
past_limit_refused = λ taken. out_of_range _ (codes "limit") (codes "70368744177664") 1 MOST_LIMIT 70368744177664 taken.0.store.limit (omega arith) (omega arith) past (λ low. omega arith) refl taken.1.entered.options.limit

-- the entries of a script that is made of too many clients
crowded : (entries : List Row) (action : Action) → codes "make" ≡ command_name action → first_of (codes "CLIENTS") entries ≡ Some (codes "17") → HasNumbers entries action → ⊥
crowded entries Run named entry has = let first : ◌≡◌ {A = ℕ} 109 114 = ap first_byte named in omega arith
crowded entries Show named entry has = let first : ◌≡◌ {A = ℕ} 109 115 = ap first_byte named in omega arith
crowded entries (Make seed clients lines) named entry has = out_of_range entries (codes "CLIENTS") (codes "17") 1 16 17 clients (omega arith) (omega arith) seventeen (λ low. omega arith) entry has.clients_are

pub many_clients_refused : ¬ IsTaken (codes "wp" ∷ codes "make" ∷ codes "7" ∷ codes "17" ∷ codes "1" ∷ [])
unfolding clap_on_literals
many_clients_refused = λ taken. crowded _ taken.0.action taken.1.entered.action refl taken.1.entered.numbers

pub no_lines_refused : ¬ IsTaken (codes "wp" ∷ codes "make" ∷ codes "7" ∷ codes "8" ∷ [])
unfolding clap_on_literals
no_lines_refused = λ taken. let missing : kind.MissingRequiredArgument ∷ [] ≡ [] = taken.1.accepted in cc

-- ---- copies

pub copy_alone : IsCopyChoice (codes "wp" ∷ codes "copy" ∷ []) (record { bits = 10; limit = MOST_LIMIT; id = 1 })
unfolding clap_on_literals
copy_alone = record { accepted = refl; entered = default_options _ 10 (default_bits _ refl) refl refl }

pub copy_not_run : ¬ IsTaken (codes "wp" ∷ codes "copy" ∷ [])
unfolding clap_on_literals
copy_not_run = λ taken. let unknown : kind.UnknownArgument ∷ kind.InvalidSubcommand ∷ [] ≡ [] = taken.1.accepted in cc

pub run_not_copy : ¬ IsCopyTaken (codes "wp" ∷ codes "run" ∷ [])
unfolding clap_on_literals
run_not_copy = λ taken. let unknown : kind.UnknownArgument ∷ kind.InvalidSubcommand ∷ [] ≡ [] = taken.1.accepted in cc

pub more_not_copy : ¬ IsCopyTaken (codes "wp" ∷ codes "copy" ∷ codes "x" ∷ [])
unfolding clap_on_literals
more_not_copy = λ taken. let unknown : kind.UnknownArgument ∷ [] ≡ [] = taken.1.accepted in cc

pub many_bits_not_copied : ¬ IsCopyTaken (codes "wp" ∷ codes "copy" ∷ codes "--bits" ∷ codes "17" ∷ [])
unfolding clap_on_literals
many_bits_not_copied = λ taken. out_of_range _ (codes "bits") (codes "17") 0 16 17 taken.0.bits (omega arith) (omega arith) seventeen (λ low. omega arith) refl taken.1.entered.bits
