-- The grammar of scripts: which bytes spell which parts.
use Rattle.std.specs.Prelude.{◌≡◌, ◌≢◌, ℕ, ◌≤◌, ◌==◌, Bool, true, not, ◌&&◌, List, [], ◌∷◌, length, map, nat_eq, nat_le, codes, Option, Some, None}
use Rattle.std.specs.List.{list_all, filter, filter_map, flat_map, slice_split, AllPairs, AllZip, starts_with}
use Rattle.wp_model.specs.Word.{is_key, is_name, is_value}
use Rattle.wp_text.specs.declared.line.Statement.{Statement}
use Rattle.wp_text.specs.declared.line.Statement.TheVariants as statement
use Rattle.wp_text.specs.declared.script.Command.{Command}
use Rattle.wp_text.specs.declared.script.Command.TheVariants as command
use Rattle.wp_text.specs.declared.script.Part.{Part}
use Rattle.wp_text.specs.declared.line.TheConstants.{MOST_LINE_BYTES}
use Rattle.wp_text.specs.declared.read.TheConstants.{MOST_BYTES, MOST_CLIENTS}
use Rattle.wp_text.specs.Names.{may_be_settled}

-- The lines of a script, without their ends. What follows the last end is a line too: where it is empty, it
-- says nothing.
abbrev pub lines_of : List ℕ → List (List ℕ)
lines_of bytes = slice_split (λ b. b == 0x0A) bytes

-- ---- a line

-- the space, or a printable byte of ASCII
abbrev pub is_line_byte : ℕ → Bool
is_line_byte b = nat_le 0x20 b && nat_le b 0x7E

-- the line has few enough bytes, all of them such
pub record IsText (line : List ℕ) : Type 0 where
  pub short : length line ≤ MOST_LINE_BYTES
  pub printable : list_all is_line_byte line ≡ true

-- the words of a line: what is between its spaces
abbrev pub words_of : List ℕ → List (List ℕ)
words_of line = filter (λ word. not (length word == 0)) (slice_split (λ b. b == 0x20) line)

-- a line of these words is passed over: there are none, or the first begins with a #
abbrev pub is_passed_over : List (List ℕ) → Bool
is_passed_over [] = true
is_passed_over (first ∷ others) = starts_with nat_eq first (codes "#")

-- the words that a command is written with
abbrev pub command_words : Command → List (List ℕ)
command_words (command.Put key value) = codes "put" ∷ key ∷ value ∷ []
command_words (command.Del key) = codes "del" ∷ key ∷ []
command_words (command.Get key) = codes "get" ∷ key ∷ []
command_words (command.GetAt key name) = codes "get" ∷ key ∷ codes "at" ∷ name ∷ []
command_words (command.Scan from to) = codes "scan" ∷ from ∷ to ∷ []
command_words (command.ScanAt from to name) = codes "scan" ∷ from ∷ to ∷ codes "at" ∷ name ∷ []
command_words (command.Snap name) = codes "snap" ∷ name ∷ []
command_words (command.Free name) = codes "free" ∷ name ∷ []
command_words (command.Begin name) = codes "begin" ∷ name ∷ []
command_words command.Pin = codes "pin" ∷ []
command_words (command.Lock key) = codes "lock" ∷ key ∷ []
command_words command.Prepare = codes "prepare" ∷ []
command_words command.Commit = codes "commit" ∷ []
command_words command.Rollback = codes "rollback" ∷ []
command_words command.Leave = codes "leave" ∷ []
command_words (command.Take name) = codes "take" ∷ name ∷ []
command_words (command.Settle names) = codes "settle" ∷ names
command_words command.Flush = codes "flush" ∷ []
command_words command.Compact = codes "compact" ∷ []
command_words command.Renew = codes "renew" ∷ []
command_words (command.Tell name) = codes "tell" ∷ name ∷ []
command_words (command.Hear name) = codes "hear" ∷ name ∷ []

-- the words that a statement is written with
abbrev pub statement_words : Statement → List (List ℕ)
statement_words (statement.Client name) = codes "client" ∷ name ∷ []
statement_words (statement.Command command) = command_words command

-- the statement has as many words as it may have
abbrev pub is_formed : Statement → Bool
is_formed (statement.Command (command.Settle names)) = may_be_settled names
is_formed other = true

-- the statement is written with these words
abbrev pub IsWrittenWith : Statement → List (List ℕ) → Type 0
IsWrittenWith statement words = (words ≡ statement_words statement) × (is_formed statement ≡ true)

-- the keys, values and names of a command are in range
abbrev pub is_command_in_range : Command → Bool
is_command_in_range (command.Put key value) = is_key key && is_value value
is_command_in_range (command.Del key) = is_key key
is_command_in_range (command.Get key) = is_key key
is_command_in_range (command.GetAt key name) = is_key key && is_name name
is_command_in_range (command.Scan from to) = is_key from && is_key to
is_command_in_range (command.ScanAt from to name) = (is_key from && is_key to) && is_name name
is_command_in_range (command.Snap name) = is_name name
is_command_in_range (command.Free name) = is_name name
is_command_in_range (command.Begin name) = is_name name
is_command_in_range command.Pin = true
is_command_in_range (command.Lock key) = is_key key
is_command_in_range command.Prepare = true
is_command_in_range command.Commit = true
is_command_in_range command.Rollback = true
is_command_in_range command.Leave = true
is_command_in_range (command.Take name) = is_name name
is_command_in_range (command.Settle names) = list_all is_name names
is_command_in_range command.Flush = true
is_command_in_range command.Compact = true
is_command_in_range command.Renew = true
is_command_in_range (command.Tell name) = is_name name
is_command_in_range (command.Hear name) = is_name name

abbrev pub is_in_range : Statement → Bool
is_in_range (statement.Client name) = is_name name
is_in_range (statement.Command command) = is_command_in_range command

-- What words say: nothing where their line is passed over, else the statement that is written with them.
abbrev pub Say : List (List ℕ) → Option Statement → Type 0
Say words None = is_passed_over words ≡ true
Say words (Some statement) = IsWrittenWith statement words × (is_in_range statement ≡ true)

-- The line is a text whose words say this.
pub record Means (line : List ℕ) (meaning : Option Statement) : Type 0 where
  pub text : IsText line
  pub words : Say (words_of line) meaning

-- ---- a script

-- the statements of a part: its client, then its commands
abbrev pub statements_of : Part → List Statement
statements_of part = statement.Client part.client ∷ map (λ c. statement.Command c) part.commands

abbrev pub clients : List Part → List (List ℕ)
clients parts = map (λ part. part.client) parts

-- The lines spell these parts: each line means nothing or a statement, and the statements are those of the parts, in
-- order. No client has two parts.
pub record Spell (lines : List (List ℕ)) (parts : List Part) : Type 0 where
  pub meanings : List (Option Statement)
  pub each : AllZip Means lines meanings
  pub statements : filter_map (λ meaning. meaning) meanings ≡ flat_map statements_of parts
  pub distinct : AllPairs ◌≢◌ (clients parts)
  pub few : length parts ≤ MOST_CLIENTS

-- The bytes are a script with these parts.
pub record IsScript (bytes : List ℕ) (parts : List Part) : Type 0 where
  pub short : length bytes ≤ MOST_BYTES
  pub lines : Spell (lines_of bytes) parts

-- the commands of all clients
abbrev pub commands_of : List Part → List Command
commands_of parts = flat_map (λ part. part.commands) parts
