-- How a script is read, line by line: each step gives a value, or the first fault. The reader's own functions say in
-- these words what they return; what a script and its first fault are is said apart from them.
use Rattle.std.specs.Prelude.{ℕ, ◌+◌, Bool, ◌&&◌, List, [], ◌∷◌, ◌++◌, length, nat_lt, codes, Option, Some, None, Result, Ok, Err, if◌then◌else◌}
use Rattle.std.specs.List.{list_all, find, list_any}
use Rattle.std.specs.Str.{bytes_eq}
use Rattle.wp_model.specs.declared.word.TheConstants.{MOST_KEY_BYTES, MOST_NAME_BYTES, MOST_VALUE_BYTES}
use Rattle.wp_model.specs.Word.{is_word, is_name}
use Rattle.wp_model.specs.declared.word.WordError.{WordError}
use Rattle.wp_model.specs.declared.word.WordError.TheVariants as word_errors
use Rattle.wp_fields.specs.Reading.{◌>>=◌, map_err}
use Rattle.wp_text.specs.declared.fault.LineError.{LineError}
use Rattle.wp_text.specs.declared.fault.LineError.TheVariants as errors
use Rattle.wp_text.specs.declared.fault.Why.{Why}
use Rattle.wp_text.specs.declared.fault.Why.TheVariants.{TooLong, LineLong, BadByte, BadCommand, BadWord, NoClient, ClientTwice, ManyClients}
use Rattle.wp_text.specs.declared.fault.Fault.{Fault}
use Rattle.wp_text.specs.declared.fault.ScriptError.{ScriptError}
use Rattle.wp_text.specs.declared.fault.ScriptError.TheVariants as script
use Rattle.wp_text.specs.declared.keyword.Bare.{Bare}
use Rattle.wp_text.specs.declared.keyword.Bare.TheVariants as bare
use Rattle.wp_text.specs.declared.keyword.Keyword.{Keyword}
use Rattle.wp_text.specs.declared.keyword.Keyword.TheVariants as keyword
use Rattle.wp_text.specs.declared.keyword.Named.{Named}
use Rattle.wp_text.specs.declared.keyword.Named.TheVariants as named
use Rattle.wp_text.specs.declared.keyword.TheConstants.{KEYWORDS}
use Rattle.wp_text.specs.declared.line.Statement.{Statement}
use Rattle.wp_text.specs.declared.line.Statement.TheVariants as statement
use Rattle.wp_text.specs.declared.script.Command.{Command}
use Rattle.wp_text.specs.declared.script.Command.TheVariants as command
use Rattle.wp_text.specs.declared.script.Part.{Part}
use Rattle.wp_text.specs.declared.line.TheConstants.{MOST_LINE_BYTES}
use Rattle.wp_text.specs.declared.read.TheConstants.{MOST_BYTES, MOST_CLIENTS}
use Rattle.wp_text.specs.Names.{may_be_settled}
use Rattle.wp_text.specs.Grammar.{lines_of, is_line_byte, words_of, is_passed_over}

-- ---- words

-- the word that begins a statement: one with a name, one with no word, or another
abbrev pub named_text : Named → List ℕ
named_text named.Client = codes "client"
named_text named.Snap = codes "snap"
named_text named.Free = codes "free"
named_text named.Begin = codes "begin"
named_text named.Take = codes "take"
named_text named.Tell = codes "tell"
named_text named.Hear = codes "hear"

abbrev pub bare_text : Bare → List ℕ
bare_text bare.Pin = codes "pin"
bare_text bare.Prepare = codes "prepare"
bare_text bare.Commit = codes "commit"
bare_text bare.Rollback = codes "rollback"
bare_text bare.Leave = codes "leave"
bare_text bare.Flush = codes "flush"
bare_text bare.Compact = codes "compact"
bare_text bare.Renew = codes "renew"

abbrev pub keyword_text : Keyword → List ℕ
keyword_text (keyword.Named word) = named_text word
keyword_text (keyword.Bare word) = bare_text word
keyword_text keyword.Put = codes "put"
keyword_text keyword.Del = codes "del"
keyword_text keyword.Get = codes "get"
keyword_text keyword.Scan = codes "scan"
keyword_text keyword.Lock = codes "lock"
keyword_text keyword.Settle = codes "settle"

unfoldable pub keyword_named : List ℕ → Option Keyword
keyword_named word = find (λ keyword. bytes_eq (keyword_text keyword) word) KEYWORDS

-- one word, of at most so many bytes
unfoldable pub one_word : ℕ → List (List ℕ) → Result (List ℕ) Why
one_word most (word ∷ []) = if is_word most word then Ok word else Err BadWord
one_word most _ = Err BadCommand

-- two words, of at most so many bytes each
unfoldable pub two_words : ℕ → ℕ → List (List ℕ) → Result (List ℕ × List ℕ) Why
two_words most_first most_second (first ∷ second ∷ []) = if is_word most_first first && is_word most_second second then Ok (first, second) else Err BadWord
two_words most_first most_second _ = Err BadCommand

-- the command, where it has no words of its own
unfoldable pub alone : Command → List (List ℕ) → Result Statement Why
alone command [] = Ok (statement.Command command)
alone command (word ∷ words) = Err BadCommand

-- what reads a key: at a snapshot, or as it is now
unfoldable pub get_with : List (List ℕ) → Result Statement Why
get_with (key ∷ at ∷ name ∷ []) = if bytes_eq at (codes "at") then (two_words MOST_KEY_BYTES MOST_NAME_BYTES (key ∷ name ∷ []) >>= λ both. Ok (statement.Command (command.GetAt both.0 both.1))) else Err BadCommand
get_with words = one_word MOST_KEY_BYTES words >>= λ key. Ok (statement.Command (command.Get key))

-- what reads a range of keys: at a snapshot, or as it is now
unfoldable pub scan_with : List (List ℕ) → Result Statement Why
scan_with (from ∷ to ∷ at ∷ name ∷ []) =
    if bytes_eq at (codes "at")
    then (two_words MOST_KEY_BYTES MOST_KEY_BYTES (from ∷ to ∷ []) >>= λ both. one_word MOST_NAME_BYTES (name ∷ []) >>= λ label. Ok (statement.Command (command.ScanAt both.0 both.1 label)))
    else Err BadCommand
scan_with words = two_words MOST_KEY_BYTES MOST_KEY_BYTES words >>= λ both. Ok (statement.Command (command.Scan both.0 both.1))

-- the words as names
unfoldable pub names_of : List (List ℕ) → Result (List (List ℕ)) Why
names_of words = if list_all is_name words then Ok words else Err BadWord

-- the names that one command settles
unfoldable pub settled_names : List (List ℕ) → Result (List (List ℕ)) Why
settled_names words = if may_be_settled words then names_of words else Err BadCommand

-- what is said of a name
abbrev pub said_of : Named → List ℕ → Statement
said_of named.Client name = statement.Client name
said_of named.Snap name = statement.Command (command.Snap name)
said_of named.Free name = statement.Command (command.Free name)
said_of named.Begin name = statement.Command (command.Begin name)
said_of named.Take name = statement.Command (command.Take name)
said_of named.Tell name = statement.Command (command.Tell name)
said_of named.Hear name = statement.Command (command.Hear name)

-- the command of one word
abbrev pub bare_command : Bare → Command
bare_command bare.Pin = command.Pin
bare_command bare.Prepare = command.Prepare
bare_command bare.Commit = command.Commit
bare_command bare.Rollback = command.Rollback
bare_command bare.Leave = command.Leave
bare_command bare.Flush = command.Flush
bare_command bare.Compact = command.Compact
bare_command bare.Renew = command.Renew

-- the statement with these words after its keyword
unfoldable pub statement_with : Keyword → List (List ℕ) → Result Statement Why
statement_with (keyword.Named word) words = do
  name ← one_word MOST_NAME_BYTES words
  Ok (said_of word name)
statement_with (keyword.Bare word) words = alone (bare_command word) words
statement_with keyword.Put words = do
  both ← two_words MOST_KEY_BYTES MOST_VALUE_BYTES words
  Ok (statement.Command (command.Put both.0 both.1))
statement_with keyword.Del words = do
  key ← one_word MOST_KEY_BYTES words
  Ok (statement.Command (command.Del key))
statement_with keyword.Get words = get_with words
statement_with keyword.Scan words = scan_with words
statement_with keyword.Lock words = do
  key ← one_word MOST_KEY_BYTES words
  Ok (statement.Command (command.Lock key))
statement_with keyword.Settle words = do
  names ← settled_names words
  Ok (statement.Command (command.Settle names))

-- the same where the first word names a keyword
unfoldable pub statement_named : Option Keyword → List (List ℕ) → Result (Option Statement) Why
statement_named None words = Err BadCommand
statement_named (Some keyword) words = do
  statement ← statement_with keyword words
  Ok (Some statement)

-- what all words of a line say
unfoldable pub statement_of : List (List ℕ) → Result (Option Statement) Why
statement_of [] = Ok None
statement_of (first ∷ others) = if is_passed_over (first ∷ others) then Ok None else statement_named (keyword_named first) others

-- ---- lines

-- what the line says
unfoldable pub line_of : List ℕ → Result (Option Statement) Why
line_of line = if nat_lt MOST_LINE_BYTES (length line) then Err LineLong else (if list_all is_line_byte line then statement_of (words_of line) else Err BadByte)

-- the client has a part already
abbrev pub has_client : List Part → List ℕ → Bool
has_client parts name = list_any (λ part. bytes_eq name part.client) parts

-- the parts with one more, of this client
unfoldable pub with_client : List Part → List ℕ → Result (List Part) Why
with_client parts name = if has_client parts name then Err ClientTwice else (if nat_lt (length parts) MOST_CLIENTS then Ok (parts ++ record { client = name; commands = [] } ∷ []) else Err ManyClients)

-- the parts with the command at the end of the last one
unfoldable pub with_command : List Part → Command → Result (List Part) Why
with_command [] command = Err NoClient
with_command (part ∷ []) command = Ok (record part { commands = part.commands ++ command ∷ [] } ∷ [])
with_command (part ∷ second ∷ others) command = do
  rest ← with_command (second ∷ others) command
  Ok (part ∷ rest)

-- the parts with what a statement adds, or a line
unfoldable pub with_statement : List Part → Statement → Result (List Part) Why
with_statement parts (statement.Client name) = with_client parts name
with_statement parts (statement.Command command) = with_command parts command

unfoldable pub with_meaning : List Part → Option Statement → Result (List Part) Why
with_meaning parts None = Ok parts
with_meaning parts (Some statement) = with_statement parts statement

unfoldable pub with_line : List Part → List ℕ → Result (List Part) Why
with_line parts line = do
  meaning ← line_of line
  with_meaning parts meaning

-- ---- a script

-- what is wrong, as a fault of this line
abbrev pub fault_in : ℕ → Why → Fault
fault_in line why = record { line = line; why = why }

-- the parts with what the lines add, where so many lines come before them
unfoldable pub with_lines : ℕ → List Part → List (List ℕ) → Result (List Part) Fault
with_lines before parts [] = Ok parts
with_lines before parts (line ∷ lines) = do
  now ← map_err (fault_in (before + 1)) (with_line parts line)
  with_lines (before + 1) now lines

-- what the bytes are read as
unfoldable pub script_of : List ℕ → Result (List Part) Fault
script_of bytes = if nat_lt MOST_BYTES (length bytes) then Err (fault_in 0 TooLong) else with_lines 0 [] (lines_of bytes)

-- ---- errors, from one type to the next

abbrev pub script_error : ℕ → LineError → ScriptError
script_error line errors.Memory = script.Memory
script_error line (errors.Wrong why) = script.Fault (fault_in line why)

abbrev pub error_of_word : WordError → LineError
error_of_word word_errors.Memory = errors.Memory
error_of_word word_errors.BadWord = errors.Wrong BadWord

-- what is wrong, where an error is more than want of memory
abbrev pub line_fault : LineError → Option Why
line_fault errors.Memory = None
line_fault (errors.Wrong why) = Some why

abbrev pub script_fault : ScriptError → Option Fault
script_fault script.Memory = None
script_fault (script.Fault fault) = Some fault
