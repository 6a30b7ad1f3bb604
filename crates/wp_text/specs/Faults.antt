-- The first fault of a script.
use Rattle.std.specs.Prelude.{◌≡◌, ℕ, zero, suc, ◌<◌, ◌≤◌, false, List, [], ◌∷◌, ◌++◌, length, Some, ◌⊎◌}
use Rattle.std.specs.List.{list_all, Contains}
use Rattle.wp_text.specs.declared.fault.Fault.{Fault}
use Rattle.wp_text.specs.declared.fault.ScriptError.{ScriptError}
use Rattle.wp_text.specs.declared.fault.ScriptError.TheVariants as errors
use Rattle.wp_text.specs.declared.fault.Why.{Why}
use Rattle.wp_text.specs.declared.fault.Why.TheVariants.{TooLong, LineLong, BadByte, BadCommand, BadWord, NoClient, ClientTwice, ManyClients}
use Rattle.wp_text.specs.declared.line.Statement.{Statement}
use Rattle.wp_text.specs.declared.line.Statement.TheVariants as statement
use Rattle.wp_text.specs.declared.script.Part.{Part}
use Rattle.wp_text.specs.declared.line.TheConstants.{MOST_LINE_BYTES}
use Rattle.wp_text.specs.declared.read.TheConstants.{MOST_BYTES, MOST_CLIENTS}
use Rattle.wp_text.specs.Grammar.{lines_of, is_line_byte, IsText, words_of, is_passed_over, IsWrittenWith, is_in_range, Means, clients, Spell, IsScript}

-- ---- a line by itself

-- no statement is written with these words, whatever its keys, values and names
abbrev pub IsNoStatement : List (List ℕ) → Type 0
IsNoStatement words = (statement : Statement) → IsWrittenWith statement words → ⊥

-- a statement is written with these words, but one of its keys, values and names is out of range
pub record IsOutOfRange (words : List (List ℕ)) : Type 0 where
  pub statement : Statement
  pub written : IsWrittenWith statement words
  pub range : is_in_range statement ≡ false

-- what is wrong with the words of a line
abbrev pub AreWrong : List (List ℕ) → Why → Type 0
AreWrong words BadCommand = IsNoStatement words
AreWrong words BadWord = IsOutOfRange words
AreWrong words why = ⊥

-- What is wrong with a line, wherever it is. The order in which the reasons are named is that of these cases.
abbrev pub IsWrong : List ℕ → Why → Type 0
IsWrong line LineLong = MOST_LINE_BYTES < length line
IsWrong line BadByte = (length line ≤ MOST_LINE_BYTES) × (list_all is_line_byte line ≡ false)
IsWrong line why = IsText line × (is_passed_over (words_of line) ≡ false) × AreWrong (words_of line) why

-- ---- a line after others

-- What is wrong with a statement after these parts. A client that has a part already is named before the number of
-- clients.
abbrev pub IsMisplaced : List Part → Statement → Why → Type 0
IsMisplaced parts (statement.Command command) NoClient = parts ≡ []
IsMisplaced parts (statement.Client name) ClientTwice = Contains (clients parts) name
IsMisplaced parts (statement.Client name) ManyClients = (Contains (clients parts) name → ⊥) × (length parts ≡ MOST_CLIENTS)
IsMisplaced parts statement why = ⊥

-- The line is wrong by itself, or it says a statement that is misplaced.
abbrev pub IsWrongAfter : List Part → List ℕ → Why → Type 0
IsWrongAfter parts line why = IsWrong line why ⊎ ((statement : Statement) × Means line (Some statement) × IsMisplaced parts statement why)

-- The lines before this one spell parts, and it is wrong after them.
pub record IsFirstWrong (lines : List (List ℕ)) (before : List (List ℕ)) (why : Why) : Type 0 where
  pub line : List ℕ
  pub after : List (List ℕ)
  pub place : lines ≡ before ++ line ∷ after
  pub parts : List Part
  pub spelled : Spell before parts
  pub wrong : IsWrongAfter parts line why

-- The first fault of the bytes: line 0 means them as a whole, the others are counted from 1.
abbrev pub IsFault : List ℕ → ℕ → Why → Type 0
IsFault bytes zero why = (MOST_BYTES < length bytes) × (why ≡ TooLong)
IsFault bytes (suc n) why = (length bytes ≤ MOST_BYTES) × ((before : List (List ℕ)) × (length before ≡ n) × IsFirstWrong (lines_of bytes) before why)

-- what an error says of the bytes
abbrev pub IsErrorOf : List ℕ → ScriptError → Type 0
IsErrorOf bytes errors.Memory = Unit {0}
IsErrorOf bytes (errors.Fault fault) = IsFault bytes fault.line fault.why

-- ---- what the definitions say of each other

-- The bytes are a script with one list of parts, or have one fault, and not both.
pub record HasOneReading (bytes : List ℕ) : Type 0 where
  pub one_script : (first second : List Part) → IsScript bytes first → IsScript bytes second → first ≡ second
  pub one_fault : (first second : Fault) → IsFault bytes first.line first.why → IsFault bytes second.line second.why → first ≡ second
  pub not_both : (parts : List Part) (fault : Fault) → IsScript bytes parts → IsFault bytes fault.line fault.why → ⊥
  pub either : ((parts : List Part) × IsScript bytes parts) ⊎ ((fault : Fault) × IsFault bytes fault.line fault.why)
