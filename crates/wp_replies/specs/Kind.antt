-- What a reply says of the history: the one list of all replies that say something.
use Rattle.std.specs.Prelude.{ℕ, zero, suc, ◌-◌, ◌==◌, ◌&&◌, ◌||◌, Bool, true, false, nat_lt, List, [], ◌∷◌, ◌++◌, Option, Some, None, min, unwrap_or}
use Rattle.wp_text.specs.declared.script.Command.{Command}
use Rattle.wp_text.specs.declared.script.Command.TheVariants as command
use Rattle.wp_text.specs.declared.reply.Reply.{Reply}
use Rattle.wp_text.specs.declared.reply.Reply.TheVariants as reply

pub data Kind : Type 0 where
  Logged : (last count : ℕ) → Kind  -- it acknowledges so many entries of one record, and the last one has this number
  Published : ℕ → Kind  -- it was given over so many entries
  LogFault : Kind  -- the log's device failed
  Stopped : Kind  -- the log was stopped before
  Flushed : ℕ → Kind  -- one table more was installed, and this is the flushed number from then on
  Compacted : ℕ → ℕ → Kind  -- over so many entries all tables were merged, and so many versions are left
  Renewed : ℕ → Kind  -- another segment of the log was installed; this is its base, and the flushed number from then on
  TablesFault : Kind  -- the manifest's device or the tables' failed
  Halted : Kind  -- one of them had failed before
  Plain : Kind  -- it speaks of no entry

abbrev pub kind : Reply → Kind
kind (reply.Put n) = Logged n 1
kind (reply.Del n) = Logged n 1
kind (reply.Prepared n) = Logged n 1
kind (reply.Committed n) = Logged n 1
kind (reply.RolledBack n) = Logged n 2
kind (reply.Settled last count) = Logged last count
kind (reply.Got value n) = Published n
kind (reply.Missing n) = Published n
kind (reply.Rows pairs n) = Published n
kind (reply.Snapped n) = Published n
kind (reply.Pinned n) = Published n
kind (reply.Unknown name n) = Published n
kind (reply.Told n) = Published n
kind (reply.Heard n) = Published n
kind reply.FaultLog = LogFault
kind (reply.Stopped n) = Stopped
kind (reply.Flushed n versions) = Flushed n
kind (reply.Compacted n versions) = Compacted n versions
kind (reply.Renewed n carried) = Renewed n
kind reply.FaultTables = TablesFault
kind (reply.Halted flushed) = Halted
kind other = Plain

-- so many numbers in a row, of which this is the last one
abbrev pub numbers_to : (last count : ℕ) → List ℕ
numbers_to last zero = []
numbers_to last (suc count) = numbers_to (last - 1) count ++ last ∷ []

abbrev pub numbers_logged : Kind → List ℕ
numbers_logged (Logged last count) = numbers_to last count
numbers_logged other = []

-- the numbers of the entries that a reply acknowledges
abbrev pub acknowledged : Reply → List ℕ
acknowledged answer = numbers_logged (kind answer)

abbrev pub says_logged : Kind → Bool
says_logged (Logged last count) = true
says_logged other = false

-- it acknowledges entries
abbrev pub is_logged : Reply → Bool
is_logged answer = says_logged (kind answer)

abbrev pub says_log_fault : Kind → Bool
says_log_fault LogFault = true
says_log_fault other = false

-- the log's device failed at its command
abbrev pub is_fault : Reply → Bool
is_fault answer = says_log_fault (kind answer)

abbrev pub says_stopped : Kind → Bool
says_stopped Stopped = true
says_stopped other = false

-- the log was stopped before its command
abbrev pub is_stopped : Reply → Bool
is_stopped answer = says_stopped (kind answer)

abbrev pub says_installed : Kind → Bool
says_installed (Flushed n) = true
says_installed (Compacted n versions) = true
says_installed (Renewed n) = true
says_installed other = false

-- an edit of the tables was installed at its command
abbrev pub is_installed : Reply → Bool
is_installed answer = says_installed (kind answer)

abbrev pub says_flushed : ℕ → Kind → Bool
says_flushed n (Flushed flushed) = n == flushed
says_flushed n (Renewed flushed) = n == flushed
says_flushed n other = false

-- n is the flushed number from its command on
abbrev pub is_flushed : ℕ → Reply → Bool
is_flushed n answer = says_flushed n (kind answer)

abbrev pub says_based : ℕ → Kind → Bool
says_based n (Renewed base) = n == base
says_based n other = false

-- n is the base of the log from its command on
abbrev pub is_based : ℕ → Reply → Bool
is_based n answer = says_based n (kind answer)

abbrev pub says_renewed_between : (base n : ℕ) → Kind → Bool
says_renewed_between base n (Renewed at) = nat_lt base at && nat_lt at n
says_renewed_between base n other = false

-- the log was renewed at its command, at a number above the first one and below the second
abbrev pub is_renewed_between : (base n : ℕ) → Reply → Bool
is_renewed_between base n answer = says_renewed_between base n (kind answer)

abbrev pub says_renewed : Kind → Bool
says_renewed (Renewed n) = true
says_renewed other = false

-- another segment of the log was installed at its command
abbrev pub is_renewed : Reply → Bool
is_renewed answer = says_renewed (kind answer)

-- the log's device is called at its command
abbrev pub calls_log : Reply → Bool
calls_log answer = is_logged answer || is_renewed answer

abbrev pub says_compacted : Kind → Bool
says_compacted (Compacted n versions) = true
says_compacted other = false

-- all tables were merged at its command
abbrev pub is_compacted : Reply → Bool
is_compacted answer = says_compacted (kind answer)

abbrev pub says_tables_fault : Kind → Bool
says_tables_fault TablesFault = true
says_tables_fault other = false

-- the manifest's device or the tables' failed at its command
abbrev pub is_tables_fault : Reply → Bool
is_tables_fault answer = says_tables_fault (kind answer)

abbrev pub is_renewal : Command → Bool
is_renewal command.Renew = true
is_renewal other = false

abbrev pub says_stop : Bool → Kind → Bool
says_stop renewal LogFault = true
says_stop renewal TablesFault = renewal
says_stop renewal other = false

-- the log takes no more from the command on: its device failed there, or, in a renewal, one of the tables' two
abbrev pub stops_log : Command → Reply → Bool
stops_log command answer = says_stop (is_renewal command) (kind answer)

abbrev pub says_halted : Kind → Bool
says_halted Halted = true
says_halted other = false

-- one of them had failed before its command
abbrev pub is_halted : Reply → Bool
is_halted answer = says_halted (kind answer)

abbrev pub number_of_kind : Kind → Option ℕ
number_of_kind (Logged last count) = Some last
number_of_kind (Published n) = Some n
number_of_kind (Flushed n) = Some n
number_of_kind (Compacted n versions) = Some n
number_of_kind (Renewed n) = Some n
number_of_kind other = None

-- the number after the @ of a reply
abbrev pub number_in : Reply → Option ℕ
number_in answer = number_of_kind (kind answer)

-- the fresh number of a reply: that of a read or a scan at a snapshot is none
abbrev pub fresh_in : Command → Reply → Option ℕ
fresh_in (command.GetAt key label) answer = None
fresh_in (command.ScanAt from to label) answer = None
fresh_in other answer = number_in answer

-- the greatest fresh number after a reply
abbrev pub last_after : ℕ → Command → Reply → ℕ
last_after last command answer = unwrap_or (fresh_in command answer) last

abbrev pub tables_of_kind : ℕ → Kind → ℕ
tables_of_kind tables (Flushed n) = suc tables
tables_of_kind tables (Compacted n versions) = min versions 1
tables_of_kind tables other = tables

-- how many tables a client knows of after a reply
abbrev pub tables_after : ℕ → Reply → ℕ
tables_after tables answer = tables_of_kind tables (kind answer)

abbrev pub base_of_kind : ℕ → Kind → ℕ
base_of_kind base (Renewed n) = n
base_of_kind base other = base

-- the base of the log that a client knows of after a reply
abbrev pub base_after : ℕ → Reply → ℕ
base_after base answer = base_of_kind base (kind answer)
