-- The lines of a transcript.
use Rattle.std.specs.Prelude.{ℕ, ◌+◌, List, [], ◌∷◌, ◌++◌, codes, decimal}
use Rattle.std.specs.List.{flat_map}
use Rattle.wp_model.specs.declared.carried.Carried.{Carried}
use Rattle.wp_model.specs.declared.change.Change.{Change}
use Rattle.wp_model.specs.declared.change.Change.TheVariants as change
use Rattle.wp_model.specs.declared.entry.Entry.{Entry}
use Rattle.wp_model.specs.declared.entry.Entry.TheVariants as entry
use Rattle.wp_model.specs.declared.holder.Holder.{Holder}
use Rattle.wp_model.specs.declared.holder.Holder.TheVariants as holder
use Rattle.wp_model.specs.Rows.{Pair}
use Rattle.wp_text.specs.declared.reply.Reply.{Reply}
use Rattle.wp_text.specs.declared.reply.Reply.TheVariants as reply

-- the end of a line
abbrev pub line_end : List ℕ
line_end = 10 ∷ []

-- a number after its mark
abbrev pub numbered : ℕ → List ℕ
numbered n = codes "@" ++ decimal n

-- the line that begins a client's part
abbrev pub client_line : List ℕ → List ℕ
client_line name = codes "client " ++ name ++ line_end

-- ---- replies

-- who holds a key
abbrev pub holder_words : Holder → List ℕ
holder_words (holder.Txn name) = codes "txn " ++ name
holder_words (holder.Client name) = codes "client " ++ name

-- a key with its value, after what comes before it in its line
abbrev pub row_words : Pair → List ℕ
row_words pair = codes " " ++ pair.0 ++ codes " " ++ pair.1

abbrev pub rows_words : List Pair → List ℕ
rows_words pairs = flat_map row_words pairs

abbrev pub reply_words : Reply → List ℕ
reply_words (reply.Put n) = codes "put " ++ numbered n
reply_words (reply.Del n) = codes "del " ++ numbered n
reply_words reply.Held = codes "held"
reply_words (reply.Got value n) = codes "get " ++ value ++ codes " " ++ numbered n
reply_words (reply.Missing n) = codes "missing " ++ numbered n
reply_words (reply.GotOwn value) = codes "get " ++ value ++ codes " own"
reply_words reply.MissingOwn = codes "missing own"
reply_words (reply.Rows pairs n) = codes "rows " ++ numbered n ++ rows_words pairs
reply_words (reply.Pinned n) = codes "pinned " ++ numbered n
reply_words (reply.Snapped n) = codes "snap " ++ numbered n
reply_words reply.Freed = codes "freed"
reply_words reply.Begun = codes "begun"
reply_words (reply.Prepared n) = codes "prepare " ++ numbered n
reply_words (reply.Committed n) = codes "commit " ++ numbered n
reply_words reply.Dropped = codes "dropped"
reply_words (reply.RolledBack n) = codes "rollback " ++ numbered n
reply_words reply.Left = codes "left"
reply_words reply.Took = codes "took"
reply_words (reply.Settled last count) = codes "settled " ++ numbered last ++ codes " " ++ decimal count
reply_words (reply.Crowded first second) = codes "crowded " ++ decimal first ++ codes " " ++ decimal second
reply_words (reply.Told n) = codes "told " ++ numbered n
reply_words (reply.Heard n) = codes "heard " ++ numbered n
reply_words reply.State = codes "state"
reply_words (reply.Taken name) = codes "taken " ++ name
reply_words reply.TooMany = codes "toomany"
reply_words (reply.Busy holder) = codes "busy " ++ holder_words holder
reply_words (reply.Conflict n) = codes "conflict " ++ decimal n
reply_words (reply.Unknown name at) = codes "unknown " ++ name ++ codes " " ++ numbered at
reply_words (reply.InUse name) = codes "inuse " ++ name
reply_words (reply.UnknownSnapshot name) = codes "unknown " ++ name
reply_words (reply.Silent label) = codes "silent " ++ label
reply_words (reply.Full published limit) = codes "full " ++ decimal published ++ codes " " ++ decimal limit
reply_words reply.FaultLog = codes "fault log"
reply_words (reply.Stopped published) = codes "stopped " ++ decimal published
reply_words (reply.Flushed at versions) = codes "flushed " ++ numbered at ++ codes " " ++ decimal versions
reply_words (reply.Compacted at versions) = codes "compacted " ++ numbered at ++ codes " " ++ decimal versions
reply_words (reply.Renewed at carried) = codes "renewed " ++ numbered at ++ codes " " ++ decimal carried
reply_words reply.Nothing = codes "nothing"
reply_words (reply.Halted flushed) = codes "halted " ++ decimal flushed
reply_words reply.FaultTables = codes "fault tables"

abbrev pub reply_line : Reply → List ℕ
reply_line reply = reply_words reply ++ line_end

-- ---- the history

-- a change after what comes before it in its line
abbrev pub change_words : Change → List ℕ
change_words (change.Put key value) = codes " put " ++ key ++ codes " " ++ value
change_words (change.Del key) = codes " del " ++ key

abbrev pub changes_words : List Change → List ℕ
changes_words changes = flat_map change_words changes

-- a prepare after its number
abbrev pub prepare_words : List ℕ → List Change → List ℕ
prepare_words name batch = codes " prepare " ++ name ++ changes_words batch

-- an entry after its number
abbrev pub entry_words : Entry → List ℕ
entry_words (entry.Write batch) = codes " write" ++ changes_words batch
entry_words (entry.Prepare name batch) = prepare_words name batch
entry_words (entry.Commit p) = codes " commit " ++ decimal p
entry_words (entry.Undo p batch) = codes " undo " ++ decimal p ++ changes_words batch
entry_words (entry.Close p) = codes " close " ++ decimal p

-- the line of the n-th entry
abbrev pub entry_line : ℕ → Entry → List ℕ
entry_line n entry = decimal n ++ entry_words entry ++ line_end

-- the lines of the entries, of which the first has this number
abbrev pub entry_lines : ℕ → List Entry → List ℕ
entry_lines n [] = []
entry_lines n (entry ∷ entries) = entry_line n entry ++ entry_lines (n + 1) entries

-- ---- a history's base

-- the number behind which the entries follow
abbrev pub base_line : ℕ → List ℕ
base_line base = codes "base " ++ decimal base ++ line_end

-- a key with the value that it has at the base
abbrev pub has_line : List ℕ × List ℕ → List ℕ
has_line pair = codes "has " ++ pair.0 ++ codes " " ++ pair.1 ++ line_end

-- a prepare that was undecided there
abbrev pub carried_line : Carried → List ℕ
carried_line x = decimal x.number ++ prepare_words x.name x.batch ++ line_end

-- the lines of a base, of the keys that have a value there, in order, and of the prepares that were undecided
abbrev pub base_lines : ℕ → List (List ℕ × List ℕ) → List Carried → List ℕ
base_lines base store carried = base_line base ++ flat_map has_line store ++ flat_map carried_line carried

-- ---- the end

-- how many entries there are, and how many prepares are undecided
abbrev pub end_line : ℕ → ℕ → List ℕ
end_line published undecided = codes "end " ++ decimal published ++ codes " " ++ decimal undecided ++ line_end
