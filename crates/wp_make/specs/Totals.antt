-- What is counted of a run.
use Rattle.std.specs.Prelude.{ℕ, ◌+◌, Bool, true, false, List, length, count_by}
use Rattle.std.specs.FinMap as finite
use Rattle.std.specs.List.{sum_by}
use Rattle.wp_model.specs.declared.entry.Entry.{Entry}
use Rattle.wp_model.specs.Rows.{Pair, stored}
use Rattle.wp_text.specs.declared.reply.Reply.{Reply}
use Rattle.wp_text.specs.declared.reply.Reply.TheVariants as reply
use Rattle.wp_make.specs.declared.kind.Kind.{Kind}
use Rattle.wp_make.specs.declared.kind.Kind.TheVariants as kind
use Rattle.wp_make.specs.declared.sizes.Sizes.{Sizes}

-- ---- replies

-- a refusal is of no kind
abbrev pub is_of : Kind → Reply → Bool
is_of kind.Puts (reply.Put n) = true
is_of kind.Puts (reply.Del n) = true
is_of kind.Commits (reply.Committed n) = true
is_of kind.RollBacks (reply.RolledBack n) = true
is_of kind.Gets (reply.Got value n) = true
is_of kind.Gets (reply.GotOwn value) = true
is_of kind.Missing (reply.Missing n) = true
is_of kind.Missing reply.MissingOwn = true
is_of kind other = false

-- how many of all clients' replies are of the kind
abbrev pub count_of : Kind → List (List Reply) → ℕ
count_of kind sessions = sum_by (count_by (is_of kind)) sessions

-- ---- the store

-- how long a key and its value are together
abbrev pub size_of : Pair → ℕ
size_of row = length row.0 + length row.1

-- how many keys the history's last state holds, and how long they and their values are together
abbrev pub store_of : List Entry → Sizes
store_of history = record { keys = finite.len (stored history); bytes = sum_by size_of (finite.entries (stored history)) }
