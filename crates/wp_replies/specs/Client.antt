-- A client between two of its commands: its transaction, and its snapshots.
use Rattle.std.specs.Prelude.{ℕ, ◌+◌, ◌≤◌, Bool, ◌&&◌, not, nat_le, List, [], ◌∷◌, ◌++◌, length, map, Option, Some, None}
use Rattle.std.specs.List.{filter, find}
use Rattle.std.specs.Option.{option_map}
use Rattle.std.specs.Str.{bytes_eq}
use Rattle.wp_model.specs.declared.batch.TheConstants.{MOST_KEYS}
use Rattle.wp_model.specs.declared.change.Change.{Change}
use Rattle.wp_model.specs.declared.entry.Entry.{Entry}
use Rattle.wp_model.specs.History.{batch_at}
use Rattle.wp_replies.specs.declared.client.LabelledSnapshot.{LabelledSnapshot}
use Rattle.wp_replies.specs.Txn.{Txn, Staged, Idle, Open, Prepared, is_its_key}

pub record Client : Type 0 where
  pub txn : Txn
  pub snapshots : List LabelledSnapshot

-- as each session begins
abbrev pub new_client : Client
new_client = record { txn = Idle; snapshots = [] }

-- the number of the snapshot with that label
abbrev pub number_of : List LabelledSnapshot → List ℕ → Option ℕ
number_of snapshots label = option_map (λ s. s.number) (find (λ s. bytes_eq s.label label) snapshots)

-- the number, if there is one
abbrev pub number_if : Option ℕ → List ℕ
number_if None = []
number_if (Some n) = n ∷ []

-- the numbers of the snapshots
abbrev pub numbers_of : List LabelledSnapshot → List ℕ
numbers_of snapshots = map (λ s. s.number) snapshots

-- the number of its transaction's pin
abbrev pub pins_of : Txn → List ℕ
pins_of (Open own) = number_if own.pin
pins_of other = []

-- the numbers that are live for the client, those of its snapshots and its pin: a compaction keeps what is shown there
abbrev pub live_of : Client → List ℕ
live_of client = numbers_of client.snapshots ++ pins_of client.txn

-- the snapshots but the one with that label
abbrev pub without_label : List LabelledSnapshot → List ℕ → List LabelledSnapshot
without_label snapshots label = filter (λ s. not (bytes_eq s.label label)) snapshots

-- what the client's own transaction has changed so far
abbrev pub own_batch : List Entry → Txn → List Change
own_batch history Idle = []
own_batch history (Open own) = own.batch
own_batch history (Prepared p) = batch_at history p

-- the open transaction has as many keys as it may have, and this is none of them
abbrev pub has_no_room : Staged → List ℕ → Bool
has_no_room own key = nat_le MOST_KEYS (length own.batch + length own.locked) && not (is_its_key own key)

-- each number is one of the history's
abbrev pub AreWithin : ℕ → List LabelledSnapshot → Type 0
AreWithin published [] = Unit {0}
AreWithin published (first ∷ others) = (first.number ≤ published) × AreWithin published others
