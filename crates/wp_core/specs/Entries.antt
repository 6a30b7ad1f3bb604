-- What an entry that comes next is about: its versions, its pair, its keys, its transaction.
use Rattle.std.specs.Prelude.{◌≡◌, ℕ, suc, ◌==◌, List, [], ◌∷◌, ◌++◌, length, Option, Some, None, unwrap_or, if◌then◌else◌}
use Rattle.std.specs.List.{cons_option}
use Rattle.wp_model.specs.declared.change.Change.{Change}
use Rattle.wp_model.specs.declared.entry.Entry.{Entry}
use Rattle.wp_model.specs.declared.entry.Entry.TheVariants.{Write, Prepare, Commit, Undo, Close}
use Rattle.wp_model.specs.History.{batch_at, name_at, named}
use Rattle.wp_model.specs.Decision.{version_in}
use Rattle.wp_model.specs.declared.version.Version.{Version}
use Rattle.wp_model.specs.Versions.{version_at}
use Rattle.wp_judge.specs.Words.{CommitPair, commit_pair}

-- the entry with this number decides a version: its own, or that of the prepare that it names
abbrev pub pair_by : ℕ → Entry → Option CommitPair
pair_by n (Write batch) = Some (commit_pair n n)
pair_by n (Undo p batch) = Some (commit_pair n n)
pair_by n (Commit p) = Some (commit_pair p n)
pair_by n (Close p) = Some (commit_pair p n)
pair_by n (Prepare name batch) = None

-- the first of the pending entries
abbrev pub next_of : List Entry → Option Entry
next_of [] = None
next_of (entry ∷ others) = Some entry

-- the history with the first of the pending entries
abbrev pub extended : List Entry → List Entry → List Entry
extended history [] = history
extended history (entry ∷ others) = history ++ entry ∷ []

abbrev pub pending_pair : List Entry → List Entry → Option CommitPair
pending_pair history [] = None
pending_pair history (entry ∷ others) = pair_by (suc (length history)) entry

-- all pairs that these entries decide, of which the first has this number
abbrev pub pairs_of : ℕ → List Entry → List CommitPair
pairs_of n [] = []
pairs_of n (entry ∷ others) = cons_option (pair_by n entry) (pairs_of (suc n) others)

-- the transaction that an entry is of, if it is of one
abbrev pub transaction_of : List Entry → Entry → Option (List ℕ)
transaction_of history (Write batch) = None
transaction_of history (Prepare name batch) = Some name
transaction_of history (Commit p) = Some (name_at history p)
transaction_of history (Undo p batch) = Some (name_at history p)
transaction_of history (Close p) = Some (name_at history p)

-- the changes of a Write, which is of no transaction
abbrev pub written : Entry → List Change
written (Write batch) = batch
written other = []

-- the changes whose keys an entry needs
abbrev pub changes_under : List Entry → Entry → List Change
changes_under history (Write batch) = batch
changes_under history (Prepare name batch) = batch
changes_under history (Commit p) = batch_at history p
changes_under history (Undo p batch) = batch
changes_under history (Close p) = batch_at history p

-- the batch of the undecided prepare of this name, or of none
abbrev pub batch_of_name : List Entry → List ℕ → List Change
batch_of_name history name = batch_at history (unwrap_or (named history name) 0)

-- the versions of a list, with those of an entry as its only ones under this number
abbrev pub HasVersionsAt : Option Entry → ℕ → List Version → List Version → Type 0
HasVersionsAt entry n before after = (key : List ℕ) (p : ℕ) → version_at after key p ≡ (if p == n then version_in entry key else version_at before key p)
