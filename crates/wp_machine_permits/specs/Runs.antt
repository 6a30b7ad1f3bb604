-- What the one client does, as steps.
use Rattle.std.specs.Prelude.{ℕ, false, List, [], ◌∷◌, ◌++◌, codes}
use Rattle.std.specs.FinSet as set
use Rattle.wp_model.specs.declared.change.Change.{Change}
use Rattle.wp_model.specs.declared.change.Change.TheVariants.{Put, Del}
use Rattle.wp_model.specs.declared.entry.Entry.{Entry}
use Rattle.wp_model.specs.declared.entry.Entry.TheVariants.{Write, Prepare, Commit, Undo, Close}
use Rattle.wp_model.specs.declared.version.Version.{Version}
use Rattle.wp_model.specs.Flushed.{InstalledEdit, versions_under, first_segment}
use Rattle.wp_judge.specs.Words.{commit_pair}
use Rattle.wp_judge.specs.declared.observed.Load.TheVariants.{FirstWord, FirstMax, DelayedFlag, InPrepared, SecondWord, SecondMax, OldFlag, IsOldCommit}
use Rattle.wp_core.specs.Turns.{write_turn, prepared_turn, snapshots_turn, store_turn, locks_turn, tables_turn}
use Rattle.wp_core.specs.World.{Transaction}
use Rattle.wp_core.specs.Steps.{Step, begin_reading, load, store_published, store_max_evicted, store_word, store_delayed_flag, store_old_flag, take_turn, give_turn, make_pending, log_pending, add_prepared, take_out, add_old_commit, add_versions, move_versions, install, claim_name, free_transaction, lock_key, free_key, lock_direct, set_batch}
use Rattle.wp_core.specs.Steps as step

-- ---- the entries

-- the transaction t puts k, and the direct write puts d
abbrev pub t : List ℕ
t = codes "t"

abbrev pub k : List ℕ
k = codes "k"

abbrev pub d : List ℕ
d = codes "d"

abbrev pub batch : List Change
batch = Put k (codes "v") ∷ []

-- k had no value before
abbrev pub prior : List Change
prior = Del k ∷ []

abbrev pub direct : List Change
direct = Put d (codes "w") ∷ []

abbrev pub prepared : Entry
prepared = Prepare t batch

-- the transaction as it was claimed, with its key locked, and with its batch
abbrev pub claimed : Transaction
claimed = record { batch = []; locked = set.empty }

abbrev pub locked : Transaction
locked = record { batch = []; locked = set.insert set.empty k }

abbrev pub whole : Transaction
whole = record { batch = batch; locked = set.insert set.empty k }

-- once its key is freed
abbrev pub freed : Transaction
freed = record { batch = batch; locked = set.remove (set.insert set.empty k) k }

-- the versions of the prepare
abbrev pub memory : List Version
memory = versions_under 1 batch

-- ---- what writers do

-- t is prepared as 1
abbrev pub prepare : List Step
prepare =
    take_turn locks_turn ∷ claim_name t ∷ lock_key t claimed k ∷ give_turn locks_turn ∷ set_batch t locked batch
    ∷ take_turn write_turn ∷ make_pending (prepared ∷ [])
    ∷ take_turn prepared_turn ∷ add_prepared ∷ give_turn prepared_turn
    ∷ take_turn store_turn ∷ add_versions memory ∷ give_turn store_turn
    ∷ log_pending ∷ store_published prepared [] ∷ give_turn write_turn ∷ []

-- 1 leaves the prepared sets
abbrev pub clean_up : List Step
clean_up = take_turn prepared_turn ∷ take_out 1 ∷ give_turn prepared_turn ∷ []

-- 1 is committed by 2
abbrev pub commit : List Step
commit =
    take_turn write_turn ∷ make_pending (Commit 1 ∷ []) ∷ log_pending
    ∷ store_word (commit_pair 1 2) ∷ store_published (Commit 1) [] ∷ give_turn write_turn ∷ clean_up

-- 1 is undone by 2, and closed by 3, in one record
abbrev pub undo : List Step
undo =
    take_turn write_turn ∷ make_pending (Undo 1 prior ∷ Close 1 ∷ [])
    ∷ take_turn store_turn ∷ add_versions (versions_under 2 prior ++ memory) ∷ give_turn store_turn ∷ log_pending
    ∷ store_word (commit_pair 2 2) ∷ store_published (Undo 1 prior) (Close 1 ∷ [])
    ∷ store_word (commit_pair 1 3) ∷ store_published (Close 1) [] ∷ give_turn write_turn ∷ clean_up

-- t, which is decided, is let go
abbrev pub free : List Step
free = take_turn locks_turn ∷ free_key t whole k ∷ free_transaction t ∷ give_turn locks_turn ∷ []

-- The bound rises past 1, which is undecided: it becomes a delayed number, with the flag up before.
abbrev pub delay : List Step
delay =
    take_turn write_turn ∷ take_turn prepared_turn ∷ store_delayed_flag 1 ∷ store_max_evicted 1
    ∷ give_turn prepared_turn ∷ give_turn write_turn ∷ []

-- 3 is pending, after 1 was committed by 2. Its pair is to take the word of 1's, so the bound rises to 2.
abbrev pub write : List Step
write =
    take_turn locks_turn ∷ lock_direct d ∷ give_turn locks_turn
    ∷ take_turn write_turn ∷ make_pending (Write direct ∷ [])
    ∷ take_turn prepared_turn ∷ store_max_evicted 2 ∷ give_turn prepared_turn ∷ []

-- 1 is kept under the live number 1, with the flag up before
abbrev pub keep : List Step
keep = take_turn snapshots_turn ∷ store_old_flag 1 ∷ add_old_commit 1 1 ∷ give_turn snapshots_turn ∷ []

-- 3 is published
abbrev pub overwrite : List Step
overwrite =
    take_turn store_turn ∷ add_versions (versions_under 3 direct ++ memory) ∷ give_turn store_turn ∷ log_pending
    ∷ store_word (commit_pair 3 3) ∷ store_published (Write direct) [] ∷ give_turn write_turn ∷ []

-- the edit of a flush of what the first two entries left in memory
abbrev pub edit : InstalledEdit
edit = record { segment = first_segment; flushed = 2; versions = memory; tables = 1 }

abbrev pub flush : List Step
flush =
    take_turn tables_turn ∷ install edit false ∷ take_turn store_turn ∷ move_versions [] memory
    ∷ give_turn store_turn ∷ give_turn tables_turn ∷ []

-- ---- what readers do

-- the published number is registered
abbrev pub register : List Step
register = take_turn snapshots_turn ∷ step.register 1 ∷ give_turn snapshots_turn ∷ []

-- the version 1 is read at the snapshot with this number
abbrev pub look : ℕ → List Step
look n = begin_reading 1 1 (record { number = n; smallest = 1 }) ∷ load FirstWord ∷ []

-- the word has another's pair, or none
abbrev pub look_at_bound : List Step
look_at_bound = load FirstMax ∷ []

-- the flag is up
abbrev pub look_into_prepared : List Step
look_into_prepared = load DelayedFlag ∷ take_turn prepared_turn ∷ load InPrepared ∷ give_turn prepared_turn ∷ []

-- the flag is down
abbrev pub look_again : List Step
look_again = load DelayedFlag ∷ load SecondWord ∷ load SecondMax ∷ []

abbrev pub look_into_old_commits : List Step
look_into_old_commits = load OldFlag ∷ take_turn snapshots_turn ∷ load IsOldCommit ∷ give_turn snapshots_turn ∷ []
