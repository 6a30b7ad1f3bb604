-- What the steps of these calls make of the seat's actor, which holds the locks turn with this state.
use Rattle.std.specs.Prelude.{ℕ, List, [], ◌∷◌, length, Option, Some, None, unwrap_or}
use Rattle.std.specs.FinSet as set
use Rattle.std.specs.FinMap as finite
use Rattle.wp_model.specs.LockState.{LockState}
use Rattle.wp_model.specs.declared.change.Change.{Change}
use Rattle.wp_model.specs.declared.entry.Entry.{Entry}
use Rattle.wp_model.specs.declared.holder.Holder.{Holder}
use Rattle.wp_model.specs.declared.holder.Holder.TheVariants.{Txn, Client}
use Rattle.wp_model.specs.History.{batch_at, named}
use Rattle.wp_shared.specs.Notes.{with_note}
use Rattle.wp_core.specs.States.{locks}
use Rattle.wp_core.specs.Views.{claimed, took, locked, told, heard, found, stopped, unprepared, undecided_at, direct_free, unchanged, based_at}
use Rattle.wp_core.specs.World.{Transaction, Participant, Actor}
use Rattle.wp_core.specs.Changes.{held_with, keys_of_holder, sees, remembers, has_transaction, has_no_transaction, has_direct, with_name, with_key, with_label}
use Rattle.wp_rule.specs.Accounts.{account_of}

-- it holds this state in place of the one that it held
abbrev pub holding : LockState → Actor → Actor
holding t a = record a { held = held_with a.held (locks t) }

-- a transaction as it begins
abbrev pub no_changes : Transaction
no_changes = record { batch = []; locked = set.empty }

-- the participant's transaction of this name
abbrev pub transaction_in : Participant → List ℕ → Transaction
transaction_in p name = unwrap_or (finite.get p.transactions name) no_changes

-- with one key more
abbrev pub with_key_locked : List ℕ → Transaction → Transaction
with_key_locked key x = record x { locked = set.insert x.locked key }

-- with one key less
abbrev pub with_key_freed : List ℕ → Transaction → Transaction
with_key_freed key x = record x { locked = set.remove x.locked key }

-- it claimed a name, and noted that no undecided prepare has it
abbrev pub with_claimed : LockState → List ℕ → Actor → Actor
with_claimed t name a = let b = holding (with_name t name (Some a.participant.client)) (remembers (has_transaction a name no_changes) (claimed name)) in record b { notes = unprepared name ∷ a.notes }

-- it found this holder of a key, or else of a live name, when so many entries were published
abbrev pub with_found : LockState → ℕ → Option (List ℕ) → Holder → Actor → Actor
with_found t published key holder a = remembers a (found key holder (length a.participant.seen) (account_of a.participant t published key holder))

-- It locked a key for its transaction, and saw this history. It noted that the key is unchanged since all of it.
abbrev pub with_locked : LockState → List Entry → List ℕ → List ℕ → Actor → Actor
with_locked t history name key a =
    with_note (unchanged name key (length history)) (sees history (holding (with_key t key (Txn name)) (remembers (has_transaction a name (with_key_locked key (transaction_in a.participant name))) (locked key (Txn name)))))

-- it freed a key of its transaction, and the state is this
abbrev pub freeing_key : LockState → List ℕ → List ℕ → Actor → Actor
freeing_key t name key a = holding t (has_transaction a name (with_key_freed key (transaction_in a.participant name)))

-- it locked a key for its direct write, and noted that no undecided prepare has the key
abbrev pub with_direct : LockState → List ℕ → Actor → Actor
with_direct t key a = with_note (direct_free key) (holding (with_key t key (Client a.participant.client)) (remembers (has_direct a (Some key)) (locked key (Client a.participant.client))))

-- its direct write is over, and the state is this
abbrev pub ending_direct : LockState → Actor → Actor
ending_direct t a = holding t (has_direct a None)

-- it found the log closed, when so many entries were published
abbrev pub with_stopped : ℕ → Actor → Actor
with_stopped n a = remembers a (stopped n)

-- it found the log with this base, when so many entries were published
abbrev pub with_base : ℕ → ℕ → Actor → Actor
with_base n base a = remembers a (based_at n base)

-- its transaction has these changes
abbrev pub with_batch : List ℕ → List Change → Actor → Actor
with_batch name batch a = has_transaction a name (record (transaction_in a.participant name) { batch = batch })

-- its transaction is gone, and the state is this
abbrev pub giving_up : LockState → List ℕ → Actor → Actor
giving_up t name a = holding t (has_no_transaction a name)

-- it saw this history, and took the undecided prepare of the name, which it noted
abbrev pub with_taken : LockState → List Entry → List ℕ → Actor → Actor
with_taken t history name a = let p = unwrap_or (named history name) 0 in
    let b = holding (with_name t name (Some a.participant.client)) (remembers (has_transaction (sees history a) name (record { batch = batch_at history p; locked = keys_of_holder t (Txn name) })) (took name)) in
    record b { notes = undecided_at name p ∷ a.notes }

-- it told under a label how much it has seen
abbrev pub with_told : LockState → List ℕ → Actor → Actor
with_told t label a = let n = length a.participant.seen in holding (with_label t label n) (remembers a (told label n))

-- it saw this history, and heard the number under a label
abbrev pub with_heard : List Entry → List ℕ → ℕ → Actor → Actor
with_heard history label n a = remembers (sees history a) (heard label n)
