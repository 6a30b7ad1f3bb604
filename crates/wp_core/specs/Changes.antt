-- What steps change: an actor, a state that it holds, what it has loaded.
use Rattle.std.specs.Prelude.{ℕ, ◌+◌, ◌==◌, ◌&&◌, Bool, true, false, not, List, [], ◌∷◌, ◌++◌, filter, slice_set, Option, Some, None, if◌then◌else◌}
use Rattle.std.specs.List.{list_any}
use Rattle.std.specs.Option.{option_map_or}
use Rattle.std.specs.FinSet as set
use Rattle.std.specs.FinMap as finite
use Rattle.wp_model.specs.declared.entry.Entry.{Entry}
use Rattle.wp_model.specs.Batch.{key_cmp}
use Rattle.wp_model.specs.declared.holder.Holder.{Holder}
use Rattle.wp_model.specs.declared.holder.Holder.TheVariants.{Txn}
use Rattle.wp_model.specs.Holder.{is_same}
use Rattle.wp_model.specs.Snapshots as snaps
use Rattle.wp_core.specs.Turns.{Turn, write_turn, prepared_turn, snapshots_turn, store_turn, locks_turn, tables_turn}
use Rattle.wp_core.specs.Cache.{cached_word}
use Rattle.wp_model.specs.Snapshots.{Snapshots}
use Rattle.wp_model.specs.LockState.{LockState}
use Rattle.wp_core.specs.States.{Content, turn_of}
use Rattle.wp_core.specs.Reading.{Registration, snapshot_of}
use Rattle.wp_judge.specs.declared.observed.Observed.{Observed}
use Rattle.wp_judge.specs.declared.observed.Load.{Load}
use Rattle.wp_judge.specs.declared.observed.Load.TheVariants.{FirstWord, FirstMax, DelayedFlag, SecondWord, SecondMax, OldFlag, IsOldCommit}
use Rattle.wp_judge.specs.declared.observed.Load.TheVariants as load
use Rattle.wp_judge.specs.declared.observed.InPrepared.{InPrepared}
use Rattle.wp_judge.specs.declared.observed.InPrepared.TheVariants.{Absent, Delayed, Decided}
use Rattle.wp_core.specs.Views.{Event}
use Rattle.wp_core.specs.World.{Transaction, Actor, new_actor, World, with_content}

-- ---- the actor's part

abbrev pub with_actor : World → ℕ → Actor → World
with_actor w by a = record w { actors = slice_set w.actors by a }

abbrev pub turn_index : Turn → ℕ
turn_index write_turn = 0
turn_index prepared_turn = 1
turn_index snapshots_turn = 2
turn_index store_turn = 3
turn_index locks_turn = 4
turn_index tables_turn = 5

-- what is held, with this in place of the state of the same turn
abbrev pub held_with : List Content → Content → List Content
held_with [] c = []
held_with (first ∷ others) c = if turn_index (turn_of first) == turn_index (turn_of c) then c ∷ others else first ∷ held_with others c

abbrev pub held_without : List Content → Turn → List Content
held_without held turn = filter (λ c. not (turn_index (turn_of c) == turn_index turn)) held

-- the state changes, and the actor that holds it knows it so
abbrev pub change : World → ℕ → Actor → Content → World
change w by a c = with_actor (with_content w c) by (record a { held = held_with a.held c })

abbrev pub sees : List Entry → Actor → Actor
sees history a = record a { participant = record a.participant { seen = history }; learned = [] }

abbrev pub remembers : Actor → Event → Actor
remembers a e = record a { participant = record a.participant { past = a.participant.past ++ e ∷ [] } }

abbrev pub registers : Actor → Registration → Actor
registers a r = record a { participant = record a.participant { registered = a.participant.registered ++ r ∷ [] } }

abbrev pub is_same_registration : Registration → Registration → Bool
is_same_registration r s = r.number == s.number && (r.smallest == s.smallest)

-- a reading ends with its registration
abbrev pub reading_left : Option Observed → List Registration → Option Observed
reading_left None left = None
reading_left (Some r) left = if list_any (is_same_registration (snapshot_of r)) left then Some r else None

abbrev pub releases : Actor → List Registration → Actor
releases a left = record a { participant = record a.participant { registered = left }; reading = reading_left a.reading left }

abbrev pub has_transaction : Actor → List ℕ → Transaction → Actor
has_transaction a name t = record a { participant = record a.participant { transactions = finite.insert a.participant.transactions name t } }

abbrev pub has_no_transaction : Actor → List ℕ → Actor
has_no_transaction a name = record a { participant = record a.participant { transactions = finite.remove a.participant.transactions name } }

abbrev pub has_direct : Actor → Option (List ℕ) → Actor
has_direct a key = record a { participant = record a.participant { direct = key } }

-- ---- a reader's loads

abbrev pub found_in : Bool → Option ℕ → InPrepared
found_in is_delayed (Some c) = Decided c
found_in true None = Delayed
found_in false None = Absent

abbrev pub loaded : World → Load → Observed → Observed
loaded w FirstWord r = record r { first_word = Some (cached_word w.cache r.version) }
loaded w FirstMax r = record r { first_max = Some w.max_evicted }
loaded w DelayedFlag r = record r { delayed_flag = Some w.delayed_flag }
loaded w load.InPrepared r = record r { in_prepared = Some (found_in (set.contains w.prepared.delayed r.version) (finite.get w.prepared.delayed_commits r.version)) }
loaded w SecondWord r = record r { second_word = Some (cached_word w.cache r.version) }
loaded w SecondMax r = record r { second_max = Some w.max_evicted }
loaded w OldFlag r = record r { old_flag = Some w.old_flag }
loaded w IsOldCommit r = record r { is_old_commit = Some (snaps.is_old_commit w.snapshots r.snapshot r.version) }

-- ---- snapshots

abbrev pub placed : Snapshots → ℕ → Option snaps.LiveSnapshot → Snapshots
placed m s None = finite.remove m s
placed m s (Some x) = finite.insert m s x

-- one registration more, one less, and p under s
abbrev pub with_registered : Snapshots → ℕ → Snapshots
with_registered m s = placed m s (snaps.after_register (finite.get m s))

abbrev pub with_released : Snapshots → ℕ → Snapshots
with_released m s = placed m s (snaps.after_release (finite.get m s))

abbrev pub with_old_commit : Snapshots → ℕ → ℕ → Snapshots
with_old_commit m s p = placed m s (snaps.after_keep p (finite.get m s))

-- ---- names and keys

abbrev pub is_held_by : LockState → Holder → List ℕ → Bool
is_held_by t holder key = option_map_or (is_same holder) (finite.get t.keys key) false

-- the keys that the holder holds
abbrev pub keys_of_holder : LockState → Holder → set.FinSet key_cmp
keys_of_holder t holder = set.from_list (filter (is_held_by t holder) (finite.keys t.keys))

abbrev pub with_name : LockState → List ℕ → Option (List ℕ) → LockState
with_name t name client = record t { names = finite.insert t.names name client }

abbrev pub with_key : LockState → List ℕ → Holder → LockState
with_key t key holder = record t { keys = finite.insert t.keys key holder }

abbrev pub without_key : LockState → List ℕ → LockState
without_key t key = record t { keys = finite.remove t.keys key }

-- the name goes, with each key that is held for it
abbrev pub without_transaction : LockState → List ℕ → LockState
without_transaction t name = record t { names = finite.remove t.names name; keys = finite.retain_keys t.keys (λ key. not (is_held_by t (Txn name) key)) }

abbrev pub with_label : LockState → List ℕ → ℕ → LockState
with_label t label n = record t { labels = finite.insert t.labels label n }

-- ---- joins

abbrev pub informed : Actor → Actor → Actor
informed a b = record a { learned = b.participant.seen }

abbrev pub joins : Actor → Actor → Actor
joins a b = record a { joined = b.participant ∷ a.joined }

abbrev pub joined_actor : Actor
joined_actor = new_actor false [] []

abbrev pub made_one : Actor → Actor
made_one a = record a { made = a.made + 1 }
