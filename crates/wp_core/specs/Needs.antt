-- What a step needs, in the world and of the actor that makes it.
use Rattle.std.specs.Prelude.{length, ◌≡◌, ◌≢◌, ◌⊎◌, ℕ, suc, ◌+◌, ◌^◌, ◌≤◌, ◌<◌, true, false, [], ◌∷◌, ◌++◌, Some, None, is_some}
use mathlib.Core.Option.{some}
use lib.ListN.{get_elem?}
use Rattle.std.specs.FinSet as set
use Rattle.std.specs.FinMap as finite
use Rattle.wp_model.specs.Batch.{is_batch}
use Rattle.wp_model.specs.Flushed.{InstalledEdit}
use Rattle.wp_model.specs.History.{named}
use Rattle.wp_model.specs.Legal.{IsLegal}
use Rattle.wp_model.specs.Decision.{decision_of}
use Rattle.wp_model.specs.Snapshots.{IsLive, NoOldCommits}
use Rattle.wp_core.specs.Lists.{IsIn}
use Rattle.wp_core.specs.Turns.{write_turn, prepared_turn, snapshots_turn, store_turn, locks_turn, tables_turn, turn_holder, Holds}
use Rattle.wp_judge.specs.Words.{CommitPair, fits}
use Rattle.wp_core.specs.Cache.{pair_at, cache_place, cached}
use Rattle.wp_model.specs.PreparedSets.{NoneDelayed}
use Rattle.wp_core.specs.World.{Transaction, Actor, World, published}
use Rattle.wp_model.specs.Record.{IsOneRecord}
use Rattle.wp_core.specs.Entries.{next_of, pending_pair, HasVersionsAt}
use Rattle.wp_core.specs.Steps.{Step, load_published, register, begin_reading, load, end_reading, store_published, store_max_evicted, store_word, store_delayed_flag, store_old_flag, take_turn, give_turn, make_pending, log_pending, close_log, find_log_closed, drop_pending, write_segment, use_segment, stop_log, add_prepared, take_pending_prepared, add_delayed_commit, delay_pending, take_out, register_again, release, add_old_commit, add_versions, take_versions, move_versions, replace_versions, install, renew, halt, find_edit, claim_name, take_name, leave_name, free_transaction, lock_key, free_key, lock_direct, free_direct, find_holder, tell, hear, set_batch, note, make_note, make_seat, set_client, learn, join_seat, find_base}
use Rattle.wp_core.specs.Effects.{with_failed}
use Rattle.wp_core.specs.Sound.Prepared.{IsPassed}
use Rattle.wp_core.specs.Sound.Snapshots.{has_versions_at}
use Rattle.wp_core.specs.Sound.Views.{IsGuarded, IsSo}
use Rattle.wp_core.specs.Conditions.{MayBeSmallest, IsNextLoad, HasTransaction, MayPublish, MayBeEvicted, NoneNext, MayGive, MayLog, MayClose, MayDrop, MayWriteSegment, MayUseSegment, MayStop, IsPreparePending, SameVersions, NamesSegment, NamesNext, KeepsStore, IsHolder, Accounts}

abbrev pub Needs : World → ℕ → Actor → Step → Type 0
-- a reading is of a version of the history at a snapshot of the actor's own, by as many bits as the cache has; it loads in its order,
-- and looks into a state under its turn
Needs w by a load_published = Unit {0}
Needs w by a (register least) = Holds w.holders snapshots_turn by × MayBeSmallest w by least
Needs w by a (begin_reading bits p snapshot) = (2 ^ bits ≡ length w.cache) × IsIn snapshot a.participant.registered × (p ≤ snapshot.number → has_versions_at w.writes.history p ≡ true)
Needs w by a (load which) = IsNextLoad w by a which
Needs w by a end_reading = Unit {0}
-- the bound rises, up to the published number; where numbers move, the delayed flag is up before
Needs w by a (store_published entry others) = MayPublish w by a entry others
Needs w by a (store_max_evicted m) = Holds w.holders write_turn by × Holds w.holders prepared_turn by × (w.max_evicted ≤ m) × (m ≤ published w) × ((w.delayed_flag ≢ 0) ⊎ ((p : ℕ) → set.contains w.prepared.heap p ≡ true → m < p))
-- the pending entry's pair comes into its word, where it fits and the pair that is there may be evicted; a flag is 0 only where what
-- it tells of is empty
Needs w by a (store_word pair) = Holds w.holders write_turn by × (pending_pair w.writes.history w.writes.pending ≡ Some pair) × (fits (length w.cache) pair ≡ true) × ((gone : CommitPair) → pair_at w.cache (cache_place (length w.cache) pair.number) ≡ Some gone → MayBeEvicted w gone)
Needs w by a (store_delayed_flag value) = Holds w.holders prepared_turn by × (value ≡ 0 → NoneDelayed w.prepared)
Needs w by a (store_old_flag value) = Holds w.holders snapshots_turn by × (value ≡ 0 → NoOldCommits w.snapshots)
-- a turn is taken where it is free
Needs w by a (take_turn turn) = (turn_holder w.holders turn ≡ None) × (a.live ≡ true)
Needs w by a (give_turn turn) = Holds w.holders turn by × MayGive w turn
-- a record is made pending where it may come next, all of it, and no segment waits; it is logged once, or the log is closed; an
-- entry is dropped once nothing of it is left
Needs w by a (make_pending entries) = Holds w.holders write_turn by × (w.writes.pending ≡ []) × IsOneRecord entries × IsLegal (w.writes.history ++ entries) × NoneNext w.writes
Needs w by a log_pending = MayLog w by
Needs w by a close_log = MayClose w by
Needs w by a find_log_closed = Holds w.holders write_turn by × (w.writes.closed ≡ true)
Needs w by a find_base = Holds w.holders write_turn by × NoneNext w.writes
Needs w by a drop_pending = MayDrop w by
Needs w by a (write_segment place) = MayWriteSegment w by place
Needs w by a use_segment = MayUseSegment w by
Needs w by a stop_log = MayStop w by
-- a delayed commit comes with the flag up, of a decided number or of the pending entry; only what is decided leaves, all three sets at
-- once, where its word or the old commit map answers for it
Needs w by a add_prepared = IsPreparePending w by
Needs w by a take_pending_prepared = IsPreparePending w by
Needs w by a (add_delayed_commit pair) = Holds w.holders prepared_turn by × (w.delayed_flag ≢ 0) × (decision_of w.writes.history pair.number ≡ Some pair.decision)
Needs w by a (delay_pending pair) = Holds w.holders write_turn by × Holds w.holders prepared_turn by × (w.delayed_flag ≢ 0) × (pending_pair w.writes.history w.writes.pending ≡ Some pair)
Needs w by a (take_out p) = Holds w.holders prepared_turn by × ((c : ℕ) × (decision_of w.writes.history p ≡ Some c) × ((cached w.cache p ≡ Some c) ⊎ IsPassed w.max_evicted w.snapshots p c))
-- a version is noted in the old commit map with the flag up, under a live number that it overlaps
Needs w by a (register_again s) = Holds w.holders snapshots_turn by × IsLive w.snapshots s × (s ≤ length a.participant.seen)
Needs w by a (release front r back) = Holds w.holders snapshots_turn by × (a.participant.registered ≡ front ++ r ∷ back)
Needs w by a (add_old_commit s p) = Holds w.holders snapshots_turn by × IsLive w.snapshots s × (w.old_flag ≢ 0) × ((c : ℕ) × (decision_of w.writes.history p ≡ Some c) × (p ≤ s) × (s < c))
-- the pending entry's versions alone come and go; a flush moves versions, and old ones go only so that each live snapshot
-- and each number from the new floor on still finds its value
Needs w by a (add_versions memory) = Holds w.holders write_turn by × Holds w.holders store_turn by × HasVersionsAt (next_of w.writes.pending) (suc (published w)) w.store.memory memory
Needs w by a (take_versions memory) = Holds w.holders write_turn by × Holds w.holders store_turn by × HasVersionsAt None (suc (published w)) w.store.memory memory
Needs w by a (move_versions memory tables) = Holds w.holders store_turn by × Holds w.holders tables_turn by × SameVersions w memory tables × KeepsStore w (record w.store { memory = memory; tables = tables }) w.installed
Needs w by a (replace_versions tables floor) = Holds w.holders store_turn by × Holds w.holders tables_turn by × (w.store.floor ≤ floor) × KeepsStore w (record w.store { tables = tables; floor = floor }) w.installed
-- an edit's versions, with the history's later ones, answer at the published number, and it names the last one's segment; a flush
-- brings one table more, a compaction keeps the flushed number, and a renewal, which names the log's next segment, has as many tables at
-- least
Needs w by a (install edit compacts) = Holds w.holders tables_turn by × (w.installed.halted ≡ false) × KeepsStore w w.store (record w.installed { last = edit }) × (compacts ≡ false → edit.tables ≡ w.installed.last.tables + 1) × (compacts ≡ true → edit.flushed ≡ w.installed.last.flushed) × (w.installed.last.flushed ≤ edit.flushed) × NamesSegment w edit
Needs w by a (renew edit) = Holds w.holders tables_turn by × (w.installed.halted ≡ false) × KeepsStore w w.store (record w.installed { last = edit }) × NamesNext w by edit × (w.installed.last.tables ≤ edit.tables)
Needs w by a (halt edit) = Holds w.holders tables_turn by × (w.installed.halted ≡ false) × KeepsStore w w.store (with_failed w.installed edit) × ((failed : InstalledEdit) → edit ≡ Some failed → NamesSegment w failed ⊎ NamesNext w by failed)
Needs w by a find_edit = Holds w.holders tables_turn by
-- a name is claimed where it is not live, and a key locked where it is not held, for a transaction that is not prepared; what is
-- undecided is left, and what is decided or was never prepared is freed
Needs w by a (claim_name name) = Holds w.holders locks_turn by × (finite.get w.locks.names name ≡ None) × (a.live ≡ true)
Needs w by a (take_name name p) = Holds w.holders locks_turn by × (finite.get w.locks.names name ≡ Some None) × (named w.writes.history name ≡ Some p)
Needs w by a (leave_name name) = Holds w.holders locks_turn by × ((t : Transaction) × HasTransaction a name t) × (is_some (named w.writes.history name) ≡ true)
Needs w by a (free_transaction name) = Holds w.holders locks_turn by × ((t : Transaction) × HasTransaction a name t) × (named w.writes.history name ≡ None)
Needs w by a (lock_key name t key) = Holds w.holders locks_turn by × HasTransaction a name t × (finite.get w.locks.keys key ≡ None) × (named w.writes.history name ≡ None)
Needs w by a (free_key name t key) = Holds w.holders locks_turn by × HasTransaction a name t × (set.contains t.locked key ≡ true) × (named w.writes.history name ≡ None)
Needs w by a (lock_direct key) = Holds w.holders locks_turn by × (a.participant.direct ≡ None) × (finite.get w.locks.keys key ≡ None)
Needs w by a (free_direct key) = Holds w.holders locks_turn by × (a.participant.direct ≡ Some key)
Needs w by a (find_holder key holder account) = Holds w.holders locks_turn by × IsHolder w key holder × Accounts w by a key holder account
Needs w by a (tell label) = Holds w.holders locks_turn by
Needs w by a (hear label n) = Holds w.holders locks_turn by × (finite.get w.locks.labels label ≡ Some n)
Needs w by a (set_batch name t batch) = HasTransaction a name t × (is_batch batch ≡ true)
Needs w by a (note fact) = (a.live ≡ true) × IsGuarded w.holders fact by × IsSo w.delayed_flag w.old_flag w.max_evicted w.cache w.writes w.prepared w.snapshots w.store w.locks w.installed a.participant fact
Needs w by a make_note = Unit {0}
Needs w by a make_seat = by ≡ 0
Needs w by a (set_client client) = (a.live ≡ true) × (a.participant.transactions ≡ finite.empty) × (a.participant.direct ≡ None)
Needs w by a (learn other b) = (other ≢ by) × (get_elem? w.actors other ≡ some b) × (b.live ≡ false)
Needs w by a (join_seat other b) = (by ≡ 0) × (other ≢ by) × (get_elem? w.actors other ≡ some b) × (b.live ≡ true) × (b.held ≡ [])
