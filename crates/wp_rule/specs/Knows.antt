-- When a seat knows by its view alone that a step of the machine may be made.
use Rattle.std.specs.Prelude.{◌≡◌, ◌≢◌, ◌⊎◌, ℕ, suc, ◌+◌, ◌^◌, ◌≤◌, ◌<◌, Bool, true, false, List, [], ◌∷◌, ◌++◌, length, Option, Some, None}
use Rattle.std.specs.FinSet as set
use Rattle.std.specs.FinMap as finite
use Rattle.wp_model.specs.declared.change.Change.{Change}
use Rattle.wp_model.specs.declared.entry.Entry.{Entry}
use Rattle.wp_model.specs.declared.entry.Entry.TheVariants.{Prepare}
use Rattle.wp_model.specs.declared.holder.Holder.TheVariants.{Txn}
use Rattle.wp_model.specs.Batch.{is_batch}
use Rattle.wp_model.specs.declared.version.Version.{Version}
use Rattle.wp_model.specs.Covered.{IsCovered, is_among}
use Rattle.wp_model.specs.Flushed.{InstalledEdit, IsEditCovered}
use Rattle.wp_model.specs.Decision.{decision_of, version_in}
use Rattle.wp_model.specs.Changed.{IsUnchanged}
use Rattle.wp_model.specs.History.{named, batch_at, is_changed, is_prepare}
use Rattle.wp_model.specs.Versions.{version_at}
use Rattle.wp_model.specs.Legal.{IsLegal, prior}
use Rattle.wp_model.specs.PreparedSets.{is_prepared, NoneDelayed}
use Rattle.wp_model.specs.Snapshots.{IsLive, NoOldCommits}
use Rattle.wp_judge.specs.Words.{CommitPair, commit_pair, fits}
use Rattle.wp_judge.specs.Order.{ask}
use Rattle.wp_judge.specs.declared.observed.Asked.TheVariants as asked
use Rattle.wp_judge.specs.declared.observed.Observed.{Observed}
use Rattle.wp_judge.specs.declared.observed.Load.{Load}
use Rattle.wp_judge.specs.declared.observed.Load.TheVariants.{InPrepared, IsOldCommit}
use Rattle.wp_core.specs.Lists.{IsIn}
use Rattle.wp_core.specs.Turns.{Turn, write_turn, prepared_turn, snapshots_turn, store_turn, locks_turn, tables_turn}
use Rattle.wp_core.specs.Cache.{cached, cache_place, pair_at}
use Rattle.wp_core.specs.States.{WriteState, StoreState, Installed, Content, writes, prepared, snapshots, store, locks, installed, up_to}
use Rattle.wp_core.specs.Views.{Fact, passed, in_old_commits, apart, words_stay, has_left, versions_in_memory, versions_nowhere, number_in_heap, number_not_in_heap, pair_delayed, pair_not_delayed, none_waits, undecided_at, prior_values, unprepared, direct_free, unchanged, locks_stay, locked, tables_stay, live_listed, nothing_flushed, frozen_stay, delayed_flag_stays, old_flag_stays}
use Rattle.wp_core.specs.World.{Transaction, Actor, World}
use Rattle.wp_model.specs.Record.{IsOneRecord}
use Rattle.wp_core.specs.Entries.{next_of, pair_by, pending_pair, pairs_of, transaction_of, changes_under, written, HasVersionsAt}
use Rattle.wp_core.specs.Conditions.{HasTransaction, IsPrepare, NoneNext}
use Rattle.wp_core.specs.Sound.Prepared.{IsInOldCommits}
use Rattle.wp_core.specs.Sound.Snapshots.{has_versions_at}
use Rattle.wp_core.specs.Sound.Store.{NoneFlushed}
use Rattle.wp_core.specs.Sound.Views.{IsApart, HasLeft, IsInMemory, IsNowhere, IsDelayed, IsUndelayed, Owns, OwnsKey, AreKeysOf}
use Rattle.wp_core.specs.Steps.{Step, load_published, register, begin_reading, load, end_reading, store_published, store_max_evicted, store_word, store_delayed_flag, store_old_flag, give_turn, make_pending, log_pending, close_log, find_log_closed, drop_pending, write_segment, use_segment, stop_log, add_prepared, take_pending_prepared, add_delayed_commit, delay_pending, take_out, register_again, release, add_old_commit, add_versions, take_versions, move_versions, replace_versions, install, renew, halt, find_edit, claim_name, take_name, leave_name, free_transaction, lock_key, free_key, lock_direct, free_direct, tell, hear, set_batch, note, set_client, find_base}
use Rattle.wp_rule.specs.Bound.{bound_past}
use Rattle.wp_rule.specs.Words.{Place}

-- the view has a state of this kind, of which this is so
pub record Holding (a : Actor) {T : Type 0} (content : T → Content) (so : T → Type 0) : Type 0 where
  pub state : T
  pub held : IsIn (content state) a.held
  pub so_is : so state

-- the state is the world's
abbrev pub IsStateOf : World → Content → Type 0
IsStateOf w (writes t) = w.writes ≡ t
IsStateOf w (prepared t) = w.prepared ≡ t
IsStateOf w (snapshots m) = w.snapshots ≡ m
IsStateOf w (store t) = w.store ≡ t
IsStateOf w (locks t) = w.locks ≡ t
IsStateOf w (installed e) = w.installed ≡ e

-- a fact that was noted
abbrev pub Noted : Actor → Fact → Type 0
Noted a fact = IsIn fact a.notes

-- the flag that was noted is up
abbrev pub IsUp : Actor → (ℕ → Fact) → Type 0
IsUp a flag = (value : ℕ) × Noted a (flag value) × (value ≢ 0)

-- a look into a state needs the state
abbrev pub KnowsLook : Actor → Load → Type 0
KnowsLook a InPrepared = Holding a prepared (λ t. Unit {0})
KnowsLook a IsOldCommit = Holding a snapshots (λ m. Unit {0})
KnowsLook a other = Unit {0}

-- the word at this place is no pair, or its pair was cleared
abbrev pub KnowsCleared : Actor → ℕ → CommitPair → Type 0
KnowsCleared a cells pair =
    ((max : ℕ) × (words : List ℕ) × Noted a (words_stay max words) × (pair_at words (cache_place cells pair.number) ≡ None))
    ⊎ ((gone : CommitPair) × Noted a (passed (cache_place cells pair.number) gone) × Noted a (in_old_commits (cache_place cells pair.number) gone) × Noted a (apart (cache_place cells pair.number) gone))

-- the store was noted to have just the edit's tables
abbrev pub KnowsTables : Actor → InstalledEdit → Type 0
KnowsTables a edit = Noted a nothing_flushed × ((floor : ℕ) × Noted a (tables_stay edit.versions floor))

-- a turn may be given
abbrev pub KnowsGive : Actor → Turn → Type 0
KnowsGive a write_turn = Holding a writes (λ d. (d.pending ≡ []) × NoneNext d)
KnowsGive a prepared_turn = Holding a prepared (λ t. NoneDelayed t → Noted a (delayed_flag_stays 0))
KnowsGive a snapshots_turn = Holding a snapshots (λ m. NoOldCommits m → Noted a (old_flag_stays 0))
KnowsGive a store_turn = Holding a store (λ t. Unit {0})
KnowsGive a locks_turn = Holding a locks (λ t. Unit {0})
KnowsGive a tables_turn = Holding a installed (λ e. KnowsTables a e.last)

-- a word of the cache that was noted has the pair, which is published
abbrev pub KnowsPair : Actor → ℕ → ℕ → CommitPair → (ℕ → Type 0) → Type 0
KnowsPair a published place pair so = (max : ℕ) × (words : List ℕ) × Noted a (words_stay max words) × (place < length words) × (pair_at words place ≡ Some pair) × (pair.decision ≤ published) × so max

-- One of the pairs that are left of the pending record is to come into its word, where one stands that is published and that the bound
-- has not reached; and m is as far as the bound rises past that one.
pub record IsRiseForWord (a : Actor) (cells : ℕ) (d : WriteState) (m : ℕ) : Type 0 where
  pub pair : CommitPair
  pub pending : IsIn pair (pairs_of (suc (length d.history)) d.pending)
  pub narrow : fits cells pair ≡ true
  pub gone : CommitPair
  pub there : KnowsPair a (length d.history) (cache_place cells pair.number) gone (λ bound. bound < gone.decision)
  pub past : m ≡ bound_past cells (length d.history) gone.decision

-- One of them is too wide for a word, and the bound has not reached its number, which is m.
pub record IsRiseForWide (a : Actor) (cells : ℕ) (d : WriteState) (m : ℕ) : Type 0 where
  pub pair : CommitPair
  pub pending : IsIn pair (pairs_of (suc (length d.history)) d.pending)
  pub wide : fits cells pair ≡ false
  pub above : (bound : ℕ) × (words : List ℕ) × Noted a (words_stay bound words) × (bound < pair.number)
  pub is : m ≡ pair.number

-- The bound may rise to m: for one of the pairs that are left of the pending record, and no further.
abbrev pub IsRise : Actor → ℕ → WriteState → ℕ → Type 0
IsRise a cells d m = IsRiseForWord a cells d m ⊎ IsRiseForWide a cells d m

-- the entry, if there is one, has no versions
abbrev pub HasNoVersions : Option Entry → Type 0
HasNoVersions entry = (key : List ℕ) → version_in entry key ≡ None

-- a fact is so
abbrev pub KnowsFact : Actor → Fact → Type 0
KnowsFact a (passed place pair) = Holding a writes (λ d. KnowsPair a (length d.history) place pair (λ max. pair.decision ≤ max))
KnowsFact a (in_old_commits place pair) = Holding a writes (λ d. Holding a snapshots (λ m. KnowsPair a (length d.history) place pair (λ max. IsInOldCommits m pair.number pair.decision)))
KnowsFact a (apart place pair) = Holding a writes (λ d. Holding a prepared (λ t. KnowsPair a (length d.history) place pair (λ max. IsApart t pair)))
KnowsFact a (has_left q) = Holding a prepared (λ t. HasLeft a.participant.seen t q)
KnowsFact a versions_in_memory = Holding a writes (λ d. HasNoVersions (next_of d.pending) ⊎ Holding a store (λ t. IsInMemory d t))
KnowsFact a versions_nowhere = Holding a writes (λ d. HasNoVersions (next_of d.pending) ⊎ Holding a store (λ t. IsNowhere d t))
KnowsFact a number_in_heap = Holding a writes (λ d. Holding a prepared (λ t. set.contains t.heap (suc (length d.history)) ≡ true))
KnowsFact a number_not_in_heap = Holding a writes (λ d. (is_prepare (next_of d.pending) ≡ false) ⊎ Holding a prepared (λ t. set.contains t.heap (suc (length d.history)) ≡ false))
KnowsFact a pair_delayed = Holding a writes (λ d. Holding a prepared (λ t. IsDelayed d t))
KnowsFact a pair_not_delayed = Holding a writes (λ d. Holding a prepared (λ t. IsUndelayed d t))
KnowsFact a none_waits = Holding a writes (λ d. Holding a prepared (λ t. (max : ℕ) × (words : List ℕ) × Noted a (words_stay max words) × ((q c : ℕ) → finite.get t.delayed_commits q ≡ Some c → max < c)))
KnowsFact a (undecided_at name q) = Holding a writes (λ d. Owns a.participant name × (named d.history name ≡ Some q))
KnowsFact a (prior_values name q batch) = Holding a writes (λ d. Owns a.participant name × (named d.history name ≡ Some q) × (prior d.history (batch_at d.history q) ≡ batch))
KnowsFact a (unprepared name) = Holding a writes (λ d. Owns a.participant name × (named d.history name ≡ None))
KnowsFact a (direct_free key) = a.participant.direct ≡ Some key
KnowsFact a (unchanged name key n) = OwnsKey a.participant name key × Holding a writes (λ d. (n ≤ length d.history) × IsUnchanged d.history key n)
KnowsFact a (locks_stay name q keys) = Holding a locks (λ t. (q ≤ length a.participant.seen) × AreKeysOf t.keys name keys)
KnowsFact a (tables_stay versions floor) = Holding a installed (λ e. Holding a store (λ t. (t.tables ≡ versions) × (t.floor ≡ floor)))
KnowsFact a (live_listed floor listed) = Holding a snapshots (λ m. (floor ≤ length a.participant.seen) × ((n : ℕ) → IsLive m n → (is_among listed n ≡ true) ⊎ (floor ≤ n)))
KnowsFact a nothing_flushed = Holding a installed (λ e. Holding a store (λ t. NoneFlushed t.memory e.last.flushed))
KnowsFact a (frozen_stay n versions) = Holding a installed (λ e. Holding a store (λ t. (n ≤ length a.participant.seen) × ((key : List ℕ) (q : ℕ) → q ≤ n → version_at t.memory key q ≡ version_at versions key q)))
KnowsFact a other = ⊥

-- the key is held for the seat: for its direct write, or for a transaction of it that is not prepared
abbrev pub KnowsHeld : Actor → List ℕ → Type 0
KnowsHeld a key = (a.participant.direct ≡ Some key) ⊎ ((name : List ℕ) × (x : Transaction) × HasTransaction a name x × (set.contains x.locked key ≡ true) × Noted a (unprepared name))

-- the pair is where a reader finds it: in its word, or, where it is too wide for one, a delayed commit that the bound has reached
abbrev pub KnowsEntered : Actor → ℕ → CommitPair → Type 0
KnowsEntered a cells pair =
    (max : ℕ) × (words : List ℕ) × Noted a (words_stay max words) × ((cached words pair.number ≡ Some pair.decision) ⊎ ((fits cells pair ≡ false) × Noted a pair_delayed × (pair.number ≤ max)))

-- the first of the pending entries may be published
pub record KnowsPublish (a : Actor) (cells : ℕ) (d : WriteState) (entry : Entry) (others : List Entry) : Type 0 where
  pub pending : d.pending ≡ entry ∷ others
  pub logged : d.logged ≡ true
  pub legal : IsLegal (d.history ++ entry ∷ [])
  pub versions : Noted a versions_in_memory
  pub keys : (key : List ℕ) → is_changed (written entry) key ≡ true → KnowsHeld a key
  pub transaction : (name : List ℕ) → transaction_of d.history entry ≡ Some name
      → (x : Transaction) × HasTransaction a name x × ((key : List ℕ) → is_changed (changes_under d.history entry) key ≡ true → set.contains x.locked key ≡ true)
  pub came : (name : List ℕ) (batch : List Change) (x : Transaction) (key : List ℕ) → entry ≡ Prepare name batch → HasTransaction a name x → set.contains x.locked key ≡ true → IsIn (locked key (Txn name)) a.participant.past
  pub number : IsPrepare entry → Noted a number_in_heap
  pub pair : (pair : CommitPair) → pair_by (suc (length d.history)) entry ≡ Some pair → KnowsEntered a cells pair

-- ---- maintenance

-- Versions may move from memory to tables: none comes or goes, those in memory above the flushed number stay there, and in
-- tables is what was there or was in memory up to that number.
pub record KnowsMoved (t : StoreState) (flushed : ℕ) (memory tables : List Version) : Type 0 where
  pub same : (key : List ℕ) (q : ℕ) → version_at (memory ++ tables) key q ≡ version_at (t.memory ++ t.tables) key q
  pub above : (key : List ℕ) (q : ℕ) → flushed < q → version_at memory key q ≡ version_at t.memory key q
  pub below : (key : List ℕ) (q : ℕ) (value : Option (List ℕ)) → version_at tables key q ≡ Some value → (version_at t.tables key q ≡ Some value) ⊎ ((q ≤ flushed) × (version_at t.memory key q ≡ Some value))

-- Old versions may go from tables: what is left shows the history that the seat has seen at the listed numbers, and at each
-- from the new floor on; and the live ones are listed or are not below that floor, and so is the base at which the log was opened.
pub record KnowsReplaced (a : Actor) (t : StoreState) (flushed base : ℕ) (tables : List Version) (floor : ℕ) : Type 0 where
  pub rises : t.floor ≤ floor
  pub seen_floor : floor ≤ length a.participant.seen
  pub seen_flushed : flushed ≤ length a.participant.seen
  pub listed : List ℕ
  pub live : Noted a (live_listed floor listed)
  pub base_listed : is_among listed base ≡ true
  pub seen_listed : (n : ℕ) → is_among listed n ≡ true → n ≤ length a.participant.seen
  pub part : (key : List ℕ) (q : ℕ) (value : Option (List ℕ)) → version_at tables key q ≡ Some value → version_at t.tables key q ≡ Some value
  pub covered : IsCovered (up_to (length a.participant.seen) (t.memory ++ tables)) a.participant.seen listed floor

-- the edit names the next segment of the log, which is not closed, and flushes the whole history
abbrev pub NextNamed : WriteState → InstalledEdit → Type 0
NextNamed d edit = (d.closed ≡ false) × (d.next ≡ Some edit.segment) × (edit.flushed ≡ length d.history)

-- An edit may be installed: its tables answer for the history that the seat has seen, it flushes no less than the last, and it names the
-- same segment.
pub record KnowsInstalled (a : Actor) (e : Installed) (edit : InstalledEdit) (compacts : Bool) : Type 0 where
  pub running : e.halted ≡ false
  pub covered : IsEditCovered a.participant.seen edit
  pub rises : e.last.flushed ≤ edit.flushed
  pub one_more : compacts ≡ false → edit.tables ≡ e.last.tables + 1
  pub keeps : compacts ≡ true → edit.flushed ≡ e.last.flushed
  pub segment : edit.segment ≡ e.last.segment

-- An edit may be installed that names the log's next segment: its tables answer for the history that the seat has seen, it flushes all of
-- it, and has as many tables as the last one, at least.
pub record KnowsRenewed (a : Actor) (d : WriteState) (e : Installed) (edit : InstalledEdit) : Type 0 where
  pub running : e.halted ≡ false
  pub covered : IsEditCovered a.participant.seen edit
  pub next : NextNamed d edit
  pub tables : e.last.tables ≤ edit.tables

-- Of the steps that need no more than the view: what each needs. Of the others more has to be known of the world.
abbrev pub Knows : Place → Actor → Step → Type 0
Knows p a load_published = Unit {0}
Knows p a (register least) =
    Holding a snapshots (λ m. (least ≡ 1) ⊎ Holding a prepared (λ t. ((least ≤ suc (length a.participant.seen)) ⊎ (is_prepared t least ≡ true)) × ((q : ℕ) → is_prepared t q ≡ true → least ≤ q)))
Knows p a (begin_reading bits q snapshot) = (2 ^ bits ≡ p.cells) × IsIn snapshot a.participant.registered × (q ≤ snapshot.number → has_versions_at a.participant.seen q ≡ true)
Knows p a (load which) = (r : Observed) × (a.reading ≡ Some r) × (ask r ≡ asked.Load which) × KnowsLook a which
Knows p a end_reading = Unit {0}
Knows p a (store_published entry others) = Holding a writes (λ d. KnowsPublish a p.cells d entry others)
Knows p a (store_max_evicted m) =
    Holding a writes (λ d. Holding a prepared (λ t. IsRise a p.cells d m × (IsUp a delayed_flag_stays ⊎ ((q : ℕ) → set.contains t.heap q ≡ true → m < q))))
Knows p a (store_word pair) = Holding a writes (λ d. (pending_pair d.history d.pending ≡ Some pair) × (fits p.cells pair ≡ true) × KnowsCleared a p.cells pair)
Knows p a (store_delayed_flag value) = Holding a prepared (λ t. value ≡ 0 → NoneDelayed t)
Knows p a (store_old_flag value) = Holding a snapshots (λ m. value ≡ 0 → NoOldCommits m)
Knows p a (give_turn turn) = KnowsGive a turn
Knows p a (make_pending entries) = Holding a writes (λ d. (d.pending ≡ []) × IsOneRecord entries × IsLegal (d.history ++ entries) × NoneNext d)
Knows p a log_pending = Holding a writes (λ d. (d.pending ≢ []) × (d.logged ≡ false) × (d.closed ≡ false))
Knows p a close_log = Holding a writes (λ d. (d.closed ≡ false) × (((d.pending ≢ []) × (d.logged ≡ false)) ⊎ ((d.pending ≡ []) × (d.next ≡ None) × (d.segment.base < length d.history))))
Knows p a find_log_closed = Holding a writes (λ d. d.closed ≡ true)
Knows p a find_base = Holding a writes (λ d. NoneNext d)
Knows p a drop_pending =
    Holding a writes (λ d. (d.logged ≡ false)
    × ((max : ℕ) × (words : List ℕ) × Noted a (words_stay max words) × ((pair : CommitPair) → pending_pair d.history d.pending ≡ Some pair → cached words pair.number ≢ Some pair.decision))
    × Noted a pair_not_delayed × Noted a versions_nowhere × Noted a number_not_in_heap)
Knows p a (write_segment place) = Holding a writes (λ d. (d.pending ≡ []) × (d.closed ≡ false) × (d.next ≡ None) × (place ≢ d.segment.place))
Knows p a use_segment = Holding a writes (λ d. (d.closed ≡ false) × Holding a installed (λ e. d.next ≡ Some e.last.segment))
Knows p a stop_log = Holding a writes (λ d. Holding a installed (λ e. (d.pending ≡ []) × (d.closed ≡ false) × (d.next ≢ Some e.last.segment) × (e.halted ≡ true)))
Knows p a add_prepared = Holding a writes (λ d. Holding a prepared (λ t. (name : List ℕ) × (batch : List Change) × (others : List Entry) × (d.pending ≡ Prepare name batch ∷ others)))
Knows p a take_pending_prepared = Holding a writes (λ d. Holding a prepared (λ t. (name : List ℕ) × (batch : List Change) × (others : List Entry) × (d.pending ≡ Prepare name batch ∷ others)))
Knows p a (add_delayed_commit pair) = Holding a prepared (λ t. IsUp a delayed_flag_stays × (decision_of a.participant.seen pair.number ≡ Some pair.decision))
Knows p a (delay_pending pair) = Holding a writes (λ d. Holding a prepared (λ t. IsUp a delayed_flag_stays × (pending_pair d.history d.pending ≡ Some pair)))
Knows p a (take_out q) =
    Holding a prepared (λ t. (c : ℕ) × (decision_of a.participant.seen q ≡ Some c)
    × ((fits p.cells (commit_pair q c) ≡ true) ⊎ Holding a snapshots (λ m. IsInOldCommits m q c × ((max : ℕ) × (words : List ℕ) × Noted a (words_stay max words) × (c ≤ max)))))
Knows p a (register_again s) = Holding a snapshots (λ m. IsLive m s × (s ≤ length a.participant.seen))
Knows p a (release front r back) = Holding a snapshots (λ m. a.participant.registered ≡ front ++ r ∷ back)
Knows p a (add_old_commit s q) = Holding a snapshots (λ m. IsLive m s × IsUp a old_flag_stays × ((c : ℕ) × (decision_of a.participant.seen q ≡ Some c) × (q ≤ s) × (s < c)))
Knows p a (add_versions memory) = Holding a writes (λ d. Holding a store (λ t. HasVersionsAt (next_of d.pending) (suc (length d.history)) t.memory memory))
Knows p a (take_versions memory) = Holding a writes (λ d. Holding a store (λ t. HasVersionsAt None (suc (length d.history)) t.memory memory))
Knows p a (move_versions memory tables) = Holding a store (λ t. Holding a installed (λ e. KnowsMoved t e.last.flushed memory tables))
Knows p a (replace_versions tables floor) = Holding a store (λ t. Holding a installed (λ e. (first : InstalledEdit) × (p.first_edit ≡ Some first) × KnowsReplaced a t e.last.flushed first.segment.base tables floor))
Knows p a (install edit compacts) = Holding a installed (λ e. KnowsInstalled a e edit compacts)
Knows p a (renew edit) = Holding a writes (λ d. Holding a installed (λ e. KnowsRenewed a d e edit))
Knows p a (halt None) = Holding a installed (λ e. e.halted ≡ false)
Knows p a (halt (Some edit)) = Holding a installed (λ e. (e.halted ≡ false) × IsEditCovered a.participant.seen edit × ((edit.segment ≡ e.last.segment) ⊎ Holding a writes (λ d. NextNamed d edit)))
Knows p a find_edit = Holding a installed (λ e. Unit {0})
Knows p a (claim_name name) = Holding a locks (λ t. (finite.get t.names name ≡ None) × (a.live ≡ true))
Knows p a (take_name name q) = Holding a writes (λ d. Holding a locks (λ t. (finite.get t.names name ≡ Some None) × (named d.history name ≡ Some q)))
Knows p a (leave_name name) = Holding a locks (λ t. ((x : Transaction) × HasTransaction a name x) × ((q : ℕ) × Noted a (undecided_at name q)))
Knows p a (free_transaction name) = Holding a locks (λ t. ((x : Transaction) × HasTransaction a name x) × Noted a (unprepared name))
Knows p a (lock_key name x key) = Holding a locks (λ t. HasTransaction a name x × (finite.get t.keys key ≡ None) × Noted a (unprepared name))
Knows p a (free_key name x key) = Holding a locks (λ t. HasTransaction a name x × (set.contains x.locked key ≡ true) × Noted a (unprepared name))
Knows p a (lock_direct key) = Holding a locks (λ t. (a.participant.direct ≡ None) × (finite.get t.keys key ≡ None))
Knows p a (free_direct key) = Holding a locks (λ t. a.participant.direct ≡ Some key)
Knows p a (tell label) = Holding a locks (λ t. Unit {0})
Knows p a (hear label n) = Holding a locks (λ t. finite.get t.labels label ≡ Some n)
Knows p a (set_batch name x batch) = HasTransaction a name x × (is_batch batch ≡ true)
Knows p a (note fact) = (a.live ≡ true) × KnowsFact a fact
Knows p a (set_client client) = (a.live ≡ true) × (a.participant.transactions ≡ finite.empty) × (a.participant.direct ≡ None)
Knows p a other = ⊥
