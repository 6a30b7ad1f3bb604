-- What an actor noted, while others hold the states, is so.
use Rattle.std.specs.Prelude.{◌≡◌, ◌≢◌, ◌⊎◌, ℕ, suc, ◌≤◌, ◌<◌, true, false, List, length, Option, Some, None}
use Rattle.std.specs.FinSet as set
use Rattle.std.specs.FinMap as finite
use Rattle.wp_model.specs.declared.entry.Entry.{Entry}
use Rattle.wp_model.specs.History.{named, batch_at, is_changed, holder_of}
use Rattle.wp_model.specs.Legal.{prior}
use Rattle.wp_model.specs.Decision.{decision_of, version_in}
use Rattle.wp_model.specs.Versions.{version_at}
use Rattle.wp_model.specs.Changed.{IsUnchanged}
use Rattle.wp_model.specs.Covered.{is_among}
use Rattle.wp_model.specs.Snapshots.{IsLive, Snapshots}
use Rattle.wp_model.specs.declared.holder.Holder.TheVariants.{Txn, Client}
use Rattle.wp_core.specs.Lists.{EachAt, IsIn}
use Rattle.wp_core.specs.Turns.{Turn, write_turn, prepared_turn, snapshots_turn, tables_turn, Holders, Holds}
use Rattle.wp_judge.specs.Words.{CommitPair}
use Rattle.wp_core.specs.Cache.{cached, pair_at}
use Rattle.wp_model.specs.PreparedSets.{PreparedSets, is_prepared}
use Rattle.wp_model.specs.LockState.{LockState, Keys, is_among_keys}
use Rattle.wp_core.specs.States.{WriteState, StoreState, Installed}
use Rattle.wp_core.specs.Views.{Fact, passed, in_old_commits, apart, words_stay, has_left, versions_in_memory, versions_nowhere, number_in_heap, number_not_in_heap, pair_delayed, pair_not_delayed, none_waits, undecided_at, prior_values, unprepared, direct_free, unchanged, locks_stay, tables_stay, live_listed, nothing_flushed, frozen_stay, delayed_flag_stays, old_flag_stays}
use Rattle.wp_core.specs.Entries.{next_of, pending_pair}
use Rattle.wp_core.specs.World.{Transaction, Participant, Actor}
use Rattle.wp_core.specs.Sound.Prepared.{IsInOldCommits}
use Rattle.wp_core.specs.Sound.Store.{NoneFlushed}

-- ---- which turn guards a fact

-- while this turn is held the fact stays; none: without a turn
abbrev pub guarded_by : Fact → Option Turn
guarded_by (has_left p) = None
guarded_by (undecided_at name p) = None
guarded_by (prior_values name p batch) = None
guarded_by (unprepared name) = None
guarded_by (direct_free key) = None
guarded_by (unchanged name key n) = None
guarded_by (locks_stay name p keys) = None
guarded_by (live_listed floor listed) = None
guarded_by (tables_stay versions floor) = Some tables_turn
guarded_by nothing_flushed = Some tables_turn
guarded_by (frozen_stay n versions) = Some tables_turn
guarded_by (delayed_flag_stays value) = Some prepared_turn
guarded_by (old_flag_stays value) = Some snapshots_turn
guarded_by other = Some write_turn

-- the actor holds the turn that guards the fact, if one does
abbrev pub IsGuarded : Holders → Fact → ℕ → Type 0
IsGuarded holders fact by = (turn : Turn) → guarded_by fact ≡ Some turn → Holds holders turn by

-- ---- what it says

-- the word at this place has the pair, which is published
pub record IsClearing (published : ℕ) (cache : List ℕ) (place : ℕ) (pair : CommitPair) (why : Type 0) : Type 0 where
  pub place_within : place < length cache
  pub there : pair_at cache place ≡ Some pair
  pub published_by : pair.decision ≤ published
  pub so : why

-- no prepared set has it, or the delayed commits do
abbrev pub IsApart : PreparedSets → CommitPair → Type 0
IsApart t pair = (is_prepared t pair.number ≡ false) ⊎ (finite.get t.delayed_commits pair.number ≡ Some pair.decision)

-- The number is decided, and in neither the heap nor the delayed set. So it stays: a number comes into the heap as the next one
-- alone, and into the delayed set out of the heap. The delayed commits say nothing here: they may get a decided number at any time.
abbrev pub HasLeft : List Entry → PreparedSets → ℕ → Type 0
HasLeft history t p = ((c : ℕ) × (decision_of history p ≡ Some c)) × (is_prepared t p ≡ false)

-- each number that is prepared still, and whose decision the bound has come to, is in its word
abbrev pub NoneWaits : List Entry → PreparedSets → List ℕ → ℕ → Type 0
NoneWaits history t cache max = (p c : ℕ) → is_prepared t p ≡ true → decision_of history p ≡ Some c → c ≤ max → cached cache p ≡ Some c

-- the pair of the pending entry is a delayed commit, or is not
abbrev pub IsDelayed : WriteState → PreparedSets → Type 0
IsDelayed d t = (pair : CommitPair) → pending_pair d.history d.pending ≡ Some pair → finite.get t.delayed_commits pair.number ≡ Some pair.decision

abbrev pub IsUndelayed : WriteState → PreparedSets → Type 0
IsUndelayed d t = (pair : CommitPair) → pending_pair d.history d.pending ≡ Some pair → finite.get t.delayed_commits pair.number ≢ Some pair.decision

-- the versions of the pending entry are in memory
abbrev pub IsInMemory : WriteState → StoreState → Type 0
IsInMemory d t = (key : List ℕ) (value : Option (List ℕ)) → version_in (next_of d.pending) key ≡ Some value → version_at t.memory key (suc (length d.history)) ≡ Some value

abbrev pub IsNowhere : WriteState → StoreState → Type 0
IsNowhere d t = (key : List ℕ) → version_at t.memory key (suc (length d.history)) ≡ None

-- the transaction is the actor's
abbrev pub Owns : Participant → List ℕ → Type 0
Owns a name = (t : Transaction) × (finite.get a.transactions name ≡ Some t)

-- ... and has the key locked
abbrev pub OwnsKey : Participant → List ℕ → List ℕ → Type 0
OwnsKey a name key = (t : Transaction) × (finite.get a.transactions name ≡ Some t) × (set.contains t.locked key ≡ true)

-- just these keys are held for the transaction
pub record AreKeysOf (held : Keys) (name : List ℕ) (keys : List (List ℕ)) : Type 0 where
  pub among : (key : List ℕ) → finite.get held key ≡ Some (Txn name) → is_among_keys keys key ≡ true
  pub are_held : (key : List ℕ) → is_among_keys keys key ≡ true → finite.get held key ≡ Some (Txn name)

abbrev pub IsSo : ℕ → ℕ → ℕ → List ℕ → WriteState → PreparedSets → Snapshots → StoreState → LockState → Installed → Participant → Fact → Type 0
IsSo delayed_flag old_flag max cache d t m s l e a (passed place pair) = IsClearing (length d.history) cache place pair (pair.decision ≤ max)
IsSo delayed_flag old_flag max cache d t m s l e a (in_old_commits place pair) = IsClearing (length d.history) cache place pair (IsInOldCommits m pair.number pair.decision)
IsSo delayed_flag old_flag max cache d t m s l e a (apart place pair) = IsClearing (length d.history) cache place pair (IsApart t pair)
IsSo delayed_flag old_flag max cache d t m s l e a (words_stay bound words) = (max ≡ bound) × (cache ≡ words)
IsSo delayed_flag old_flag max cache d t m s l e a (has_left p) = HasLeft d.history t p
IsSo delayed_flag old_flag max cache d t m s l e a versions_in_memory = IsInMemory d s
IsSo delayed_flag old_flag max cache d t m s l e a versions_nowhere = IsNowhere d s
IsSo delayed_flag old_flag max cache d t m s l e a number_in_heap = set.contains t.heap (suc (length d.history)) ≡ true
IsSo delayed_flag old_flag max cache d t m s l e a number_not_in_heap = set.contains t.heap (suc (length d.history)) ≡ false
IsSo delayed_flag old_flag max cache d t m s l e a pair_delayed = IsDelayed d t
IsSo delayed_flag old_flag max cache d t m s l e a pair_not_delayed = IsUndelayed d t
IsSo delayed_flag old_flag max cache d t m s l e a none_waits = NoneWaits d.history t cache max
IsSo delayed_flag old_flag max cache d t m s l e a (undecided_at name p) = Owns a name × (named d.history name ≡ Some p) × (finite.get l.names name ≡ Some (Some a.client)) × ((key : List ℕ) → is_changed (batch_at d.history p) key ≡ true → finite.get l.keys key ≡ Some (Txn name))
IsSo delayed_flag old_flag max cache d t m s l e a (prior_values name p batch) = Owns a name × (named d.history name ≡ Some p) × (prior d.history (batch_at d.history p) ≡ batch)
IsSo delayed_flag old_flag max cache d t m s l e a (unprepared name) = Owns a name × (named d.history name ≡ None) × ((x : Transaction) (key : List ℕ) → finite.get a.transactions name ≡ Some x → set.contains x.locked key ≡ true → holder_of d.history key ≡ None)
IsSo delayed_flag old_flag max cache d t m s l e a (direct_free key) = (a.direct ≡ Some key) × (finite.get l.keys key ≡ Some (Client a.client)) × (holder_of d.history key ≡ None)
IsSo delayed_flag old_flag max cache d t m s l e a (unchanged name key n) = OwnsKey a name key × (n ≤ length d.history) × IsUnchanged d.history key n
IsSo delayed_flag old_flag max cache d t m s l e a (locks_stay name p keys) = (p ≤ length d.history) × (named d.history name ≡ Some p → AreKeysOf l.keys name keys)
IsSo delayed_flag old_flag max cache d t m s l e a (tables_stay versions floor) = (s.tables ≡ versions) × (s.floor ≡ floor)
IsSo delayed_flag old_flag max cache d t m s l e a (live_listed floor listed) = (floor ≤ length d.history) × ((n : ℕ) → IsLive m n → (is_among listed n ≡ true) ⊎ (floor ≤ n))
IsSo delayed_flag old_flag max cache d t m s l e a nothing_flushed = NoneFlushed s.memory e.last.flushed
IsSo delayed_flag old_flag max cache d t m s l e a (frozen_stay n versions) = (n ≤ length d.history) × ((key : List ℕ) (p : ℕ) → p ≤ n → version_at s.memory key p ≡ version_at versions key p)
IsSo delayed_flag old_flag max cache d t m s l e a (delayed_flag_stays value) = delayed_flag ≡ value
IsSo delayed_flag old_flag max cache d t m s l e a (old_flag_stays value) = old_flag ≡ value

-- ---- the notes of all actors

abbrev pub noter_of : Actor → Participant × List Fact
noter_of a = (a.participant, a.notes)

pub record IsNoted (holders : Holders) (so : Participant → Fact → Type 0) (j : ℕ) (x : Participant × List Fact) (fact : Fact) : Type 0 where
  pub guarded : IsGuarded holders fact j
  pub is_so : so x.0 fact

abbrev pub AreNoted : Holders → (Participant → Fact → Type 0) → List (Participant × List Fact) → Type 0
AreNoted holders so noters = EachAt (λ j x. (fact : Fact) → IsIn fact x.1 → IsNoted holders so j x fact) noters
