-- The actor that steps beside a load leave.
use Rattle.std.proofs.Common.{◌≡◌, ℕ, ◌≤◌, Bool, ◌||◌, true, false, true≢false, List, [], ◌∷◌, length, refl, sym, subst, ap, ◌∙◌, Option, Some, None, is_some, arith}
use Rattle.std.specs.Prelude.{unwrap_or}
use Rattle.std.specs.FinSet as set
use Rattle.std.specs.FinMap as finite
use Rattle.std.specs.Option.{option_map_or}
use Rattle.std.specs.Cmp.{both_ways}
use Rattle.std.proofs.lemmas.Cmp.{nat_list_cmp_total}
use Rattle.std.proofs.lemmas.Slice.Eq.{bytes_eq-Decides}
use Rattle.wp_model.specs.LockState.{LockState, is_among_keys}
use Rattle.wp_model.specs.Batch.{is_batch}
use Rattle.wp_model.specs.History.{named, batch_at}
use Rattle.wp_model.specs.declared.change.Change.{Change}
use Rattle.wp_model.specs.declared.entry.Entry.{Entry}
use Rattle.wp_model.specs.declared.holder.Holder.{Holder}
use Rattle.wp_model.specs.declared.holder.Holder.TheVariants.{Txn, Client}
use Rattle.wp_locks.specs.Locks.{is_free_for}
use Rattle.wp_model.specs.Holder.{is_same, is_same_txn}
use Rattle.wp_core.specs.Lists.{IsIn}
use Rattle.wp_core.specs.States.{locks}
use Rattle.wp_core.specs.Turns.{locks_turn}
use Rattle.wp_core.specs.Views.{Account, Fact, has_left, undecided_at, prior_values, unprepared, direct_free, unchanged, locks_stay, live_listed}
use Rattle.wp_core.specs.World.{Transaction, Actor, World}
use Rattle.wp_core.specs.Steps.{Step, load_published, claim_name, find_holder, lock_key, free_key, set_batch, free_transaction, leave_name, take_name, tell, hear, note}
use Rattle.wp_core.specs.Changes.{sees, has_transaction, is_held_by, keys_of_holder, with_name, without_key, without_transaction}
use Rattle.wp_core.specs.Conditions.{HasTransaction}
use Rattle.wp_core.specs.Effects.{done}
use Rattle.wp_core.specs.Notes.{ends}
use Rattle.wp_core.specs.Sound.Actors.{StartsWith}
use Rattle.wp_core.specs.Sound.Locks.{owner_of}
use Rattle.wp_core.specs.Sound.Views.{OwnsKey}
use Rattle.wp_history_laws.proofs.Unchanged.{unchanged_at_end}
use Rattle.wp_core.proofs.AllParticipants.{mine}
use Rattle.wp_core.proofs.HistoryGrows.{none_is}
use Rattle.wp_model.proofs.Keyed.{at_inserted, same_test}
use Rattle.wp_model.proofs.Tests.{some_none}
use Rattle.wp_core.proofs.KeepsSeen.{shorter}
use Rattle.wp_rule.specs.Words.{Place, IsAt, SawAll}
use Rattle.wp_rule.specs.Moves.{MayMake, Moved, first_of, actor_after, world_after, taking_name}
use Rattle.wp_rule.specs.Accounts.{IsHolderIn, account_of}
use Rattle.wp_rule.specs.Knows.{Noted}
use Rattle.wp_rule.proofs.Forgets.{EndsNothing, forgets_nothing, load_ends, note_ends}
use Rattle.wp_rule.proofs.Knows.{at_sound, seen_is, noted_is}
use Rattle.wp_rule.proofs.MayBeMade.{known_made, finds_holder}
use Rattle.wp_rule.proofs.Needed.{has_locks, has_writes, undecided_of, alone}
use Rattle.wp_rule.proofs.Outlasting.{outlasts}
use Rattle.wp_rule.proofs.Stores.{holder_is_live}
use Rattle.wp_shared.specs.Seats.{SharedState, SeatState, Stands, place_at}
use Rattle.wp_shared.proofs.OneStep.{stepped, becomes}
use Rattle.wp_open_txns.specs.Actors.{no_changes, transaction_in, with_key_locked, with_claimed, with_found, with_locked, freeing_key, with_batch, giving_up, with_taken, with_told, with_heard}
use Rattle.wp_open_txns.specs.Calls.{WasHistory}
use Rattle.wp_open_txns.specs.Turns.{IsApartFrom, is_of_key, IsOfOtherKey, IsWithout, IsWithoutKey, LocksUnchanged, TakesPrepare}
use Rattle.wp_shared.specs.Notes.{seat_of}
use Rattle.wp_open_txns.specs.Txn.{PreparedState, keys_in, HasPrepared}
use Rattle.wp_open_txns.proofs.Keys.{among_keys_in}

-- ---- steps that end no note

abbrev EndNothing : List Step → Type 0
EndNothing [] = Unit {0}
EndNothing (step ∷ steps) = EndsNothing step × EndNothing steps

abbrev all_stepped : List Step → World → ℕ → Actor → Actor
all_stepped [] w by a = a
all_stepped (step ∷ steps) w by a = all_stepped steps (done w by a step) by (stepped w a step)

none_forgotten : (steps : List Step) (w : World) (by : ℕ) (a : Actor) → EndNothing steps → actor_after steps w by a ≡ all_stepped steps w by a
none_forgotten [] w by a e = refl
none_forgotten (step ∷ steps) w by a e =
    ap (λ (x : Actor). actor_after steps (done w by x step) by (first_of (done (record w { actors = a ∷ [] }) 0 x step).actors a)) (forgets_nothing w.writes.history (length w.cache) step a e.0)
    ∙ none_forgotten steps (done w by a step) by (stepped w a step) e.1

pub all_made : (p : Place) (steps : World → List Step) (so : World → Type 0) (a b : Actor) (m : Moved p steps so a b) → EndNothing (steps m.world) → b ≡ all_stepped (steps m.world) m.world p.by a
all_made p steps so a b m ends_none = m.actor ∙ none_forgotten (steps m.world) m.world p.by a ends_none

claim_ends : (name : List ℕ) → EndsNothing (claim_name name)
claim_ends name = record { guard = λ turn. refl; place = λ words place. refl; words = refl; delayed_flag = refl; old_flag = refl; pending = refl; adds = refl; takes = refl; prepared = refl; unprepared = refl; delays = refl; transaction = λ history name. refl; changes = λ history key. refl; direct = refl; moves = refl; replaces = refl; installing = refl }

find_ends : (key : Option (List ℕ)) (holder : Holder) (account : Account) → EndsNothing (find_holder key holder account)
find_ends key holder account = record { guard = λ turn. refl; place = λ words place. refl; words = refl; delayed_flag = refl; old_flag = refl; pending = refl; adds = refl; takes = refl; prepared = refl; unprepared = refl; delays = refl; transaction = λ history name. refl; changes = λ history key. refl; direct = refl; moves = refl; replaces = refl; installing = refl }

lock_ends : (name : List ℕ) (x : Transaction) (key : List ℕ) → EndsNothing (lock_key name x key)
lock_ends name x key = record { guard = λ turn. refl; place = λ words place. refl; words = refl; delayed_flag = refl; old_flag = refl; pending = refl; adds = refl; takes = refl; prepared = refl; unprepared = refl; delays = refl; transaction = λ history name. refl; changes = λ history key. refl; direct = refl; moves = refl; replaces = refl; installing = refl }

batch_ends : (name : List ℕ) (x : Transaction) (batch : List Change) → EndsNothing (set_batch name x batch)
batch_ends name x batch = record { guard = λ turn. refl; place = λ words place. refl; words = refl; delayed_flag = refl; old_flag = refl; pending = refl; adds = refl; takes = refl; prepared = refl; unprepared = refl; delays = refl; transaction = λ history name. refl; changes = λ history key. refl; direct = refl; moves = refl; replaces = refl; installing = refl }

take_ends : (name : List ℕ) (q : ℕ) → EndsNothing (take_name name q)
take_ends name q = record { guard = λ turn. refl; place = λ words place. refl; words = refl; delayed_flag = refl; old_flag = refl; pending = refl; adds = refl; takes = refl; prepared = refl; unprepared = refl; delays = refl; transaction = λ history name. refl; changes = λ history key. refl; direct = refl; moves = refl; replaces = refl; installing = refl }

tell_ends : (label : List ℕ) → EndsNothing (tell label)
tell_ends label = record { guard = λ turn. refl; place = λ words place. refl; words = refl; delayed_flag = refl; old_flag = refl; pending = refl; adds = refl; takes = refl; prepared = refl; unprepared = refl; delays = refl; transaction = λ history name. refl; changes = λ history key. refl; direct = refl; moves = refl; replaces = refl; installing = refl }

hear_ends : (label : List ℕ) (n : ℕ) → EndsNothing (hear label n)
hear_ends label n = record { guard = λ turn. refl; place = λ words place. refl; words = refl; delayed_flag = refl; old_flag = refl; pending = refl; adds = refl; takes = refl; prepared = refl; unprepared = refl; delays = refl; transaction = λ history name. refl; changes = λ history key. refl; direct = refl; moves = refl; replaces = refl; installing = refl }

-- the seat stands in the world that the steps led to
pub stands_after : {D : Type 0} (z : SharedState D) (old new : SeatState) (steps : World → List Step) (so : World → Type 0) → new.by ≡ old.by → Moved (place_at z old.by) steps so old.knows new.knows → (w : World) × Stands z new w
stands_after z old new steps so by m = let last = world_after (steps m.world) m.world old.by old.knows in (last, subst (λ (n : ℕ). IsAt (place_at z n) new.knows last) (sym by) m.after)

-- ---- what is there

there_is : {X : Type 0} (o : Option X) (x : X) → is_some o ≡ true → o ≡ Some (unwrap_or o x)
there_is None x is = absurd cc
there_is (Some y) x is = refl

pub has_its : (a : Actor) (name : List ℕ) → is_some (finite.get a.participant.transactions name) ≡ true → HasTransaction a name (transaction_in a.participant name)
has_its a name there = there_is (finite.get a.participant.transactions name) no_changes there

-- a state that the actor holds is the world's
pub locks_are : (p : Place) (a : Actor) (w : World) (t : LockState) → IsAt p a w → IsIn (locks t) a.held → w.locks ≡ t
locks_are p a w t k held = (has_locks p a w k (λ l. l ≡ t) (record { state = t; held = held; so_is = refl })).1

-- what it has is in them
module _ (p : Place) (a : Actor) (w : World) (k : IsAt p a w) (name : List ℕ) (x : Transaction) (has : HasTransaction a name x) where
  name_there : finite.get w.locks.names name ≡ Some (Some a.participant.client)
  name_there = ((at_sound p a w k).locks.had p.by 0 (owner_of a.participant) (mine owner_of w.actors p.by a a k.there refl)).names name x has

  pub key_there : (key : List ℕ) → set.contains x.locked key ≡ true → finite.get w.locks.keys key ≡ Some (Txn name)
  key_there key locked = ((at_sound p a w k).locks.had p.by 0 (owner_of a.participant) (mine owner_of w.actors p.by a a k.there refl)).keys name x key has locked

-- it has no transaction whose name is no client's
pub not_had : (p : Place) (a : Actor) (w : World) (t : LockState) (name : List ℕ) → IsAt p a w → w.locks ≡ t → ((client : List ℕ) → finite.get t.names name ≡ Some (Some client) → ⊥) → finite.get a.participant.transactions name ≡ None
not_had p a w t name k are none = none_is (finite.get a.participant.transactions name) (λ x has. none a.participant.client (ap (λ (l : LockState). finite.get l.names name) (sym are) ∙ name_there p a w k name x has))

-- ---- names and holders

pub name_claimed : (p : Place) (so : World → Type 0) (a b : Actor) (t : LockState) (name : List ℕ) → Moved p (λ w. claim_name name ∷ note (unprepared name) ∷ []) so a b → IsIn (locks t) a.held → b ≡ with_claimed t name a
name_claimed p so a b t name m held =
    all_made p (λ w. claim_name name ∷ note (unprepared name) ∷ []) so a b m (claim_ends name, (note_ends (unprepared name), tt))
    ∙ ap (λ (l : LockState). with_claimed l name a) (locks_are p a m.world t m.before held)

pub may_find : (p : Place) (a : Actor) (t : LockState) (key : Option (List ℕ)) (holder : Holder) → IsIn (locks t) a.held → IsHolderIn t key holder
    → MayMake p a (λ w. find_holder key holder (account_of a.participant w.locks (length w.writes.history) key holder) ∷ [])
may_find p a t key holder held is = finds_holder p a key holder (record { state = t; held = held; so_is = is })

pub holder_found : (p : Place) (so : World → Type 0) (s new : SeatState) (t : LockState) (key : Option (List ℕ)) (holder : Holder) → IsIn (locks t) s.knows.held → (new.table ≡ s.table) × (new.by ≡ s.by) × (new.turns ≡ s.turns)
    → Moved p (λ w. find_holder key holder (account_of s.knows.participant w.locks (length w.writes.history) key holder) ∷ []) so s.knows new.knows
    → (published : ℕ) × (length s.knows.participant.seen ≤ published) × (new ≡ seat_of s (with_found t published key holder s.knows))
holder_found p so s new t key holder held same m =
    let w = m.world in let n : ℕ = length w.writes.history in
    let made = all_made p (λ v. find_holder key holder (account_of s.knows.participant v.locks (length v.writes.history) key holder) ∷ []) so s.knows new.knows m (find_ends key holder (account_of s.knows.participant w.locks n key holder), tt) in
    (n, shorter w.writes.history s.knows.participant.seen (seen_is p s.knows w m.before), becomes s new (with_found t n key holder s.knows) same (made ∙ ap (λ (l : LockState). with_found l n key holder s.knows) (locks_are p s.knows w t m.before held)))

-- ---- keys and batches

same_txn : (holder : Holder) (name : List ℕ) → is_same_txn holder (Txn name) ≡ true → holder ≡ Txn name
same_txn (Txn other) name same = ap Txn ((bytes_eq-Decides other name).0 same)
same_txn (Client other) name same = absurd cc

not_free : (o : Option Holder) (name : List ℕ) → is_free_for o (Txn name) ≡ true → (o ≡ Some (Txn name) → ⊥) → o ≡ None
not_free None name free other = refl
not_free (Some holder) name free other = absurd (other (ap (λ (h : Holder). Some h) (same_txn holder name free)))

-- the steps by which it locks a key for its transaction: it sees the history too, and notes that the key is unchanged since
abbrev pub locking_steps : Actor → List ℕ → List ℕ → World → List Step
locking_steps a name key w = lock_key name (transaction_in a.participant name) key ∷ load_published ∷ note (unchanged name key (length w.writes.history)) ∷ []

has_key_more : (x : Transaction) (key : List ℕ) → set.contains (with_key_locked key x).locked key ≡ true
has_key_more x key = set.contains-insert nat_list_cmp_total x.locked key key ∙ ap (λ (b : Bool). b || set.contains x.locked key) (same_test key key refl)

pub may_lock : (p : Place) (a : Actor) (t : LockState) (name key : List ℕ) → is_some (finite.get a.participant.transactions name) ≡ true → set.contains (transaction_in a.participant name).locked key ≡ false
    → IsIn (unprepared name) a.notes → IsIn (locks t) a.held → is_free_for (finite.get t.keys key) (Txn name) ≡ true → MayMake p a (locking_steps a name key)
may_lock p a t name key there unlocked noted held free w k =
    let h = has_locks p a w k (λ l. is_free_for (finite.get l.keys key) (Txn name) ≡ true) (record { state = t; held = held; so_is = free }) in
    let x = transaction_in a.participant name in let has = has_its a name there in
    let live : a.live ≡ true = holder_is_live p a w locks_turn k h.0 in
    let none = not_free (finite.get w.locks.keys key) name h.1 (λ own.
    true≢false (sym ((at_sound p a w k).locks.keys_known key name own p.by 0 (owner_of a.participant) (mine owner_of w.actors p.by a a k.there refl) x has) ∙ unlocked)) in
    let has_now : OwnsKey (has_transaction a name (with_key_locked key x)).participant name key = (with_key_locked key x, at_inserted a.participant.transactions name (with_key_locked key x) name refl, has_key_more x key) in (
      (tt, (tt, (tt, tt))),
      (
        (h.0, has, none, (noted_is p a w (unprepared name) k noted).is_so.1),
        (tt, ((live, alone p a w k, (has_now, omega arith, unchanged_at_end w.writes.history key (length w.writes.history) (omega arith))), tt)),
      ),
    )

-- no note of a key says anything that nobody holds
none_noted : (p : Place) (a : Actor) (w : World) (key : List ℕ) → IsAt p a w → finite.get w.locks.keys key ≡ None → (fact : Fact) → is_of_key key fact ≡ true → IsIn fact a.notes → ⊥
none_noted p a w key k none (unchanged name other n) is there =
    let owns = (noted_is p a w (unchanged name other n) k there).is_so.0 in
    some_none (Txn name) (sym (key_there p a w k name owns.0 owns.1 other owns.2) ∙ ap (finite.get w.locks.keys) (sym ((bytes_eq-Decides key other).0 is)) ∙ none)
none_noted p a w key k none other is there = absurd cc

pub key_locked : (p : Place) (so : World → Type 0) (s new : SeatState) (same : (new.table ≡ s.table) × (new.by ≡ s.by) × (new.turns ≡ s.turns)) (t : LockState) (name key : List ℕ) → IsIn (locks t) s.knows.held
    → Moved p (locking_steps s.knows name key) so s.knows new.knows → LocksUnchanged s t name key new
key_locked p so s new same t name key held m =
    let a = s.knows in let w = m.world in let h : List Entry = w.writes.history in
    let are = locks_are p a w t m.before held in
    let made = all_made p (locking_steps a name key) so a new.knows m (lock_ends name (transaction_in a.participant name) key, (load_ends, (note_ends (unchanged name key (length h)), tt))) in
    record {
      history = h;
      seat = becomes s new (with_locked t h name key a) same (made ∙ ap (λ (l : LockState). with_locked l h name key a) are);
      grown = seen_is p a w m.before;
      free = ap (λ (l : LockState). finite.get l.keys key) (sym are) ∙ m.met.0.2;
      first = none_noted p a w key m.before m.met.0.2;
    }

-- ---- a key that is freed again

owned_locked : (a : Actor) (name key : List ℕ) → OwnsKey a.participant name key → set.contains (transaction_in a.participant name).locked key ≡ true
owned_locked a name key owns = ap (λ (o : Option Transaction). set.contains (unwrap_or o no_changes).locked key) owns.1 ∙ owns.2

pub may_free_key : (p : Place) (a : Actor) (t : LockState) (name key : List ℕ) → OwnsKey a.participant name key → IsIn (unprepared name) a.notes → IsIn (locks t) a.held → MayMake p a (λ w. free_key name (transaction_in a.participant name) key ∷ [])
may_free_key p a t name key owns noted held =
    known_made p a (free_key name (transaction_in a.participant name) key) tt (record { state = t; held = held; so_is = (has_its a name (ap is_some owns.1), owned_locked a name key owns, noted) })

free_key_ends : (history : List Entry) (words : ℕ) (name : List ℕ) (x : Transaction) (key : List ℕ) (fact : Fact) → IsOfOtherKey key fact → ends history words (free_key name x key) fact ≡ false
free_key_ends history words name x key (undecided_at other p) e = refl
free_key_ends history words name x key (prior_values other p batch) e = refl
free_key_ends history words name x key (unprepared other) e = refl
free_key_ends history words name x key (direct_free k) e = refl
free_key_ends history words name x key (unchanged other k n) e = e.1
free_key_ends history words name x key (locks_stay other p keys) e = refl
free_key_ends history words name x key (live_listed floor listed) e = refl
free_key_ends history words name x key (has_left p) e = refl
free_key_ends history words name x key other e = let n = e.0 in absurd cc

-- the actor but for its notes
pub but_notes : (a b c : Actor) → b ≡ record a { notes = c.notes } → b ≡ record a { notes = b.notes }
but_notes a b c e = e ∙ ap (λ (notes : List Fact). record a { notes = notes }) (sym (ap (λ (x : Actor). x.notes) e))

pub key_freed : (p : Place) (so : World → Type 0) (s new : SeatState) (same : (new.table ≡ s.table) × (new.by ≡ s.by) × (new.turns ≡ s.turns)) (t : LockState) (name key : List ℕ) → IsIn (locks t) s.knows.held
    → Moved p (λ w. free_key name (transaction_in s.knows.participant name) key ∷ []) so s.knows new.knows → IsWithoutKey s new (without_key t key) name key
key_freed p so s new same t name key held m =
    let a = s.knows in let step = free_key name (transaction_in a.participant name) key in
    let after = actor_after (step ∷ []) m.world p.by a in
    let e : new.knows ≡ record (freeing_key (without_key t key) name key a) { notes = after.notes } =
    m.actor ∙ ap (λ (l : LockState). record (freeing_key (without_key l key) name key a) { notes = after.notes }) (locks_are p a m.world t m.before held) in
    record {
      seat = becomes s new (record (freeing_key (without_key t key) name key a) { notes = new.knows.notes }) same (but_notes (freeing_key (without_key t key) name key a) new.knows after e);
      notes = λ fact stays there.
          subst (λ (x : Actor). Noted x fact) (sym m.actor) (outlasts fact (step ∷ []) m.world p.by a there ((λ x. x), free_key_ends m.world.writes.history (length m.world.cache) name (transaction_in a.participant name) key fact stays, tt));
    }

pub may_set : (p : Place) (a : Actor) (name : List ℕ) (batch : List Change) → is_some (finite.get a.participant.transactions name) ≡ true → is_batch batch ≡ true → MayMake p a (λ w. set_batch name (transaction_in a.participant name) batch ∷ [])
may_set p a name batch there ok = known_made p a (set_batch name (transaction_in a.participant name) batch) tt (has_its a name there, ok)

pub batch_set : (p : Place) (so : World → Type 0) (a b : Actor) (name : List ℕ) (batch : List Change) → Moved p (λ w. set_batch name (transaction_in a.participant name) batch ∷ []) so a b → b ≡ with_batch name batch a
batch_set p so a b name batch m = all_made p (λ w. set_batch name (transaction_in a.participant name) batch ∷ []) so a b m (batch_ends name (transaction_in a.participant name) batch, tt)

-- ---- a transaction that goes

pub may_free : (p : Place) (a : Actor) (t : LockState) (name : List ℕ) → is_some (finite.get a.participant.transactions name) ≡ true → IsIn (locks t) a.held → IsIn (unprepared name) a.notes
    → MayMake p a (λ w. free_transaction name ∷ [])
may_free p a t name there held noted = known_made p a (free_transaction name) tt (record { state = t; held = held; so_is = ((transaction_in a.participant name, has_its a name there), noted) })

pub may_leave : (p : Place) (s : SeatState) (t : LockState) (x : PreparedState) → HasPrepared s x → IsIn (locks t) s.knows.held → MayMake p s.knows (λ w. leave_name x.name ∷ [])
may_leave p s t x h held = known_made p s.knows (leave_name x.name) tt (record { state = t; held = held; so_is = ((h.transaction, h.has), (x.number, h.noted)) })

-- just its keys are held for a transaction that the seat has, and so they stay once it is left
pub may_note_locks : (p : Place) (s : SeatState) (x : PreparedState) → s.knows.live ≡ true → HasPrepared s x → MayMake p s.knows (λ w. note (locks_stay x.name x.number (keys_in x.batch x.locked)) ∷ [])
may_note_locks p s x live h w k =
    let few = shorter w.writes.history s.knows.participant.seen (seen_is p s.knows w k) in let low = h.seen in
    let locked_are : (key : List ℕ) → set.contains h.transaction.locked key ≡ is_among_keys (keys_in x.batch x.locked) key = λ key. h.keys key ∙ sym (among_keys_in x.batch x.locked key) in (
      (tt, tt),
      (
        (
          live,
          alone p s.knows w k,
          (
            omega (arith, few, low),
            λ is. record {
              among = λ key holds. sym (locked_are key) ∙ (at_sound p s.knows w k).locks.keys_known key x.name holds p.by 0 (owner_of s.knows.participant) (mine owner_of w.actors p.by s.knows s.knows k.there refl) h.transaction h.has;
              are_held = λ key has. key_there p s.knows w k x.name h.transaction h.has key (locked_are key ∙ has);
            },
          ),
        ),
        tt,
      ),
    )

pub is_live : (p : Place) (a : Actor) (w : World) (t : LockState) (name : List ℕ) → IsAt p a w → is_some (finite.get a.participant.transactions name) ≡ true → IsIn (locks t) a.held → is_some (finite.get t.names name) ≡ true
is_live p a w t name k there held =
    ap (λ (l : LockState). is_some (finite.get l.names name)) (sym (locks_are p a w t k held)) ∙ ap is_some (name_there p a w k name (transaction_in a.participant name) (has_its a name there))

free_ends : (history : List Entry) (words : ℕ) (name : List ℕ) (fact : Fact) → IsApartFrom name fact → ends history words (free_transaction name) fact ≡ false
free_ends history words name (undecided_at other p) e = e.1
free_ends history words name (prior_values other p batch) e = e.1
free_ends history words name (unprepared other) e = e.1
free_ends history words name (direct_free key) e = refl
free_ends history words name (unchanged other key n) e = ap (λ (b : Bool). b || false) e.1
free_ends history words name (locks_stay other p keys) e = refl
free_ends history words name (live_listed floor listed) e = refl
free_ends history words name (has_left p) e = refl
free_ends history words name other e = let n = e.0 in absurd cc

-- leaving a name ends what freeing it does
leave_ends : (history : List Entry) (words : ℕ) (name : List ℕ) (fact : Fact) → ends history words (leave_name name) fact ≡ ends history words (free_transaction name) fact
leave_ends history words name (undecided_at other p) = refl
leave_ends history words name (unchanged other key n) = refl
leave_ends history words name other = refl

-- who holds a key, as the locks have it, and as the test says
held_so : (name : List ℕ) (o : Option Holder) → option_map_or (is_same (Txn name)) o false ≡ true → o ≡ Some (Txn name)
held_so name None h = absurd cc
held_so name (Some (Client client)) h = absurd cc
held_so name (Some (Txn other)) h = ap (λ (n : List ℕ). Some (Txn n)) (sym ((bytes_eq-Decides name other).0 h))

held_for : (name : List ℕ) (o : Option Holder) → o ≡ Some (Txn name) → option_map_or (is_same (Txn name)) o false ≡ true
held_for name o e = ap (λ (x : Option Holder). option_map_or (is_same (Txn name)) x false) e ∙ (bytes_eq-Decides name name).1 refl

module _ (p : Place) (so : World → Type 0) (s new : SeatState) (same : (new.table ≡ s.table) × (new.by ≡ s.by) × (new.turns ≡ s.turns)) (t : LockState) (name : List ℕ) (held : IsIn (locks t) s.knows.held) where
  pub freed_it : Moved p (λ w. free_transaction name ∷ []) so s.knows new.knows → IsWithout s new (without_transaction t name) name
  freed_it m =
      let after = actor_after (free_transaction name ∷ []) m.world p.by s.knows in
      let e : new.knows ≡ record (giving_up (without_transaction t name) name s.knows) { notes = after.notes } =
      m.actor ∙ ap (λ (l : LockState). record (giving_up (without_transaction l name) name s.knows) { notes = after.notes }) (locks_are p s.knows m.world t m.before held) in
      record {
        seat = becomes s new (record (giving_up (without_transaction t name) name s.knows) { notes = new.knows.notes }) same (but_notes (giving_up (without_transaction t name) name s.knows) new.knows after e);
        notes = λ fact stays there.
            subst (λ (x : Actor). Noted x fact) (sym m.actor) (outlasts fact (free_transaction name ∷ []) m.world p.by s.knows there ((λ x. x), free_ends m.world.writes.history (length m.world.cache) name fact stays, tt));
      }

  -- the locks had just those keys for it that it locked
  pub locked_are_held : is_some (finite.get s.knows.participant.transactions name) ≡ true → Moved p (λ w. free_transaction name ∷ []) so s.knows new.knows → (key : List ℕ)
      → is_held_by t (Txn name) key ≡ set.contains (transaction_in s.knows.participant name).locked key
  locked_are_held there m key =
      let w = m.world in let k = m.before in let x = transaction_in s.knows.participant name in
      let at : w.locks ≡ t = locks_are p s.knows w t k held in let has = has_its s.knows name there in
      both_ways (is_held_by t (Txn name) key) (set.contains x.locked key)
      (λ holds.
      (at_sound p s.knows w k).locks.keys_known key name (ap (λ (l : LockState). finite.get l.keys key) at ∙ held_so name (finite.get t.keys key) holds) p.by 0 (owner_of s.knows.participant)
      (mine owner_of w.actors p.by s.knows s.knows k.there refl) x has)
      (λ locked. held_for name (finite.get t.keys key) (ap (λ (l : LockState). finite.get l.keys key) (sym at) ∙ key_there p s.knows w k name x has key locked))

  pub left_it : Moved p (λ w. leave_name name ∷ []) so s.knows new.knows → IsWithout s new (with_name t name None) name
  left_it m =
      let after = actor_after (leave_name name ∷ []) m.world p.by s.knows in
      let e : new.knows ≡ record (giving_up (with_name t name None) name s.knows) { notes = after.notes } =
      m.actor ∙ ap (λ (l : LockState). record (giving_up (with_name l name None) name s.knows) { notes = after.notes }) (locks_are p s.knows m.world t m.before held) in
      record {
        seat = becomes s new (record (giving_up (with_name t name None) name s.knows) { notes = new.knows.notes }) same (but_notes (giving_up (with_name t name None) name s.knows) new.knows after e);
        notes = λ fact stays there.
            subst (λ (x : Actor). Noted x fact) (sym m.actor) (outlasts fact (leave_name name ∷ []) m.world p.by s.knows there ((λ x. x), leave_ends m.world.writes.history (length m.world.cache) name fact ∙ free_ends m.world.writes.history (length m.world.cache) name fact stays, tt));
      }

  -- ---- a prepare that nobody had

  pub took_it : (u : LockState) → IsIn (locks u) s.knows.held → finite.get u.names name ≡ Some None → Moved p (taking_name name) so s.knows new.knows → TakesPrepare s t name new
  took_it u had none m =
      let w = m.world in let k = m.before in let h : List Entry = w.writes.history in let q : ℕ = unwrap_or (named h name) 0 in
      let are : w.locks ≡ t = locks_are p s.knows w t k held in
      let sound = (at_sound p s.knows w k).locks in
      let left : finite.get w.locks.names name ≡ Some None = ap (λ (l : LockState). finite.get l.names name) (locks_are p s.knows w u k had) ∙ none in
      let there : is_some (named h name) ≡ true = sound.names_left name left in
      let is : new.knows ≡ with_taken w.locks h name s.knows = all_made p (taking_name name) so s.knows new.knows m (load_ends, (take_ends name q, (note_ends (undecided_at name q), tt))) in
      let x : Transaction = record { batch = batch_at h q; locked = keys_of_holder w.locks (Txn name) } in
      let has : HasTransaction new.knows name x = ap (λ (a : Actor). finite.get a.participant.transactions name) is ∙ at_inserted s.knows.participant.transactions name x name refl in
      let later : World = world_after (taking_name name w) w p.by s.knows in
      let sound_later = (at_sound p new.knows later m.after).locks in
      let own = mine owner_of later.actors p.by new.knows new.knows m.after.there refl in
      record {
        history = h;
        seat = becomes s new (with_taken t h name s.knows) same (is ∙ ap (λ (l : LockState). with_taken l h name s.knows) are);
        seen = seen_is p s.knows w k;
        named_there = there;
        keys = λ key changed. ap (λ (l : LockState). finite.get l.keys key) (sym are) ∙ undecided_of p s.knows w k name q key (there_is (named h name) 0 there) changed;
        same = λ d holds. (has_writes p s.knows w k (λ e. e.history ≡ d.history) (record { state = d; held = holds; so_is = refl })).1;
      }

  -- ---- the board

  pub told_it : Moved p (λ w. tell name ∷ []) so s.knows new.knows → new ≡ seat_of s (with_told t name s.knows)
  told_it m = becomes s new (with_told t name s.knows) same
      (all_made p (λ w. tell name ∷ []) so s.knows new.knows m (tell_ends name, tt) ∙ ap (λ (l : LockState). with_told l name s.knows) (locks_are p s.knows m.world t m.before held))

  pub heard_it : (n r : ℕ) → finite.get t.labels name ≡ Some n → Moved p (λ w. load_published ∷ hear name n ∷ []) (λ w. r ≡ length w.writes.history) s.knows new.knows
      → (history : List Entry) × StartsWith history s.knows.participant.seen × (n ≤ length history) × (r ≡ length history) × (new ≡ seat_of s (with_heard history name n s.knows))
  heard_it n r there m =
      let w = m.world in let board = (at_sound p s.knows w m.before).board in (
        w.writes.history,
        seen_is p s.knows w m.before,
        board.told name n (board.numbers name n (ap (λ (l : LockState). finite.get l.labels name) (locks_are p s.knows w t m.before held) ∙ there)),
        m.so_is,
        becomes s new (with_heard w.writes.history name n s.knows) same (all_made p (λ v. load_published ∷ hear name n ∷ []) (λ v. r ≡ length v.writes.history) s.knows new.knows m (load_ends, (hear_ends name n, tt))),
      )

  pub heard_all : (n r : ℕ) → finite.get t.labels name ≡ Some n → (m : Moved p (λ w. load_published ∷ hear name n ∷ []) (λ w. r ≡ length w.writes.history) s.knows new.knows) → m.world.writes.history ≡ new.knows.participant.seen
  unfolding heard_it
  heard_all n r there m = sym (ap (λ (x : SeatState). x.knows.participant.seen) (heard_it n r there m).4)

-- a seat that holds the locks holds the world's
tables_held : (p : Place) (a : Actor) (w : World) (t : LockState) → IsAt p a w → IsIn (locks t) a.held → IsIn (locks w.locks) a.held
tables_held p a w t k held = subst (λ (l : LockState). IsIn (locks l) a.held) (sym (locks_are p a w t k held)) held

-- what was published as a seat made its steps with the locks turn, which it has seen now
pub published_then : {D : Type 0} (z : SharedState D) (old new : SeatState) (t : LockState) (steps : World → List Step) (so : World → Type 0) (m : Moved (place_at z old.by) steps so old.knows new.knows) → IsIn (locks t) old.knows.held → m.world.writes.history ≡ new.knows.participant.seen
    → WasHistory z old new.knows.participant.seen
published_then z old new t steps so m held is = record { world = m.world; actor = old.knows; there = m.before; held = tables_held (place_at z old.by) old.knows m.world t m.before held; participant = refl; is = is }

-- ... and as it loaded the published number, before it went on
pub published_before : {D : Type 0} (z : SharedState D) (old by new : SeatState) (t : LockState) (n : ℕ) → by.by ≡ old.by → SawAll (place_at z by.by) by.knows n → by.knows ≡ sees by.knows.participant.seen old.knows → IsIn (locks t) old.knows.held → new.knows.participant.seen ≡ by.knows.participant.seen
    → WasHistory z old new.knows.participant.seen
published_before z old by new t n same saw rest held seen = record {
  world = saw.world;
  actor = by.knows;
  there = subst (λ (b : ℕ). IsAt (place_at z b) by.knows saw.world) same saw.there;
  held = tables_held (place_at z by.by) by.knows saw.world t saw.there (subst (λ (a : Actor). IsIn (locks t) a.held) (sym rest) held);
  participant = ap (λ (a : Actor). a.participant) rest;
  is = saw.seen ∙ sym seen;
}

pub may_hear : (p : Place) (a : Actor) (t : LockState) (label : List ℕ) (n : ℕ) → IsIn (locks t) a.held → finite.get t.labels label ≡ Some n → MayMake p a (λ w. load_published ∷ hear label n ∷ [])
may_hear p a t label n held there w k =
    let h = has_locks p a w k (λ l. finite.get l.labels label ≡ Some n) (record { state = t; held = held; so_is = there }) in ((tt, (tt, tt)), (tt, ((h.0, h.1), tt)))

pub may_tell : (p : Place) (a : Actor) (t : LockState) (label : List ℕ) → IsIn (locks t) a.held → MayMake p a (λ w. tell label ∷ [])
may_tell p a t label held = known_made p a (tell label) tt (record { state = t; held = held; so_is = tt })
