-- A key that is locked for an open transaction, found unchanged since its pin or freed again, and read.
use Rattle.std.proofs.Common.{◌≡◌, inl, inr, ℕ, ◌+◌, ◌≤◌, ◌<◌, Bool, true, false, true≢false, cond, not, ◌||◌, ◌&&◌, List, [], ◌∷◌, ◌++◌, length, refl, sym, subst, ap, ◌∙◌, append-nil, Option, Some, None, arith}
use Rattle.std.specs.Prelude.{unwrap_or, Result, Ok, Err, if◌then◌else◌}
use Rattle.std.specs.FinSet as set
use Rattle.std.specs.FinMap as finite
use Rattle.std.specs.FinMap.{nat_cmp-IsAntisymmetric, slice_cmp-IsAntisymmetric}
use Rattle.std.specs.Ordering.{eq_by_cmp}
use Rattle.std.proofs.lemmas.Cmp.{nat_list_cmp_total}
use Rattle.std.proofs.lemmas.Slice.Eq.{bytes_eq-Decides}
use Rattle.wp_model.specs.Batch.{key_cmp}
use Rattle.wp_model.specs.Changed.{conflict, IsUnchanged}
use Rattle.wp_model.specs.Holder.{is_same_txn}
use Rattle.wp_model.specs.History.{is_changed}
use Rattle.wp_model.specs.LockState.{LockState, is_among_keys}
use Rattle.wp_model.specs.declared.batch.TheConstants.{MOST_KEYS}
use Rattle.wp_model.specs.declared.entry.Entry.{Entry}
use Rattle.wp_model.specs.declared.holder.Holder.{Holder}
use Rattle.wp_model.specs.declared.holder.Holder.TheVariants.{Txn}
use Rattle.wp_model.proofs.Keyed.{at_inserted, at_removed, same_test}
use Rattle.wp_model.proofs.Tests.{same_some, some_none}
use Rattle.wp_model.proofs.Words.{same_word}
use Rattle.wp_core.specs.Changes.{without_key}
use Rattle.wp_core.specs.Lists.{IsIn}
use Rattle.wp_core.specs.Reading.{Registration}
use Rattle.wp_core.specs.Sound.Actors.{StartsWith}
use Rattle.wp_core.specs.Sound.Views.{OwnsKey}
use Rattle.wp_core.specs.States.{Content, writes, locks}
use Rattle.wp_core.specs.Turns.{write_turn, locks_turn}
use Rattle.wp_core.specs.Views.{Fact, locked, unchanged, unprepared}
use Rattle.wp_core.specs.World.{Transaction, Transactions, Participant, Actor, World}
use Rattle.wp_core.proofs.KeepsSeen.{shorter}
use Rattle.wp_parts.specs.Log.{LogState}
use Rattle.wp_shared.specs.Calls.{IsLoose, GoesOnAs, Continues, with_events}
use Rattle.wp_shared.specs.Notes.{no_fact, is_under, seeing, GoesOn}
use Rattle.wp_shared.specs.Seats.{SharedState, SeatState, IsFree, Stands}
use Rattle.wp_shared.specs.Turns.{HoldsTurn, Taken, TookLog, Given}
use Rattle.wp_shared.proofs.Onward.{loose_none, loose_under, starts_on, goes_same, goes_still, goes_seeing, goes_free, continues_none, continues_still, holds_alone, holds_on}
use Rattle.wp_read.specs.Fresh.{ReadsFresh}
use Rattle.wp_open_txns.specs.declared.error.TxnError.{TxnError}
use Rattle.wp_open_txns.specs.declared.error.TxnError.TheVariants as why
use Rattle.wp_open_txns.specs.declared.validating.Locked.TheVariants.{Read}
use Rattle.wp_open_txns.specs.Actors.{no_changes, transaction_in, with_key_locked, with_key_freed, with_locked, freeing_key}
use Rattle.wp_open_txns.specs.Calls.{with_transaction, locking, with_locked_key, IsFull, GivesBack, ReadsLocked, LocksForRead}
use Rattle.wp_open_txns.specs.Keys.{HoldsFree, HoldsKey, Validates, FreesKey, TakesKey}
use Rattle.wp_open_txns.specs.Turns.{is_of_key, IsOfOtherKey, LocksUnchanged, IsWithoutKey}
use Rattle.wp_open_txns.specs.Txn.{OpenState, has_key, IsSince, HasOpen}
use Rattle.wp_open_txns.specs.Under.{LocksKey}
use Rattle.wp_open_txns.proofs.Adding.{open_with_key, open_kept, open_remembered, key_refused}
use Rattle.wp_open_txns.proofs.Still.{still, pinned_still, since_still}
use Rattle.wp_open_txns.proofs.GoesOn.{held_last, holds_tables, locks_found, locks_left, with_locks, under, back, noted_back, nothing_done, finds}

-- ---- the key is held

not_own : (holder : Holder) (name : List ℕ) → is_same_txn holder (Txn name) ≡ false → holder ≡ Txn name → ⊥
not_own holder name other same = true≢false (sym ((bytes_eq-Decides name name).1 refl) ∙ (ap (λ (x : Holder). is_same_txn x (Txn name)) (sym same) ∙ other))

module _ {D : Type 0} (z : SharedState D) (old : SeatState) (t : LockState) (s : SeatState) (k : Taken z old s (locks t)) (name key : List ℕ) where
  pub held_free : (r new : SeatState) → LocksUnchanged s t name key r → Given z locks_turn r new [] [] → HoldsFree z old name key new
  held_free r new c gave =
      let h : List Entry = c.history in let b = with_locked t h name key (with_locks t old).knows in
      let is = under z old t s k (with_locked t h name key) r c.seat in
      let starts : StartsWith h old.knows.participant.seen = subst (λ (x : SeatState). StartsWith h x.knows.participant.seen) k.seat c.grown in
      let goes = back z old t s k IsLoose b r new is gave refl refl starts (λ fact loose there. inr there) in
      let seen : new.knows.participant.seen ≡ h = ap (λ (x : SeatState). x.knows.participant.seen) gave.goes.same ∙ ap (λ (x : SeatState). x.knows.participant.seen) is in
      record {
        goes_on = record { free = goes.free; same_by = goes.same_by; seen = goes.seen; participant = goes.participant; notes = goes.notes; made = goes.made; joined = goes.joined };
        free = locks_found z old s t (λ l. finite.get l.keys key ≡ None) k c.free;
        number = length h;
        noted = noted_back z old t s k b r new (unchanged name key (length h)) is gave (inl refl);
        reached = shorter h old.knows.participant.seen starts;
        seen = subst (λ (es : List Entry). length h ≤ length es) (sym seen) (omega arith);
        first = λ fact is_its there. c.first fact is_its (subst (λ (x : SeatState). IsIn fact x.knows.notes) (sym k.seat) there);
      }

  pub key_held : (u : LockState) (r new : SeatState) (answer : Result (Unit {0}) TxnError) → LocksKey t s name key answer u r → Given z locks_turn r new [] [] → HoldsKey z old name key answer new
  key_held u r new (Ok done) c gave = held_free r new c.1 gave
  key_held u r new (Err (why.Busy holder)) c gave = (not_own holder name c.1, finds z old t s k (Some key) holder r new c.3.0 c.0 c.3.1 c.3.2 gave)
  key_held u r new (Err why.Memory) c gave = nothing_done z old t s k r new c.1 gave
  key_held u r new (Err other) c gave = absurd c

  -- ---- the key is freed

  module _ (free : IsFree z.table old) (r new : SeatState) (m : LockState) (without_it : IsWithoutKey s r (without_key t key) name key) (same : m ≡ without_key t key) where
    abbrev f : Actor → Actor
    f a = record (freeing_key (without_key t key) name key a) { notes = r.knows.notes }

    pub holds_without : HoldsTurn z r (locks m) [] []
    holds_without = holds_tables (f s.knows) (without_key t key) m (holds_alone free k) same without_it.seat refl refl

    pub key_let_go : (w : World) × Stands z r w → Given z locks_turn r new [] [] → FreesKey z old new name key
    key_let_go stands gave = record {
      goes_on = back z old t s k (IsOfOtherKey key) (f (with_locks t old).knows) r new (under z old t s k f r without_it.seat) gave refl refl ([], sym (append-nil old.knows.participant.seen))
          (λ fact stays there. without_it.notes fact stays (subst (λ (x : SeatState). IsIn fact x.knows.notes) (sym k.seat) there));
      freed = locks_left z r new m (λ l. finite.get l.keys key ≡ None) stands (held_last holds_without) gave (ap (λ (l : LockState). finite.get l.keys key) same ∙ at_removed t.keys key key refl);
    }

    pub saw_no_more : Given z locks_turn r new [] [] → new.knows.participant.seen ≡ old.knows.participant.seen
    saw_no_more gave = ap (λ (x : SeatState). x.knows.participant.seen) gave.goes.same ∙ ap (λ (x : SeatState). x.knows.participant.seen) (under z old t s k f r without_it.seat)

-- ---- the history is looked at

module _ {D : Type 0} (z : SharedState D) (old t u new : SeatState) (log : LogState) (took : TookLog z old t log) (goes : GoesOn no_fact t.knows.held t.turns t u) where
  pub log_held : IsFree z.table old → HoldsTurn z u (writes log.state) [] []
  log_held free = holds_on (subst (λ (x : List Content × List ℕ). HoldsTurn z t (writes log.state) x.0 x.1) (λ i. (free.held i, free.turns i)) took.holds) goes

  goes_took : GoesOnAs old t old.knows.participant
  goes_took =
      let h = log.state.history in
      goes_still old (seeing h old) t old.knows.participant (goes_seeing old h took.grown) (goes_same (seeing h old) t no_fact (writes log.state ∷ old.knows.held) (0 ∷ old.turns) loose_none took.goes)

  module _ (gave : Given z write_turn u new [] []) where
    pub looked : Continues z old new old.knows.participant
    looked = goes_free z old new old.knows.participant (gave.free refl refl)
        (goes_still old t new old.knows.participant goes_took (goes_still t u new t.knows.participant (goes_same t u no_fact t.knows.held t.turns loose_none goes) (goes_same u new (is_under write_turn) [] [] (loose_under write_turn) gave.goes)))

    pub looked_at : new.knows.participant.seen ≡ log.state.history
    looked_at = ap (λ (x : SeatState). x.knows.participant.seen) gave.goes.same ∙ ap (λ (x : SeatState). x.knows.participant.seen) goes.same ∙ took.seen

    pub noted_then : (fact : Fact) → IsLoose fact → IsIn fact u.knows.notes → IsIn fact new.knows.notes
    noted_then fact loose there = gave.goes.noted fact (loose_under write_turn fact loose) there

-- ---- the transaction once the key was locked for it and freed again

set_as_before : (keys : set.FinSet key_cmp) (key : List ℕ) → set.contains keys key ≡ false → set.remove (set.insert keys key) key ≡ keys
set_as_before keys key none =
    set.same_set nat_list_cmp_total (slice_cmp-IsAntisymmetric nat_cmp-IsAntisymmetric) (set.remove (set.insert keys key) key) keys (λ q.
    set.contains-remove nat_list_cmp_total (set.insert keys key) key q
    ∙ ap (λ (b : Bool). not (eq_by_cmp key_cmp q key) && b) (set.contains-insert nat_list_cmp_total keys key q)
    ∙ by q (eq_by_cmp key_cmp q key) refl)
  where
    by : (q : List ℕ) (b : Bool) → eq_by_cmp key_cmp q key ≡ b → (not b && (b || set.contains keys q)) ≡ set.contains keys q
    by q true same = sym (ap (set.contains keys) (same_word q key same) ∙ none)
    by q false other = refl

inserted_twice : (ts : Transactions) (name : List ℕ) (x y : Transaction) → finite.get ts name ≡ Some x → finite.insert (finite.insert ts name y) name x ≡ ts
inserted_twice ts name x y had =
    finite.same_map nat_list_cmp_total (slice_cmp-IsAntisymmetric nat_cmp-IsAntisymmetric) (finite.insert (finite.insert ts name y) name x) ts (λ q.
    finite.get-insert nat_list_cmp_total (finite.insert ts name y) name x q
    ∙ ap (cond (eq_by_cmp key_cmp q name) (Some x)) (finite.get-insert nat_list_cmp_total ts name y q)
    ∙ by q (eq_by_cmp key_cmp q name) refl)
  where
    by : (q : List ℕ) (b : Bool) → eq_by_cmp key_cmp q name ≡ b → cond b (Some x) (cond b (Some y) (finite.get ts q)) ≡ finite.get ts q
    by q true same = sym (ap (finite.get ts) (same_word q name same) ∙ had)
    by q false other = refl

-- what the participant is then
abbrev freeing : List ℕ → List ℕ → Participant → Participant
freeing name key p = with_transaction name (with_key_freed key (transaction_in p name)) p

pub as_before : (p : Participant) (name key : List ℕ) (x : Transaction) → finite.get p.transactions name ≡ Some x → set.contains x.locked key ≡ false → freeing name key (locking false name key p) ≡ with_events (locked key (Txn name) ∷ []) p
as_before p name key x had none =
    let y = with_key_locked key (transaction_in p name) in
    let there : transaction_in p name ≡ x = ap (λ (o : Option Transaction). unwrap_or o no_changes) had in
    let now_is : transaction_in (locking false name key p) name ≡ y = ap (λ (o : Option Transaction). unwrap_or o no_changes) (at_inserted p.transactions name y name refl) in
    let back_to : with_key_freed key (transaction_in (locking false name key p) name) ≡ x =
    ap (with_key_freed key) (now_is ∙ ap (with_key_locked key) there) ∙ ap (λ (keys : set.FinSet key_cmp). record x { locked = keys }) (set_as_before x.locked key none) in
    ap (λ (v : Transaction). with_transaction name v (locking false name key p)) back_to
    ∙ ap (λ (ts : Transactions). record (with_events (locked key (Txn name) ∷ []) p) { transactions = ts }) (inserted_twice p.transactions name x y had)

module _ {D : Type 0} (z : SharedState D) (old : SeatState) (name key : List ℕ) (x : Transaction) (had : finite.get old.knows.participant.transactions name ≡ Some x) (none : set.contains x.locked key ≡ false) where
  abbrev it : Participant
  it = old.knows.participant

  -- the seat, which went on since, has the key
  pub owns_then : (s : SeatState) → Continues z old s (locking false name key it) → OwnsKey s.knows.participant name key
  owns_then s goes =
      let y = with_key_locked key (transaction_in it name) in (
        y,
        ap (λ (p : Participant). finite.get p.transactions name) goes.participant ∙ at_inserted it.transactions name y name refl,
        set.contains-insert nat_list_cmp_total (transaction_in it name).locked key key ∙ ap (λ (b : Bool). b || set.contains (transaction_in it name).locked key) (same_test key key refl),
      )

  -- it was freed again
  pub back_again : (s new : SeatState) → Continues z old s (locking false name key it) → ((fact : Fact) → is_of_key key fact ≡ true → IsIn fact old.knows.notes → ⊥) → FreesKey z s new name key → Continues z old new (with_events (locked key (Txn name) ∷ []) it)
  back_again s new goes first freed =
      let k = freed.goes_on in
      record {
        free = k.free;
        same_by = k.same_by ∙ goes.same_by;
        seen = starts_on it.seen s.knows.participant.seen new.knows.participant.seen goes.seen k.seen;
        participant = k.participant
            ∙ ap (λ (p : Participant). record (freeing name key p) { seen = new.knows.participant.seen }) goes.participant
            ∙ ap (λ (p : Participant). record p { seen = new.knows.participant.seen }) (as_before it name key x had none);
        notes = λ fact loose there. k.notes fact (loose, of_other fact (is_of_key key fact) refl there) (goes.notes fact loose there);
        made = k.made ∙ goes.made;
        joined = k.joined ∙ goes.joined;
      }
    where
      of_other : (fact : Fact) (b : Bool) → is_of_key key fact ≡ b → IsIn fact old.knows.notes → is_of_key key fact ≡ false
      of_other fact true is there = absurd (first fact is there)
      of_other fact false is there = is

-- it had seen more in between
pub frees_later : {D : Type 0} (z : SharedState D) (old s new : SeatState) (name key : List ℕ) → Continues z old s old.knows.participant → FreesKey z s new name key → FreesKey z old new name key
frees_later z old s new name key goes freed = let k = freed.goes_on in record {
  goes_on = record {
    free = k.free;
    same_by = k.same_by ∙ goes.same_by;
    seen = starts_on old.knows.participant.seen s.knows.participant.seen new.knows.participant.seen goes.seen k.seen;
    participant = k.participant ∙ ap (λ (p : Participant). record (freeing name key p) { seen = new.knows.participant.seen }) goes.participant;
    notes = λ fact stays there. k.notes fact stays (goes.notes fact stays.0 there);
    made = k.made ∙ goes.made;
    joined = k.joined ∙ goes.joined;
  };
  freed = freed.freed;
}

-- ---- a key that comes to the transaction, or conflicts

module _ {D : Type 0} (z : SharedState D) (old s u : SeatState) (txn : OpenState) (key : List ℕ) (h : HasOpen old txn) (none : has_key txn.batch txn.locked key ≡ false) (held : HoldsFree z old txn.name key s) where
  none_locked : set.contains h.transaction.locked key ≡ false
  none_locked = h.keys key ∙ none

  pub owns_held : OwnsKey s.knows.participant txn.name key
  owns_held = owns_then z old txn.name key h.transaction h.has none_locked s held.goes_on

  pub pins_held : (r : Registration) → txn.pin ≡ Some r → IsIn r s.knows.participant.registered × (r.number ≤ length s.knows.participant.seen)
  pins_held r pin = (
    pinned_still z old s (locking false txn.name key old.knows.participant) txn refl held.goes_on h r pin,
    (let low = (h.pinned r pin).1 in let long = shorter s.knows.participant.seen old.knows.participant.seen held.goes_on.seen in omega (arith, low, long)),
  )

  goes_looked : (o : Option ℕ) → Validates z s txn key o u → Continues z old u (locking false txn.name key old.knows.participant)
  goes_looked None v = continues_still z old s u (locking false txn.name key old.knows.participant) held.goes_on v.0
  goes_looked (Some n) v = continues_still z old s u (locking false txn.name key old.knows.participant) held.goes_on v.0

  pub owns_looked : (o : Option ℕ) → Validates z s txn key o u → OwnsKey u.knows.participant txn.name key
  owns_looked o v = owns_then z old txn.name key h.transaction h.has none_locked u (goes_looked o v)

  pub noted_looked : (o : Option ℕ) → Validates z s txn key o u → IsIn (unprepared txn.name) u.knows.notes
  noted_looked o v = (goes_looked o v).notes (unprepared txn.name) refl h.noted

  pub key_taken : Validates z s txn key None u → TakesKey z old txn key (Ok tt) u
  key_taken v =
      let goes : Continues z old u (locking false txn.name key old.knows.participant) = continues_still z old s u (locking false txn.name key old.knows.participant) held.goes_on v.0 in
      let more = shorter u.knows.participant.seen s.knows.participant.seen v.0.seen in
      let since : (o : Option Registration) → txn.pin ≡ o → IsSince u txn.name key txn.pin = λ o is. by goes more o is in (
        goes,
        record {
          free = held.free;
          number = held.number;
          noted = v.0.notes (unchanged txn.name key held.number) refl held.noted;
          reached = held.reached;
          seen = (let low = held.seen in omega (arith, more, low));
          unchanged = λ r pin. (v.1 r pin).0;
        },
        since txn.pin refl,
        held.first,
      )
    where
      by : Continues z old u (locking false txn.name key old.knows.participant) → length s.knows.participant.seen ≤ length u.knows.participant.seen → (o : Option Registration) → txn.pin ≡ o → IsSince u txn.name key txn.pin
      by goes more None is = record {
        number = held.number;
        noted = v.0.notes (unchanged txn.name key held.number) refl held.noted;
        seen = (let low = held.seen in omega (arith, more, low));
        pinned = λ r pin. let e : None ≡ Some r = sym is ∙ pin in absurd cc;
      }
      by goes more (Some pin) is = record {
        number = pin.number;
        noted = (v.1 pin is).1;
        seen = (let low = (h.pinned pin is).1 in let long = shorter u.knows.participant.seen old.knows.participant.seen goes.seen in omega (arith, low, long));
        pinned = λ r other. subst (λ (x : Registration). pin.number ≤ x.number) (same_some pin r (sym is ∙ other)) (omega arith);
      }

  pub key_conflicts : (number : ℕ) (new : SeatState) → Validates z s txn key (Some number) u → FreesKey z u new txn.name key → new.knows.participant.seen ≡ u.knows.participant.seen → TakesKey z old txn key (Err (why.Conflict number)) new
  key_conflicts number new v freed saw =
      let goes : Continues z old u (locking false txn.name key old.knows.participant) = continues_still z old s u (locking false txn.name key old.knows.participant) held.goes_on v.0 in (
        record { pin = v.1.pin; pinned = v.1.pinned; last = ap (λ (es : List Entry). conflict es key v.1.pin.number) saw ∙ v.1.last },
        record { not_its = none; was_free = held.free; freed = freed.freed; goes_on = back_again z old txn.name key h.transaction h.has none_locked u new goes held.first freed },
      )

-- ---- a key that is read behind the lock

module _ {D : Type 0} (z : SharedState D) (old : SeatState) (free : IsFree z.table old) (txn : OpenState) (key : List ℕ) (value : Option (List ℕ)) (n : ℕ) (new : SeatState) (h : HasOpen old txn) (no_change : is_changed txn.batch key ≡ false) where
  -- the transaction had it locked
  module _ (there : is_among_keys txn.locked key ≡ true) (read : ReadsFresh z old new key value n) where
    has_it : has_key txn.batch txn.locked key ≡ true
    has_it = (λ i. no_change i || there i)

    goes_again : (s : SeatState) → Continues z old s old.knows.participant → Continues z old s (locking (is_among_keys txn.locked key) txn.name key old.knows.participant)
    goes_again s goes = subst (λ (b : Bool). Continues z old s (locking b txn.name key old.knows.participant)) (sym there) goes

    pub read_again : ReadsLocked z old txn key value n new
    read_again = record {
      room = λ full. true≢false (sym has_it ∙ full.1);
      no_change = no_change;
      behind = old;
      locked = goes_again old (continues_none z old free);
      since = h.since key has_it;
      comes = λ other. absurd (true≢false (sym there ∙ other));
      read = read;
      goes_on = goes_again new read.goes_on;
    }

    pub open_again : HasOpen new (with_locked_key txn key)
    open_again = open_with_key z old txn h key true has_it new read.goes_on (since_still old new (still z old new old.knows.participant refl refl (λ event e. e) read.goes_on) txn.name key txn.pin (h.since key has_it)) no_change (λ none. absurd (true≢false (sym has_it ∙ none)))

    as_it_was : txn ≡ with_locked_key txn key
    as_it_was = ap (λ (b : Bool). record txn { locked = if b then txn.locked else txn.locked ++ key ∷ [] }) (sym there)

    pub lock_again : LocksForRead z old txn key (Ok (Read value n)) new txn
    lock_again = (as_it_was, subst (HasOpen new) (sym as_it_was) open_again, read_again)

  -- it came to it
  module _ (other : is_among_keys txn.locked key ≡ false) (room : length txn.batch + length txn.locked < MOST_KEYS) (s : SeatState) (took : TakesKey z old txn key (Ok tt) s) (read : ReadsFresh z s new key value n) where
    not_its : has_key txn.batch txn.locked key ≡ false
    not_its = (λ i. no_change i || other i)

    goes_now : (u : SeatState) → Continues z old u (locking false txn.name key old.knows.participant) → Continues z old u (locking (is_among_keys txn.locked key) txn.name key old.knows.participant)
    goes_now u goes = subst (λ (b : Bool). Continues z old u (locking b txn.name key old.knows.participant)) (sym other) goes

    goes_read : Continues z old new (locking false txn.name key old.knows.participant)
    goes_read = continues_still z old s new (locking false txn.name key old.knows.participant) took.0 read.goes_on

    pub read_taken : ReadsLocked z old txn key value n new
    read_taken = record {
      room = λ full. (let less = room in let most = full.0 in absurd (omega (arith, less, most)));
      no_change = no_change;
      behind = s;
      locked = goes_now s took.0;
      since = took.2;
      comes = λ none. took.1;
      read = read;
      goes_on = goes_now new goes_read;
    }

    since_read : IsSince new txn.name key txn.pin
    since_read = let k = took.2 in let more = shorter new.knows.participant.seen s.knows.participant.seen read.goes_on.seen in let low = k.seen in
        record { number = k.number; noted = read.goes_on.notes (unchanged txn.name key k.number) refl k.noted; seen = omega (arith, low, more); pinned = k.pinned }

    pub open_taken : HasOpen new (with_locked_key txn key)
    open_taken = open_with_key z old txn h key false not_its new goes_read since_read no_change (λ none. room)

    pub lock_new : (left : OpenState) → left ≡ record txn { locked = txn.locked ++ key ∷ [] } → LocksForRead z old txn key (Ok (Read value n)) new left
    lock_new left is =
        let same : left ≡ with_locked_key txn key = is ∙ ap (λ (b : Bool). record txn { locked = if b then txn.locked else txn.locked ++ key ∷ [] }) (sym other) in
        (same, subst (HasOpen new) (sym same) open_taken, read_taken)

-- where the read wanted memory the key is free again
pub read_gave_back : {D : Type 0} (z : SharedState D) (old s new : SeatState) (txn : OpenState) (key : List ℕ) → HasOpen old txn → has_key txn.batch txn.locked key ≡ false → TakesKey z old txn key (Ok tt) s → FreesKey z s new txn.name key → GivesBack z old new txn key
read_gave_back z old s new txn key h none took freed = record {
  not_its = none;
  was_free = took.1.free;
  freed = freed.freed;
  goes_on = back_again z old txn.name key h.transaction h.has (h.keys key ∙ none) s new took.0 took.3 freed;
}

pub not_read : {D : Type 0} (z : SharedState D) (old s new : SeatState) (txn : OpenState) (key : List ℕ) → HasOpen old txn → is_changed txn.batch key ≡ false → is_among_keys txn.locked key ≡ false → TakesKey z old txn key (Ok tt) s → FreesKey z s new txn.name key → LocksForRead z old txn key (Err why.Memory) new txn
not_read z old s new txn key h no_change other took freed =
    let back = read_gave_back z old s new txn key h (λ i. no_change i || other i) took freed in (refl, open_remembered z old new txn _ back.goes_on h, no_change, inr back)

-- ... or it did not come to it
pub not_locked : {D : Type 0} (z : SharedState D) (old : SeatState) (txn : OpenState) (key : List ℕ) (new : SeatState) (reason : TxnError) → (IsFull txn key → ⊥) → is_changed txn.batch key ≡ false → is_among_keys txn.locked key ≡ false → HasOpen old txn
    → TakesKey z old txn key (Err reason) new → LocksForRead z old txn key (Err reason) new txn
not_locked z old txn key new why.Memory room no_change other h c = (refl, open_kept z old new txn c h, no_change, inl c)
not_locked z old txn key new (why.Busy holder) room no_change other h c = (no_change, key_refused z old txn key new (why.Busy holder) room (λ i. no_change i || other i) h c)
not_locked z old txn key new (why.Conflict number) room no_change other h c = (no_change, key_refused z old txn key new (why.Conflict number) room (λ i. no_change i || other i) h c)
not_locked z old txn key new reason room no_change other h c = absurd c

-- ---- what the look at the log says

pub validated : {D : Type 0} (z : SharedState D) (old new : SeatState) (txn : OpenState) (key : List ℕ) (pin : Registration) → txn.pin ≡ Some pin → (o : Option ℕ) → Continues z old new old.knows.participant → o ≡ conflict new.knows.participant.seen key pin.number
    → (o ≡ None → IsIn (unchanged txn.name key pin.number) new.knows.notes) → Validates z old txn key o new
validated z old new txn key pin is None goes last noted = (
  goes,
  λ r other. subst (λ (x : Registration). IsUnchanged new.knows.participant.seen key x.number × IsIn (unchanged txn.name key x.number) new.knows.notes) (same_some pin r (sym is ∙ other)) (sym last, noted refl),
)
validated z old new txn key pin is (Some n) goes last noted = (goes, record { pin = pin; pinned = is; last = sym last })

pub not_validated : {D : Type 0} (z : SharedState D) (old : SeatState) (txn : OpenState) (key : List ℕ) → IsFree z.table old → txn.pin ≡ None → Validates z old txn key None old
not_validated z old txn key free is = (continues_none z old free, λ r pin. absurd (some_none r (sym pin ∙ is)))

-- ---- where the read behind the lock was tried

pub owns_on : {D : Type 0} (z : SharedState D) (old new : SeatState) (name key : List ℕ) → Continues z old new old.knows.participant → OwnsKey old.knows.participant name key → OwnsKey new.knows.participant name key
owns_on z old new name key goes owns = subst (λ (p : Participant). OwnsKey p name key) (sym goes.participant) owns

-- it was not locked
pub not_held : {D : Type 0} (z : SharedState D) (old s : SeatState) (txn : OpenState) (key : List ℕ) (reason : TxnError) → HoldsKey z old txn.name key (Err reason) s → TakesKey z old txn key (Err reason) s
not_held z old s txn key (why.Busy holder) c = c
not_held z old s txn key why.Memory c = c
not_held z old s txn key other c = absurd c
