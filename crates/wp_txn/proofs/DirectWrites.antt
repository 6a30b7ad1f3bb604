-- A direct write: its key is locked, the change is put into the history, and the key is freed.
use Rattle.std.proofs.Common.{◌≡◌, inl, inr, ℕ, true, false, List, [], ◌∷◌, ◌++◌, length, refl, sym, subst, ap, ◌∙◌, append-nil, Option, Some, None}
use Rattle.std.specs.Prelude.{Result, Ok, Err, IfErr}
use Rattle.std.specs.FinMap as finite
use Rattle.wp_model.specs.Batch.{key_of}
use Rattle.wp_model.specs.History.{holder_of}
use Rattle.wp_model.specs.LockState.{LockState}
use Rattle.wp_model.specs.declared.change.Change.{Change}
use Rattle.wp_model.specs.declared.entry.Entry.{Entry}
use Rattle.wp_model.specs.declared.entry.Entry.TheVariants.{Write}
use Rattle.wp_model.specs.declared.holder.Holder.{Holder}
use Rattle.wp_model.specs.declared.holder.Holder.TheVariants.{Txn, Client}
use Rattle.wp_model.proofs.Found.{found_holder}
use Rattle.wp_locks.specs.Locks.{is_free_for}
use Rattle.wp_core.specs.Changes.{without_key}
use Rattle.wp_core.specs.Lists.{IsIn}
use Rattle.wp_core.specs.Notes.{ends}
use Rattle.wp_core.specs.Steps.{lock_direct, free_direct, note}
use Rattle.wp_core.specs.States.{locks}
use Rattle.wp_core.specs.Turns.{locks_turn}
use Rattle.wp_core.specs.Views.{Fact, has_left, undecided_at, prior_values, unprepared, direct_free, unchanged, locks_stay, live_listed}
use Rattle.wp_core.specs.World.{Actor, Participant, World}
use Rattle.wp_core.proofs.HistoryGrows.{none_is}
use Rattle.wp_model.proofs.Keyed.{at_inserted, at_removed}
use Rattle.wp_model.proofs.Tests.{some_none}
use Rattle.wp_rule.specs.Knows.{Noted}
use Rattle.wp_rule.specs.Moves.{MayMake, Moved, actor_after}
use Rattle.wp_rule.specs.Words.{Place, IsAt}
use Rattle.wp_rule.proofs.Forgets.{EndsNothing, note_ends}
use Rattle.wp_rule.proofs.Knows.{at_sound, noted_is}
use Rattle.wp_rule.proofs.MayBeMade.{known_made}
use Rattle.wp_rule.proofs.Needed.{has_locks, alone}
use Rattle.wp_rule.proofs.Outlasting.{outlasts}
use Rattle.wp_records.specs.Records.{numbers_behind}
use Rattle.wp_shared.specs.Calls.{IsLoose, ContinuesWith, with_events}
use Rattle.wp_shared.specs.Seats.{SharedState, SeatState, IsFree, Stands, place_at}
use Rattle.wp_shared.specs.Turns.{HoldsTurn, Taken, Given}
use Rattle.wp_shared.proofs.OneStep.{becomes}
use Rattle.wp_shared.proofs.Onward.{holds_alone}
use Rattle.wp_open_txns.specs.declared.error.TxnError.{TxnError}
use Rattle.wp_open_txns.specs.declared.error.TxnError.TheVariants as why
use Rattle.wp_open_txns.specs.Actors.{with_direct, ending_direct}
use Rattle.wp_open_txns.specs.Calls.{Finds}
use Rattle.wp_txn.specs.Recording.{Records, HasDirect, HoldsDirect, EndsDirect, without_direct}
use Rattle.wp_open_txns.specs.Turns.{is_of_direct, IsNoDirect, IsWithoutDirect}
use Rattle.wp_open_txns.specs.Under.{LocksDirect}
use Rattle.wp_txn.specs.Writes.{Refuses, WritesDirect, wrote_direct, writing_direct, SawNoMore, LeavesDevice, MayLeaveDevice}
use Rattle.wp_open_txns.proofs.GoesOn.{held_last, holds_tables, locks_found, locks_left, with_locks, under, back, back_at_once, noted_back, nothing_done, finds}
use Rattle.wp_txn.proofs.Goes.{chain, put_within, refused_within, refused_still, refused_free, left_within}
use Rattle.wp_open_txns.proofs.Made.{all_made, locks_are, but_notes}

-- ---- steps

lock_ends : (key : List ℕ) → EndsNothing (lock_direct key)
lock_ends key = record { guard = λ turn. refl; place = λ words place. refl; words = refl; delayed_flag = refl; old_flag = refl; pending = refl; adds = refl; takes = refl; prepared = refl; unprepared = refl; delays = refl; transaction = λ history name. refl; changes = λ history key. refl; direct = refl; moves = refl; replaces = refl; installing = refl }

-- a direct write locks what nobody holds
pub none_there : (o : Option Holder) (client : List ℕ) → is_free_for o (Client client) ≡ true → o ≡ None
none_there None client free = refl
none_there (Some (Txn name)) client free = absurd cc
none_there (Some (Client other)) client free = absurd cc

-- a key that nobody holds is in no undecided batch
free_there : (p : Place) (a : Actor) (w : World) (key : List ℕ) → IsAt p a w → finite.get w.locks.keys key ≡ None → holder_of w.writes.history key ≡ None
free_there p a w key k free = none_is (holder_of w.writes.history key) (λ q e.
    let f = found_holder w.writes.history key q e in some_none _ (sym ((at_sound p a w k).locks.prepared_keys q key f.0 f.1) ∙ free))

pub may_lock_direct : (p : Place) (a : Actor) (t : LockState) (key : List ℕ) → a.live ≡ true → a.participant.direct ≡ None → IsIn (locks t) a.held → is_free_for (finite.get t.keys key) (Client a.participant.client) ≡ true
    → MayMake p a (λ w. lock_direct key ∷ note (direct_free key) ∷ [])
may_lock_direct p a t key live none held free w k =
    let h = has_locks p a w k (λ l. is_free_for (finite.get l.keys key) (Client a.participant.client) ≡ true) (record { state = t; held = held; so_is = free }) in
    let nobody = none_there (finite.get w.locks.keys key) a.participant.client h.1 in
    ((tt, (tt, tt)), ((h.0, none, nobody), ((live, alone p a w k, (refl, at_inserted w.locks.keys key (Client a.participant.client) key refl, free_there p a w key k nobody)), tt)))

pub direct_locked : (p : Place) (so : World → Type 0) (a b : Actor) (t : LockState) (key : List ℕ) → Moved p (λ w. lock_direct key ∷ note (direct_free key) ∷ []) so a b → IsIn (locks t) a.held → b ≡ with_direct t key a
direct_locked p so a b t key m held =
    all_made p (λ w. lock_direct key ∷ note (direct_free key) ∷ []) so a b m (lock_ends key, (note_ends (direct_free key), tt)) ∙ ap (λ (l : LockState). with_direct l key a) (locks_are p a m.world t m.before held)

pub may_free_direct : (p : Place) (a : Actor) (t : LockState) (key : List ℕ) → a.participant.direct ≡ Some key → IsIn (locks t) a.held → MayMake p a (λ w. free_direct key ∷ [])
may_free_direct p a t key has held = known_made p a (free_direct key) tt (record { state = t; held = held; so_is = has })

free_ends : (history : List Entry) (words : ℕ) (key : List ℕ) (fact : Fact) → IsNoDirect fact → ends history words (free_direct key) fact ≡ false
free_ends history words key (direct_free other) e = e.1
free_ends history words key (undecided_at other p) e = refl
free_ends history words key (prior_values other p batch) e = refl
free_ends history words key (unprepared other) e = refl
free_ends history words key (unchanged name other n) e = refl
free_ends history words key (locks_stay name p keys) e = refl
free_ends history words key (live_listed floor listed) e = refl
free_ends history words key (has_left p) e = refl
free_ends history words key other e = let n = e.0 in absurd cc

pub direct_freed : (p : Place) (so : World → Type 0) (s new : SeatState) (same : (new.table ≡ s.table) × (new.by ≡ s.by) × (new.turns ≡ s.turns)) (t : LockState) (key : List ℕ) → IsIn (locks t) s.knows.held
    → Moved p (λ w. free_direct key ∷ []) so s.knows new.knows → IsWithoutDirect s new (without_key t key)
direct_freed p so s new same t key held m =
    let after = actor_after (free_direct key ∷ []) m.world p.by s.knows in
    let e : new.knows ≡ record (ending_direct (without_key t key) s.knows) { notes = after.notes } =
    m.actor ∙ ap (λ (l : LockState). record (ending_direct (without_key l key) s.knows) { notes = after.notes }) (locks_are p s.knows m.world t m.before held) in
    record {
      seat = becomes s new (record (ending_direct (without_key t key) s.knows) { notes = new.knows.notes }) same (but_notes (ending_direct (without_key t key) s.knows) new.knows after e);
      notes = λ fact stays there.
          subst (λ (x : Actor). Noted x fact) (sym m.actor) (outlasts fact (free_direct key ∷ []) m.world p.by s.knows there ((λ x. x), free_ends m.world.writes.history (length m.world.cache) key fact stays, tt));
    }

-- ---- the key is held, and given back

module _ {D : Type 0} (z : SharedState D) (old : SeatState) (t : LockState) (key : List ℕ) (s r : SeatState) (k : Taken z old s (locks t)) where
  saw_no_more : (new : SeatState) → r.knows.participant.seen ≡ s.knows.participant.seen → Given z locks_turn r new [] [] → SawNoMore old new
  saw_no_more new same gave = ap (λ (x : SeatState). x.knows.participant.seen) gave.goes.same ∙ same ∙ ap (λ (x : SeatState). x.knows.participant.seen) k.seat

  pub direct_held : old.knows.participant.direct ≡ None → (u : LockState) (new : SeatState) (answer : Result (Unit {0}) TxnError) → LocksDirect t s key answer u r → Given z locks_turn r new [] [] → HoldsDirect z old key answer new
  direct_held none u new (Ok done) c gave =
      let b : Actor = with_direct t key (with_locks t old).knows in let is = under z old t s k (with_direct t key) r c.1 in
      record {
        goes_on = back_at_once z old t s k b r new is gave refl refl refl (λ fact there. inr there);
        saw = saw_no_more new (ap (λ (x : SeatState). x.knows.participant.seen) c.1) gave;
        found = locks_found z old s t (λ l. finite.get l.keys key ≡ None) k c.2;
        noted = noted_back z old t s k b r new (direct_free key) is gave (inl refl);
        first = λ other there. some_none other (sym ((noted_is (place_at z old.by) old.knows k.world (direct_free other) k.before there).is_so).0 ∙ none);
      }
  direct_held none u new (Err (why.Busy holder)) c gave = (finds z old t s k (Some key) holder r new c.3.0 c.0 c.3.1 c.3.2 gave, saw_no_more new (ap (λ (x : SeatState). x.knows.participant.seen) c.3.2) gave)
  direct_held none u new (Err why.Memory) c gave = (nothing_done z old t s k r new c.1 gave, saw_no_more new (ap (λ (x : SeatState). x.knows.participant.seen) c.1) gave)
  direct_held none u new (Err other) c gave = absurd c

  module _ (without : IsWithoutDirect s r (without_key t key)) where
    abbrev ending : Actor → Actor
    ending a = record (ending_direct (without_key t key) a) { notes = r.knows.notes }

    -- it holds the locks without the key
    pub ended_holds : IsFree z.table old → (m : LockState) → m ≡ without_key t key → HoldsTurn z r (locks m) [] []
    ended_holds free m same = holds_tables (ending s.knows) (without_key t key) m (holds_alone free k) same without.seat refl refl

    pub ended_direct : (new : SeatState) (m : LockState) → m ≡ without_key t key → HoldsTurn z r (locks m) [] [] → (w : World) × Stands z r w → Given z locks_turn r new [] [] → EndsDirect z old new key
    ended_direct new m same held stands gave =
        let is = under z old t s k ending r without.seat in record {
          goes_on = back z old t s k IsNoDirect (ending (with_locks t old).knows) r new is gave refl refl ([], sym (append-nil old.knows.participant.seen))
              (λ fact stays there. without.notes fact stays (subst (λ (x : SeatState). IsIn fact x.knows.notes) (sym k.seat) there));
          same = ap (λ (x : SeatState). x.knows.participant) gave.goes.same ∙ ap (λ (x : SeatState). x.knows.participant) is;
          freed = locks_left z r new m (λ l. finite.get l.keys key ≡ None) stands (held_last held) gave (ap (λ (l : LockState). finite.get l.keys key) same ∙ at_removed t.keys key key refl);
        }

-- ---- the whole call

-- a fact of a seat that noted nothing of a direct write is about none
no_direct : (notes : List Fact) → ((other : List ℕ) → IsIn (direct_free other) notes → ⊥) → (fact : Fact) → IsIn fact notes → is_of_direct fact ≡ false
no_direct notes none (direct_free key) there = absurd (none key there)
no_direct notes none other there = refl

module _ {D : Type 0} (z : SharedState D) (old mid left new : SeatState) (change : Change) (none : old.knows.participant.direct ≡ None) (held : HasDirect z old mid (key_of change)) (ended : EndsDirect z left new (key_of change)) where
  abbrev key : List ℕ
  key = key_of change

  abbrev was : Participant
  was = old.knows.participant

  -- with all of these facts that was noted before the call
  noted_still : (Part : Fact → Type 0) (R : Participant) → ContinuesWith (λ fact. Part fact × (is_of_direct fact ≡ false)) z old new R → ContinuesWith Part z old new R
  noted_still Part R goes = record {
    free = goes.free;
    same_by = goes.same_by;
    seen = goes.seen;
    participant = goes.participant;
    notes = λ fact part there. goes.notes fact (part, no_direct old.knows.notes held.first fact there) there;
    made = goes.made;
    joined = goes.joined;
  }

  -- what the seat was between, and is when the key is given back
  given : (Part : Fact → Type 0) (change_it : Participant → Participant) → ((fact : Fact) → Part fact → IsLoose fact)
      → ((x : Participant) (seen : List Entry) → record (without_direct (record (change_it (record x { seen = seen })) { seen = left.knows.participant.seen })) { seen = new.knows.participant.seen } ≡ record (change_it (without_direct x)) { seen = new.knows.participant.seen })
      → ContinuesWith Part z mid left (change_it mid.knows.participant) → ContinuesWith Part z old new (change_it (wrote_direct key was))
  given Part change_it loose commutes goes =
      let NoDirect : Fact → Type 0 = λ fact. Part fact × (is_of_direct fact ≡ false) in
      let first : ContinuesWith NoDirect z old left (change_it mid.knows.participant) =
      chain NoDirect IsLoose Part z old mid left (writing_direct key was) (change_it mid.knows.participant) (change_it mid.knows.participant) (λ fact s. loose fact s.0) (λ fact s. s.0) held.goes_on goes refl in
      noted_still Part (change_it (wrote_direct key was))
      (chain NoDirect NoDirect IsNoDirect z old left new (change_it mid.knows.participant) (without_direct left.knows.participant) (change_it (wrote_direct key was)) (λ fact s. s) (λ fact s. (loose fact s.0, s.1)) first ended.goes_on
      (ap (λ (x : Participant). record (without_direct x) { seen = new.knows.participant.seen }) (first.participant ∙ ap (λ (x : Participant). record (change_it x) { seen = left.knows.participant.seen }) held.goes_on.participant)
      ∙ commutes (writing_direct key was) mid.knows.participant.seen
      ∙ ap (λ (d : Option (List ℕ)). record (change_it (record (wrote_direct key was) { direct = d })) { seen = new.knows.participant.seen }) (sym none)))

  same_seen : new.knows.participant.seen ≡ left.knows.participant.seen
  same_seen = ap (λ (p : Participant). p.seen) ended.same

  pub wrote : (n : ℕ) → Records z mid (Write (change ∷ []) ∷ []) (λ m. []) (Ok n) left → WritesDirect z old change (Ok n) new
  wrote n r =
      let put = r.1.1.put in let history = r.1.0 in (
        r.0 ∙ ap (λ (es : List Entry). length es) (sym same_seen),
        (
          history,
          put_within IsLoose IsLoose z old mid left new (writing_direct key was) (wrote_direct key was) history (Write (change ∷ []) ∷ []) held.goes_on put same_seen
              (given _ (λ x. record x { own = x.own ++ numbers_behind (length history) (Write (change ∷ []) ∷ []) }) (λ fact part. part.0) (λ x seen. refl) put.goes_on),
        ),
        (held.found, ended.freed),
      )

  refused : (reason : TxnError) → Refuses z mid left 1 (λ asked. asked ≡ Write (change ∷ []) ∷ []) mid.knows.participant mid.knows.participant reason → Refuses z old new 1 (λ asked. asked ≡ Write (change ∷ []) ∷ []) (writing_direct key was) (wrote_direct key was) reason
  refused reason c =
      refused_within z old mid left new 1 (writing_direct key was) (wrote_direct key was) held.goes_on same_seen
      (λ goes. given IsLoose (λ x. x) (λ fact loose. loose) (λ x seen. refl) goes)
      (λ events goes. given IsLoose (with_events events) (λ fact loose. loose) (λ x seen. refl) goes) (λ asked. asked ≡ Write (change ∷ []) ∷ []) (λ asked. asked ≡ Write (change ∷ []) ∷ []) (λ asked is legal. is) reason c

  pub not_written : (reason : TxnError) → Refuses z mid left 1 (λ asked. asked ≡ Write (change ∷ []) ∷ []) mid.knows.participant mid.knows.participant reason → WritesDirect z old change (Err reason) new
  not_written why.Memory c = inr (refused why.Memory c, (held.found, ended.freed))
  not_written (why.Stopped n) c = (refused (why.Stopped n) c, (held.found, ended.freed))
  not_written (why.NumbersFull published limit) c = (refused (why.NumbersFull published limit) c, (held.found, ended.freed))
  not_written why.LogFault c = (refused why.LogFault c, (held.found, ended.freed))
  not_written other c = absurd c

  pub written : (answer : Result ℕ TxnError) → Records z mid (Write (change ∷ []) ∷ []) (λ m. []) answer left → WritesDirect z old change answer new
  written (Ok n) r = wrote n r
  written (Err reason) r = not_written reason r.0

  leaves : LeavesDevice z mid.knows.participant mid left → LeavesDevice z (writing_direct key was) old new
  leaves d = left_within z old mid left new (writing_direct key was) held.goes_on same_seen held.saw d

  left_for : (reason : TxnError) → MayLeaveDevice z mid.knows.participant mid reason left → MayLeaveDevice z (writing_direct key was) old reason new
  left_for why.LogFault d = tt
  left_for other d = leaves d

  -- whatever it was refused for but that the device failed, that was left alone
  pub device_left : (answer : Result ℕ TxnError) → Records z mid (Write (change ∷ []) ∷ []) (λ m. []) answer left → IfErr answer (λ reason. MayLeaveDevice z (writing_direct key was) old reason new)
  device_left (Ok n) r = tt
  device_left (Err reason) r = left_for reason r.1

-- where the key was not held, nothing was written
module _ {D : Type 0} (z : SharedState D) (old new : SeatState) (key : List ℕ) where
  pub not_held : (change : Change) → key ≡ key_of change → (reason : TxnError) → HoldsDirect z old key (Err reason) new → WritesDirect z old change (Err reason) new
  not_held change is (why.Busy holder) c = subst (λ (k : List ℕ). Finds z old new (Some k) holder) is c.0
  not_held change is why.Memory c = inl c.0
  not_held change is other c = absurd c

  pub unheld_left : (found : Participant) (reason : TxnError) → HoldsDirect z old key (Err reason) new → MayLeaveDevice z found old reason new
  unheld_left found (why.Busy holder) c = inl c.1
  unheld_left found why.Memory c = inl c.1
  unheld_left found other c = absurd c

-- behind a record the seat is free, and has the direct write that it had
pub free_after : {D : Type 0} (z : SharedState D) (mid left : SeatState) (entries : List Entry) (facts : ℕ → List Fact) (answer : Result ℕ TxnError) → Records z mid entries facts answer left → IsFree z.table left
free_after z mid left entries facts (Ok n) r = r.1.1.put.goes_on.free
free_after z mid left entries facts (Err reason) r = refused_free z mid left (length entries) (λ asked. asked ≡ entries) reason r.0

pub direct_after : {D : Type 0} (z : SharedState D) (mid left : SeatState) (entries : List Entry) (facts : ℕ → List Fact) (answer : Result ℕ TxnError) → Records z mid entries facts answer left → left.knows.participant.direct ≡ mid.knows.participant.direct
direct_after z mid left entries facts (Ok n) r = ap (λ (p : Participant). p.direct) r.1.1.put.goes_on.participant
direct_after z mid left entries facts (Err reason) r = (refused_still z mid left (length entries) (λ asked. asked ≡ entries) reason r.0).direct
