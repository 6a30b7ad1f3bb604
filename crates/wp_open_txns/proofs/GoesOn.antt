-- A seat that took the locks turn, made its steps, and gave the turn goes on.
use Rattle.std.proofs.Common.{◌≡◌, inl, inr, arith, ℕ, ◌≤◌, Bool, true, true≢false, List, [], ◌∷◌, length, refl, sym, subst, ap, ◌∙◌, append-nil, Option, Some, None, is_some}
use Rattle.std.specs.Prelude.{Result, Ok, Err, OnOk, if◌then◌else◌}
use Rattle.std.specs.FinSet as set
use Rattle.std.specs.FinMap as finite
use Rattle.wp_model.specs.Batch.{key_cmp}
use Rattle.wp_model.specs.LockState.{LockState}
use Rattle.wp_model.specs.declared.entry.Entry.{Entry}
use Rattle.wp_model.specs.declared.holder.Holder.{Holder}
use Rattle.wp_model.specs.declared.holder.Holder.TheVariants.{Txn}
use Rattle.wp_locks.specs.Locks.{names_left}
use Rattle.wp_core.specs.Lists.{IsIn}
use Rattle.wp_core.specs.States.{Content, locks}
use Rattle.wp_core.specs.Turns.{locks_turn}
use Rattle.wp_core.specs.Views.{Fact, claimed, found, told, unprepared}
use Rattle.wp_core.specs.World.{Participant, Actor, World}
use Rattle.wp_core.specs.Changes.{turn_index, held_with, sees, with_name}
use Rattle.wp_core.specs.Sound.Actors.{StartsWith}
use Rattle.wp_core.specs.Sound.Pasts.{past_of}
use Rattle.wp_core.proofs.AllParticipants.{mine}
use Rattle.wp_model.proofs.Keyed.{at_inserted}
use Rattle.wp_model.proofs.Tests.{some_none}
use Rattle.wp_rule.specs.Accounts.{IsHolderIn, account_of}
use Rattle.wp_rule.proofs.Knows.{at_sound}
use Rattle.wp_rule.specs.Words.{IsAt}
use Rattle.wp_shared.specs.Seats.{SharedState, SeatState, IsFree, Stands, place_at}
use Rattle.wp_shared.specs.Turns.{HoldsTurn, Taken, Given}
use Rattle.wp_shared.specs.Calls.{IsLoose, ContinuesWith, Continues, with_events}
use Rattle.wp_shared.specs.Notes.{noting, seat_of}
use Rattle.wp_shared.proofs.Goes.{none_under_locks}
use Rattle.wp_shared.proofs.Onward.{holds_alone}
use Rattle.wp_open_txns.specs.declared.error.TxnError.{TxnError}
use Rattle.wp_open_txns.specs.declared.error.TxnError.TheVariants as why
use Rattle.wp_open_txns.specs.Actors.{no_changes, with_claimed, with_found, with_told, with_heard, giving_up}
use Rattle.wp_open_txns.specs.Calls.{with_transaction, without_transaction, Keeps, StoodWithLocks, FoundLocks, LocksWere, LocksAre, IsFreeName, Finds, GivesUp, Begins, WasHistory, Tells, Hears, Frees}
use Rattle.wp_open_txns.specs.Turns.{IsApartFrom, IsWithout}
use Rattle.wp_open_txns.specs.Txn.{PreparedState, HasOpen, HasPrepared}
use Rattle.wp_open_txns.specs.Under.{Claims, TellsUnder, HearsUnder}
use Rattle.wp_open_txns.proofs.Made.{locks_are, not_had}

-- ---- the turn that was taken last

-- the seat holds its state
pub held_last : {D : Type 0} {z : SharedState D} {s : SeatState} {table : Content} {others : List Content} {beneath : List ℕ} → HoldsTurn z s table others beneath → IsIn table s.knows.held
held_last {table = table} h = subst (IsIn table) (sym h.held) (inl refl)

-- its actor changed, and has this state in place of that of the locks turn
pub holds_tables : {D : Type 0} {z : SharedState D} {s r : SeatState} {t : LockState} {others : List Content} {beneath : List ℕ} (b : Actor) (u m : LockState) → HoldsTurn z s (locks t) others beneath → m ≡ u → r ≡ seat_of s b → b.live ≡ s.knows.live
    → b.held ≡ held_with s.knows.held (locks u) → HoldsTurn z r (locks m) others beneath
holds_tables {others = others} b u m h same is live held = record {
  same_table = ap (λ (x : SeatState). x.table) is ∙ h.same_table;
  live = ap (λ (x : SeatState). x.knows.live) is ∙ live ∙ h.live;
  held = ap (λ (x : SeatState). x.knows.held) is ∙ held ∙ ap (λ (l : List Content). held_with l (locks u)) h.held ∙ ap (λ (x : LockState). locks x ∷ others) (sym same);
  turns = ap (λ (x : SeatState). x.turns) is ∙ h.turns;
}

-- ... or the same
pub holds_still : {D : Type 0} {z : SharedState D} {s r : SeatState} {t : LockState} {others : List Content} {beneath : List ℕ} (b : Actor) (m : LockState) → HoldsTurn z s (locks t) others beneath → m ≡ t → r ≡ seat_of s b → b.live ≡ s.knows.live → b.held ≡ s.knows.held
    → HoldsTurn z r (locks m) others beneath
holds_still {others = others} b m h same is live held = record {
  same_table = ap (λ (x : SeatState). x.table) is ∙ h.same_table;
  live = ap (λ (x : SeatState). x.knows.live) is ∙ live ∙ h.live;
  held = ap (λ (x : SeatState). x.knows.held) is ∙ held ∙ h.held ∙ ap (λ (x : LockState). locks x ∷ others) (sym same);
  turns = ap (λ (x : SeatState). x.turns) is ∙ h.turns;
}

-- the locks as they are lent
pub lent_as : {D : Type 0} {z : SharedState D} {old s : SeatState} {t lent : LockState} → lent ≡ t → Taken z old s (locks t) → Taken z old s (locks lent)
lent_as {z = z} {old = old} {s = s} same k = subst (λ (x : LockState). Taken z old s (locks x)) (sym same) k

-- ---- what the locks held

-- the seat holds them as it took them
module _ {D : Type 0} (z : SharedState D) (old s : SeatState) (t : LockState) (k : Taken z old s (locks t)) where
  pub taken_are : k.stands.0.locks ≡ t
  taken_are = locks_are (place_at z s.by) s.knows k.stands.0 t k.stands.1 (held_last k.holds)

  pub stood_taken : StoodWithLocks z old k.stands.0
  stood_taken = record {
    actor = s.knows;
    there = subst (λ (by : ℕ). IsAt (place_at z by) s.knows k.stands.0) (ap (λ (x : SeatState). x.by) k.seat) k.stands.1;
    held = subst (λ (l : LockState). IsIn (locks l) s.knows.held) (sym taken_are) (held_last k.holds);
    participant = ap (λ (x : SeatState). x.knows.participant) k.seat;
    made = ap (λ (x : SeatState). x.knows.made) k.seat;
    joined = ap (λ (x : SeatState). x.knows.joined) k.seat;
  }

  pub found_taken : FoundLocks z old k.stands.0
  unfolding stood_taken
  found_taken = record { stood = stood_taken; notes = λ fact there. k.goes.noted fact refl there }

pub locks_found : {D : Type 0} (z : SharedState D) (old s : SeatState) (t : LockState) (So : LockState → Type 0) → Taken z old s (locks t) → So t → LocksWere z old So
locks_found z old s t So k so = record { world = k.stands.0; stood = found_taken z old s t k; so_is = subst So (sym (taken_are z old s t k)) so }

-- the seat held them so as it gave the turn
pub locks_left : {D : Type 0} (z : SharedState D) (r new : SeatState) (m : LockState) (So : LockState → Type 0) → (w : World) × Stands z r w → IsIn (locks m) r.knows.held → Given z locks_turn r new [] [] → So m → LocksAre z new So
locks_left z r new m So stands held gave so = let are = locks_are (place_at z r.by) r.knows stands.0 m stands.1 held in record {
  world = stands.0;
  stood = record {
    actor = r.knows;
    there = subst (λ (n : ℕ). IsAt (place_at z n) r.knows stands.0) (sym (ap (λ (x : SeatState). x.by) gave.goes.same)) stands.1;
    held = subst (λ (l : LockState). IsIn (locks l) r.knows.held) (sym are) held;
    participant = sym (ap (λ (x : SeatState). x.knows.participant) gave.goes.same);
    made = sym (ap (λ (x : SeatState). x.knows.made) gave.goes.same);
    joined = sym (ap (λ (x : SeatState). x.knows.joined) gave.goes.same);
  };
  so_is = subst So (sym are) so;
}

-- it has no transaction of a name that was not live
pub not_live : {D : Type 0} (z : SharedState D) (old s : SeatState) (t : LockState) (name : List ℕ) → Taken z old s (locks t) → finite.get t.names name ≡ None → finite.get old.knows.participant.transactions name ≡ None
not_live z old s t name k none = not_had (place_at z old.by) old.knows k.world t name k.before k.is (λ client has. some_none (Some client) (sym has ∙ none))

-- a live name that is left
pub name_left : (t m : LockState) (name : List ℕ) → is_some (finite.get t.names name) ≡ true → m ≡ record t { names = names_left t.names name } → m ≡ with_name t name None
name_left t m name live is = is ∙ ap (λ (b : Bool). record t { names = if b then finite.insert t.names name None else t.names }) live

-- ---- a seat that noted a fact before

module _ {D : Type 0} (z : SharedState D) (old s : SeatState) (fact : Fact) (is : s ≡ noting fact old) where
  pub free_noting : IsFree z.table old → IsFree z.table s
  free_noting free = record {
    same_table = ap (λ (x : SeatState). x.table) is ∙ free.same_table;
    live = ap (λ (x : SeatState). x.knows.live) is ∙ free.live;
    turns = ap (λ (x : SeatState). x.turns) is ∙ free.turns;
    held = ap (λ (x : SeatState). x.knows.held) is ∙ free.held;
  }

  pub prepared_noting : (x : PreparedState) → HasPrepared old x → HasPrepared s x
  prepared_noting x h = subst (λ (y : SeatState). HasPrepared y x) (sym is) (record { transaction = h.transaction; has = h.has; batch_is = h.batch_is; keys = h.keys; noted = inr h.noted; seen = h.seen; stands = h.stands })

  pub gives_up_noting : (new : SeatState) (name : List ℕ) → GivesUp z s new name → GivesUp z old new name
  gives_up_noting new name goes = record {
    free = goes.free;
    same_by = goes.same_by ∙ ap (λ (x : SeatState). x.by) is;
    seen = subst (λ (x : SeatState). StartsWith new.knows.participant.seen x.knows.participant.seen) is goes.seen;
    participant = goes.participant ∙ ap (λ (x : SeatState). record (without_transaction name x.knows.participant) { seen = new.knows.participant.seen }) is;
    notes = λ other apart there. goes.notes other apart (subst (λ (x : SeatState). IsIn other x.knows.notes) (sym is) (inr there));
    made = goes.made ∙ ap (λ (x : SeatState). x.knows.made) is;
    joined = goes.joined ∙ ap (λ (x : SeatState). x.knows.joined) is;
  }

-- ---- under the turn

-- the seat with the turn and its state too
abbrev pub with_locks : LockState → SeatState → SeatState
with_locks t s = record s { knows = record s.knows { held = locks t ∷ s.knows.held }; turns = turn_index locks_turn ∷ s.turns }

module _ {D : Type 0} (z : SharedState D) (old : SeatState) (t : LockState) (s : SeatState) (k : Taken z old s (locks t)) where
  took : s ≡ with_locks t old
  took = k.seat

  -- what is so of the seat with the turn
  pub under : (f : Actor → Actor) (r : SeatState) → r ≡ seat_of s (f s.knows) → r ≡ seat_of (with_locks t old) (f (with_locks t old).knows)
  under f r e = e ∙ ap (λ (x : SeatState). seat_of x (f x.knows)) took

  -- it gave it as the actor that it became
  pub back : (Stays : Fact → Type 0) (b : Actor) (r new : SeatState) → r ≡ seat_of (with_locks t old) b → Given z locks_turn r new [] [] → b.made ≡ old.knows.made → b.joined ≡ old.knows.joined
      → StartsWith b.participant.seen old.knows.participant.seen → ((fact : Fact) → Stays fact → IsIn fact old.knows.notes → IsIn fact b.notes) → ContinuesWith Stays z old new b.participant
  back Stays b r new is gave made joined seen notes =
      let gone = gave.goes.same in
      let p : new.knows.participant ≡ b.participant = ap (λ (x : SeatState). x.knows.participant) gone ∙ ap (λ (x : SeatState). x.knows.participant) is in
      record {
        free = gave.free refl refl;
        same_by = ap (λ (x : SeatState). x.by) gone ∙ ap (λ (x : SeatState). x.by) is;
        seen = (seen.0, ap (λ (x : Participant). x.seen) p ∙ seen.1);
        participant = p ∙ ap (λ (entries : List Entry). record b.participant { seen = entries }) (sym (ap (λ (x : Participant). x.seen) p));
        notes = λ fact kept there. gave.goes.noted fact (none_under_locks fact) (subst (λ (x : SeatState). IsIn fact x.knows.notes) (sym is) (notes fact kept there));
        made = ap (λ (x : SeatState). x.knows.made) gone ∙ ap (λ (x : SeatState). x.knows.made) is ∙ made;
        joined = ap (λ (x : SeatState). x.knows.joined) gone ∙ ap (λ (x : SeatState). x.knows.joined) is ∙ joined;
      }

  -- ... which saw no more of the history
  pub back_at_once : (b : Actor) (r new : SeatState) → r ≡ seat_of (with_locks t old) b → Given z locks_turn r new [] [] → b.made ≡ old.knows.made → b.joined ≡ old.knows.joined
      → b.participant.seen ≡ old.knows.participant.seen → ((fact : Fact) → IsIn fact old.knows.notes → IsIn fact b.notes) → Continues z old new b.participant
  back_at_once b r new is gave made joined same notes = back IsLoose b r new is gave made joined ([], same ∙ sym (append-nil old.knows.participant.seen)) (λ fact loose there. notes fact there)

  -- a fact that it noted under the turn it has noted still
  pub noted_back : (b : Actor) (r new : SeatState) (fact : Fact) → r ≡ seat_of (with_locks t old) b → Given z locks_turn r new [] [] → IsIn fact b.notes → IsIn fact new.knows.notes
  noted_back b r new fact is gave there = gave.goes.noted fact (none_under_locks fact) (subst (λ (x : SeatState). IsIn fact x.knows.notes) (sym is) there)

  -- nothing was done
  pub nothing_done : (r new : SeatState) → r ≡ s → Given z locks_turn r new [] [] → Keeps z old new
  nothing_done r new e gave = back_at_once (with_locks t old).knows r new (e ∙ took) gave refl refl refl (λ fact there. there)

  -- it saw more of the history
  pub saw : (r new : SeatState) (history : List Entry) → r ≡ seat_of s (sees history s.knows) → StartsWith history s.knows.participant.seen → Given z locks_turn r new [] [] → Keeps z old new
  saw r new history e starts gave =
      let goes = back IsLoose (sees history (with_locks t old).knows) r new (under (sees history) r e) gave refl refl (subst (λ (x : SeatState). StartsWith history x.knows.participant.seen) took starts) (λ fact loose there. there) in
      record { free = goes.free; same_by = goes.same_by; seen = goes.seen; participant = goes.participant; notes = goes.notes; made = goes.made; joined = goes.joined }

  -- it found a holder
  pub finds : (key : Option (List ℕ)) (holder : Holder) (r new : SeatState) (published : ℕ) → IsHolderIn t key holder → length s.knows.participant.seen ≤ published → r ≡ seat_of s (with_found t published key holder s.knows) → Given z locks_turn r new [] []
      → Finds z old new key holder
  finds key holder r new published is low e gave = record {
    world = k.stands.0;
    stood = found_taken z old s t k;
    holds = subst (λ (l : LockState). IsHolderIn l key holder) (sym (taken_are z old s t k)) is;
    published = published;
    reached = subst (λ (x : SeatState). length x.knows.participant.seen ≤ published) took low;
    goes_on = subst (λ (l : LockState). Continues z old new (with_events (found key holder (length old.knows.participant.seen) (account_of old.knows.participant l published key holder) ∷ []) old.knows.participant)) (sym (taken_are z old s t k))
        (back_at_once (with_found t published key holder (with_locks t old).knows) r new (under (with_found t published key holder) r e) gave refl refl refl (λ fact there. there));
  }

  -- ---- a name

  pub begun : (name : List ℕ) (r new : SeatState) → r ≡ seat_of s (with_claimed t name s.knows) → Given z locks_turn r new [] []
      → HasOpen new (record { name = name; batch = []; locked = []; pin = None }) × Continues z old new (with_events (claimed name ∷ []) (with_transaction name no_changes old.knows.participant))
  begun name r new e gave =
      let b = with_claimed t name (with_locks t old).knows in let is = under (with_claimed t name) r e in
      let goes = back_at_once b r new is gave refl refl refl (λ fact there. inr there) in (
        record {
          transaction = no_changes;
          has = ap (λ (x : Participant). finite.get x.transactions name) goes.participant ∙ at_inserted old.knows.participant.transactions name no_changes name refl;
          batch_is = refl;
          keys = λ key. set.contains-empty key_cmp key;
          noted = noted_back b r new (unprepared name) is gave (inl refl);
          few = record { once = tt; apart = λ key there. absurd cc; few = omega arith };
          came = λ key has. absurd cc;
          since = λ key has. absurd cc;
          pinned = λ pin is_pinned. absurd cc;
        },
        goes,
      )

  pub not_begun : (name : List ℕ) (reason : TxnError) (u : LockState) (r new : SeatState) → Claims t s name (Err reason) u r → Given z locks_turn r new [] [] → Begins z old name (Err reason) new
  not_begun name (why.Taken other) u r new c gave = (c.0, finds None (Txn name) r new c.1.2.0 (name, refl, c.1.0) c.1.2.1 c.1.2.2 gave)
  not_begun name why.Memory u r new c gave = nothing_done r new c.1 gave
  not_begun name other u r new c gave = absurd c

  pub given_up : (name : List ℕ) (u : LockState) (r new : SeatState) → IsWithout s r u name → Given z locks_turn r new [] [] → GivesUp z old new name
  given_up name u r new without_it gave =
      let f : Actor → Actor = λ a. record (giving_up u name a) { notes = r.knows.notes } in
      back (IsApartFrom name) (f (with_locks t old).knows) r new (under f r without_it.seat) gave refl refl ([], sym (append-nil old.knows.participant.seen))
      (λ fact apart there. without_it.notes fact apart (subst (λ (x : SeatState). IsIn fact x.knows.notes) (sym took) there))

  -- it has seen no more
  pub given_up_same : (name : List ℕ) (u : LockState) (r new : SeatState) → IsWithout s r u name → Given z locks_turn r new [] [] → new.knows.participant ≡ without_transaction name old.knows.participant
  given_up_same name u r new without_it gave = ap (λ (x : SeatState). x.knows.participant) gave.goes.same ∙ ap (λ (x : SeatState). x.knows.participant) (under (λ a. record (giving_up u name a) { notes = r.knows.notes }) r without_it.seat)

  -- it holds this state, in which its transaction is gone
  pub without_holds : IsFree z.table old → (u m : LockState) (name : List ℕ) (r : SeatState) → IsWithout s r u name → m ≡ u → HoldsTurn z r (locks m) [] []
  without_holds free u m name r without_it same = holds_tables (record (giving_up u name s.knows) { notes = r.knows.notes }) u m (holds_alone free k) same without_it.seat refl refl

  pub freed : (name : List ℕ) (u m : LockState) (r new : SeatState) → IsWithout s r u name → (w : World) × Stands z r w → HoldsTurn z r (locks m) [] [] → IsFreeName name m → Given z locks_turn r new [] [] → Frees z old new name
  freed name u m r new without_it stands held is_free gave = record {
    gives_up = given_up name u r new without_it gave;
    same = given_up_same name u r new without_it gave;
    freed = locks_left z r new m (IsFreeName name) stands (held_last held) gave is_free;
  }

  -- ---- the board

  published_back : (r new : SeatState) → WasHistory z s r.knows.participant.seen → Given z locks_turn r new [] [] → WasHistory z old new.knows.participant.seen
  published_back r new was gave = record {
    world = was.world;
    actor = was.actor;
    there = subst (λ (by : ℕ). IsAt (place_at z by) was.actor was.world) (ap (λ (x : SeatState). x.by) took) was.there;
    held = was.held;
    participant = was.participant ∙ ap (λ (x : SeatState). record x.knows.participant { seen = was.actor.participant.seen }) took;
    is = was.is ∙ sym (ap (λ (x : SeatState). x.knows.participant.seen) gave.goes.same);
  }

  -- the number was loaded, and told
  pub told_back : (label : List ℕ) (n : ℕ) (h : List Entry) (s2 : SeatState) (u : LockState) (r new : SeatState) → s2 ≡ seat_of s (sees h s.knows) → StartsWith h s.knows.participant.seen → n ≡ length h → TellsUnder t s2 label (Ok tt) u r → HoldsTurn z r (locks u) [] []
      → (w : World) × Stands z r w → WasHistory z s r.knows.participant.seen → Given z locks_turn r new [] [] → Tells z old label (Ok n) new
  told_back label n h s2 u r new load starts number c held stands was gave =
      let f : Actor → Actor = λ a. with_told t label (sees h a) in
      let e : r ≡ seat_of s (f s.knows) = c.1 ∙ ap (λ (x : SeatState). seat_of x (with_told t label x.knows)) load in
      let is = under f r e in
      let goes : Continues z old new (with_events (told label (length h) ∷ []) (record old.knows.participant { seen = h })) =
      back IsLoose (f (with_locks t old).knows) r new is gave refl refl (subst (λ (x : SeatState). StartsWith h x.knows.participant.seen) took starts) (λ fact loose there. there) in
      let seen : new.knows.participant.seen ≡ h = ap (λ (x : SeatState). x.knows.participant.seen) gave.goes.same ∙ ap (λ (x : SeatState). x.knows.participant.seen) is in
      let length_is : length s2.knows.participant.seen ≡ n = ap (λ (x : SeatState). length x.knows.participant.seen) load ∙ sym number in (
        number ∙ ap (λ (entries : List Entry). length entries) (sym seen),
        record {
          free = goes.free;
          same_by = goes.same_by;
          seen = goes.seen;
          participant = goes.participant ∙ ap (λ (m : ℕ). record (with_events (told label m ∷ []) old.knows.participant) { seen = new.knows.participant.seen }) (sym number);
          notes = goes.notes;
          made = goes.made;
          joined = goes.joined;
        },
        locks_left z r new u (λ l. finite.get l.labels label ≡ Some n) stands (held_last held) gave
            (ap (λ (l : LockState). finite.get l.labels label) c.0 ∙ at_inserted t.labels label (length s2.knows.participant.seen) label refl ∙ ap (λ (m : ℕ). Some m) length_is),
        published_back r new was gave,
      )

  pub not_told : (label : List ℕ) (reason : TxnError) (h : List Entry) (s2 : SeatState) (u : LockState) (r new : SeatState) → s2 ≡ seat_of s (sees h s.knows) → StartsWith h s.knows.participant.seen → TellsUnder t s2 label (Err reason) u r → Given z locks_turn r new [] []
      → Tells z old label (Err reason) new
  not_told label why.Memory h s2 u r new load starts c gave = saw r new h (c.1 ∙ load) starts gave
  not_told label other h s2 u r new load starts c gave = absurd c

  pub heard_back : (label : List ℕ) (answer : Result ℕ TxnError) (r new : SeatState) → HearsUnder t s label answer r → OnOk answer (WasHistory z s r.knows.participant.seen) → Given z locks_turn r new [] [] → Hears z old label answer new
  heard_back label (Ok n) r new c was gave =
      let h : List Entry = c.1 in let f : Actor → Actor = with_heard h label c.0 in let is = under f r c.6 in
      let goes = back IsLoose (f (with_locks t old).knows) r new is gave refl refl (subst (λ (x : SeatState). StartsWith h x.knows.participant.seen) took c.4) (λ fact loose there. there) in
      let seen : new.knows.participant.seen ≡ h = ap (λ (x : SeatState). x.knows.participant.seen) gave.goes.same ∙ ap (λ (x : SeatState). x.knows.participant.seen) is in (
        c.5 ∙ ap (λ (entries : List Entry). length entries) (sym seen),
        (
          c.0,
          subst (λ (m : ℕ). c.0 ≤ m) (sym c.5) c.3,
          record { free = goes.free; same_by = goes.same_by; seen = goes.seen; participant = goes.participant; notes = goes.notes; made = goes.made; joined = goes.joined },
          locks_found z old s t (λ l. finite.get l.labels label ≡ Some c.0) k c.2,
          published_back r new was gave,
        ),
      )
  heard_back label (Err why.Silent) r new c was gave =
      let w = k.world in
      let none : finite.get w.locks.labels label ≡ None = ap (λ (l : LockState). finite.get l.labels label) k.is ∙ c.0 in
      let past = mine past_of w.actors old.by old.knows old.knows k.before.there refl in
      let board = (at_sound (place_at z old.by) old.knows w k.before).board in (
        record {
          world = k.stands.0;
          stood = stood_taken z old s t k;
          none = ap (λ (l : LockState). finite.get l.labels label) (taken_are z old s t k) ∙ c.0;
          not_told = λ n there. true≢false (sym (board.labels label n (inl (old.by, 0, (old.knows.participant.past, past, there)))) ∙ ap is_some none);
          not_heard = λ n there. true≢false (sym (board.labels label n (inr (old.by, 0, (old.knows.participant.past, past, there)))) ∙ ap is_some none);
        },
        nothing_done r new c.1 gave,
      )
  heard_back label (Err other) r new c was gave = absurd c
