-- A key that comes to an open transaction, and a change.
use Rattle.std.proofs.Common.{◌≡◌, ℕ, ◌+◌, ◌≤◌, ◌<◌, nat_le, Bool, true, false, ◌||◌, List, [], ◌∷◌, ◌++◌, length, refl, sym, subst, ap, ◌∙◌, Option, Some, is_some, arith}
use Rattle.std.specs.Prelude.{unwrap_or, Ok, Err, if◌then◌else◌}
use Rattle.std.specs.FinSet as set
use Rattle.std.specs.FinMap as finite
use Rattle.std.specs.Str.{bytes_eq}
use Rattle.std.proofs.lemmas.Bool.{and_parts}
use Rattle.std.proofs.lemmas.Cmp.{nat_list_cmp_total}
use Rattle.std.proofs.lemmas.Slice.Eq.{bytes_eq-Decides}
use Rattle.wp_model.specs.declared.batch.TheConstants.{MOST_KEYS}
use Rattle.wp_model.specs.Batch.{key_of, with_change, are_ascending, is_batch}
use Rattle.wp_model.specs.Changed.{IsUnchanged}
use Rattle.wp_model.specs.History.{is_changed}
use Rattle.wp_model.specs.LockState.{is_among_keys}
use Rattle.wp_model.specs.declared.change.Change.{Change}
use Rattle.wp_model.specs.declared.entry.Entry.{Entry}
use Rattle.wp_model.specs.declared.holder.Holder.TheVariants.{Txn}
use Rattle.wp_model.proofs.Keyed.{at_inserted}
use Rattle.wp_core.specs.Lists.{IsIn}
use Rattle.wp_core.specs.Reading.{Registration}
use Rattle.wp_core.specs.Views.{Event, Fact, locked, unchanged, unprepared}
use Rattle.wp_core.specs.World.{Transaction, Participant}
use Rattle.wp_core.proofs.PastsGrow.{in_front, in_last}
use Rattle.wp_shared.specs.Seats.{SharedState, SeatState}
use Rattle.wp_shared.specs.Calls.{Continues, with_events}
use Rattle.wp_shared.specs.Notes.{seat_of}
use Rattle.wp_open_txns.specs.declared.error.TxnError.{TxnError}
use Rattle.wp_open_txns.specs.declared.error.TxnError.TheVariants as why
use Rattle.wp_open_txns.specs.Actors.{no_changes, transaction_in, with_key_locked, with_batch}
use Rattle.wp_open_txns.specs.Calls.{with_transaction, IsFull, locking, with_changed, with_locked_key, ComesFree, Keeps, RefusesKey, Changes}
use Rattle.wp_open_txns.specs.Keys.{TakesKey, ComesTo}
use Rattle.wp_open_txns.specs.Txn.{OpenState, has_key, AreFew, IsSince, HasOpen}
use Rattle.wp_open_txns.proofs.Keys.{same_key, keys_but, has_with_change, has_with_key, none_more, few_with_change, few_with_key}
use Rattle.wp_open_txns.proofs.Still.{HasStill, still, longer, pinned_still, since_still, open_still}

either_true : (a b : Bool) → b ≡ true → (a || b) ≡ true
either_true true b is = refl
either_true false b is = is

-- ---- the transaction with the key

-- a seat that went on with the key, or as it was where the transaction has it
module _ {D : Type 0} (z : SharedState D) (old : SeatState) (txn : OpenState) (h : HasOpen old txn) (key : List ℕ) where
  abbrev name : List ℕ
  name = txn.name

  abbrev batch : List Change
  batch = txn.batch

  abbrev it : Participant
  it = old.knows.participant

  -- the transaction as the participant has it
  its : transaction_in it name ≡ h.transaction
  its = ap (λ (o : Option Transaction). unwrap_or o no_changes) h.has

  abbrev with_it : Bool → Participant
  with_it b = locking b name key it

  -- it has the transaction in both cases, with the batch
  pub locking_has : (b : Bool) → is_some (finite.get (with_it b).transactions name) ≡ true
  locking_has true = ap is_some h.has
  locking_has false = ap is_some (at_inserted it.transactions name (with_key_locked key (transaction_in it name)) name refl)

  pub locking_gets : (b : Bool) → finite.get (with_it b).transactions name ≡ Some (transaction_in (with_it b) name)
  locking_gets true = h.has ∙ ap (λ (x : Transaction). Some x) (sym its)
  locking_gets false = let x = with_key_locked key (transaction_in it name) in
      let is = at_inserted it.transactions name x name refl in is ∙ ap (λ (o : Option Transaction). Some (unwrap_or o no_changes)) (sym is)

  pub locking_batch : (b : Bool) → (transaction_in (with_it b) name).batch ≡ batch
  locking_batch true = ap (λ (x : Transaction). x.batch) its ∙ h.batch_is
  locking_batch false =
      ap (λ (o : Option Transaction). (unwrap_or o no_changes).batch) (at_inserted it.transactions name (with_key_locked key (transaction_in it name)) name refl)
      ∙ ap (λ (x : Transaction). x.batch) its ∙ h.batch_is

  -- its keys are those that it had, and this one
  pub locking_keys : (b : Bool) → has_key batch txn.locked key ≡ b → (q : List ℕ) → set.contains (transaction_in (with_it b) name).locked q ≡ (bytes_eq key q || has_key batch txn.locked q)
  locking_keys true there q = ap (λ (x : Transaction). set.contains x.locked q) its ∙ h.keys q ∙ sym (none_more batch txn.locked key q there)
  locking_keys false new q =
      let x = with_key_locked key (transaction_in it name) in
      ap (λ (o : Option Transaction). set.contains (unwrap_or o no_changes).locked q) (at_inserted it.transactions name x name refl)
      ∙ set.contains-insert nat_list_cmp_total (transaction_in it name).locked key q
      ∙ ap (λ (t : Bool). t || set.contains (transaction_in it name).locked q) (sym (same_key key q))
      ∙ ap (λ (t : Bool). bytes_eq key q || t) (ap (λ (y : Transaction). set.contains y.locked q) its ∙ h.keys q)

  locking_past : (b : Bool) (event : Event) → IsIn event it.past → IsIn event (with_it b).past
  locking_past true event there = there
  locking_past false event there = in_front event it.past (locked key (Txn name) ∷ []) there

  locked_past : (b : Bool) → has_key batch txn.locked key ≡ b → IsIn (locked key (Txn name)) (with_it b).past
  locked_past true there = h.came key there
  locked_past false new = in_last (locked key (Txn name)) it.past

  locking_registered : (b : Bool) → (with_it b).registered ≡ it.registered
  locking_registered true = refl
  locking_registered false = refl

  -- what is so of the transaction with these changes and these keys, where the seat has it so, and knows since when the key is unchanged
  module _ (b : Bool) (is : has_key batch txn.locked key ≡ b) (s : SeatState) (goes : Continues z old s (with_it b)) (since : IsSince s name key txn.pin) where
    abbrev had : Transaction
    had = transaction_in (with_it b) name

    seen_on : HasStill old (record s { knows = record s.knows { participant = record s.knows.participant { transactions = it.transactions; direct = it.direct } } })
    seen_on = record {
      transactions = refl;
      direct = refl;
      seen = goes.seen;
      notes = goes.notes;
      past = λ event there. subst (λ (p : Participant). IsIn event p.past) (sym goes.participant) (locking_past b event there);
    }

    pub came_now : (q : List ℕ) → (bytes_eq key q || has_key batch txn.locked q) ≡ true → IsIn (locked q (Txn name)) s.knows.participant.past
    came_now q has = subst (λ (p : Participant). IsIn (locked q (Txn name)) p.past) (sym goes.participant) (by (bytes_eq key q) refl has)
      where
        by : (t : Bool) → bytes_eq key q ≡ t → (t || has_key batch txn.locked q) ≡ true → IsIn (locked q (Txn name)) (with_it b).past
        by true same there = subst (λ (k : List ℕ). IsIn (locked k (Txn name)) (with_it b).past) ((bytes_eq-Decides key q).0 same) (locked_past b is)
        by false apart there = locking_past b (locked q (Txn name)) (h.came q there)

    pub since_now : (q : List ℕ) → (bytes_eq key q || has_key batch txn.locked q) ≡ true → IsSince s name q txn.pin
    since_now q has = by (bytes_eq key q) refl has
      where
        by : (t : Bool) → bytes_eq key q ≡ t → (t || has_key batch txn.locked q) ≡ true → IsSince s name q txn.pin
        by true same there = subst (λ (k : List ℕ). IsSince s name k txn.pin) ((bytes_eq-Decides key q).0 same) since
        by false apart there = let k = since_still old _ seen_on name q txn.pin (h.since q there) in record { number = k.number; noted = k.noted; seen = k.seen; pinned = k.pinned }

    pub pinned_now : (r : Registration) → txn.pin ≡ Some r → IsIn r s.knows.participant.registered × (r.number ≤ length s.knows.participant.seen)
    pinned_now r pin = let old_pin = h.pinned r pin in (
      subst (IsIn r) (sym (ap (λ (p : Participant). p.registered) goes.participant ∙ locking_registered b)) old_pin.0,
      (let low = old_pin.1 in let more = longer old _ seen_on in omega (arith, low, more)),
    )

    pub had_there : finite.get s.knows.participant.transactions name ≡ Some had
    had_there = ap (λ (p : Participant). finite.get p.transactions name) goes.participant ∙ locking_gets b

    -- the key is locked without a change
    pub open_with_key : is_changed batch key ≡ false → (has_key batch txn.locked key ≡ false → length batch + length txn.locked < MOST_KEYS) → HasOpen s (with_locked_key txn key)
    open_with_key none room = record {
      transaction = had;
      has = had_there;
      batch_is = locking_batch b;
      keys = λ q. locking_keys b is q ∙ sym (with_keys q);
      noted = goes.notes (unprepared name) refl h.noted;
      few = few_now (is_among_keys txn.locked key) refl;
      came = λ q has. came_now q (sym (with_keys q) ∙ has);
      since = λ q has. since_now q (sym (with_keys q) ∙ has);
      pinned = pinned_now;
    }
      where
        by : (t : Bool) → is_among_keys txn.locked key ≡ t → (q : List ℕ) → has_key batch (if t then txn.locked else txn.locked ++ key ∷ []) q ≡ (bytes_eq key q || has_key batch txn.locked q)
        by true there q = sym (none_more batch txn.locked key q (either_true (is_changed batch key) (is_among_keys txn.locked key) there))
        by false other q = has_with_key batch txn.locked key q

        with_keys : (q : List ℕ) → has_key batch (with_locked_key txn key).locked q ≡ (bytes_eq key q || has_key batch txn.locked q)
        with_keys q = by (is_among_keys txn.locked key) refl q

        few_now : (t : Bool) → is_among_keys txn.locked key ≡ t → AreFew batch (if t then txn.locked else txn.locked ++ key ∷ [])
        few_now true there = h.few
        few_now false other = let new : has_key batch txn.locked key ≡ false = (λ i. none i || other i) in few_with_key batch txn.locked key h.few new (room new)

    -- ... or the key has a change
    module _ (new : SeatState) (changes : List Change) (set_it : new ≡ seat_of s (with_batch name changes s.knows)) where
      abbrev with_changes : Transaction
      with_changes = record had { batch = changes }

      in_s : transaction_in s.knows.participant name ≡ had
      in_s = ap (λ (p : Participant). transaction_in p name) goes.participant

      new_seen : new.knows.participant.seen ≡ s.knows.participant.seen
      new_seen = ap (λ (y : SeatState). y.knows.participant.seen) set_it

      noted_new : (fact : Fact) → IsIn fact s.knows.notes → IsIn fact new.knows.notes
      noted_new fact there = subst (λ (y : SeatState). IsIn fact y.knows.notes) (sym set_it) there

      pub since_new : (q : List ℕ) → IsSince s name q txn.pin → IsSince new name q txn.pin
      since_new q k = record { number = k.number; noted = noted_new (unchanged name q k.number) k.noted; seen = subst (λ (es : List Entry). k.number ≤ length es) (sym new_seen) k.seen; pinned = k.pinned }

      pub open_with_change : (change : Change) → key_of change ≡ key → changes ≡ with_change batch change → are_ascending batch ≡ true → (has_key batch txn.locked key ≡ false → length batch + length txn.locked < MOST_KEYS) → HasOpen new (with_changed txn change)
      open_with_change change key_is changes_are ascending room = record {
        transaction = with_changes;
        has = ap (λ (y : SeatState). finite.get y.knows.participant.transactions name) set_it
            ∙ at_inserted s.knows.participant.transactions name (record (transaction_in s.knows.participant name) { batch = changes }) name refl
            ∙ ap (λ (x : Transaction). Some (record x { batch = changes })) in_s;
        batch_is = changes_are;
        keys = λ q. locking_keys b is q ∙ sym (with_keys q);
        noted = noted_new (unprepared name) (goes.notes (unprepared name) refl h.noted);
        few = few_with_change batch txn.locked change ascending h.few (λ none. room (ap (has_key batch txn.locked) (sym key_is) ∙ none));
        came = λ q has. subst (λ (y : SeatState). IsIn (locked q (Txn name)) y.knows.participant.past) (sym set_it) (came_now q (sym (with_keys q) ∙ has));
        since = λ q has. since_new q (since_now q (sym (with_keys q) ∙ has));
        pinned = λ r pin. let k = pinned_now r pin in (subst (λ (y : SeatState). IsIn r y.knows.participant.registered) (sym set_it) k.0, subst (λ (es : List Entry). r.number ≤ length es) (sym new_seen) k.1);
      }
        where
          with_keys : (q : List ℕ) → has_key (with_change batch change) (keys_but (key_of change) txn.locked) q ≡ (bytes_eq key q || has_key batch txn.locked q)
          with_keys q = has_with_change batch txn.locked change q ∙ ap (λ (k : List ℕ). bytes_eq k q || has_key batch txn.locked q) key_is

      pub goes_with_change : Continues z old new (with_transaction name (record (transaction_in (with_it b) name) { batch = changes }) (with_it b))
      goes_with_change = record {
        free = record {
          same_table = ap (λ (y : SeatState). y.table) set_it ∙ goes.free.same_table;
          live = ap (λ (y : SeatState). y.knows.live) set_it ∙ goes.free.live;
          turns = ap (λ (y : SeatState). y.turns) set_it ∙ goes.free.turns;
          held = ap (λ (y : SeatState). y.knows.held) set_it ∙ goes.free.held;
        };
        same_by = ap (λ (y : SeatState). y.by) set_it ∙ goes.same_by;
        seen = (goes.seen.0, new_seen ∙ goes.seen.1);
        participant = ap (λ (y : SeatState). y.knows.participant) set_it
            ∙ ap (λ (y : Participant). with_transaction name (record (transaction_in y name) { batch = changes }) y) goes.participant
            ∙ ap (λ (entries : List Entry). record (with_transaction name (record (transaction_in (with_it b) name) { batch = changes }) (with_it b)) { seen = entries }) (sym new_seen);
        notes = λ fact turnless there. noted_new fact (goes.notes fact turnless there);
        made = ap (λ (y : SeatState). y.knows.made) set_it ∙ goes.made;
        joined = ap (λ (y : SeatState). y.knows.joined) set_it ∙ goes.joined;
      }

      pub comes_with_change : ComesFree z old txn key s → ComesFree z old txn key new
      comes_with_change k = record {
        free = k.free;
        number = k.number;
        noted = noted_new (unchanged name key k.number) k.noted;
        reached = k.reached;
        seen = subst (λ (es : List Entry). k.number ≤ length es) (sym new_seen) k.seen;
        unchanged = λ r pin. subst (λ (es : List Entry). IsUnchanged es key r.number) (sym new_seen) (k.unchanged r pin);
      }

-- what stages is not full, or has the key
pub not_full : (txn : OpenState) (key : List ℕ) → (has_key txn.batch txn.locked key ≡ false → length txn.batch + length txn.locked < MOST_KEYS) → IsFull txn key → ⊥
not_full txn key room full = let less = room full.1 in let most = full.0 in absurd (omega (arith, less, most))

pub staged : {D : Type 0} (z : SharedState D) (old s new : SeatState) (txn left : OpenState) (change : Change) (changes : List Change) → HasOpen old txn → ComesTo z old txn (key_of change) (Ok tt) s → new ≡ seat_of s (with_batch txn.name changes s.knows)
    → changes ≡ with_change txn.batch change → is_batch txn.batch ≡ true → (has_key txn.batch txn.locked (key_of change) ≡ false → length txn.batch + length txn.locked < MOST_KEYS) → left ≡ with_changed txn change → Changes z old txn change (Ok tt) new left
staged z old s new txn left change changes h comes set_it changes_are whole room left_is =
    let key : List ℕ = key_of change in let b : Bool = has_key txn.batch txn.locked key in
    let ascending = (and_parts (nat_le (length txn.batch) MOST_KEYS) (are_ascending txn.batch) whole).1 in (
      left_is,
      subst (HasOpen new) (sym left_is) (open_with_change z old txn h key b refl s comes.0 comes.1 new changes set_it change refl changes_are ascending room),
      not_full txn key room,
      subst (λ (batch : List Change). Continues z old new (with_transaction txn.name (record (transaction_in (locking b txn.name key old.knows.participant) txn.name) { batch = batch }) (locking b txn.name key old.knows.participant))) changes_are
          (goes_with_change z old txn h key b refl s comes.0 comes.1 new changes set_it),
      λ none. comes_with_change z old txn h key b refl s comes.0 comes.1 new changes set_it (comes.2 none),
    )

-- ---- where the key did not come to it

-- the transaction is as it was
pub open_as_before : {D : Type 0} (z : SharedState D) (old new : SeatState) (txn : OpenState) (p : Participant) → p.transactions ≡ old.knows.participant.transactions → p.direct ≡ old.knows.participant.direct → p.registered ≡ old.knows.participant.registered
    → ((event : Event) → IsIn event old.knows.participant.past → IsIn event p.past) → Continues z old new p → HasOpen old txn → HasOpen new txn
open_as_before z old new txn p same direct registered past goes h = open_still old new (still z old new p same direct past goes) txn h (pinned_still z old new p txn registered goes h)

pub open_kept : {D : Type 0} (z : SharedState D) (old new : SeatState) (txn : OpenState) → Keeps z old new → HasOpen old txn → HasOpen new txn
open_kept z old new txn goes h = open_as_before z old new txn old.knows.participant refl refl refl (λ event there. there) goes h

-- ... or it is but for what the seat remembers
pub open_remembered : {D : Type 0} (z : SharedState D) (old new : SeatState) (txn : OpenState) (events : List Event) → Continues z old new (with_events events old.knows.participant) → HasOpen old txn → HasOpen new txn
open_remembered z old new txn events goes h = open_as_before z old new txn (with_events events old.knows.participant) refl refl refl (λ event there. in_front event old.knows.participant.past events there) goes h

pub key_refused : {D : Type 0} (z : SharedState D) (old : SeatState) (txn : OpenState) (key : List ℕ) (new : SeatState) (reason : TxnError) → (IsFull txn key → ⊥) → has_key txn.batch txn.locked key ≡ false → HasOpen old txn
    → TakesKey z old txn key (Err reason) new → RefusesKey z old txn key reason new txn
key_refused z old txn key new why.Memory room none has c = (refl, open_kept z old new txn c has, c)
key_refused z old txn key new (why.Busy holder) room none has c = (refl, open_remembered z old new txn _ c.1.goes_on has, room, none, c.0, c.1)
key_refused z old txn key new (why.Conflict number) room none has c = (refl, open_remembered z old new txn _ c.1.goes_on has, room, c.0, c.1)
key_refused z old txn key new other room none has c = absurd c
