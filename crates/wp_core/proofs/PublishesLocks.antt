-- The pending entry joins the history: names and keys, holders, the board, and faults.
use Rattle.std.proofs.Common.{◌≡◌, ⊎_elim, inl, inr, ℕ, suc, ◌≤◌, ◌<◌, Bool, true, false, true≢false, List, [], ◌∷◌, ◌++◌, length, refl, sym, subst, ap, ◌∙◌, Option, Some, None, arith, length-append}
use Rattle.std.specs.Prelude.{is_some, unwrap_or}
use Rattle.std.proofs.lemmas.Bool.{eq-eqb, false_from_ne_true}
use Rattle.std.proofs.lemmas.List.{take-append-le}
use Rattle.std.proofs.lemmas.Slice.Eq.{bytes_eq-Decides}
use Rattle.std.specs.FinMap as finite
use Rattle.wp_model.specs.declared.change.Change.{Change}
use Rattle.wp_model.specs.declared.entry.Entry.{Entry}
use Rattle.wp_model.specs.declared.entry.Entry.TheVariants.{Write, Prepare, Commit, Undo, Close}
use Rattle.wp_model.specs.declared.holder.Holder.{Holder}
use Rattle.wp_model.specs.declared.holder.Holder.TheVariants.{Txn, Client}
use Rattle.wp_model.specs.History.{is_prepare, prepared_name, prepared_batch, name_at, batch_at, decides, is_undecided, is_changed, changes_of, named}
use Rattle.wp_model.specs.Legal.{IsLegal, IsLegalNext}
use Rattle.wp_model.specs.LockState.{LockState}
use Rattle.wp_model.proofs.Found.{found_named}
use Rattle.wp_history_laws.proofs.Unchanged.{unchanged_grows, unchanged_at_end}
use Rattle.wp_core.specs.Entries.{transaction_of, written}
use Rattle.wp_core.specs.States.{WriteState}
use Rattle.wp_core.specs.Views.{Account, own, another, prepare_at, Event}
use Rattle.wp_core.specs.Effects.{with_entry}
use Rattle.wp_core.specs.Sound.Locks.{Owner, HasKeyAt, WasPrepared, PrepareHas, WasLockedFor, CameToKey, HasOrLocked, AreLocked}
use Rattle.wp_core.specs.Sound.Pasts.{MadeHolder, IsAccounted, AreHolders, IsBoard, AreFaults, WasPreparedBehind}
use Rattle.wp_core.proofs.HistoryLaws.{is_equal}
use Rattle.wp_core.proofs.HistoryGrows.{before, after, at_next, grown_length, named_stays, name_at_old, batch_at_grown, undecided_before_or_now}
use Rattle.wp_core.proofs.OneHolder.{name_is}
use Rattle.wp_model.proofs.Keyed.{txn_is}
use Rattle.wp_model.proofs.Tests.{some_there, same_some, none_some}

-- the Prepare that an entry is
pub record IsPrepareOf (entry : Entry) : Type 0 where
  pub name : List ℕ
  pub batch : List Change
  pub is : entry ≡ Prepare name batch

pub prepare_of : (entry : Entry) → is_prepare (Some entry) ≡ true → IsPrepareOf entry
prepare_of (Prepare name batch) is = record { name = name; batch = batch; is = refl }
prepare_of (Write batch) is = absurd (true≢false (sym is))
prepare_of (Commit p) is = absurd (true≢false (sym is))
prepare_of (Undo p batch) is = absurd (true≢false (sym is))
prepare_of (Close p) is = absurd (true≢false (sym is))

-- what decides a prepare is of its transaction
pub decider_of : (history : List Entry) (p : ℕ) (entry : Entry) → decides p entry ≡ true → transaction_of history entry ≡ Some (name_at history p)
decider_of history p (Commit q) d = ap (λ (x : ℕ). Some (name_at history x)) (is_equal q p d)
decider_of history p (Close q) d = ap (λ (x : ℕ). Some (name_at history x)) (is_equal q p d)
decider_of history p (Write batch) d = absurd (true≢false (sym d))
decider_of history p (Prepare name batch) d = absurd (true≢false (sym d))
decider_of history p (Undo q batch) d = absurd (true≢false (sym d))

-- what is named is of the transaction of an entry only where the entry decides it
pub not_decided : (history : List Entry) (entry : Entry) (name : List ℕ) (p : ℕ) → named history name ≡ Some p → (transaction_of history entry ≡ Some name → ⊥) → decides p entry ≡ false
not_decided history entry name p is other = by (decides p entry) refl
  where
    by : (b : Bool) → decides p entry ≡ b → b ≡ false
    by false e = refl
    by true e = absurd (other (decider_of history p entry e ∙ ap (λ (x : List ℕ). Some x) ((bytes_eq-Decides (name_at history p) name).0 (found_named history name p is).1)))

-- an entry that does not decide the prepare of a name changes no key that is held for it
held_kept : (history : List Entry) (entry : Entry) (t : LockState) → IsLegal history → IsLegalNext history entry
    → ((q : ℕ) (key : List ℕ) → is_undecided history q ≡ true → is_changed (batch_at history q) key ≡ true → finite.get t.keys key ≡ Some (Txn (name_at history q)))
    → ((key name : List ℕ) → is_changed (written entry) key ≡ true → finite.get t.keys key ≡ Some (Txn name) → named history name ≡ None)
    → (key name : List ℕ) (p : ℕ) → named history name ≡ Some p → finite.get t.keys key ≡ Some (Txn name) → decides p entry ≡ false → is_changed (changes_of history entry) key ≡ false
held_kept history (Write batch) t legal next prepared unprepared key name p is held other = false_from_ne_true _ (λ changed. none_some (named history name) p (unprepared key name changed held) is)
held_kept history (Prepare new batch) t legal next prepared unprepared key name p is held other = refl
held_kept history (Commit q) t legal next prepared unprepared key name p is held other = false_from_ne_true _ (λ changed.
    let undecided = next.orderly.names_undecided in
    let same : name_at history q ≡ name = txn_is (name_at history q) name (sym (prepared q key undecided changed) ∙ held) in
    let it : q ≡ p = same_some q p (sym (name_is history legal q undecided) ∙ (ap (named history) same ∙ is)) in
    true≢false (sym (eq-eqb q p it) ∙ other))
held_kept history (Undo q batch) t legal next prepared unprepared key name p is held other = refl
held_kept history (Close q) t legal next prepared unprepared key name p is held other = refl

module _ (history : List Entry) (entry : Entry) (legal : IsLegal (history ++ entry ∷ [])) where
  abbrev grown : List Entry
  grown = history ++ entry ∷ []

  abbrev next : ℕ
  next = suc (length history)

  pub name_new : (name : List ℕ) (batch : List Change) → entry ≡ Prepare name batch → name_at grown next ≡ name
  name_new name batch is = ap prepared_name (at_next history entry legal) ∙ ap (λ (x : Entry). prepared_name (Some x)) is

  pub batch_new : (name : List ℕ) (batch : List Change) → entry ≡ Prepare name batch → batch_at grown next ≡ batch
  batch_new name batch is = ap prepared_batch (at_next history entry legal) ∙ ap (λ (x : Entry). prepared_batch (Some x)) is

  -- the undecided prepare of a name that nobody has stays it
  still_left : (t : LockState) → ((name : List ℕ) → transaction_of history entry ≡ Some name → (client : List ℕ) × (finite.get t.names name ≡ Some (Some client)))
      → (name : List ℕ) → finite.get t.names name ≡ Some None → is_some (named history name) ≡ true → (p : ℕ) × (named history name ≡ Some p) × (named grown name ≡ Some p)
  still_left t live name left is =
      let x = some_there (named history name) is in (
        x.0,
        x.1,
        named_stays history entry legal name x.0 x.1 (not_decided history entry name x.0 x.1 (λ of. let l = live name of in let q : Some None ≡ Some (Some l.0) = sym left ∙ l.1 in absurd cc)),
      )

  -- an old prepare that the longer history finds by a name was found by it
  pub named_was : (name : List ℕ) (p : ℕ) → p ≤ length history → named grown name ≡ Some p → named history name ≡ Some p
  named_was name p le is =
      let f = found_named grown name p is in
      ⊎_elim
      (λ (o : (p ≤ length history) × (is_undecided history p ≡ true) × (decides p entry ≡ false)).
      let same : name_at history p ≡ name = sym (name_at_old history entry legal p le) ∙ (bytes_eq-Decides (name_at grown p) name).0 f.1 in
      ap (named history) (sym same) ∙ name_is history (before history entry legal) p o.1)
      (λ (o : (p ≡ next) × (is_prepare (Some entry) ≡ true)). let e = o.0 in absurd (omega (arith, e, le)))
      (undecided_before_or_now history entry legal p f.0)

  -- a prepare that was undecided at a moment was so
  was_grows : (from n : ℕ) (name : List ℕ) (key : Option (List ℕ)) → WasPrepared history from n name key → WasPrepared grown from n name key
  was_grows from n name key k =
      let low = k.1 in let l = grown_length history entry legal in
      (k.0, omega (arith, low, l), subst (λ (h : List Entry). (p : ℕ) × (named h name ≡ Some p) × HasKeyAt h p key) (sym (take-append-le n history (entry ∷ []) low)) k.2)

  behind_grows : (opened : List Entry) (from n : ℕ) (name : List ℕ) → WasPreparedBehind opened history from n name → WasPreparedBehind opened grown from n name
  behind_grows opened from n name k =
      let low = k.1 in let l = grown_length history entry legal in
      (k.0, omega (arith, low, l), subst (λ (h : List Entry). (p : ℕ) × (length opened < p) × (named h name ≡ Some p)) (sym (take-append-le n history (entry ∷ []) low)) k.2)

  prepare_grows : (opened : List Entry) (name key : List ℕ) → PrepareHas opened history name key → PrepareHas opened grown name key
  prepare_grows opened name key (n, was) = (n, was_grows (length opened) n name (Some key) was)

  came_grows : (opened : List Entry) (owners : List (List Owner)) (past : List Event) (name key : List ℕ) → CameToKey opened history owners past name key → CameToKey opened grown owners past name key
  came_grows opened owners past name key (inl k) = inl k
  came_grows opened owners past name key (inr (k, inl has)) = inr (k, inl (prepare_grows opened name key has))
  came_grows opened owners past name key (inr (k, inr was)) = inr (k, inr was)

  beyond_grows : (opened : List Entry) (owners : List (List Owner)) (p : ℕ) (name key : List ℕ) → p ≤ length history → HasOrLocked opened history owners p name key → HasOrLocked opened grown owners p name key
  beyond_grows opened owners p name key low (inl has) = inl (ap (λ (z : List Change). is_changed z key) (batch_at_grown history entry legal p low) ∙ has)
  beyond_grows opened owners p name key low (inr was) = inr was

  pub locks_part : (opened : List Entry) (t : LockState) (owners : List (List Owner)) → ((name : List ℕ) → transaction_of history entry ≡ Some name → (client : List ℕ) × (finite.get t.names name ≡ Some (Some client)))
      → ((name : List ℕ) (batch : List Change) (key : List ℕ) → entry ≡ Prepare name batch → is_changed batch key ≡ true → finite.get t.keys key ≡ Some (Txn name))
      → ((key name : List ℕ) → is_changed (written entry) key ≡ true → finite.get t.keys key ≡ Some (Txn name) → named history name ≡ None)
      → length opened ≤ length history → ((name : List ℕ) (batch : List Change) (key : List ℕ) → entry ≡ Prepare name batch → finite.get t.keys key ≡ Some (Txn name) → WasLockedFor owners name key)
      → AreLocked opened history t owners → AreLocked opened grown t owners
  locks_part opened t owners live held unprepared low came k = record {
    prepared_names = λ p u. ⊎_elim
        (λ o. ap (λ (x : List ℕ). is_some (finite.get t.names x)) (name_at_old history entry legal p o.0) ∙ k.prepared_names p o.1)
        (λ (o : (p ≡ next) × (is_prepare (Some entry) ≡ true)).
        let x = prepare_of entry o.1 in
        let l = live x.name (ap (transaction_of history) x.is) in
        ap (λ (z : List ℕ). is_some (finite.get t.names z)) (ap (name_at grown) o.0 ∙ name_new x.name x.batch x.is) ∙ ap is_some l.1)
        (undecided_before_or_now history entry legal p u);
    prepared_keys = λ p key u changed. ⊎_elim
        (λ o. k.prepared_keys p key o.1 (ap (λ (x : List Change). is_changed x key) (sym (batch_at_grown history entry legal p o.0)) ∙ changed) ∙ ap (λ (x : List ℕ). Some (Txn x)) (sym (name_at_old history entry legal p o.0)))
        (λ (o : (p ≡ next) × (is_prepare (Some entry) ≡ true)).
        let x = prepare_of entry o.1 in
        held x.name x.batch key x.is (ap (λ (z : List Change). is_changed z key) (sym (ap (batch_at grown) o.0 ∙ batch_new x.name x.batch x.is)) ∙ changed) ∙ ap (λ (z : List ℕ). Some (Txn z)) (sym (ap (name_at grown) o.0 ∙ name_new x.name x.batch x.is)))
        (undecided_before_or_now history entry legal p u);
    had = k.had;
    came = λ j i o there name x key h held. came_grows opened owners o.past name key (k.came j i o there name x key h held);
    apart = k.apart;
    names_had = k.names_had;
    names_left = λ name e. ap is_some (still_left t live name e (k.names_left name e)).2;
    keys_live = k.keys_live;
    keys_known = k.keys_known;
    keys_direct = k.keys_direct;
    unchanged = λ key name p is has. ⊎_elim
        (λ (o : (p ≤ length history) × (is_undecided history p ≡ true) × (decides p entry ≡ false)).
        let was = named_was name p o.0 is in
        unchanged_grows history entry (before history entry legal) (after history entry legal) key p (held_kept history entry t (before history entry legal) (after history entry legal) k.prepared_keys unprepared key name p was has o.2) (k.unchanged key name p was has))
        (λ (o : (p ≡ next) × (is_prepare (Some entry) ≡ true)). let e = o.0 in let l = grown_length history entry legal in unchanged_at_end grown key p (omega (arith, e, l)))
        (undecided_before_or_now history entry legal p (found_named grown name p is).0);
    beyond = λ key name p is has.
        let f = found_named grown name p is in
        ⊎_elim
        (λ (o : (p ≤ length history) × (is_undecided history p ≡ true) × (decides p entry ≡ false)). beyond_grows opened owners p name key o.0 (k.beyond key name p (named_was name p o.0 is) has))
        (λ (o : (p ≡ next) × (is_prepare (Some entry) ≡ true)).
        let x = prepare_of entry o.1 in
        let same : x.name ≡ name = sym (ap (name_at grown) o.0 ∙ name_new x.name x.batch x.is) ∙ (bytes_eq-Decides (name_at grown p) name).0 f.1 in
        let e = o.0 in
        inr (omega (arith, e, low), subst (λ (z : List ℕ). WasLockedFor owners z key) same (came x.name x.batch key x.is (has ∙ ap (λ (z : List ℕ). Some (Txn z)) (sym same)))))
        (undecided_before_or_now history entry legal p f.0);
  }

  -- ---- the pasts

  made_grows : (opened : List Entry) (pasts : List (List (List Event))) (j i : ℕ) (key : Option (List ℕ)) (holder : Holder) → MadeHolder opened history pasts j i key holder → MadeHolder opened grown pasts j i key holder
  made_grows opened pasts j i None (Txn name) k = k
  made_grows opened pasts j i (Some key) (Txn name) (inl k) = inl k
  made_grows opened pasts j i (Some key) (Txn name) (inr (k, inl has)) = inr (k, inl (prepare_grows opened name key has))
  made_grows opened pasts j i (Some key) (Txn name) (inr (k, inr was)) = inr (k, inr was)
  made_grows opened pasts j i (Some key) (Client client) k = k
  made_grows opened pasts j i None (Client client) none = absurd none

  accounted_grows : (opened : List Entry) (pasts : List (List (List Event))) (j i : ℕ) (key : Option (List ℕ)) (holder : Holder) (seen : ℕ) (account : Account) → IsAccounted opened history pasts j i key holder seen account → IsAccounted opened grown pasts j i key holder seen account
  accounted_grows opened pasts j i key holder seen own k = made_grows opened pasts j i key holder k
  accounted_grows opened pasts j i key holder seen another (l, m, apart, k) = (l, m, apart, made_grows opened pasts l m key holder k)
  accounted_grows opened pasts j i key (Txn name) seen (prepare_at n) (inl k) = inl (was_grows seen n name key k)
  accounted_grows opened pasts j i key (Txn name) seen (prepare_at n) (inr k) = inr (behind_grows opened seen n name k.0, k.1)
  accounted_grows opened pasts j i key (Client name) seen (prepare_at n) k = k

  pub holders_part : (opened : List Entry) (t : LockState) (pasts : List (List (List Event))) → AreHolders opened history t pasts → AreHolders opened grown t pasts
  holders_part opened t pasts k = record { names = k.names; keys = k.keys; found = λ j i key holder seen account h. accounted_grows opened pasts j i key holder seen account (k.found j i key holder seen account h) }

  pub board_part : (t : LockState) (pasts : List (List (List Event))) → IsBoard (length history) t pasts → IsBoard (length grown) t pasts
  board_part t pasts k = record { labels = k.labels; numbers = k.numbers; heard = k.heard; told = λ label n p. let low = k.told label n p in let l = grown_length history entry legal in omega (arith, low, l) }

pub faults_part : (t : WriteState) (entry : Entry) (others : List Entry) (halted : Bool) (pasts : List (List (List Event))) → t.closed ≡ false → AreFaults t halted pasts → AreFaults (with_entry t entry others) halted pasts
faults_part t entry others halted pasts open_log k = record {
  log = k.log;
  tables = k.tables;
  not_logged = λ closed. absurd (true≢false (sym closed ∙ open_log));
  stopped = λ n h. absurd (true≢false (sym (k.stopped n h).0 ∙ open_log));
  based = λ n base h. let f = k.based n base h in let few = f.0 in let more = length-append t.history (entry ∷ []) in (omega (arith, few, more), f.1);
  failed = k.failed;
  renewing = λ closed. absurd (true≢false (sym closed ∙ open_log));
  of_log = k.of_log;
  behind = k.behind;
  unfailed = k.unfailed;
}
