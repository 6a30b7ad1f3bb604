-- An entry of a seat's own transaction or direct write may come next, behind the log that the seat holds.
use Rattle.std.proofs.Common.{◌≡◌, ◌≢◌, ⊎_elim, inl, inr, ℕ, ◌+◌, ◌<◌, ◌≤◌, ◌||◌, ◌&&◌, not, Bool, true, false, true≢false, List, [], ◌∷◌, ◌++◌, length, refl, sym, subst, ap, ◌∙◌, Option, Some, None, is_some, append-nil, append_assoc, ne_eqb, arith}
use Rattle.std.specs.Prelude.{option_map}
use Rattle.std.specs.FinMap as finite
use Rattle.std.specs.List.{AllByRecursion}
use Rattle.std.specs.FinSet as set
use Rattle.std.specs.Str.{bytes_eq}
use Rattle.std.proofs.lemmas.Slice.Eq.{bytes_eq-Decides}
use Rattle.wp_model.specs.Batch.{key_of, change_to, is_batch}
use Rattle.wp_model.specs.History.{entry_at, prepared_name, prepared_batch, name_at, batch_at, is_changed, is_prepare, is_undecided, named, holder_of, newest}
use Rattle.wp_model.specs.Legal.{IsLegal, IsLegalNext, AreFree, log_end, undone_last, prior}
use Rattle.wp_model.specs.declared.change.Change.{Change}
use Rattle.wp_model.specs.declared.entry.Entry.{Entry}
use Rattle.wp_model.specs.declared.entry.Entry.TheVariants.{Write, Prepare, Commit, Undo, Close}
use Rattle.wp_model.specs.declared.holder.Holder.TheVariants.{Txn}
use Rattle.wp_model.specs.LockState.{is_among_keys}
use Rattle.wp_model.proofs.BatchLemmas.{batch_ascends}
use Rattle.wp_model.proofs.Entries.{entry_at_old, undecided_within, undone_after}
use Rattle.wp_model.proofs.Found.{found_named}
use Rattle.wp_history_laws.proofs.Growth.{legal_next, length_next}
use Rattle.wp_history_laws.proofs.Held.{prior_to}
use Rattle.wp_history_laws.proofs.Undecided.{close_follows, undecided_old}
use Rattle.wp_fields.specs.declared.format.Format.{Format}
use Rattle.wp_fields.specs.declared.format.Format.TheVariants.{One, Two}
use Rattle.wp_entry.specs.Record.{last_number}
use Rattle.wp_core.specs.Conditions.{HasTransaction}
use Rattle.wp_core.specs.Entries.{transaction_of, changes_under, written}
use Rattle.wp_core.specs.Lists.{IsIn}
use Rattle.wp_core.specs.States.{WriteState}
use Rattle.wp_core.specs.Views.{direct_free, locked, undecided_at, unprepared}
use Rattle.wp_core.specs.World.{Transaction, Transactions, Participant}
use Rattle.wp_core.proofs.HistoryGrows.{none_is}
use Rattle.wp_model.proofs.Tests.{either, same_some, some_none}
use Rattle.wp_rule.proofs.Knows.{at_sound, noted_is}
use Rattle.wp_parts.specs.Log.{LogState}
use Rattle.wp_records.specs.Records.{OwnsEntry, MayPut}
use Rattle.wp_shared.specs.Seats.{SharedState, SeatState, place_at}
use Rattle.wp_txn.specs.Groups.{their_commits}
use Rattle.wp_txn.specs.Recording.{OpensLog}
use Rattle.wp_open_txns.specs.Txn.{OpenState, PreparedState, HasOpen, HasPrepared}
use Rattle.wp_open_txns.proofs.Keys.{changed_one}
use Rattle.wp_txn.proofs.Committed.{first_of}
use Rattle.wp_txn.proofs.Each.{all_in, all_of, all_with, HaveOtherNames}

-- ---- numbers

numbers_end : (format : Format) → last_number format < log_end
numbers_end One = omega arith
numbers_end Two = omega arith

-- ---- batches

first_changed : (change : Change) (others : List Change) → is_changed (change ∷ others) (key_of change) ≡ true
first_changed change others = changed_one change others (key_of change) ∙ ap (λ (t : Bool). t || is_changed others (key_of change)) ((bytes_eq-Decides (key_of change) (key_of change)).1 refl)

or_later : (s t : Bool) → t ≡ true → (s || t) ≡ true
or_later true t e = refl
or_later false t e = e

all_free : (history : List Entry) (batch : List Change) → ((key : List ℕ) → is_changed batch key ≡ true → holder_of history key ≡ None) → AreFree history batch
all_free history [] free = tt
all_free history (change ∷ others) free =
    (free (key_of change) (first_changed change others), all_free history others (λ key changed. free key (changed_one change others key ∙ or_later (bytes_eq (key_of change) key) (is_changed others key) changed)))

-- one change is to its key alone
only_key : (change : Change) (key : List ℕ) → is_changed (change ∷ []) key ≡ true → key ≡ key_of change
only_key change key changed = ⊎_elim
    (λ (same : bytes_eq (key_of change) key ≡ true). sym ((bytes_eq-Decides (key_of change) key).0 same))
    (λ (none : false ≡ true). absurd (true≢false (sym none)))
    (either (bytes_eq (key_of change) key) false (sym (changed_one change [] key) ∙ changed))

same_name : (one : List ℕ) (batch : List Change) (other : List ℕ) (changes : List Change) → Prepare one batch ≡ Prepare other changes → one ≡ other
same_name one batch other changes e = same_some one other (ap (λ (it : Entry). Some (prepared_name (Some it))) e)

some_kept : {X : Type 0} {Y : Type 0} (f : X → Y) (o : Option X) → is_some (option_map f o) ≡ is_some o
some_kept f (Some x) = refl
some_kept f None = refl

-- what a batch would restore is to just its keys
prior_changes : (history : List Entry) (batch : List Change) (key : List ℕ) → is_changed (prior history batch) key ≡ is_changed batch key
prior_changes history batch key = ap is_some (prior_to history batch key) ∙ some_kept (λ (v : Option (List ℕ)). newest history key) (change_to batch key)

module _ {D : Type 0} (z : SharedState D) (old new : SeatState) (log : LogState) (needed : ℕ) (o : OpensLog z old new log needed) where
  abbrev history : List Entry
  history = log.state.history

  same_participant : new.knows.participant ≡ record old.knows.participant { seen = history }
  same_participant = ap (λ (x : SeatState). x.knows.participant) o.took.seat

  same_transactions : new.knows.participant.transactions ≡ old.knows.participant.transactions
  same_transactions = ap (λ (p : Participant). p.transactions) same_participant

  nothing_undone : undone_last history ≡ None
  nothing_undone = none_is (undone_last history) (λ p e.
      let closing = (at_sound (place_at z new.by) new.knows o.took.world o.took.stands).history.undo_closes p (ap (λ (d : WriteState). undone_last d.history) o.took.is ∙ e) in
      let none : [] ≡ Close p ∷ [] = sym o.holds.pending ∙ ap (λ (d : WriteState). d.pending) (sym o.took.is) ∙ closing.0 in absurd (cc))

  pub legal_now : IsLegal history
  legal_now = subst (λ (d : WriteState). IsLegal d.history) o.took.is (at_sound (place_at z new.by) new.knows o.took.world o.took.stands).history.legal

  grows_by : (entry : Entry) → 1 ≤ needed → IsLegalNext history entry → IsLegal (history ++ entry ∷ [])
  grows_by entry one next = let a = o.numbers in let b = numbers_end log.wal.format in legal_next history entry legal_now next (omega (arith, a, b, one))

  writes_next : (batch : List Change) → is_batch batch ≡ true → ((key : List ℕ) → is_changed batch key ≡ true → holder_of history key ≡ None) → IsLegalNext history (Write batch)
  writes_next batch whole free = record { orderly = record { ascending = batch_ascends batch whole; names_undecided = tt; undo_is_closed = nothing_undone; keys_are_free = all_free history batch free }; restores_prior = tt }

  -- ---- a direct write

  pub may_write_direct : 1 ≤ needed → (key : List ℕ) (change : Change) → key ≡ key_of change → is_batch (change ∷ []) ≡ true → old.knows.participant.direct ≡ Some key → IsIn (direct_free key) old.knows.notes
      → MayPut new.knows history (Write (change ∷ []) ∷ [])
  may_write_direct one key change is whole direct noted =
      let so = (noted_is (place_at z new.by) new.knows o.took.world (direct_free key) o.took.stands (o.took.goes.noted (direct_free key) refl noted)).is_so in
      let free : holder_of history key ≡ None = ap (λ (d : WriteState). holder_of d.history key) (sym o.took.is) ∙ so.2 in
      record {
        legal = grows_by (Write (change ∷ [])) one (writes_next (change ∷ []) whole (λ k changed. ap (holder_of history) (only_key change k changed ∙ sym is) ∙ free));
        owned = (
          record {
            keys = λ k changed. inl (ap (λ (p : Participant). p.direct) same_participant ∙ direct ∙ ap (λ (x : List ℕ). Some x) (is ∙ sym (only_key change k changed)));
            transaction = λ name e. absurd (some_none name (sym e));
            came = λ name batch x k e. let none : Write (change ∷ []) ≡ Prepare name batch = e in absurd cc;
          },
          tt,
        );
      }

  -- ---- an open transaction

  module _ (x : OpenState) (h : HasOpen old x) (whole : is_batch x.batch ≡ true) (one : 1 ≤ needed) where
    has : HasTransaction new.knows x.name h.transaction
    has = ap (λ (ts : Transactions). finite.get ts x.name) same_transactions ∙ h.has

    noted_still : IsIn (unprepared x.name) new.knows.notes
    noted_still = o.took.goes.noted (unprepared x.name) refl h.noted

    open_so : (named history x.name ≡ None) × ((key : List ℕ) → is_changed x.batch key ≡ true → holder_of history key ≡ None)
    open_so =
        let so = (noted_is (place_at z new.by) new.knows o.took.world (unprepared x.name) o.took.stands noted_still).is_so in (
          ap (λ (d : WriteState). named d.history x.name) (sym o.took.is) ∙ so.1,
          λ key changed. ap (λ (d : WriteState). holder_of d.history key) (sym o.took.is) ∙ so.2 h.transaction key has (h.keys key ∙ ap (λ (b : Bool). b || is_among_keys x.locked key) changed),
        )

    pub may_write_open : MayPut new.knows history (Write x.batch ∷ [])
    may_write_open = record {
      legal = grows_by (Write x.batch) one (writes_next x.batch whole open_so.1);
      owned = (record { keys = λ key changed. inr (x.name, h.transaction, has, h.keys key ∙ ap (λ (b : Bool). b || is_among_keys x.locked key) changed, noted_still); transaction = λ other e. absurd (some_none other (sym e)); came = λ other batch y key e. let none : Write x.batch ≡ Prepare other batch = e in absurd cc }, tt);
    }

    pub may_prepare : MayPut new.knows history (Prepare x.name x.batch ∷ [])
    may_prepare = record {
      legal = grows_by (Prepare x.name x.batch) one (record { orderly = record { ascending = batch_ascends x.batch whole; names_undecided = tt; undo_is_closed = nothing_undone; keys_are_free = (all_free history x.batch open_so.1, open_so.0) }; restores_prior = tt });
      owned = (
        record {
          keys = λ key changed. absurd (true≢false (sym changed));
          transaction = λ other e. (h.transaction, subst (λ (n : List ℕ). HasTransaction new.knows n h.transaction) (same_some x.name other e) has, λ key changed. h.keys key ∙ ap (λ (b : Bool). b || is_among_keys x.locked key) changed);
          came = λ other batch y key e there locks.
              let same : x.name ≡ other = same_name x.name x.batch other batch e in
              let is : h.transaction ≡ y = same_some h.transaction y (sym has ∙ ap (finite.get new.knows.participant.transactions) same ∙ there) in
              let held : set.contains h.transaction.locked key ≡ true = ap (λ (t : Transaction). set.contains t.locked key) is ∙ locks in
              subst (IsIn (locked key (Txn other))) (sym (ap (λ (p : Participant). p.past) same_participant)) (subst (λ (n : List ℕ). IsIn (locked key (Txn n)) old.knows.participant.past) same (h.came key (sym (h.keys key) ∙ held)));
        },
        tt,
      );
    }

  -- ---- a prepared transaction

  module _ (x : PreparedState) (h : HasPrepared old x) where
    still_has : HasTransaction new.knows x.name h.transaction
    still_has = ap (λ (ts : Transactions). finite.get ts x.name) same_transactions ∙ h.has

    -- its prepare stands where it stood
    pub stands_still : entry_at history x.number ≡ Some (Prepare x.name x.batch)
    stands_still = ap (λ (es : List Entry). entry_at es x.number) o.took.grown.1 ∙ entry_at_old old.knows.participant.seen o.took.grown.0 x.number h.seen ∙ h.stands

    pub named_still : named history x.name ≡ Some x.number
    named_still =
        let so = (noted_is (place_at z new.by) new.knows o.took.world (undecided_at x.name x.number) o.took.stands (o.took.goes.noted (undecided_at x.name x.number) refl h.noted)).is_so in
        ap (λ (d : WriteState). named d.history x.name) (sym o.took.is) ∙ so.1

    pub undecided_still : is_undecided history x.number ≡ true
    undecided_still = (found_named history x.name x.number named_still).0

    owns_end : (before : List Entry) (entry : Entry) → written entry ≡ [] → is_prepare (Some entry) ≡ false → entry_at before x.number ≡ Some (Prepare x.name x.batch) → transaction_of before entry ≡ Some (name_at before x.number)
        → ((key : List ℕ) → is_changed (changes_under before entry) key ≡ true → is_changed x.batch key ≡ true) → OwnsEntry new.knows before entry
    owns_end before entry none ends there is keys = record {
      keys = λ key changed. absurd (true≢false (sym changed ∙ ap (λ (b : List Change). is_changed b key) none));
      transaction = λ other e. (
        h.transaction,
        subst (λ (n : List ℕ). HasTransaction new.knows n h.transaction) (sym (ap prepared_name there) ∙ same_some (name_at before x.number) other (sym is ∙ e)) still_has,
        λ key changed. h.keys key ∙ ap (λ (b : Bool). b || is_among_keys x.locked key) (keys key changed),
      );
      came = λ other batch y key e. absurd (true≢false (sym (ap (λ (it : Entry). is_prepare (Some it)) e) ∙ ends));
    }

    -- what is restored is what its keys have in the history
    pub may_roll_back : 2 ≤ needed → (restored : List Change) → is_batch restored ≡ true → restored ≡ prior history (batch_at history x.number) → MayPut new.knows history (Undo x.number restored ∷ Close x.number ∷ [])
    may_roll_back two restored whole is =
        let undo : IsLegalNext history (Undo x.number restored) = record { orderly = record { ascending = batch_ascends restored whole; names_undecided = undecided_still; undo_is_closed = nothing_undone; keys_are_free = tt }; restores_prior = is } in
        let grown : List Entry = history ++ Undo x.number restored ∷ [] in
        let first : IsLegal grown = grows_by (Undo x.number restored) (omega (arith, two)) undo in
        let there : entry_at grown x.number ≡ Some (Prepare x.name x.batch) = entry_at_old history (Undo x.number restored ∷ []) x.number (undecided_within history x.number undecided_still).1 ∙ stands_still in
        let a = o.numbers in let b = numbers_end log.wal.format in
        record {
          legal = subst IsLegal (append_assoc history (Undo x.number restored ∷ []) (Close x.number ∷ []))
              (legal_next grown (Close x.number) first (close_follows history x.number restored undo) (omega (arith, a, b, two, length_next history (Undo x.number restored))));
          owned = (
            owns_end history (Undo x.number restored) refl refl stands_still refl
                (λ key changed. ap (λ (c : List Change). is_changed c key) (sym (ap prepared_batch stands_still)) ∙ sym (prior_changes history (batch_at history x.number) key) ∙ ap (λ (c : List Change). is_changed c key) (sym is) ∙ changed),
            (owns_end grown (Close x.number) refl refl there refl (λ key changed. ap (λ (c : List Change). is_changed c key) (sym (ap prepared_batch there)) ∙ changed), tt),
          );
        }

  -- ---- prepared transactions, which Commits decide

  -- its prepare stands in this history, and is undecided there
  abbrev StandsUndecided : List Entry → PreparedState → Type 0
  StandsUndecided before x = (entry_at before x.number ≡ Some (Prepare x.name x.batch)) × (is_undecided before x.number ≡ true)

  -- ... and so it does behind the Commit of another
  stands_past : (before : List Entry) (x y : PreparedState) → x.name ≢ y.name → StandsUndecided before x → StandsUndecided before y → StandsUndecided (before ++ Commit x.number ∷ []) y
  stands_past before x y apart here there =
      let within = (undecided_within before y.number there.1).1 in
      let other : x.number ≢ y.number = λ same. apart (same_name x.name x.batch y.name y.batch (same_some (Prepare x.name x.batch) (Prepare y.name y.batch) (sym here.0 ∙ ap (entry_at before) same ∙ there.0))) in (
        entry_at_old before (Commit x.number ∷ []) y.number within ∙ there.0,
        undecided_old before (Commit x.number) y.number within ∙ (λ i. (there.1 i && not (ne_eqb x.number y.number other i))),
      )

  commits_next : (xs : List PreparedState) (before : List Entry) → IsLegal before → undone_last before ≡ None → length before + length xs < log_end → AllByRecursion (HasPrepared old) xs → AllByRecursion (StandsUndecided before) xs → HaveOtherNames xs
      → MayPut new.knows before (their_commits xs)
  commits_next [] before legal none few has stand apart = record { legal = subst IsLegal (sym (append-nil before)) legal; owned = tt }
  commits_next (x ∷ others) before legal none few has stand apart =
      let entry : Entry = Commit x.number in
      let grown : List Entry = before ++ entry ∷ [] in
      let long = length_next before entry in
      let more = commits_next others grown
      (legal_next before entry legal (record { orderly = record { ascending = refl; names_undecided = stand.0.1; undo_is_closed = none; keys_are_free = tt }; restores_prior = tt }) (omega (arith, few)))
      (undone_after before [] entry)
      (omega (arith, few, long))
      has.1
      (all_of (StandsUndecided grown) others (λ y there. stands_past before x y (all_in (λ w. x.name ≢ w.name) others y apart.0 there) stand.0 (all_in (StandsUndecided before) others y stand.1 there)))
      apart.1 in
      record {
        legal = subst IsLegal (first_of before x others) more.legal;
        owned = (owns_end x has.0 before entry refl refl stand.0.0 refl (λ key changed. ap (λ (b : List Change). is_changed b key) (sym (ap prepared_batch stand.0.0)) ∙ changed), more.owned);
      }

  pub may_commit : (xs : List PreparedState) → length xs ≤ needed → AllByRecursion (HasPrepared old) xs → HaveOtherNames xs → MayPut new.knows history (their_commits xs)
  may_commit xs room has apart =
      let a = o.numbers in let b = numbers_end log.wal.format in
      commits_next xs history legal_now nothing_undone (omega (arith, a, b, room)) has (all_with (HasPrepared old) (StandsUndecided history) xs (λ x h. (stands_still x h, undecided_still x h)) has) apart

  pub all_named_still : (xs : List PreparedState) → AllByRecursion (HasPrepared old) xs → AllByRecursion (λ x. named history x.name ≡ Some x.number) xs
  all_named_still xs has = all_with (HasPrepared old) (λ x. named history x.name ≡ Some x.number) xs (λ x h. named_still x h) has
