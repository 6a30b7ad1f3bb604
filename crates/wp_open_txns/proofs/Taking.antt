-- A seat that took the write turn and then the locks turn, took a prepare or found that it may not, and gave both turns.
use Rattle.std.proofs.Common.{◌≡◌, inl, inr, ℕ, ◌≤◌, Bool, true, false, true≢false, ◌||◌, List, [], ◌∷◌, length, refl, sym, subst, ap, ◌∙◌, append-nil, Option, Some, None, is_some, Bor}
use Rattle.std.specs.Prelude.{unwrap_or, IfSome, Err}
use Rattle.std.specs.Option.{option_copied}
use Rattle.std.specs.Cmp.{both_ways}
use Rattle.std.specs.FinMap as finite
use Rattle.std.specs.FinSet as set
use Rattle.std.proofs.lemmas.Slice.Eq.{bytes_eq-Decides}
use Rattle.wp_model.specs.History.{entry_at, is_prepare, prepared_name, prepared_batch, is_undecided, named, name_at, batch_at, is_changed}
use Rattle.wp_model.specs.LockState.{LockState, is_among_keys}
use Rattle.wp_model.specs.declared.change.Change.{Change}
use Rattle.wp_model.specs.declared.entry.Entry.{Entry}
use Rattle.wp_model.specs.declared.entry.Entry.TheVariants.{Prepare}
use Rattle.wp_model.specs.declared.holder.Holder.TheVariants.{Txn}
use Rattle.wp_model.proofs.Entries.{undecided_prepared, undecided_within}
use Rattle.wp_model.proofs.Found.{found_named}
use Rattle.wp_locks.specs.Locks.{AreBeyond, RefusesTake}
use Rattle.wp_locks.specs.declared.error.LockError.TheVariants as lock_error
use Rattle.wp_core.specs.Lists.{IsIn}
use Rattle.wp_core.specs.States.{WriteState, writes, locks}
use Rattle.wp_core.specs.Turns.{write_turn, locks_turn}
use Rattle.wp_core.specs.Views.{Fact, found, undecided_at}
use Rattle.wp_core.specs.World.{Transaction, Participant, Actor, World}
use Rattle.wp_core.specs.Changes.{sees, keys_of_holder}
use Rattle.wp_core.specs.Sound.Actors.{StartsWith}
use Rattle.wp_core.proofs.HistoryGrows.{none_is}
use Rattle.wp_core.proofs.KeepsNameTaken.{held_in_set, in_set_if_held}
use Rattle.wp_model.proofs.Keyed.{at_inserted}
use Rattle.wp_model.proofs.Tests.{same_some, some_none}
use Rattle.wp_rule.specs.Accounts.{account_of}
use Rattle.wp_rule.specs.Words.{Place, IsAt}
use Rattle.wp_rule.proofs.Knows.{at_sound}
use Rattle.wp_shared.proofs.Tables.{held_state}
use Rattle.wp_shared.specs.Seats.{SharedState, SeatState, place_at}
use Rattle.wp_shared.specs.Calls.{Continues, with_events}
use Rattle.wp_shared.specs.Notes.{no_fact, is_under, seat_of}
use Rattle.wp_shared.specs.Turns.{Taken, Given}
use Rattle.wp_shared.proofs.Goes.{none_under_locks}
use Rattle.wp_shared.proofs.Onward.{loose_none, loose_under, goes_same, goes_still, goes_free}
use Rattle.wp_open_txns.specs.declared.error.TxnError.{TxnError}
use Rattle.wp_open_txns.specs.declared.error.TxnError.TheVariants as why
use Rattle.wp_open_txns.specs.Actors.{with_found, with_taken}
use Rattle.wp_open_txns.specs.Calls.{Keeps, StoodWithBoth, Takes, TakesPrepared}
use Rattle.wp_open_txns.specs.Turns.{TakesPrepare}
use Rattle.wp_open_txns.specs.Txn.{has_key}
use Rattle.wp_open_txns.specs.Under.{IsPrepareOf, TakesUnder}
use Rattle.wp_open_txns.proofs.GoesOn.{taken_are, found_taken, with_locks}
use Rattle.wp_open_txns.proofs.Made.{locks_are, not_had}

-- ---- names

-- an entry that is a Prepare
prepare_of : (o : Option Entry) → is_prepare o ≡ true → o ≡ Some (Prepare (prepared_name o) (prepared_batch o))
prepare_of (Some (Prepare name batch)) is = refl
prepare_of other is = absurd (true≢false (sym is))

prepare_at : (history : List Entry) (p : ℕ) (name : List ℕ) (batch : List Change) → is_undecided history p ≡ true → name_at history p ≡ name → batch_at history p ≡ batch → entry_at history p ≡ Some (Prepare name batch)
prepare_at history p name batch u named_so changes = prepare_of (entry_at history p) (undecided_prepared history p u) ∙ (λ i. Some (Prepare (named_so i) (changes i)))

-- the keys beyond the prepare that was looked at
pub beyond_of : (t : LockState) (name : List ℕ) (keys : List (List ℕ)) (o : Option (Bor (ℕ × List Change))) (number : ℕ) (batch : List Change) → option_copied o ≡ Some (number, batch) → IfSome o (λ p. AreBeyond t name p.now.1 keys) → AreBeyond t name batch keys
beyond_of t name keys None number batch is beyond = absurd (some_none (number, batch) (sym is))
beyond_of t name keys (Some p) number batch is beyond = subst (λ (x : ℕ × List Change). AreBeyond t name x.1 keys) (same_some p.now (number, batch) is) beyond

-- just the keys of the batch are held for the transaction, and those beyond it
taken_keys : (t : LockState) (name : List ℕ) (batch : List Change) (locked : List (List ℕ)) → ((key : List ℕ) → is_changed batch key ≡ true → finite.get t.keys key ≡ Some (Txn name)) → AreBeyond t name batch locked
    → (key : List ℕ) → set.contains (keys_of_holder t (Txn name)) key ≡ has_key batch locked key
taken_keys t name batch locked held beyond key =
    both_ways (set.contains (keys_of_holder t (Txn name)) key) (has_key batch locked key) (λ has. from (is_changed batch key) refl (held_in_set t name key has)) (λ has. in_set_if_held t name key (to (is_changed batch key) refl has))
  where
    from : (b : Bool) → is_changed batch key ≡ b → finite.get t.keys key ≡ Some (Txn name) → (b || is_among_keys locked key) ≡ true
    from true changed has = refl
    from false other has = beyond.all key has other

    to : (b : Bool) → is_changed batch key ≡ b → (b || is_among_keys locked key) ≡ true → finite.get t.keys key ≡ Some (Txn name)
    to true changed is = held key changed
    to false other is = (beyond.held key is).0

-- a name that is not live names no undecided prepare
pub not_named : (p : Place) (a : Actor) (w : World) (t : LockState) (name : List ℕ) → IsAt p a w → IsIn (locks t) a.held → finite.get t.names name ≡ None → named w.writes.history name ≡ None
not_named p a w t name k held free = none_is (named w.writes.history name) (λ q e.
    let f = found_named w.writes.history name q e in
    let same : name_at w.writes.history q ≡ name = (bytes_eq-Decides (name_at w.writes.history q) name).0 f.1 in
    let live : is_some (finite.get w.locks.names name) ≡ true = ap (λ (n : List ℕ). is_some (finite.get w.locks.names n)) (sym same) ∙ (at_sound p a w k).locks.prepared_names q f.0 in
    true≢false (sym live ∙ ap (λ (l : LockState). is_some (finite.get l.names name)) (locks_are p a w t k held) ∙ ap is_some free))

pub refused_unknown : (o : Option (Option (List ℕ))) (name asked : List ℕ) → RefusesTake o name (lock_error.Unknown asked) → (o ≡ None) × (asked ≡ name)
refused_unknown None name asked r = (refl, r)
refused_unknown (Some None) name asked r = absurd r
refused_unknown (Some (Some client)) name asked r = absurd r

pub refused_used : (o : Option (Option (List ℕ))) (name asked : List ℕ) → RefusesTake o name (lock_error.InUse asked) → ((client : List ℕ) × (o ≡ Some (Some client))) × (asked ≡ name)
refused_used None name asked r = absurd r
refused_used (Some None) name asked r = absurd r
refused_used (Some (Some client)) name asked r = ((client, refl), r)

none_left : (client : List ℕ) → Some None ≡ Some (Some client) → ⊥
none_left client e = absurd cc

there_is : (o : Option ℕ) (n : ℕ) → o ≡ Some n → unwrap_or o 0 ≡ n
there_is o n e = ap (λ (x : Option ℕ). unwrap_or x 0) e

module _ {D : Type 0} (z : SharedState D) (old : SeatState) (d : WriteState) (s : SeatState) (k : Taken z old s (writes d)) where
  -- the seat with the write turn
  seat_then : s ≡ record old { knows = record old.knows { held = writes d ∷ old.knows.held; notes = s.knows.notes }; turns = 0 ∷ old.turns }
  seat_then = k.goes.same

  pub gave_at_once : (new : SeatState) → Given z write_turn s new [] [] → Keeps z old new
  gave_at_once new gave =
      goes_free z old new old.knows.participant (gave.free refl refl)
      (goes_still old s new old.knows.participant (goes_same old s no_fact _ _ loose_none k.goes) (goes_same s new (is_under write_turn) _ _ (loose_under write_turn) gave.goes))

  module _ (t : LockState) (s2 : SeatState) (k2 : Taken z s s2 (locks t)) where
    -- the actor with both turns
    abbrev both : Actor
    both = record old.knows { held = locks t ∷ writes d ∷ old.knows.held; notes = s.knows.notes }

    under_both : (f : Actor → Actor) (r : SeatState) → r ≡ seat_of s2 (f s2.knows) → r ≡ seat_of (with_locks t s) (f both)
    under_both f r e =
        e ∙ ap (λ (x : SeatState). seat_of x (f x.knows)) k2.seat
        ∙ ap (λ (x : SeatState). seat_of (with_locks t s) (f (record x.knows { held = locks t ∷ x.knows.held }))) seat_then

    -- both turns are given
    module _ (r s4 new : SeatState) (gave : Given z locks_turn r s4 (writes d ∷ []) (0 ∷ [])) (gave_log : Given z write_turn s4 new [] []) where
      gone : new.knows ≡ record r.knows { held = []; notes = new.knows.notes }
      gone = ap (λ (x : SeatState). x.knows) gave_log.goes.same ∙ ap (λ (x : SeatState). record x.knows { held = []; notes = new.knows.notes }) gave.goes.same

      both_back : (b : Actor) → r ≡ seat_of (with_locks t s) b → b.made ≡ old.knows.made → b.joined ≡ old.knows.joined → StartsWith b.participant.seen old.knows.participant.seen → ((fact : Fact) → IsIn fact s.knows.notes → IsIn fact b.notes) → Continues z old new b.participant
      both_back b is made joined seen notes =
          let was : r.knows ≡ b = ap (λ (x : SeatState). x.knows) is in
          let p : new.knows.participant ≡ b.participant = ap (λ (a : Actor). a.participant) gone ∙ ap (λ (a : Actor). a.participant) was in
          let by : (x : SeatState) → ℕ = λ x. x.by in
          record {
            free = gave_log.free refl refl;
            same_by = ap by gave_log.goes.same ∙ ap by gave.goes.same ∙ ap by is ∙ ap by seat_then;
            seen = (seen.0, ap (λ (x : Participant). x.seen) p ∙ seen.1);
            participant = p ∙ ap (λ (entries : List Entry). record b.participant { seen = entries }) (sym (ap (λ (x : Participant). x.seen) p));
            notes = λ fact loose there.
                gave_log.goes.noted fact (loose_under write_turn fact loose) (gave.goes.noted fact (none_under_locks fact) (subst (λ (a : Actor). IsIn fact a.notes) (sym was) (notes fact (k.goes.noted fact refl there))));
            made = ap (λ (a : Actor). a.made) gone ∙ ap (λ (a : Actor). a.made) was ∙ made;
            joined = ap (λ (a : Actor). a.joined) gone ∙ ap (λ (a : Actor). a.joined) was ∙ joined;
          }

      both_at_once : (b : Actor) → r ≡ seat_of (with_locks t s) b → b.made ≡ old.knows.made → b.joined ≡ old.knows.joined → b.participant.seen ≡ old.knows.participant.seen → ((fact : Fact) → IsIn fact s.knows.notes → IsIn fact b.notes) → Continues z old new b.participant
      both_at_once b is made joined same notes = both_back b is made joined ([], same ∙ sym (append-nil old.knows.participant.seen)) notes

      -- nothing was done with them
      pub gave_both : r ≡ s2 → Keeps z old new
      gave_both same = both_at_once both (under_both (λ a. a) r same) refl refl refl (λ fact there. there)

      was_seen : s2.knows.participant.seen ≡ old.knows.participant.seen
      was_seen = ap (λ (x : SeatState). x.knows.participant.seen) k2.seat ∙ ap (λ (x : SeatState). x.knows.participant.seen) seat_then

      seen_more : (history : List Entry) → StartsWith history s2.knows.participant.seen → StartsWith history old.knows.participant.seen
      seen_more history starts = subst (λ (seen : List Entry). StartsWith history seen) was_seen starts

      participant_after : new.knows.participant ≡ r.knows.participant
      participant_after = ap (λ (a : Actor). a.participant) gone

      -- ---- a refusal

      log_last : IsIn (writes d) s.knows.held
      log_last = subst (λ (x : SeatState). IsIn (writes d) x.knows.held) (sym seat_then) (inl refl)

      log_held : IsIn (writes d) s2.knows.held
      log_held = subst (λ (x : SeatState). IsIn (writes d) x.knows.held) (sym k2.seat) (inr log_last)

      -- as it had taken both, the locks were these, and the history that of the log
      abbrev found_then : World
      found_then = k2.stands.0

      locks_then : found_then.locks ≡ t
      locks_then = taken_are z s s2 t k2

      published_then : length found_then.writes.history ≡ length d.history
      published_then = ap (λ (x : WriteState). length x.history) (held_state (place_at z s2.by) s2.knows found_then (writes d) k2.stands.1 log_held)

      stood_then : StoodWithBoth z old found_then
      stood_then = record {
        actor = s2.knows;
        there = subst (λ (by : ℕ). IsAt (place_at z by) s2.knows found_then) (ap (λ (x : SeatState). x.by) k2.seat ∙ ap (λ (x : SeatState). x.by) seat_then) k2.stands.1;
        state = d;
        held = ap (λ (x : SeatState). x.knows.held) k2.seat ∙ ap (λ (x : SeatState). locks t ∷ x.knows.held) seat_then ∙ ap (λ (l : LockState). locks l ∷ writes d ∷ old.knows.held) (sym locks_then);
        same = ap (λ (x : SeatState). record x.knows { held = s2.knows.held; notes = s2.knows.notes }) k2.seat ∙ ap (λ (x : SeatState). record x.knows { held = s2.knows.held; notes = s2.knows.notes }) seat_then;
      }

      pub not_taken : (name : List ℕ) (reason : TxnError) (u : LockState) → TakesUnder t s2 name (Err reason) u r → TakesPrepared z old name (Err reason) new
      not_taken name (why.Unknown other at) u c =
          let h : List Entry = c.3.0 in let is = under_both (sees h) r c.3.4 in
          let goes = both_back (sees h both) is refl refl (seen_more h c.3.1) (λ fact there. there) in
          let seen : new.knows.participant.seen ≡ h = ap (λ (p : Participant). p.seen) participant_after ∙ ap (λ (x : SeatState). x.knows.participant.seen) is in (
            c.0,
            c.3.3 ∙ ap (λ (entries : List Entry). length entries) (sym seen),
            ap (λ (entries : List Entry). named entries name) seen ∙ c.3.2,
            record { free = goes.free; same_by = goes.same_by; seen = goes.seen; participant = goes.participant; notes = goes.notes; made = goes.made; joined = goes.joined },
            (found_then, stood_then, ap (λ (l : LockState). finite.get l.names name) locks_then ∙ c.1, published_then ∙ ap (λ (es : List Entry). length es) (sym (c.3.5 d log_held)) ∙ sym c.3.3),
          )
      not_taken name (why.InUse other) u c = (
        c.0,
        record {
          world = found_then;
          stood = stood_then;
          holds = (name, refl, ap (λ (l : LockState). is_some (finite.get l.names name)) locks_then ∙ c.1.0);
          published = c.1.2.0;
          reached = subst (λ (seen : List Entry). length seen ≤ c.1.2.0) was_seen c.1.2.1;
          goes_on = subst (λ (l : LockState). Continues z old new (with_events (found None (Txn name) (length old.knows.participant.seen) (account_of old.knows.participant l c.1.2.0 None (Txn name)) ∷ []) old.knows.participant)) (sym locks_then)
              (both_at_once (with_found t c.1.2.0 None (Txn name) both) (under_both (with_found t c.1.2.0 None (Txn name)) r c.1.2.2) refl refl refl (λ fact there. there));
        },
        (c.2.0, ap (λ (l : LockState). finite.get l.names name) locks_then ∙ c.2.1),
      )
      not_taken name other u c = absurd c

      -- ---- the prepare

      module _ (name : List ℕ) (c : TakesPrepare s2 t name r) where
        -- the history that it saw is the log's
        of_log : c.history ≡ d.history
        of_log = c.same d log_held

        pub not_none : IsPrepareOf d.history name None → ⊥
        not_none none = true≢false (sym c.named_there ∙ ap (λ (h : List Entry). is_some (named h name)) of_log ∙ ap is_some none)

        pub takes : (number : ℕ) (batch : List Change) (locked : List (List ℕ)) → finite.get t.names name ≡ Some None → IsPrepareOf d.history name (Some (number, batch)) → AreBeyond t name batch locked
            → Takes z old name (record { name = name; number = number; batch = batch; locked = locked }) new
        takes number batch locked left p beyond =
            let h : List Entry = c.history in let q : ℕ = unwrap_or (named h name) 0 in let b = with_taken t h name both in
            let is = under_both (with_taken t h name) r c.seat in
            let named_is : named h name ≡ Some number = ap (λ (entries : List Entry). named entries name) of_log ∙ p.0 in
            let number_is : q ≡ number = there_is (named h name) number named_is in
            let batch_is : batch_at h q ≡ batch = ap (batch_at h) number_is ∙ ap (λ (entries : List Entry). batch_at entries number) of_log ∙ p.1 in
            let x : Transaction = record { batch = batch_at h q; locked = keys_of_holder t (Txn name) } in
            let goes = both_back b is refl refl (seen_more h c.seen) (λ fact there. inr there) in
            let seen : new.knows.participant.seen ≡ h = ap (λ (y : Participant). y.seen) participant_after ∙ ap (λ (y : SeatState). y.knows.participant.seen) is in
            let f = found_named h name number named_is in
            record {
              name_is = refl;
              nobodys = let w = k2.stands.0 in let found = found_taken z s s2 t k2 in let stood = found.stood in record {
                world = w;
                stood = record {
                  stood = record {
                    actor = stood.actor;
                    there = subst (λ (by : ℕ). IsAt (place_at z by) stood.actor w) (ap (λ (x : SeatState). x.by) seat_then) stood.there;
                    held = stood.held;
                    participant = stood.participant ∙ ap (λ (x : SeatState). x.knows.participant) seat_then;
                    made = stood.made ∙ ap (λ (x : SeatState). x.knows.made) seat_then;
                    joined = stood.joined ∙ ap (λ (x : SeatState). x.knows.joined) seat_then;
                  };
                  notes = λ fact there. found.notes fact (k.goes.noted fact refl there);
                };
                so_is = ap (λ (l : LockState). finite.get l.names name) (taken_are z s s2 t k2) ∙ left;
              };
              not_had = ap (λ (x : SeatState). finite.get x.knows.participant.transactions name) (sym seat_then) ∙ not_had (place_at z s.by) s.knows k2.world t name k2.before k2.is (λ client has. none_left client (sym left ∙ has));
              number_is = ap (λ (entries : List Entry). named entries name) seen ∙ named_is;
              has = record {
                transaction = x;
                has = ap (λ (y : Participant). finite.get y.transactions name) goes.participant ∙ at_inserted old.knows.participant.transactions name x name refl;
                batch_is = batch_is;
                keys = taken_keys t name batch locked (λ key changed. c.keys key (ap (λ (changes : List Change). is_changed changes key) batch_is ∙ changed)) beyond;
                noted = gave_log.goes.noted (undecided_at name number) refl (gave.goes.noted (undecided_at name number) refl
                    (subst (λ (y : SeatState). IsIn (undecided_at name number) y.knows.notes) (sym is) (inl (ap (undecided_at name) number_is))));
                seen = subst (λ (entries : List Entry). number ≤ length entries) (sym seen) (undecided_within h number f.0).1;
                stands = subst (λ (entries : List Entry). entry_at entries number ≡ Some (Prepare name batch)) (sym seen)
                    (prepare_at h number name batch f.0 ((bytes_eq-Decides (name_at h number) name).0 f.1) (ap (λ (entries : List Entry). batch_at entries number) of_log ∙ p.1));
              };
              goes_on = record { free = goes.free; same_by = goes.same_by; seen = goes.seen; participant = goes.participant; notes = goes.notes; made = goes.made; joined = goes.joined };
            }
