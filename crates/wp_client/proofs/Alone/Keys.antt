-- Who holds a key beside a client that is alone: an undecided prepare, which changes it, or which locked it before.
use Rattle.std.proofs.Common.{◌≡◌, ⊎_elim, inl, inr, ℕ, ◌<◌, Bool, true, false, true≢false, List, [], ◌∷◌, length, Option, Some, None, refl, sym, subst, ap, ◌∙◌}
use Rattle.std.specs.FinMap as finite
use Rattle.std.specs.List.{find}
use Rattle.std.specs.Option.{option_or, option_map}
use Rattle.std.proofs.lemmas.Bool.{cases_Bool, or_cases, or_right}
use Rattle.wp_model.specs.declared.entry.Entry.{Entry}
use Rattle.wp_model.specs.declared.holder.Holder.{Holder}
use Rattle.wp_model.specs.declared.holder.Holder.TheVariants.{Txn}
use Rattle.wp_model.specs.Flushed.{InstalledEdit}
use Rattle.wp_model.specs.History.{is_changed, is_undecided, name_at, batch_at, named, holder_of}
use Rattle.wp_model.specs.Legal.{IsLegal}
use Rattle.wp_model.specs.LockState.{is_among_keys}
use Rattle.wp_model.proofs.Found.{found_holder}
use Rattle.wp_model.proofs.Tests.{both, none_some}
use Rattle.wp_core.specs.Lists.{IsIn}
use Rattle.wp_core.specs.Views.{locks_stay}
use Rattle.wp_core.specs.World.{Participant, World}
use Rattle.wp_core.proofs.EachStep.{reached_is_sound}
use Rattle.wp_core.proofs.OneHolder.{holder_is, name_is}
use Rattle.wp_shared.specs.Seats.{SharedState, SeatState}
use Rattle.wp_open_txns.specs.Calls.{FoundLocks, LocksWere, Finds}
use Rattle.wp_replies.specs.Txn as session_txn
use Rattle.wp_replies.specs.Txn.{LockedKeys}
use Rattle.wp_replies.specs.Due.{Store}
use Rattle.wp_replies.specs.Plan.{holds_beyond, holder_then}
use Rattle.wp_client.specs.Alone.{IsOnly, IsStoreOf, IsPrepare, is_key_of, HasJust, LeftJust, AreLockedIn}
use Rattle.wp_client.proofs.Alone.Worlds.{HoldsJust, had_holds, left_holds, holds_no_free_key, held_by_prepare}
use Rattle.wp_client.proofs.Alone.Seated.{alone_with_locks, history_with_locks}

-- ---- the first of some

find_none : {X : Type 0} (test : X → Bool) (xs : List X) → ((x : X) → IsIn x xs → test x ≡ true → ⊥) → find test xs ≡ None
find_none test [] none = refl
find_none test (x ∷ xs) none = elim (cases_Bool (test x)) [
  | inl is ↦ absurd (none x (inl refl) is)
  | inr not ↦ rw not (find_none test xs (λ y there. none y (inr there)))
]

find_some : {X : Type 0} (test : X → Bool) (xs : List X) (x : X) → IsIn x xs → test x ≡ true → (y : X) × IsIn y xs × (find test xs ≡ Some y) × (test y ≡ true)
find_some test [] x there is = absurd there
find_some test (y ∷ xs) x there is = elim (cases_Bool (test y)) [
  | inl here ↦ (y, inl refl, rw here refl, here)
  | inr not ↦ let k = find_some test xs x (later not there) is in (k.0, inr k.1, rw not k.2, k.3)
]
  where
    later : test y ≡ false → IsIn x (y ∷ xs) → IsIn x xs
    later not (inl same) = absurd (true≢false (sym is ∙ (ap test (sym same) ∙ not)))
    later not (inr in_rest) = in_rest

-- the undecided prepare that locked the key before
abbrev beyond_of : Store → List ℕ → Option ℕ
beyond_of store key = option_map (λ x. x.number) (find (holds_beyond store.history key) store.locked)

module _ {D : Type 0} (z : SharedState D) (first : InstalledEdit) (old new : SeatState) (only : IsOnly old) (store : Store) (is : IsStoreOf z first old.knows.participant store) (txn : session_txn.Txn) (locked : AreLockedIn z old txn store) (key : List ℕ) where
  -- in a world in which the locks were found, just the keys of a prepare that the store tells of are held for it
  module _ (w : World) (found : FoundLocks z old w) where
    abbrev history : w.writes.history ≡ store.history
    history = history_with_locks z first old only store is w found.stood

    legal : IsLegal store.history
    legal = subst IsLegal history (reached_is_sound w found.stood.there.reached).history.legal

    holds_just : (x : LockedKeys) → IsIn x store.locked → is_undecided store.history x.number ≡ true → HoldsJust w (name_at store.history x.number) (is_key_of store.history x)
    holds_just x there undecided =
        let name = name_at store.history x.number in let alone = alone_with_locks z first old only store is w found.stood in
        ⊎_elim
        (λ (k : IsPrepare txn x.number × HasJust old name (is_key_of store.history x)).
        had_holds w found.stood.there.reached found.stood.actor alone name k.1.transaction (is_key_of store.history x) (ap (λ (p : Participant). finite.get p.transactions name) found.stood.participant ∙ k.1.has) k.1.keys)
        (λ (k : LeftJust old name x.number (is_key_of store.history x)).
        left_holds w found.stood.there.reached found.stood.actor alone name x.number k.keys (is_key_of store.history x) (found.notes (locks_stay name x.number k.keys) k.noted)
        (ap (λ (h : List Entry). named h name) history ∙ name_is store.history legal x.number undecided) k.are)
        (locked.known x there undecided)

    -- one that holds the key beyond its batch has it locked
    beyond_holds : (x : LockedKeys) → IsIn x store.locked → holds_beyond store.history key x ≡ true → finite.get w.locks.keys key ≡ Some (Txn (name_at store.history x.number))
    beyond_holds x there holds =
        let k = both (is_undecided store.history x.number) (is_among_keys x.keys key) holds in
        (holds_just x there k.0).are_held key (or_right (is_changed (batch_at store.history x.number) key) (is_among_keys x.keys key) k.1)

  -- a key that was free is no undecided prepare's
  pub key_is_free : LocksWere z old (λ t. finite.get t.keys key ≡ None) → holder_then store.history store.locked key ≡ None
  key_is_free were =
      let same = history were.world were.stood in
      let none : holder_of store.history key ≡ None = ap (λ (h : List Entry). holder_of h key) (sym same) ∙ holds_no_free_key were.world were.stood.stood.there.reached were.stood.stood.actor (alone_with_locks z first old only store is were.world were.stood.stood) key were.so_is in
      let beyond : find (holds_beyond store.history key) store.locked ≡ None =
      find_none (holds_beyond store.history key) store.locked (λ x there holds. let held = beyond_holds were.world were.stood x there holds in absurd (none_some (finite.get were.world.locks.keys key) _ were.so_is held)) in
      ap (λ (o : Option ℕ). option_or o (beyond_of store key)) none ∙ ap (λ (o : Option LockedKeys). option_map (λ (x : LockedKeys). x.number) o) beyond

  -- one that is held, not by the client itself, is
  pub key_is_held : (by : Holder) → (f : Finds z old new (Some key) by) → old.knows.participant.direct ≡ None → ((name : List ℕ) → by ≡ Txn name → finite.get old.knows.participant.transactions name ≡ None)
      → (p : ℕ) × (holder_then store.history store.locked key ≡ Some p) × (by ≡ Txn (name_at store.history p))
  key_is_held by f direct none = by_holder (holder_of store.history key) refl
    where
      same : f.world.writes.history ≡ store.history
      same = history f.world f.stood

      -- who has it locked is the holder that was found
      is_it : (name : List ℕ) → finite.get f.world.locks.keys key ≡ Some (Txn name) → by ≡ Txn name
      is_it name held = let one : Some by ≡ Some (Txn name) = sym f.holds ∙ held in cc

      -- it changes the key
      changes : (p : ℕ) → holder_of store.history key ≡ Some p → finite.get f.world.locks.keys key ≡ Some (Txn (name_at store.history p))
      changes p e =
          let h = found_holder store.history key p e in
          let held = (reached_is_sound f.world f.stood.stood.there.reached).locks.prepared_keys p key (ap (λ (x : List Entry). is_undecided x p) same ∙ h.0) (ap (λ (x : List Entry). is_changed (batch_at x p) key) same ∙ h.1) in
          held ∙ ap (λ (x : List Entry). Some (Txn (name_at x p))) same

      -- it locked the key before
      locked_it : (p : ℕ) → is_undecided store.history p ≡ true → by ≡ Txn (name_at store.history p) → holder_of store.history key ≡ None → length z.opened < p → (q : ℕ) × (holder_then store.history store.locked key ≡ Some q) × (by ≡ Txn (name_at store.history q))
      locked_it p undecided is_by no_change behind =
          let x = locked.all p behind undecided in
          let its = subst (λ (n : ℕ). is_undecided store.history n ≡ true) (sym x.2) undecided in
          let its_by : by ≡ Txn (name_at store.history x.0.number) = is_by ∙ ap (λ (n : ℕ). Txn (name_at store.history n)) (sym x.2) in
          let has = (holds_just f.world f.stood x.0 x.1 its).among key (f.holds ∙ ap (λ (o : Holder). Some o) its_by) in
          ⊎_elim
          (λ (changed : is_changed (batch_at store.history x.0.number) key ≡ true). absurd (none_some (holder_of store.history key) x.0.number no_change (holder_is store.history (legal f.world f.stood) x.0.number key its changed)))
          (λ (among : is_among_keys x.0.keys key ≡ true).
          let found = find_some (holds_beyond store.history key) store.locked x.0 x.1 (rw (its, among) refl) in (
            found.0.number,
            ap (λ (o : Option ℕ). option_or o (beyond_of store key)) no_change ∙ ap (λ (o : Option LockedKeys). option_map (λ (y : LockedKeys). y.number) o) found.2,
            is_it (name_at store.history found.0.number) (beyond_holds f.world f.stood found.0 found.1 found.3),
          ))
          (or_cases (is_changed (batch_at store.history x.0.number) key) (is_among_keys x.0.keys key) has)

      by_holder : (o : Option ℕ) → holder_of store.history key ≡ o → (p : ℕ) × (holder_then store.history store.locked key ≡ Some p) × (by ≡ Txn (name_at store.history p))
      by_holder (Some p) e = (p, ap (λ (o : Option ℕ). option_or o (beyond_of store key)) e, is_it (name_at store.history p) (changes p e))
      by_holder None e =
          let held = held_by_prepare f.world f.stood.stood.there.reached f.stood.stood.actor (alone_with_locks z first old only store is f.world f.stood.stood) key by f.holds (ap (λ (p : Participant). p.direct) f.stood.stood.participant ∙ direct)
          (λ name is_name. ap (λ (p : Participant). finite.get p.transactions name) f.stood.stood.participant ∙ none name is_name) in
          let undecided : is_undecided store.history held.0 ≡ true = ap (λ (h : List Entry). is_undecided h held.0) (sym same) ∙ held.1 in
          let is_by : by ≡ Txn (name_at store.history held.0) = held.2 ∙ ap (λ (h : List Entry). Txn (name_at h held.0)) same in
          ⊎_elim
          (λ (changed : holder_of f.world.writes.history key ≡ Some held.0). absurd (none_some (holder_of store.history key) held.0 e (ap (λ (h : List Entry). holder_of h key) (sym same) ∙ changed)))
          (λ (behind : length f.world.opened < held.0). locked_it held.0 undecided is_by e (subst (λ (h : List Entry). length h < held.0) f.stood.stood.there.opened behind))
          held.3
