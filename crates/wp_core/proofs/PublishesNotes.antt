-- The pending entry joins the history: what actors noted.
use Rattle.std.proofs.Common.{◌≡◌, ◌≢◌, ⊎_elim, ℕ, suc, ◌≤◌, Bool, true, false, not, true≢false, List, [], ◌∷◌, ◌++◌, length, refl, sym, ap, ◌∙◌, Option, Some, None, le_trans, arith}
use mathlib.Core.Option.{some}
use lib.ListN.{get_elem?}
use Rattle.std.specs.Str.{bytes_eq}
use Rattle.std.proofs.lemmas.Bool.{false_from_ne_true}
use Rattle.std.proofs.lemmas.Slice.Eq.{bytes_eq-Decides}
use Rattle.std.specs.FinMap as finite
use Rattle.wp_model.specs.declared.change.Change.{Change}
use Rattle.wp_model.specs.declared.entry.Entry.{Entry}
use Rattle.wp_model.specs.declared.entry.Entry.TheVariants.{Write, Prepare, Commit, Undo, Close}
use Rattle.wp_model.specs.declared.holder.Holder.TheVariants.{Txn, Client}
use Rattle.wp_model.specs.Batch.{change_to}
use Rattle.wp_model.specs.Changed.{IsUnchanged}
use Rattle.wp_model.specs.History.{prepared_name, name_at, batch_at, is_undecided, named, is_changed, changes_of}
use Rattle.wp_model.specs.Legal.{IsLegalNext, prior}
use Rattle.wp_judge.specs.Words.{CommitPair}
use Rattle.wp_history_laws.proofs.Above.{is_changed_from}
use Rattle.wp_history_laws.proofs.Held.{not_free, free_key}
use Rattle.wp_model.proofs.Entries.{undecided_within}
use Rattle.wp_model.proofs.Found.{found_named}
use Rattle.wp_core.specs.Conditions.{MayPublish, HasTransaction}
use Rattle.wp_history_laws.proofs.Unchanged.{unchanged_grows}
use Rattle.wp_core.specs.Entries.{transaction_of, changes_under, written}
use Rattle.wp_core.specs.Turns.{write_turn}
use Rattle.wp_core.specs.States.{WriteState}
use Rattle.wp_core.specs.Views.{Fact, passed, in_old_commits, apart, has_left, versions_in_memory, versions_nowhere, number_in_heap, number_not_in_heap, pair_delayed, pair_not_delayed, none_waits, undecided_at, prior_values, unprepared, direct_free, unchanged, locks_stay, live_listed, frozen_stay}
use Rattle.wp_core.specs.World.{Transaction, Participant, Actor, World}
use Rattle.wp_core.specs.Steps.{store_published}
use Rattle.wp_core.specs.Effects.{with_entry}
use Rattle.wp_core.specs.Notes.{ends, is_name}
use Rattle.wp_core.specs.Sound.Actors.{IsParticipantAt}
use Rattle.wp_core.specs.Sound.Locks.{owner_of, WasLockedFor, IsOwner}
use Rattle.wp_core.specs.Sound.Views.{IsClearing, HasLeft, Owns, OwnsKey, IsGuarded}
use Rattle.wp_core.specs.IsSound.{IsSound, participants}
use Rattle.wp_core.proofs.AllParticipants.{mine}
use Rattle.wp_core.proofs.HistoryLaws.{decision_stays}
use Rattle.wp_core.proofs.HistoryGrows.{none_is, grown_length, before, after, named_stays, unnamed_stays, free_stays, batch_at_grown, newest_kept, prior_same}
use Rattle.wp_core.proofs.PendingSteps.{SoPending}
use Rattle.wp_core.proofs.PublishesLocks.{prepare_of, not_decided, named_was, batch_new}
use Rattle.wp_core.proofs.AllParts.{SoIn}
use Rattle.wp_model.proofs.Keyed.{txn_is}
use Rattle.wp_model.proofs.Tests.{neither}
use Rattle.wp_core.proofs.Gives.{not_theirs}

never_true : (b : Bool) → (b ≡ true → ⊥) → b ≡ false
never_true true never = absurd (never refl)
never_true false never = refl

txn_not_client : (x y : List ℕ) → Some (Txn x) ≡ Some (Client y) → ⊥
txn_not_client x y e = absurd cc

clearing_grows : (n m : ℕ) (cache : List ℕ) (place : ℕ) (pair : CommitPair) (why : Type 0) → n ≤ m → IsClearing n cache place pair why → IsClearing m cache place pair why
clearing_grows n m cache place pair why le k = record { place_within = k.place_within; there = k.there; published_by = (let p = k.published_by in omega (arith, p, le)); so = k.so }

module _ (w : World) (by : ℕ) (a : Actor) (entry : Entry) (others : List Entry) (at : get_elem? w.actors by ≡ some a) (n : MayPublish w by a entry others) (s : IsSound w) where
  abbrev history : List Entry
  history = w.writes.history

  abbrev grown : List Entry
  grown = history ++ entry ∷ []

  abbrev d : WriteState
  d = with_entry w.writes entry others

  longer : length history ≤ length grown
  longer = let l = grown_length history entry n.legal in omega (arith, l)

  pub own_there : IsParticipantAt (participants owner_of w) by 0 (owner_of a.participant)
  own_there = mine owner_of w.actors by a a at refl

  left_grows : (p : ℕ) → HasLeft history w.prepared p → HasLeft grown w.prepared p
  left_grows p k = ((k.0.0, decision_stays history (entry ∷ []) p k.0.0 k.0.1), k.1)

  -- a key that the entry prepares is held for its transaction
  pub prepares_held : (name : List ℕ) (batch : List Change) (key : List ℕ) → entry ≡ Prepare name batch → is_changed batch key ≡ true → finite.get w.locks.keys key ≡ Some (Txn name)
  prepares_held name batch key is changed = ((n.transaction name (ap (transaction_of history) is)).2 key (ap (λ (x : Entry). is_changed (changes_under history x) key) is ∙ changed)).1

  -- a key that the entry writes is held for no prepared transaction
  pub writes_unprepared : (key name : List ℕ) → is_changed (written entry) key ≡ true → finite.get w.locks.keys key ≡ Some (Txn name) → named history name ≡ None
  writes_unprepared key name changed held = ⊎_elim
      (λ (d : (a.participant.direct ≡ Some key) × (finite.get w.locks.keys key ≡ Some (Client a.participant.client))). absurd (txn_not_client name a.participant.client (sym held ∙ d.1)))
      (λ (t : (m : List ℕ) × (x : Transaction) × HasTransaction a m x × (finite.get w.locks.keys key ≡ Some (Txn m)) × (named history m ≡ None)). ap (named history) (txn_is name t.0 (sym held ∙ t.3)) ∙ t.4) (n.keys key changed)

  -- who prepares a transaction locked each key that is held for it
  pub prepares_locked : (name : List ℕ) (batch : List Change) (key : List ℕ) → entry ≡ Prepare name batch → finite.get w.locks.keys key ≡ Some (Txn name) → WasLockedFor (participants owner_of w) name key
  prepares_locked name batch key is held =
      let t = n.transaction name (ap (transaction_of history) is) in
      record { at = by; place = 0; owner = owner_of a.participant; there = own_there; began = n.came name batch t.0 key is t.1 (s.locks.keys_known key name held by 0 (owner_of a.participant) own_there t.0 t.1) }

  -- the entry's transaction is live
  pub transaction_live : (name : List ℕ) → transaction_of history entry ≡ Some name → (client : List ℕ) × (finite.get w.locks.names name ≡ Some (Some client))
  transaction_live name e = let t = n.transaction name e in (a.participant.client, (s.locks.had by 0 (owner_of a.participant) own_there).names name t.0 t.1)

  -- what the entry commits has no key of another undecided prepare
  commits_apart : (x : Entry) → entry ≡ x → IsLegalNext history x → (p : ℕ) (key : List ℕ) → is_undecided history p ≡ true → is_changed (batch_at history p) key ≡ true → (transaction_of history x ≡ Some (name_at history p) → ⊥) → change_to (changes_of history x) key ≡ None
  commits_apart (Write batch) is k p key u changed other = none_is (change_to batch key) (λ v e. not_free history key p u changed (free_key history batch key k.orderly.keys_are_free (is_changed_from batch key v e)))
  commits_apart (Prepare name batch) is k p key u changed other = refl
  commits_apart (Commit q) is k p key u changed other = none_is (change_to (batch_at history q) key) (λ v e.
      let mine_held = s.locks.prepared_keys p key u changed in
      let its = s.locks.prepared_keys q key k.orderly.names_undecided (is_changed_from (batch_at history q) key v e) in
      other (ap (λ (z : List ℕ). Some z) (txn_is (name_at history q) (name_at history p) (sym its ∙ mine_held))))
  commits_apart (Undo q batch) is k p key u changed other = refl
  commits_apart (Close q) is k p key u changed other = refl

  -- an entry that does not change the key leaves it unchanged
  still_unchanged : (key : List ℕ) (m : ℕ) → is_changed (changes_of history entry) key ≡ false → (m ≤ length history) × IsUnchanged history key m → (m ≤ length grown) × IsUnchanged grown key m
  still_unchanged key m other k = (le_trans k.0 longer, unchanged_grows history entry (before history entry n.legal) (after history entry n.legal) key m other k.1)

  locks_grow : (q : Participant) (name : List ℕ) (p : ℕ) (keys : List (List ℕ)) → SoIn w q (locks_stay name p keys) → SoPending w d q (locks_stay name p keys)
  locks_grow q name p keys k = (le_trans k.0 longer, λ is. k.1 (named_was history entry n.legal name p k.0 is))

  module _ (q : Participant) (owner : IsOwner w.locks (owner_of q)) where
    undecided_grows : (name : List ℕ) (p : ℕ) → (transaction_of history entry ≡ Some name → ⊥) → SoIn w q (undecided_at name p) → SoPending w d q (undecided_at name p)
    undecided_grows name p other k =
        let low = (undecided_within history p (found_named history name p k.1).0).1 in
        (k.0, named_stays history entry n.legal name p k.1 (not_decided history entry name p k.1 other), k.2, λ key changed. k.3 key (ap (λ (x : List Change). is_changed x key) (sym (batch_at_grown history entry n.legal p low)) ∙ changed))

    prior_grows : (name : List ℕ) (p : ℕ) (batch : List Change) → (transaction_of history entry ≡ Some name → ⊥) → SoIn w q (prior_values name p batch) → SoPending w d q (prior_values name p batch)
    prior_grows name p batch other k =
        let is = found_named history name p k.1 in
        let low = (undecided_within history p is.0).1 in
        let same : name_at history p ≡ name = (bytes_eq-Decides (name_at history p) name).0 is.1 in (
          k.0,
          named_stays history entry n.legal name p k.1 (not_decided history entry name p k.1 other),
          ap (prior grown) (batch_at_grown history entry n.legal p low)
              ∙ (prior_same history grown (batch_at history p) (λ key changed. newest_kept history entry n.legal key (commits_apart entry refl (after history entry n.legal) p key is.0 changed (λ e. other (e ∙ ap (λ (z : List ℕ). Some z) same)))) ∙ k.2),
        )

    unprepared_grows : (name : List ℕ) → (transaction_of history entry ≡ Some name → ⊥) → SoIn w q (unprepared name) → SoPending w d q (unprepared name)
    unprepared_grows name other k = (
      k.0,
      unnamed_stays history entry n.legal name k.1 (λ prepares. let x = prepare_of entry prepares in never_true (bytes_eq (prepared_name (Some entry)) name) (λ e.
          let same : prepared_name (Some entry) ≡ name = (bytes_eq-Decides (prepared_name (Some entry)) name).0 e in
          other (ap (transaction_of history) x.is ∙ ap (λ (z : List ℕ). Some z) (ap (λ (y : Entry). prepared_name (Some y)) (sym x.is) ∙ same)))),
      λ x key has held. free_stays history entry n.legal key (k.2 x key has held) (λ prepares. let y = prepare_of entry prepares in never_true (is_changed (batch_at grown (suc (length history))) key) (λ e.
          let its = prepares_held y.name y.batch key y.is (ap (λ (z : List Change). is_changed z key) (sym (batch_new history entry n.legal y.name y.batch y.is)) ∙ e) in
          let mine_held = owner.keys name x key has held in
          other (ap (transaction_of history) y.is ∙ ap (λ (z : List ℕ). Some z) (txn_is y.name name (sym its ∙ mine_held))))),
    )

    direct_grows : (key : List ℕ) → SoIn w q (direct_free key) → SoPending w d q (direct_free key)
    direct_grows key k = (
      k.0,
      k.1,
      free_stays history entry n.legal key k.2 (λ prepares. let y = prepare_of entry prepares in never_true (is_changed (batch_at grown (suc (length history))) key) (λ e.
          let its = prepares_held y.name y.batch key y.is (ap (λ (z : List Change). is_changed z key) (sym (batch_new history entry n.legal y.name y.batch y.is)) ∙ e) in
          txn_not_client y.name q.client (sym its ∙ k.1))),
    )

  -- ---- the actor's own notes

  abbrev pub publisher : Participant
  publisher = record a.participant { seen = grown; own = a.participant.own ++ suc (length history) ∷ [] }

  own_owner : IsOwner w.locks (owner_of a.participant)
  own_owner = s.locks.had by 0 (owner_of a.participant) own_there

  not_its : (name : List ℕ) → not (is_name (transaction_of history entry) name) ≡ true → transaction_of history entry ≡ Some name → ⊥
  not_its name left e = true≢false (sym left ∙ ap (λ (o : Option (List ℕ)). not (is_name o name)) e ∙ ap not ((bytes_eq-Decides name name).1 refl))

  pub mine_grows : (fact : Fact) → not (ends history (length w.cache) (store_published entry others) fact) ≡ true → SoIn w a.participant fact → SoPending w d publisher fact
  mine_grows (passed place pair) left k = clearing_grows (length history) (length grown) w.cache place pair _ longer k
  mine_grows (in_old_commits place pair) left k = clearing_grows (length history) (length grown) w.cache place pair _ longer k
  mine_grows (apart place pair) left k = clearing_grows (length history) (length grown) w.cache place pair _ longer k
  mine_grows (has_left p) left k = left_grows p k
  mine_grows versions_in_memory left k = absurd (true≢false (sym left))
  mine_grows versions_nowhere left k = absurd (true≢false (sym left))
  mine_grows number_in_heap left k = absurd (true≢false (sym left))
  mine_grows number_not_in_heap left k = absurd (true≢false (sym left))
  mine_grows pair_delayed left k = absurd (true≢false (sym left))
  mine_grows pair_not_delayed left k = absurd (true≢false (sym left))
  mine_grows none_waits left k = absurd (true≢false (sym left))
  mine_grows (undecided_at name p) left k = undecided_grows a.participant own_owner name p (not_its name left) k
  mine_grows (prior_values name p batch) left k = prior_grows a.participant own_owner name p batch (not_its name left) k
  mine_grows (unprepared name) left k = unprepared_grows a.participant own_owner name (not_its name left) k
  mine_grows (direct_free key) left k = direct_grows a.participant own_owner key k
  mine_grows (unchanged name key m) left k = let u = still_unchanged key m (neither _ _ left).1 (k.1, k.2) in (k.0, u.0, u.1)
  mine_grows (locks_stay name p keys) left k = locks_grow a.participant name p keys k
  mine_grows (live_listed floor listed) left k = (le_trans k.0 longer, k.1)
  mine_grows (frozen_stay m versions) left k = (le_trans k.0 longer, k.1)
  mine_grows fact left k = k

  -- ---- the others' notes

  module _ (j : ℕ) (q : Participant) (ne : j ≢ by) (there : IsParticipantAt (participants owner_of w) j 0 (owner_of q)) where
    theirs : IsOwner w.locks (owner_of q)
    theirs = s.locks.had j 0 (owner_of q) there

    not_theirs_now : (name : List ℕ) → Owns q name → transaction_of history entry ≡ Some name → ⊥
    not_theirs_now name has e = let t = n.transaction name e in ne (s.locks.apart.names j 0 by 0 (owner_of q) (owner_of a.participant) name has.0 t.0 there own_there has.1 t.1).0

    -- nobody changes a key that another one's transaction has locked
    not_theirs_changed : (name key : List ℕ) → OwnsKey q name key → (x : Entry) → entry ≡ x → is_changed (changes_of history x) key ≡ false
    not_theirs_changed name key has (Write batch) is = false_from_ne_true _ (λ changed.
        let held = theirs.keys name has.0 key has.1 has.2 in
        ⊎_elim
        (λ (d : (a.participant.direct ≡ Some key) × (finite.get w.locks.keys key ≡ Some (Client a.participant.client))). txn_not_client name a.participant.client (sym held ∙ d.1))
        (λ (t : (m : List ℕ) × (x : Transaction) × HasTransaction a m x × (finite.get w.locks.keys key ≡ Some (Txn m)) × (named history m ≡ None)).
        let same : t.0 ≡ name = txn_is t.0 name (sym t.3 ∙ held) in
        ne (s.locks.apart.names j 0 by 0 (owner_of q) (owner_of a.participant) name has.0 t.1 there own_there has.1 (ap (finite.get a.participant.transactions) (sym same) ∙ t.2)).0)
        (n.keys key (ap (λ (z : Entry). is_changed (written z) key) is ∙ changed)))
    not_theirs_changed name key has (Prepare new batch) is = refl
    not_theirs_changed name key has (Commit p) is = false_from_ne_true _ (λ changed.
        let of : transaction_of history entry ≡ Some (name_at history p) = ap (transaction_of history) is in
        let its = ((n.transaction (name_at history p) of).2 key (ap (λ (z : Entry). is_changed (changes_under history z) key) is ∙ changed)).1 in
        let same : name_at history p ≡ name = txn_is (name_at history p) name (sym its ∙ theirs.keys name has.0 key has.1 has.2) in
        not_theirs_now name (has.0, has.1) (of ∙ ap (λ (z : List ℕ). Some z) same))
    not_theirs_changed name key has (Undo p batch) is = refl
    not_theirs_changed name key has (Close p) is = refl

    pub others_grow : (fact : Fact) → IsGuarded w.holders fact j → SoIn w q fact → SoPending w d q fact
    others_grow (passed place pair) guard k = clearing_grows (length history) (length grown) w.cache place pair _ longer k
    others_grow (in_old_commits place pair) guard k = clearing_grows (length history) (length grown) w.cache place pair _ longer k
    others_grow (apart place pair) guard k = clearing_grows (length history) (length grown) w.cache place pair _ longer k
    others_grow (has_left p) guard k = left_grows p k
    others_grow versions_in_memory guard k = absurd (not_theirs w.holders write_turn by j n.turn ne (guard write_turn refl))
    others_grow versions_nowhere guard k = absurd (not_theirs w.holders write_turn by j n.turn ne (guard write_turn refl))
    others_grow number_in_heap guard k = absurd (not_theirs w.holders write_turn by j n.turn ne (guard write_turn refl))
    others_grow number_not_in_heap guard k = absurd (not_theirs w.holders write_turn by j n.turn ne (guard write_turn refl))
    others_grow pair_delayed guard k = absurd (not_theirs w.holders write_turn by j n.turn ne (guard write_turn refl))
    others_grow pair_not_delayed guard k = absurd (not_theirs w.holders write_turn by j n.turn ne (guard write_turn refl))
    others_grow none_waits guard k = absurd (not_theirs w.holders write_turn by j n.turn ne (guard write_turn refl))
    others_grow (undecided_at name p) guard k = undecided_grows q theirs name p (not_theirs_now name k.0) k
    others_grow (prior_values name p batch) guard k = prior_grows q theirs name p batch (not_theirs_now name k.0) k
    others_grow (unprepared name) guard k = unprepared_grows q theirs name (not_theirs_now name k.0) k
    others_grow (direct_free key) guard k = direct_grows q theirs key k
    others_grow (unchanged name key m) guard k = let u = still_unchanged key m (not_theirs_changed name key k.0 entry refl) (k.1, k.2) in (k.0, u.0, u.1)
    others_grow (locks_stay name p keys) guard k = locks_grow q name p keys k
    others_grow (live_listed floor listed) guard k = (le_trans k.0 longer, k.1)
    others_grow (frozen_stay m versions) guard k = (le_trans k.0 longer, k.1)
    others_grow fact guard k = k
