-- What a seat knows by its view it may make beside a load.
use Rattle.std.proofs.Common.{◌≡◌, inr, ℕ, suc, true, List, [], ◌∷◌, length, refl, sym, ap, ◌∙◌, Option, Some, None, is_some, arith, ◌≢◌}
use Rattle.std.specs.Prelude.{MatchOption, unwrap_or}
use Rattle.std.specs.FinSet as set
use Rattle.std.specs.FinMap as finite
use Rattle.std.proofs.lemmas.Bool.{true≢false}
use Rattle.std.proofs.lemmas.Slice.Eq.{bytes_eq-Decides}
use Rattle.wp_model.specs.declared.entry.Entry.{Entry}
use Rattle.wp_model.specs.declared.holder.Holder.{Holder}
use Rattle.wp_model.specs.Batch.{key_cmp}
use Rattle.wp_model.specs.declared.holder.Holder.TheVariants.{Txn}
use Rattle.wp_model.specs.Decision.{version_in, decision_of}
use Rattle.wp_model.specs.History.{named, name_at, is_prepare, batch_at}
use Rattle.wp_model.proofs.Found.{found_named}
use Rattle.wp_model.specs.PreparedSets.{IsSmallest, NonePrepared}
use Rattle.wp_core.specs.Turns.{write_turn, prepared_turn, snapshots_turn, locks_turn}
use Rattle.wp_core.specs.Views.{words_stay, versions_nowhere, number_not_in_heap, unprepared, delayed_flag_stays, old_flag_stays, pair_not_delayed}
use Rattle.wp_core.specs.World.{Transaction, Actor, World}
use Rattle.wp_core.specs.States.{writes, prepared, snapshots, locks}
use Rattle.wp_core.specs.Steps.{Step, register, make_pending, claim_name, find_holder, note}
use Rattle.wp_core.specs.Changes.{keys_of_holder}
use Rattle.wp_core.specs.Entries.{next_of, pending_pair, extended}
use Rattle.wp_core.proofs.HistoryGrows.{none_is}
use Rattle.wp_model.proofs.Keyed.{at_inserted}
use Rattle.wp_model.proofs.Tests.{same_some}
use Rattle.wp_core.proofs.StoresWord.{pending_next}
use Rattle.wp_core.proofs.HistoryLaws.{decision_within}
use Rattle.wp_rule.specs.Words.{Place, IsAt}
use Rattle.wp_rule.specs.Moves.{IsQuiet, MayMake, taking_name}
use Rattle.wp_rule.specs.Accounts.{IsHolderIn, account_of}
use Rattle.wp_rule.specs.Knows.{Holding, Knows}
use Rattle.wp_rule.proofs.Accounts.{accounted}
use Rattle.wp_rule.proofs.Knows.{at_sound, held_is}
use Rattle.wp_rule.proofs.Needed.{guarded, has_prepared, has_snapshots, has_locks, needed, within_next, alone, nowhere, not_in_heap, undecided_of}
use Rattle.wp_rule.proofs.Stores.{holder_is_live}
use Rattle.wp_judge.specs.Words.{CommitPair}

pub known_made : (p : Place) (a : Actor) (step : Step) → IsQuiet step → Knows p a step → MayMake p a (λ w. step ∷ [])
known_made p a step quiet known w k = ((quiet, tt), (needed p a w k step known, tt))

pub words_noted : (p : Place) (a : Actor) → a.live ≡ true → Holding a writes (λ d. Unit {0}) → MayMake p a (λ w. note (words_stay w.max_evicted w.cache) ∷ [])
words_noted p a live n w k = ((tt, tt), ((live, guarded p a w k write_turn (held_is p a w (writes n.state) k n.held).0, (refl, refl)), tt))

pub delayed_noted : (p : Place) (a : Actor) → a.live ≡ true → Holding a prepared (λ t. Unit {0}) → MayMake p a (λ w. note (delayed_flag_stays w.delayed_flag) ∷ [])
delayed_noted p a live n w k = ((tt, tt), ((live, guarded p a w k prepared_turn (held_is p a w (prepared n.state) k n.held).0, refl), tt))

pub old_noted : (p : Place) (a : Actor) → a.live ≡ true → Holding a snapshots (λ m. Unit {0}) → MayMake p a (λ w. note (old_flag_stays w.old_flag) ∷ [])
old_noted p a live n w k = ((tt, tt), ((live, guarded p a w k snapshots_turn (held_is p a w (snapshots n.state) k n.held).0, refl), tt))

-- ---- a snapshot

pub registers_at : (p : Place) (a : Actor) (smallest : Option ℕ) → Holding a snapshots (λ m. Unit {0}) → Holding a prepared (λ t. MatchOption smallest (NonePrepared t) (IsSmallest t)) → MayMake p a (λ w. register (unwrap_or smallest (suc (length w.writes.history))) ∷ [])
registers_at p a None held known w k =
    let h = has_snapshots p a w k (λ m. Unit {0}) held in let g = has_prepared p a w k NonePrepared known in
    ((tt, tt), ((h.0, inr (g.0, omega arith, λ q is. absurd (true≢false (sym is ∙ g.1 q)))), tt))
registers_at p a (Some least) held known w k =
    let h = has_snapshots p a w k (λ m. Unit {0}) held in let g = has_prepared p a w k (λ t. IsSmallest t least) known in
    ((tt, tt), ((h.0, inr (g.0, within_next p a w k least g.1.prepared, g.1.least)), tt))

-- ---- names and keys

pub finds_holder : (p : Place) (a : Actor) (key : Option (List ℕ)) (holder : Holder) → Holding a locks (λ t. IsHolderIn t key holder) → MayMake p a (λ w. find_holder key holder (account_of a.participant w.locks (length w.writes.history) key holder) ∷ [])
finds_holder p a key holder held w k = let h = has_locks p a w k (λ t. IsHolderIn t key holder) held in let f = accounted w p.by a k.there (at_sound p a w k) key holder h.1 in ((tt, tt), ((h.0, f.0, f.1), tt))

-- a name that is not live names no undecided prepare
not_named : (p : Place) (a : Actor) (w : World) → IsAt p a w → (name : List ℕ) → finite.get w.locks.names name ≡ None → named w.writes.history name ≡ None
not_named p a w k name free = none_is (named w.writes.history name) (λ q e.
    let f = found_named w.writes.history name q e in
    let same : name_at w.writes.history q ≡ name = (bytes_eq-Decides (name_at w.writes.history q) name).0 f.1 in
    let live : is_some (finite.get w.locks.names name) ≡ true = ap (λ (n : List ℕ). is_some (finite.get w.locks.names n)) (sym same) ∙ (at_sound p a w k).locks.prepared_names q f.0 in
    true≢false (sym live ∙ ap is_some free))

-- a transaction without locked keys
abbrev no_keys : Transaction
no_keys = record { batch = []; locked = set.empty }

none_locked : (x : Transaction) (key : List ℕ) → no_keys ≡ x → set.contains x.locked key ≡ true → ⊥
none_locked x key same there = true≢false (sym there ∙ (ap (λ (y : Transaction). set.contains y.locked key) (sym same) ∙ set.contains-empty key_cmp key))

pub claims_name : (p : Place) (a : Actor) (name : List ℕ) → Holding a locks (λ t. finite.get t.names name ≡ None) → MayMake p a (λ w. claim_name name ∷ note (unprepared name) ∷ [])
claims_name p a name held w k =
    let h = has_locks p a w k (λ t. finite.get t.names name ≡ None) held in
    let live : a.live ≡ true = holder_is_live p a w locks_turn k h.0 in
    let has = at_inserted a.participant.transactions name no_keys name refl in
    ((tt, (tt, tt)), ((h.0, h.1, live), ((live, alone p a w k, ((no_keys, has), not_named p a w k name h.1, λ x key there locked. absurd (none_locked x key (same_some no_keys x (sym has ∙ there)) locked))), tt)))

there_is : (o : Option ℕ) → is_some o ≡ true → o ≡ Some (unwrap_or o 0)
there_is None is = absurd cc
there_is (Some n) is = refl

pub takes_name : (p : Place) (a : Actor) (name : List ℕ) → Holding a locks (λ t. finite.get t.names name ≡ Some None) → MayMake p a (taking_name name)
takes_name p a name held w k =
    let h = has_locks p a w k (λ t. finite.get t.names name ≡ Some None) held in
    let live : a.live ≡ true = holder_is_live p a w locks_turn k h.0 in
    let q : ℕ = unwrap_or (named w.writes.history name) 0 in
    let is : named w.writes.history name ≡ Some q = there_is (named w.writes.history name) ((at_sound p a w k).locks.names_left name h.1) in
    let x : Transaction = record { batch = batch_at w.writes.history q; locked = keys_of_holder w.locks (Txn name) } in
    let has = at_inserted a.participant.transactions name x name refl in let named_now = at_inserted w.locks.names name (Some a.participant.client) name refl in
    ((tt, (tt, (tt, tt))), (tt, ((h.0, h.1, is), ((live, alone p a w k, ((x, has), is, named_now, λ key changed. undecided_of p a w k name q key is changed)), tt))))

-- ---- the entries of a record

pub begins_entries : (p : Place) (a : Actor) (entries : List Entry) → Knows p a (make_pending entries) → MayMake p a (λ w. make_pending entries ∷ note versions_nowhere ∷ note number_not_in_heap ∷ note pair_not_delayed ∷ [])
begins_entries p a entries known w k =
    let n = needed p a w k (make_pending entries) known in
    let live : a.live ≡ true = holder_is_live p a w write_turn k n.0 in
    let none = nowhere p a w k (λ key. ap (λ (z : List Entry). version_in (next_of z) key) n.1) in
    let low = not_in_heap p a w k (ap (λ (z : List Entry). is_prepare (next_of z)) n.1) in
    -- no delayed commit is of an entry to come
    let undelayed : (pair : CommitPair) → pending_pair w.writes.history entries ≡ Some pair → finite.get w.prepared.delayed_commits pair.number ≢ Some pair.decision = λ pair is there.
    let last = (pending_next w.writes.history entries pair n.3 is).2.last in
    let decided : decision_of w.writes.history pair.number ≡ Some pair.decision = ap (λ (z : List Entry). decision_of (extended w.writes.history z) pair.number) (sym n.1) ∙ (at_sound p a w k).delayed.commits pair.number pair.decision there in
    let within = decision_within w.writes.history pair.number pair.decision decided in absurd (omega (arith, last, within)) in
    ((tt, (tt, (tt, (tt, tt)))), (n, ((live, guarded p a w k write_turn n.0, none), ((live, guarded p a w k write_turn n.0, low), ((live, guarded p a w k write_turn n.0, undelayed), tt)))))
