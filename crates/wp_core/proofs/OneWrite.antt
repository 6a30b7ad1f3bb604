-- Steps can be made: from the empty opening each batch is written and published, and a reader finds it committed.
use Rattle.std.proofs.Common.{◌≡◌, ◌⊎◌, inl, inr, ℕ, zero, suc, Bool, true, false, true≢false, cond, List, [], ◌∷◌, ◌++◌, length, ◌==◌, refl, sym, subst, ap, ◌∙◌, Option, Some, None, is_some, unwrap_or, take, slice_get, ⊎_elim, arith}
use mathlib.Core.Option.{some}
use lib.ListN.{get_elem?}
use Rattle.std.specs.Str.{bytes_eq}
use Rattle.std.proofs.lemmas.Bool.Decides.{nat_tests}
use Rattle.std.proofs.lemmas.Slice.Eq.{bytes_eq-Decides}
use Rattle.std.specs.FinSet as finset
use Rattle.std.specs.FinMap as finite
use Rattle.wp_model.specs.declared.change.Change.{Change}
use Rattle.wp_model.specs.declared.change.Change.TheVariants.{Put}
use Rattle.wp_model.specs.declared.entry.Entry.{Entry}
use Rattle.wp_model.specs.declared.entry.Entry.TheVariants.{Write}
use Rattle.wp_model.specs.declared.holder.Holder.TheVariants.{Txn}
use Rattle.wp_model.specs.declared.version.Version.{Version}
use Rattle.wp_model.specs.Batch.{key_cmp, key_of, value_of, change_to, is_batch}
use Rattle.wp_model.specs.History.{is_changed}
use Rattle.wp_model.specs.Legal.{AreFree, IsLegalNext, IsLegal}
use Rattle.wp_model.specs.LockState.{LockState, nothing_locked}
use Rattle.wp_model.specs.Snapshots.{Snapshots}
use Rattle.wp_model.proofs.BatchLemmas.{batch_ascends}
use Rattle.wp_judge.specs.Words.{CommitPair, commit_pair, word_of}
use Rattle.wp_judge.specs.Order.{judgement}
use Rattle.wp_judge.specs.declared.observed.Observed.{Observed}
use Rattle.wp_judge.specs.declared.observed.Load.TheVariants.{FirstWord}
use Rattle.wp_core.specs.Turns.{write_turn, snapshots_turn, store_turn, locks_turn, Holders, all_free}
use Rattle.wp_core.specs.States.{WriteState, Content, writes, snapshots, store, locks}
use Rattle.wp_core.specs.Reading.{Registration, reads}
use Rattle.wp_core.specs.Views.{Event, claimed, locked}
use Rattle.wp_core.specs.World.{Transaction, Transactions, Actor, World, new_participant, new_actor, history}
use Rattle.wp_core.specs.Changes.{with_key, with_registered}
use Rattle.wp_core.specs.Cache.{cache_place, pair_at, cached_word}
use Rattle.wp_core.specs.Steps.{Step, register, begin_reading, load, store_published, store_word, take_turn, make_pending, log_pending, add_versions, claim_name, lock_key}
use Rattle.wp_core.specs.Conditions.{MayPublish}
use Rattle.wp_core.specs.Effects.{done}
use Rattle.wp_core.specs.Entries.{HasVersionsAt}
use Rattle.wp_core.specs.Needs.{Needs}
use Rattle.wp_core.specs.Notes.{forgets}
use Rattle.wp_core.specs.Runs.{ReachesFrom, stays, goes_on, Reaches}
use Rattle.wp_model.specs.Flushed.{versions_under}
use Rattle.wp_core.proofs.Empty.{empty_world, empty_is_opening}
use Rattle.wp_model.proofs.Keyed.{is_word_same, at_inserted, else_inserted}
use Rattle.wp_core.proofs.PublishesVersions.{at_under}
use Rattle.wp_core.specs.Sound.Prepared.{IsEntered}

-- ---- the worlds of the run

-- the first actor, with this past, these transactions and these states
abbrev worker : List Event → Transactions → List Content → Actor
worker past transactions held = record (new_actor true [] []) { participant = record (new_participant [] []) { past = past; transactions = transactions }; held = held }

-- the opening with other parts
abbrev world : Holders → ℕ → WriteState → Snapshots → List Version → LockState → Actor → World
world holders word writing live memory table a =
    record empty_world { holders = holders; cache = word ∷ []; writes = writing; snapshots = live; store = record empty_world.store { memory = memory }; locks = table; actors = a ∷ [] }

abbrev unwritten : WriteState
unwritten = empty_world.writes

-- the first actor makes one step more
on : {first w : World} (a : Actor) (step : Step) → get_elem? w.actors 0 ≡ some a → Needs w 0 a step → ReachesFrom first w → ReachesFrom first (done w 0 (forgets w.writes.history (length w.cache) step a) step)
on a step at needs run = goes_on 0 step run (a, at, needs, refl)

-- ---- the keys are locked, for one transaction

abbrev has_locks : Holders
has_locks = record all_free { locks = Some 0 }

abbrev locking : List Event → Transactions → LockState → World
locking past transactions table = world has_locks 0 unwritten finite.empty [] table (worker past transactions (locks table ∷ []))

-- a transaction of the actor holds each key of the changes, and no key is held for another
record HasKeys (changes : List Change) : Type 0 where
  table : LockState
  past : List Event
  transactions : Transactions
  transaction : Transaction
  has : finite.get transactions [] ≡ Some transaction
  free : (key : List ℕ) → (finite.get table.keys key ≡ None) ⊎ (finite.get table.keys key ≡ Some (Txn []))
  keys : (key : List ℕ) → is_changed changes key ≡ true → finite.get table.keys key ≡ Some (Txn [])
  run : ReachesFrom empty_world (locking past transactions table)

has_name : HasKeys []
has_name =
    let t : Transaction = record { batch = []; locked = finset.empty } in
    let turn : ReachesFrom empty_world (locking [] finite.empty nothing_locked) = on (worker [] finite.empty []) (take_turn locks_turn) refl (refl, refl) stays in
    record {
      table = record nothing_locked { names = finite.insert finite.empty [] (Some []) };
      past = claimed [] ∷ [];
      transactions = finite.insert finite.empty [] t;
      transaction = t;
      has = at_inserted finite.empty [] t [] refl;
      free = λ key. inl (finite.get-empty key_cmp key);
      keys = λ key is. absurd (true≢false (sym is));
      run = on (worker [] finite.empty (locks nothing_locked ∷ [])) (claim_name []) refl (refl, finite.get-empty key_cmp [], refl) turn;
    }

by_key : (first : Change) (others : List Change) (key : List ℕ) → is_changed (first ∷ others) key ≡ true → (key ≡ key_of first) ⊎ (is_changed others key ≡ true)
by_key first others key is = by (bytes_eq (key_of first) key) refl is
  where
    by : (b : Bool) → bytes_eq (key_of first) key ≡ b → is_some (cond b (Some (value_of first)) (change_to others key)) ≡ true → (key ≡ key_of first) ⊎ (is_changed others key ≡ true)
    by true e is = inl (sym ((bytes_eq-Decides (key_of first) key).0 e))
    by false e is = inr is

lock_one : (first : Change) (others : List Change) → HasKeys others → HasKeys (first ∷ others)
lock_one first others s = by (s.free (key_of first))
  where
    key : List ℕ
    key = key_of first

    more : Transaction
    more = record s.transaction { locked = finset.insert s.transaction.locked key }

    by : (finite.get s.table.keys key ≡ None) ⊎ (finite.get s.table.keys key ≡ Some (Txn [])) → HasKeys (first ∷ others)
    by (inr held) = record {
      table = s.table;
      past = s.past;
      transactions = s.transactions;
      transaction = s.transaction;
      has = s.has;
      free = s.free;
      keys = λ k is. ⊎_elim (λ (e : k ≡ key). ap (finite.get s.table.keys) e ∙ held) (λ (e : is_changed others k ≡ true). s.keys k e) (by_key first others k is);
      run = s.run;
    }
    by (inl free) =
        let new : (k : List ℕ) → k ≡ key → finite.get (with_key s.table key (Txn [])).keys k ≡ Some (Txn []) = λ k e. at_inserted s.table.keys key (Txn []) k e in
        let old : (k : List ℕ) → (k ≡ key → ⊥) → finite.get (with_key s.table key (Txn [])).keys k ≡ finite.get s.table.keys k = λ k ne. else_inserted s.table.keys key (Txn []) k ne in
        let held : (k : List ℕ) → finite.get s.table.keys k ≡ Some (Txn []) → finite.get (with_key s.table key (Txn [])).keys k ≡ Some (Txn []) = λ k e. ⊎_elim (new k) (λ (ne : k ≡ key → ⊥). old k ne ∙ e) (is_word_same k key) in
        record {
          table = with_key s.table key (Txn []);
          past = s.past ++ locked key (Txn []) ∷ [];
          transactions = finite.insert s.transactions [] more;
          transaction = more;
          has = at_inserted s.transactions [] more [] refl;
          free = λ k. ⊎_elim (λ (e : finite.get s.table.keys k ≡ None). ⊎_elim (λ (same : k ≡ key). inr (new k same)) (λ (ne : k ≡ key → ⊥). inl (old k ne ∙ e)) (is_word_same k key)) (λ (e : finite.get s.table.keys k ≡ Some (Txn [])). inr (held k e)) (s.free k);
          keys = λ k is. ⊎_elim (new k) (λ (e : is_changed others k ≡ true). held k (s.keys k e)) (by_key first others k is);
          run = on (worker s.past s.transactions (locks s.table ∷ [])) (lock_key [] s.transaction key) refl (refl, s.has, free, refl) s.run;
        }

lock_all : (changes : List Change) → HasKeys changes
lock_all [] = has_name
lock_all (first ∷ others) = lock_one first others (lock_all others)

-- ---- the batch is written

-- nothing is undecided, so no key is held
none_held : (changes : List Change) → AreFree [] changes
none_held [] = tt
none_held (change ∷ changes) = (refl, none_held changes)

legal : (batch : List Change) → is_batch batch ≡ true → IsLegal (Write batch ∷ [])
legal batch is = record { few = omega arith; each = each }
  where
    first : IsLegalNext [] (Write batch)
    first = record { orderly = record { ascending = batch_ascends batch is; names_undecided = tt; undo_is_closed = refl; keys_are_free = none_held batch }; restores_prior = tt }

    each : (n : ℕ) (entry : Entry) → slice_get (Write batch ∷ []) n ≡ Some entry → IsLegalNext (take n (Write batch ∷ [])) entry
    each zero entry at = subst (IsLegalNext []) (ap (λ o. unwrap_or o (Write batch)) at) first
    each (suc n) entry at = let q : None ≡ Some entry = at in absurd (cc)

abbrev first_pair : CommitPair
first_pair = commit_pair 1 1

-- the versions of the batch are under the number 1, and nothing else is
has_versions : (batch : List Change) → HasVersionsAt (Some (Write batch)) 1 [] (versions_under 1 batch)
has_versions batch key p = at_under 1 batch key p ∙ ap (λ (b : Bool). cond b (change_to batch key) None) (let q : (1 == p) ≡ (p == 1) = grind (arith, nat_tests) in q)

nothing_there : (gone : CommitPair) → pair_at (0 ∷ []) (cache_place 1 1) ≡ Some gone → ⊥
nothing_there gone e = let q : None ≡ Some gone = e in absurd (cc)

module _ (batch : List Change) (is : is_batch batch ≡ true) (s : HasKeys batch) where
  abbrev pending : Bool → List Entry → WriteState
  pending logged log = record unwritten { pending = Write batch ∷ []; logged = logged; log = log }

  abbrev logged : WriteState
  logged = pending true (Write batch ∷ [])

  abbrev published : WriteState
  published = record logged { history = Write batch ∷ []; pending = [] }

  abbrev in_memory : List Version
  in_memory = versions_under 1 batch

  abbrev stored : List Version → Content
  stored memory = store (record empty_world.store { memory = memory })

  abbrev first_word : ℕ
  first_word = word_of 1 first_pair

  abbrev a_writer : Holders
  a_writer = record has_locks { write = Some 0 }

  abbrev a_storer : Holders
  a_storer = record a_writer { store = Some 0 }

  abbrev doer : List Content → Actor
  doer held = worker s.past s.transactions held

  abbrev tables_held : List Content
  tables_held = writes logged ∷ locks s.table ∷ []

  writes_taken : ReachesFrom empty_world (world a_writer 0 unwritten finite.empty [] s.table (doer (writes unwritten ∷ locks s.table ∷ [])))
  writes_taken = on (doer (locks s.table ∷ [])) (take_turn write_turn) refl (refl, refl) s.run

  made_pending : ReachesFrom empty_world (world a_writer 0 (pending false []) finite.empty [] s.table (doer (writes (pending false []) ∷ locks s.table ∷ [])))
  made_pending = on (doer (writes unwritten ∷ locks s.table ∷ [])) (make_pending (Write batch ∷ [])) refl (refl, refl, tt, legal batch is, inl refl) writes_taken

  was_logged : ReachesFrom empty_world (world a_writer 0 logged finite.empty [] s.table (doer tables_held))
  was_logged = on (doer (writes (pending false []) ∷ locks s.table ∷ [])) log_pending refl (refl, (λ e. let q : (Write batch ∷ []) ≡ [] = e in absurd (cc)), refl, refl) made_pending

  store_taken : ReachesFrom empty_world (world a_storer 0 logged finite.empty [] s.table (doer (stored [] ∷ tables_held)))
  store_taken = on (doer tables_held) (take_turn store_turn) refl (refl, refl) was_logged

  versions_added : ReachesFrom empty_world (world a_storer 0 logged finite.empty in_memory s.table (doer (stored in_memory ∷ tables_held)))
  versions_added = on (doer (stored [] ∷ tables_held)) (add_versions in_memory) refl (refl, refl, has_versions batch) store_taken

  word_stored : ReachesFrom empty_world (world a_storer first_word logged finite.empty in_memory s.table (doer (stored in_memory ∷ tables_held)))
  word_stored = on (doer (stored in_memory ∷ tables_held)) (store_word first_pair) refl (refl, refl, refl, λ gone e. absurd (nothing_there gone e)) versions_added

  abbrev ready : World
  ready = world a_storer first_word logged finite.empty in_memory s.table (doer (stored in_memory ∷ tables_held))

  may_publish : MayPublish ready 0 (doer (stored in_memory ∷ tables_held)) (Write batch) []
  may_publish = record {
    turn = refl;
    pending = refl;
    logged = refl;
    legal = legal batch is;
    versions = λ key value e. at_under 1 batch key 1 ∙ e;
    keys = λ key changed. inr ([], s.transaction, s.has, s.keys key changed, refl);
    transaction = λ name e. let q : None ≡ Some name = e in absurd (cc);
    came = λ name other t key e. absurd cc;
    number = λ e. absurd e;
    pair = λ pair e. let q : first_pair ≡ pair = ap (λ o. unwrap_or o first_pair) e in subst (λ (x : CommitPair). IsEntered (first_word ∷ []) empty_world.prepared.delayed_commits empty_world.max_evicted x) q (inl refl);
  }

  -- the actor once the batch is published, with these registrations and this reading
  abbrev reader : List Content → List Registration → Option Observed → Actor
  reader held registered reading = record (doer held) { participant = record (doer held).participant { seen = Write batch ∷ []; own = 1 ∷ []; registered = registered }; reading = reading }

  abbrev written : List Content
  written = stored in_memory ∷ writes published ∷ locks s.table ∷ []

  was_published : ReachesFrom empty_world (world a_storer first_word published finite.empty in_memory s.table (reader written [] None))
  was_published = on (doer (stored in_memory ∷ tables_held)) (store_published (Write batch) []) refl may_publish word_stored

  -- ---- the batch is read

  abbrev a_reader : Holders
  a_reader = record a_storer { snapshots = Some 0 }

  abbrev registration : Registration
  registration = record { number = 1; smallest = 1 }

  abbrev one_live : Snapshots
  one_live = with_registered finite.empty 1

  abbrev found : Observed
  found = record (reads 0 1 registration) { first_word = Some (cached_word (first_word ∷ []) 1) }

  abbrev reading : List Registration → Option Observed → World
  reading registered r = world a_reader first_word published one_live in_memory s.table (reader (snapshots one_live ∷ written) registered r)

  snapshots_taken : ReachesFrom empty_world (world a_reader first_word published finite.empty in_memory s.table (reader (snapshots finite.empty ∷ written) [] None))
  snapshots_taken = on (reader written [] None) (take_turn snapshots_turn) refl (refl, refl) was_published

  was_registered : ReachesFrom empty_world (reading (registration ∷ []) None)
  was_registered = on (reader (snapshots finite.empty ∷ written) [] None) (register 1) refl (refl, inl refl) snapshots_taken

  began_reading : ReachesFrom empty_world (reading (registration ∷ []) (Some (reads 0 1 registration)))
  began_reading = on (reader (snapshots one_live ∷ written) (registration ∷ []) None) (begin_reading 0 1 registration) refl (refl, inl refl, λ le. refl) was_registered

  was_loaded : ReachesFrom empty_world (reading (registration ∷ []) (Some found))
  was_loaded = on (reader (snapshots one_live ∷ written) (registration ∷ []) (Some (reads 0 1 registration))) (load FirstWord) refl (reads 0 1 registration, refl, refl, tt) began_reading

-- ---- together

pub publishes : (batch : List Change) → is_batch batch ≡ true → (w : World) × Reaches w × (history w ≡ Write batch ∷ []) × (w.opened ≡ [])
publishes batch is = (_, (empty_world, empty_is_opening, was_published batch is (lock_all batch)), refl, refl)

-- a batch of one change does
pub judges : (w : World) × Reaches w × (a : Actor) × (r : Observed) × (get_elem? w.actors 0 ≡ some a) × (a.reading ≡ Some r) × (judgement r ≡ Some true)
judges = (_, (empty_world, empty_is_opening, was_loaded (Put [] [] ∷ []) refl (lock_all (Put [] [] ∷ []))), _, _, refl, refl, refl)
