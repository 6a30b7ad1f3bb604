-- What a seat knows by its view is what the machine's steps need.
use Rattle.std.proofs.Common.{◌≡◌, ◌≢◌, inl, inr, ⊎_elim, ℕ, suc, ◌≤◌, ◌<◌, Bool, true, false, true≢false, ◌||◌, List, [], ◌∷◌, length, length-append, sym, subst, ap, ◌∙◌, Option, Some, None, is_some, arith, refl, ◌⊎◌, ◌+◌}
use Rattle.std.specs.FinSet as set
use Rattle.std.specs.FinMap as finite
use Rattle.std.specs.List.{cons_option}
use Rattle.std.proofs.lemmas.Bool.{false_from_ne_true, ltb-false}
use Rattle.std.proofs.lemmas.Slice.Eq.{bytes_eq-Decides}
use Rattle.wp_model.specs.declared.entry.Entry.{Entry}
use Rattle.wp_model.specs.declared.entry.Entry.TheVariants.{Write, Prepare, Commit, Undo, Close}
use Rattle.wp_model.specs.declared.holder.Holder.TheVariants.{Txn, Client}
use Rattle.wp_model.specs.declared.entry.TheConstants.{MOST_COMMITS}
use Rattle.wp_model.specs.Decision.{decision_of, version_in}
use Rattle.wp_model.specs.Flushed.{InstalledEdit, IsEditCovered}
use Rattle.wp_model.specs.History.{entry_at, name_at, batch_at, named, is_changed, is_prepare, holder_of}
use Rattle.wp_model.specs.PreparedSets.{PreparedSets, is_prepared}
use Rattle.wp_model.specs.Snapshots.{Snapshots, LiveSnapshot, IsLive}
use Rattle.wp_model.specs.Versions.{version_at}
use Rattle.wp_model.specs.LockState.{LockState}
use Rattle.wp_judge.specs.Words.{CommitPair, commit_pair, fits, delta_of, delta_bound}
use Rattle.wp_judge.specs.declared.observed.Load.{Load}
use Rattle.wp_judge.specs.declared.observed.Load.TheVariants.{FirstWord, FirstMax, DelayedFlag, InPrepared, SecondWord, SecondMax, OldFlag, IsOldCommit}
use Rattle.wp_core.specs.Lists.{IsIn}
use Rattle.wp_core.specs.Turns.{Turn, write_turn, prepared_turn, snapshots_turn, store_turn, locks_turn, tables_turn, Holds}
use Rattle.wp_core.specs.Cache.{cache_place, cached, pair_at}
use Rattle.wp_core.specs.States.{WriteState, StoreState, Installed, writes, prepared, snapshots, store, locks, installed}
use Rattle.wp_core.specs.Views.{Fact, passed, in_old_commits, apart, words_stay, has_left, versions_in_memory, versions_nowhere, number_in_heap, number_not_in_heap, undecided_at, prior_values, unprepared, direct_free, unchanged, locks_stay, tables_stay, live_listed, nothing_flushed, frozen_stay, delayed_flag_stays, old_flag_stays, pair_delayed, pair_not_delayed, none_waits}
use Rattle.wp_core.specs.World.{Transaction, Actor, World}
use Rattle.wp_core.specs.Entries.{next_of, extended, pending_pair, pair_by, pairs_of}
use Rattle.wp_core.specs.Conditions.{IsHeldFor, MayPublish, MayLook, MayBeEvicted, NoneNext, MayGive, NamesSegment, NamesNext}
use Rattle.wp_core.specs.Reading.{Registration}
use Rattle.wp_core.specs.Sound.Locks.{IsOwner, owner_of}
use Rattle.wp_core.specs.Sound.Prepared.{IsInOldCommits, IsPassed, IsWide, IsEntered}
use Rattle.wp_core.specs.Sound.Snapshots.{has_versions, has_versions_at, view_of}
use Rattle.wp_core.specs.Steps.{Step, load_published, register, begin_reading, load, end_reading, make_pending, log_pending, close_log, find_log_closed, find_base, drop_pending, write_segment, use_segment, stop_log, add_prepared, take_pending_prepared, add_delayed_commit, delay_pending, take_out, register_again, release, add_old_commit, add_versions, take_versions, move_versions, replace_versions, install, renew, halt, find_edit, claim_name, take_name, leave_name, free_transaction, lock_key, free_key, lock_direct, free_direct, find_holder, tell, hear, set_batch, note, set_client, store_published, store_max_evicted, store_word, store_delayed_flag, store_old_flag, take_turn, give_turn, make_note, make_seat, learn, join_seat}
use Rattle.wp_core.specs.Needs.{Needs}
use Rattle.wp_core.specs.Sound.Views.{IsGuarded, IsClearing, IsApart, IsInMemory, IsNowhere, IsSo}
use Rattle.wp_core.specs.Sound.History.{IsRest}
use Rattle.wp_core.specs.IsSound.{IsSound}
use Rattle.wp_model.proofs.Entries.{entry_at_old, entry_at_past, slice_get_next, prepared_within}
use Rattle.wp_model.proofs.Found.{found_holder, found_named}
use Rattle.wp_core.proofs.AllParticipants.{mine}
use Rattle.wp_core.proofs.HistoryGrows.{none_is}
use Rattle.wp_history_laws.proofs.Named.{none_named}
use Rattle.wp_core.proofs.HistoryLaws.{decision_stays}
use Rattle.wp_core.proofs.KeepsSeen.{shorter}
use Rattle.wp_model.proofs.Records.{one_short}
use Rattle.wp_model.proofs.Tests.{none_some, same_some}
use Rattle.wp_rule.specs.Words.{Place, IsAt}
use Rattle.wp_rule.specs.Knows.{Holding, Noted, IsUp, KnowsLook, KnowsCleared, KnowsTables, KnowsReplaced, KnowsGive, KnowsPair, IsRise, HasNoVersions, KnowsFact, KnowsHeld, KnowsPublish, NextNamed, Knows, IsRiseForWord, IsRiseForWide, KnowsEntered}
use Rattle.wp_rule.proofs.Bound.{past_reaches, past_published}
use Rattle.wp_rule.proofs.Knows.{at_sound, is_state, held_is, seen_is, noted_is}
use Rattle.wp_rule.proofs.Maintenance.{edit_later, moved, next_stays, replaced, installed_now, halted_now, halted_only}

-- ---- wide pairs of a record

-- the decision of a pair that fits no word is far behind its number
wide_far : (cells : ℕ) (pair : CommitPair) → 1 ≤ cells → fits cells pair ≡ false → pair.number + 255 ≤ pair.decision
wide_far cells pair some wide = let far : delta_bound cells ≤ delta_of pair = ltb-false (delta_of pair) (delta_bound cells) wide in omega (arith, some, far)

-- what these entries decide they decide by their own numbers
decided_before : (n : ℕ) (entries : List Entry) (pair : CommitPair) → IsIn pair (pairs_of n entries) → pair.decision < n + length entries
decided_before n [] pair there = absurd there
decided_before n (entry ∷ entries) pair there = by_pair (pair_by n entry) refl (decided_before (suc n) entries pair) there
  where
    by_pair : (o : Option CommitPair) → pair_by n entry ≡ o → (IsIn pair (pairs_of (suc n) entries) → pair.decision < suc n + length entries) → IsIn pair (cons_option o (pairs_of (suc n) entries)) → pair.decision < n + suc (length entries)
    by_pair None is later there = let low = later there in omega (arith, low)
    by_pair (Some first) is later (inl same) = let last = by_entry entry first is in let e : first.decision ≡ pair.decision = ap (λ (x : CommitPair). x.decision) same in omega (arith, last, e)
      where
        same_decision : (a b : CommitPair) → Some a ≡ Some b → a.decision ≡ b.decision
        same_decision a b e = ap (λ (x : CommitPair). x.decision) (same_some a b e)

        by_entry : (e : Entry) (x : CommitPair) → pair_by n e ≡ Some x → x.decision ≡ n
        by_entry (Write batch) x e = sym (same_decision _ x e)
        by_entry (Undo q batch) x e = sym (same_decision _ x e)
        by_entry (Commit q) x e = sym (same_decision _ x e)
        by_entry (Close q) x e = sym (same_decision _ x e)
        by_entry (Prepare name batch) x e = absurd (none_some None x refl e)
    by_pair (Some first) is later (inr there) = let low = later there in omega (arith, low)

rest_short : (entries : List Entry) → IsRest entries → length entries ≤ MOST_COMMITS
rest_short entries (inl none) = let e = ap length none in omega (arith, e)
rest_short entries (inr (inl one)) = one_short entries one
rest_short entries (inr (inr closes)) = let e = ap length closes.1 in omega (arith, e)

module _ (p : Place) (a : Actor) (w : World) (k : IsAt p a w) where
  -- ---- states

  pub has_writes : (so : WriteState → Type 0) → Holding a writes so → Holds w.holders write_turn p.by × so w.writes
  has_writes so n = let h = held_is p a w (writes n.state) k n.held in (h.0, subst so (sym (is_state w (writes n.state) h.1)) n.so_is)

  pub has_prepared : (so : PreparedSets → Type 0) → Holding a prepared so → Holds w.holders prepared_turn p.by × so w.prepared
  has_prepared so n = let h = held_is p a w (prepared n.state) k n.held in (h.0, subst so (sym (is_state w (prepared n.state) h.1)) n.so_is)

  pub has_snapshots : (so : Snapshots → Type 0) → Holding a snapshots so → Holds w.holders snapshots_turn p.by × so w.snapshots
  has_snapshots so n = let h = held_is p a w (snapshots n.state) k n.held in (h.0, subst so (sym (is_state w (snapshots n.state) h.1)) n.so_is)

  has_store : (so : StoreState → Type 0) → Holding a store so → Holds w.holders store_turn p.by × so w.store
  has_store so n = let h = held_is p a w (store n.state) k n.held in (h.0, subst so (sym (is_state w (store n.state) h.1)) n.so_is)

  pub has_locks : (so : LockState → Type 0) → Holding a locks so → Holds w.holders locks_turn p.by × so w.locks
  has_locks so n = let h = held_is p a w (locks n.state) k n.held in (h.0, subst so (sym (is_state w (locks n.state) h.1)) n.so_is)

  has_installed : (so : Installed → Type 0) → Holding a installed so → Holds w.holders tables_turn p.by × so w.installed
  has_installed so n = let h = held_is p a w (installed n.state) k n.held in (h.0, subst so (sym (is_state w (installed n.state) h.1)) n.so_is)

  -- ---- notes, and what was seen

  is_so : (fact : Fact) → Noted a fact → IsSo w.delayed_flag w.old_flag w.max_evicted w.cache w.writes w.prepared w.snapshots w.store w.locks w.installed a.participant fact
  is_so fact there = (noted_is p a w fact k there).is_so

  delayed_up : IsUp a delayed_flag_stays → w.delayed_flag ≢ 0
  delayed_up u e = u.2 (sym (is_so (delayed_flag_stays u.0) u.1) ∙ e)

  old_up : IsUp a old_flag_stays → w.old_flag ≢ 0
  old_up u e = u.2 (sym (is_so (old_flag_stays u.0) u.1) ∙ e)

  decided_now : (q c : ℕ) → decision_of a.participant.seen q ≡ Some c → decision_of w.writes.history q ≡ Some c
  decided_now q c e = let s = seen_is p a w k in ap (λ (h : List Entry). decision_of h q) s.1 ∙ decision_stays a.participant.seen s.0 q c e

  no_longer : length a.participant.seen ≤ length w.writes.history
  no_longer = shorter w.writes.history a.participant.seen (seen_is p a w k)

  -- ---- the rest

  looks : (which : Load) → KnowsLook a which → MayLook w p.by which
  looks FirstWord n = tt
  looks FirstMax n = tt
  looks DelayedFlag n = tt
  looks InPrepared n = (has_prepared (λ t. Unit {0}) n).0
  looks SecondWord n = tt
  looks SecondMax n = tt
  looks OldFlag n = tt
  looks IsOldCommit n = (has_snapshots (λ m. Unit {0}) n).0

  cleared : (pair : CommitPair) → KnowsCleared a p.cells pair → (gone : CommitPair) → pair_at w.cache (cache_place (length w.cache) pair.number) ≡ Some gone → MayBeEvicted w gone
  cleared pair n gone there =
      let there' : pair_at w.cache (cache_place p.cells pair.number) ≡ Some gone = ap (λ c. pair_at w.cache (cache_place c pair.number)) (sym k.cells) ∙ there in
      ⊎_elim
      (λ e. let s = is_so (words_stay e.0 e.1) e.2 in let q : Some gone ≡ None = sym there' ∙ (ap (λ (words : List ℕ). pair_at words (cache_place p.cells pair.number)) s.1 ∙ e.3) in absurd (cc))
      (λ e. let one = is_so (passed (cache_place p.cells pair.number) e.0) e.1 in let two = is_so (in_old_commits (cache_place p.cells pair.number) e.0) e.2 in let three = is_so (apart (cache_place p.cells pair.number) e.0) e.3 in
      let q : Some e.0 ≡ Some gone = sym one.there ∙ there' in let same : e.0 ≡ gone = cc in
      subst (MayBeEvicted w) {x = e.0} same (record { passed = one.so; kept = two.so; apart = three.so }))
      n

  gives : (turn : Turn) → KnowsGive a turn → Holds w.holders turn p.by × MayGive w turn
  gives write_turn n = has_writes (λ d. (d.pending ≡ []) × NoneNext d) n
  gives prepared_turn n = let h = has_prepared _ n in (h.0, λ none. is_so (delayed_flag_stays 0) (h.1 none))
  gives snapshots_turn n = let h = has_snapshots _ n in (h.0, λ none. is_so (old_flag_stays 0) (h.1 none))
  gives store_turn n = has_store (λ t. Unit {0}) n
  gives locks_turn n = has_locks (λ t. Unit {0}) n
  gives tables_turn n = let h = has_installed (λ e. KnowsTables a e.last) n in (h.0, (is_so nothing_flushed h.1.0, (is_so (tables_stay w.installed.last.versions h.1.1.0) h.1.1.1).0))

  -- ---- names and keys

  sound : IsSound w
  sound = at_sound p a w k

  owner : IsOwner w.locks (owner_of a.participant)
  owner = sound.locks.had p.by 0 (owner_of a.participant) (mine owner_of w.actors p.by a a k.there refl)

  -- the key of an undecided prepare is held for its transaction
  held_by : (key : List ℕ) (q : ℕ) → holder_of w.writes.history key ≡ Some q → finite.get w.locks.keys key ≡ Some (Txn (name_at w.writes.history q))
  held_by key q e = let f = found_holder w.writes.history key q e in sound.locks.prepared_keys q key f.0 f.1

  -- a key that a transaction without a prepare locked is in no undecided batch
  pub free_of : (name : List ℕ) (x : Transaction) (key : List ℕ) → named w.writes.history name ≡ None → finite.get a.participant.transactions name ≡ Some x → set.contains x.locked key ≡ true → holder_of w.writes.history key ≡ None
  free_of name x key none has locked = none_is (holder_of w.writes.history key) (λ q e.
      let same : Some (Txn (name_at w.writes.history q)) ≡ Some (Txn name) = sym (held_by key q e) ∙ owner.keys name x key has locked in
      let is : name_at w.writes.history q ≡ name = cc in none_named w.writes.history name q none (found_holder w.writes.history key q e).0 is)

  free_direct_key : (key : List ℕ) → a.participant.direct ≡ Some key → holder_of w.writes.history key ≡ None
  free_direct_key key has = none_is (holder_of w.writes.history key) (λ q e. let same : Some (Txn (name_at w.writes.history q)) ≡ Some (Client a.participant.client) = sym (held_by key q e) ∙ owner.direct key has in absurd cc)

  -- the prepare with the name, and its keys
  pub undecided_of : (name : List ℕ) (q : ℕ) (key : List ℕ) → named w.writes.history name ≡ Some q → is_changed (batch_at w.writes.history q) key ≡ true → finite.get w.locks.keys key ≡ Some (Txn name)
  undecided_of name q key is changed =
      let f = found_named w.writes.history name q is in
      sound.locks.prepared_keys q key f.0 changed ∙ ap (λ (z : List ℕ). Some (Txn z)) ((bytes_eq-Decides (name_at w.writes.history q) name).0 f.1)

  -- ---- the next number

  pub next_entry : (pending : List Entry) → entry_at (extended w.writes.history pending) (suc (length w.writes.history)) ≡ next_of pending
  next_entry [] = entry_at_past w.writes.history (suc (length w.writes.history)) (omega arith)
  next_entry (entry ∷ others) = slice_get_next w.writes.history entry []

  extended_within : (pending : List Entry) → length (extended w.writes.history pending) ≤ suc (length w.writes.history)
  extended_within [] = omega arith
  extended_within (entry ∷ others) = let l = length-append w.writes.history (entry ∷ []) in omega (arith, l)

  pub not_in_heap : is_prepare (next_of w.writes.pending) ≡ false → set.contains w.prepared.heap (suc (length w.writes.history)) ≡ false
  not_in_heap other = false_from_ne_true (set.contains w.prepared.heap (suc (length w.writes.history))) (λ there.
      let is = sound.undecided.known (suc (length w.writes.history)) (ap (λ (b : Bool). b || set.contains w.prepared.delayed (suc (length w.writes.history))) there) in
      true≢false (sym is ∙ (ap is_prepare (next_entry w.writes.pending) ∙ other)))

  pub within_next : (q : ℕ) → is_prepared w.prepared q ≡ true → q ≤ suc (length w.writes.history)
  within_next q is = let e = extended_within w.writes.pending in let l = (prepared_within (extended w.writes.history w.writes.pending) q (sound.undecided.known q is)).1 in omega (arith, e, l)

  none_in_memory : HasNoVersions (next_of w.writes.pending) → IsInMemory w.writes w.store
  none_in_memory none key value e = absurd (none_some (version_in (next_of w.writes.pending) key) value (none key) e)

  pub nowhere : HasNoVersions (next_of w.writes.pending) → IsNowhere w.writes w.store
  nowhere none key = none_is (version_at w.store.memory key (suc (length w.writes.history))) (λ v there.
      none_some (version_in (next_of w.writes.pending) key) v (none key) (sound.versions.next key (suc (length w.writes.history)) v (omega arith) there).1)

  -- ---- facts

  pub guarded : (t : Turn) → Holds w.holders t p.by → (turn : Turn) → Some t ≡ Some turn → Holds w.holders turn p.by
  guarded t holds turn e = let same : t ≡ turn = cc in subst (λ (x : Turn). Holds w.holders x p.by) same holds

  pub alone : (turn : Turn) → None ≡ Some turn → Holds w.holders turn p.by
  alone turn e = absurd (cc)

  clearing : (place : ℕ) (pair : CommitPair) (so : ℕ → Type 0) → KnowsPair a (length w.writes.history) place pair so → IsClearing (length w.writes.history) w.cache place pair (so w.max_evicted)
  clearing place pair so n =
      let s = is_so (words_stay n.0 n.1) n.2 in record {
        place_within = subst (λ (words : List ℕ). place < length words) (sym s.1) n.3;
        there = ap (λ (words : List ℕ). pair_at words place) s.1 ∙ n.4;
        published_by = n.5;
        so = subst so (sym s.0) n.6;
      }

  pub facts : (fact : Fact) → KnowsFact a fact → IsGuarded w.holders fact p.by × IsSo w.delayed_flag w.old_flag w.max_evicted w.cache w.writes w.prepared w.snapshots w.store w.locks w.installed a.participant fact
  facts (passed place pair) n = let h = has_writes _ n in (guarded write_turn h.0, clearing place pair (λ max. pair.decision ≤ max) h.1)
  facts (in_old_commits place pair) n = let h = has_writes _ n in let g = has_snapshots _ h.1 in (guarded write_turn h.0, clearing place pair (λ max. IsInOldCommits w.snapshots pair.number pair.decision) g.1)
  facts (apart place pair) n = let h = has_writes _ n in let g = has_prepared _ h.1 in (guarded write_turn h.0, clearing place pair (λ max. IsApart w.prepared pair) g.1)
  facts pair_delayed n = let h = has_writes _ n in let g = has_prepared _ h.1 in (guarded write_turn h.0, g.1)
  facts pair_not_delayed n = let h = has_writes _ n in let g = has_prepared _ h.1 in (guarded write_turn h.0, g.1)
  facts none_waits n =
      let h = has_writes _ n in let g = has_prepared _ h.1 in let b = g.1 in let s = is_so (words_stay b.0 b.1) b.2 in (
        guarded write_turn h.0,
        λ q c there decided low.
            ⊎_elim (λ (e : cached w.cache q ≡ Some c). e) (λ (e : finite.get w.prepared.delayed_commits q ≡ Some c). let above = b.3 q c e in let bound = s.0 in absurd (omega (arith, above, bound, low))) (sound.delayed.found q c there decided),
      )
  facts (has_left q) n = let h = has_prepared _ n in (alone, ((h.1.0.0, decided_now q h.1.0.0 h.1.0.1), h.1.1))
  facts versions_in_memory n = let h = has_writes _ n in (guarded write_turn h.0, ⊎_elim none_in_memory (λ m. (has_store _ m).1) h.1)
  facts versions_nowhere n = let h = has_writes _ n in (guarded write_turn h.0, ⊎_elim nowhere (λ m. (has_store _ m).1) h.1)
  facts number_in_heap n = let h = has_writes _ n in let g = has_prepared _ h.1 in (guarded write_turn h.0, g.1)
  facts number_not_in_heap n = let h = has_writes _ n in (guarded write_turn h.0, ⊎_elim not_in_heap (λ m. (has_prepared _ m).1) h.1)
  facts (undecided_at name q) n = let h = has_writes _ n in let x = h.1.0 in (alone, (x, h.1.1, owner.names name x.0 x.1, λ key changed. undecided_of name q key h.1.1 changed))
  facts (prior_values name q batch) n = (alone, (has_writes _ n).1)
  facts (unprepared name) n = let h = has_writes _ n in (alone, (h.1.0, h.1.1, λ x key has locked. free_of name x key h.1.1 has locked))
  facts (direct_free key) n = (alone, (n, owner.direct key n, free_direct_key key n))
  facts (unchanged name key m) n = let h = has_writes _ n.1 in (alone, (n.0, h.1.0, h.1.1))
  facts (locks_stay name q keys) n = let h = has_locks _ n in let low = no_longer in (alone, ((let f = h.1.0 in omega arith), λ is. h.1.1))
  facts (tables_stay versions floor) n = let h = has_installed _ n in let g = has_store _ h.1 in (guarded tables_turn h.0, g.1)
  facts (live_listed floor listed) n = let h = has_snapshots _ n in let low = no_longer in (alone, ((let f = h.1.0 in omega arith), h.1.1))
  facts nothing_flushed n = let h = has_installed _ n in let g = has_store _ h.1 in (guarded tables_turn h.0, g.1)
  facts (frozen_stay m versions) n = let h = has_installed _ n in let g = has_store _ h.1 in let low = no_longer in (guarded tables_turn h.0, ((let f = g.1.0 in omega arith), g.1.1))
  facts (words_stay max words) n = absurd n
  facts (delayed_flag_stays value) n = absurd n
  facts (old_flag_stays value) n = absurd n

  for_wide : (m : ℕ) → IsRiseForWide a p.cells w.writes m → (w.max_evicted ≤ m) × (m ≤ length w.writes.history)
  for_wide m r =
      let above = r.above in let s = is_so (words_stay above.0 above.1) above.2 in let low = above.3 in let is = r.is in let bound = s.0 in
      let some : 1 ≤ p.cells = subst (λ (n : ℕ). 1 ≤ n) k.cells sound.cache.some in
      let far = wide_far p.cells r.pair some r.wide in let last = decided_before (suc (length w.writes.history)) w.writes.pending r.pair r.pending in let few = rest_short w.writes.pending sound.history.rest in
      (omega (arith, low, is, bound), omega (arith, far, last, few, is))

  for_word : (m : ℕ) → IsRiseForWord a p.cells w.writes m → (w.max_evicted ≤ m) × (m ≤ length w.writes.history)
  for_word m r =
      let c = clearing (cache_place p.cells r.pair.number) r.gone (λ bound. bound < r.gone.decision) r.there in
      let above = c.so in let reached = past_reaches p.cells (length w.writes.history) r.gone.decision in let is = r.past in
      (omega (arith, above, reached, is), subst (λ x. x ≤ length w.writes.history) (sym is) (past_published p.cells (length w.writes.history) r.gone.decision c.published_by))

  -- the bound rises, and not above the published number
  rises : (m : ℕ) → IsRise a p.cells w.writes m → (w.max_evicted ≤ m) × (m ≤ length w.writes.history)
  rises m n = ⊎_elim (λ (r : IsRiseForWord a p.cells w.writes m). for_word m r) (λ (r : IsRiseForWide a p.cells w.writes m). for_wide m r) n

  -- ---- publishing

  held_for : (key : List ℕ) → KnowsHeld a key → IsHeldFor w a key
  held_for key n = ⊎_elim (λ e. inl (e, owner.direct key e)) (λ e. inr (e.0, e.1, e.2, owner.keys e.0 e.1 key e.2 e.3, (is_so (unprepared e.0) e.4).1)) n

  entered : (pair : CommitPair) (others : List Entry) → pending_pair w.writes.history w.writes.pending ≡ Some pair → KnowsEntered a p.cells pair → IsEntered w.cache w.prepared.delayed_commits w.max_evicted pair
  entered pair others is c =
      let s = is_so (words_stay c.0 c.1) c.2 in
      ⊎_elim (λ (there : cached c.1 pair.number ≡ Some pair.decision). inl (ap (λ (words : List ℕ). cached words pair.number) s.1 ∙ there))
      (λ (x : (fits p.cells pair ≡ false) × Noted a pair_delayed × (pair.number ≤ c.0)).
      let low = x.2 in let bound = s.0 in
      inr (record { wide = ap (λ (n : ℕ). fits n pair) k.cells ∙ x.0; delayed = is_so pair_delayed x.1 pair is; reached = omega (arith, low, bound) })) c.3

  publishes : (entry : Entry) (others : List Entry) → Holds w.holders write_turn p.by → KnowsPublish a p.cells w.writes entry others → MayPublish w p.by a entry others
  publishes entry others turn n = record {
    turn = turn;
    pending = n.pending;
    logged = n.logged;
    legal = n.legal;
    versions = is_so versions_in_memory n.versions;
    keys = λ key is. held_for key (n.keys key is);
    transaction = λ name is. let t = n.transaction name is in (t.0, t.1, λ key changed. (t.2 key changed, owner.keys name t.0 key t.1 (t.2 key changed)));
    came = n.came;
    number = λ is. is_so number_in_heap (n.number is);
    pair = λ pair is. entered pair others (ap (pending_pair w.writes.history) n.pending ∙ is) (n.pair pair is);
  }

  -- ---- maintenance

  live_of : (s : ℕ) (o : Option LiveSnapshot) → finite.get w.snapshots s ≡ o → is_some o ≡ true → s ≤ length w.writes.history
  live_of s None is live = absurd cc
  live_of s (Some x) is live = (sound.registrations.live s x is).1

  live_within : (s : ℕ) → IsLive w.snapshots s → s ≤ length w.writes.history
  live_within s live = live_of s (finite.get w.snapshots s) refl live

  covers : (edit : InstalledEdit) → IsEditCovered a.participant.seen edit → IsEditCovered w.writes.history edit
  covers edit c = edit_later w.writes.history a.participant.seen edit (seen_is p a w k) sound.history.legal c

  readable : (q : ℕ) (snapshot : Registration) → IsIn snapshot a.participant.registered → (q ≤ snapshot.number → has_versions_at a.participant.seen q ≡ true) → q ≤ snapshot.number → has_versions_at w.writes.history q ≡ true
  readable q snapshot own has le =
      let s = seen_is p a w k in
      let low : snapshot.number ≤ length a.participant.seen = (at_sound p a w k).viewed p.by 0 (view_of a.participant) (mine view_of w.actors p.by a a k.there refl) snapshot own in
      let within : q ≤ length a.participant.seen = omega arith in
      ap (λ (h : List Entry). has_versions_at h q) s.1 ∙ (ap has_versions (entry_at_old a.participant.seen s.0 q within) ∙ has le)

  -- a decided pair that fits is in its word, or passed
  narrow_answers : (q c : ℕ) → decision_of w.writes.history q ≡ Some c → fits p.cells (commit_pair q c) ≡ true → (cached w.cache q ≡ Some c) ⊎ IsPassed w.max_evicted w.snapshots q c
  narrow_answers q c decided narrow =
      ⊎_elim (λ (e : IsEntered w.cache w.prepared.delayed_commits w.max_evicted (commit_pair q c)).
      ⊎_elim (λ (there : cached w.cache q ≡ Some c). inl there)
      (λ (x : IsWide (length w.cache) w.prepared.delayed_commits w.max_evicted (commit_pair q c)). absurd (true≢false (sym narrow ∙ (ap (λ (n : ℕ). fits n (commit_pair q c)) (sym k.cells) ∙ x.wide)))) e)
      (λ (x : IsPassed w.max_evicted w.snapshots q c). inr x) (sound.decided.found q c decided)

  segment_named : (edit : InstalledEdit) → (edit.segment ≡ w.installed.last.segment) ⊎ Holding a writes (λ d. NextNamed d edit) → NamesSegment w edit ⊎ NamesNext w p.by edit
  segment_named edit n = ⊎_elim (λ (same : edit.segment ≡ w.installed.last.segment). inl same) (λ (next : Holding a writes (λ d. NextNamed d edit)). let h = has_writes _ next in inr (h.0, h.1.0, h.1.1, h.1.2)) n

  pub needed : (step : Step) → Knows p a step → Needs w p.by a step
  needed load_published n = tt
  needed (register least) n =
      let h = has_snapshots _ n in (h.0, ⊎_elim (λ one. inl one) (λ m. let g = has_prepared _ m in let low = no_longer in inr (g.0, ⊎_elim (λ seen. omega (arith, low, seen)) (λ there. within_next least there) g.1.0, g.1.1)) h.1)
  needed (load which) n = (n.0, n.1, n.2, looks which n.3)
  needed end_reading n = tt
  needed (store_max_evicted m) n =
      let h = has_writes _ n in let g = has_prepared _ h.1 in let r = rises m g.1.0 in
      (h.0, g.0, r.0, r.1, ⊎_elim (λ up. inl (delayed_up up)) (λ low. inr low) g.1.1)
  needed (store_word pair) n = let h = has_writes _ n in (h.0, h.1.0, ap (λ (c : ℕ). fits c pair) k.cells ∙ h.1.1, cleared pair h.1.2)
  needed (store_delayed_flag value) n = has_prepared _ n
  needed (store_old_flag value) n = has_snapshots _ n
  needed (give_turn turn) n = gives turn n
  needed (make_pending entries) n = let h = has_writes _ n in (h.0, h.1.0, h.1.1, h.1.2, h.1.3)
  needed log_pending n = let h = has_writes _ n in (h.0, h.1.0, h.1.1, h.1.2)
  needed close_log n =
      let h = has_writes _ n in
      (h.0, h.1.0, ⊎_elim (λ (some : (w.writes.pending ≢ []) × (w.writes.logged ≡ false)). inl some) (λ (none : (w.writes.pending ≡ []) × (w.writes.next ≡ None) × (w.writes.segment.base < length w.writes.history)). inr (none.0, (λ next. none_some w.writes.next w.installed.last.segment none.1 next), none.2)) h.1.1)
  needed find_log_closed n = has_writes _ n
  needed find_base n = has_writes _ n
  needed drop_pending n =
      let h = has_writes _ n in let c = h.1.1 in let s = is_so (words_stay c.0 c.1) c.2 in
      (h.0, h.1.0, (λ pair is e. c.3 pair is (ap (λ (words : List ℕ). cached words pair.number) (sym s.1) ∙ e)), is_so pair_not_delayed h.1.2, is_so versions_nowhere h.1.3, is_so number_not_in_heap h.1.4)
  needed (write_segment place) n = let h = has_writes _ n in (h.0, h.1.0, h.1.1, h.1.2, h.1.3)
  needed use_segment n = let h = has_writes _ n in let g = has_installed _ h.1.1 in (h.0, h.1.0, g.1)
  needed stop_log n = let h = has_writes _ n in let g = has_installed _ h.1 in (h.0, g.0, g.1.0, g.1.1, g.1.2, g.1.3)
  needed add_prepared n = let h = has_writes _ n in let g = has_prepared _ h.1 in (h.0, g.0, g.1)
  needed take_pending_prepared n = let h = has_writes _ n in let g = has_prepared _ h.1 in (h.0, g.0, g.1)
  needed (add_delayed_commit pair) n = let h = has_prepared _ n in (h.0, delayed_up h.1.0, decided_now pair.number pair.decision h.1.1)
  needed (delay_pending pair) n = let h = has_writes _ n in let g = has_prepared _ h.1 in (h.0, g.0, delayed_up g.1.0, g.1.1)
  needed (take_out q) n =
      let h = has_prepared _ n in let decided = decided_now q h.1.0 h.1.1 in
      (h.0, (h.1.0, decided, ⊎_elim (narrow_answers q h.1.0 decided) (λ known. let m = has_snapshots _ known in let b = m.1.1 in let s = is_so (words_stay b.0 b.1) b.2 in let low = b.3 in let bound = s.0 in inr (omega (arith, low, bound), m.1.0)) h.1.2))
  needed (register_again s) n = let h = has_snapshots _ n in (h.0, h.1.0, h.1.1)
  needed (release front r back) n = has_snapshots _ n
  needed (add_old_commit s q) n = let h = has_snapshots _ n in let c = h.1.2 in (h.0, h.1.0, old_up h.1.1, (c.0, decided_now q c.0 c.1, c.2, c.3))
  needed (add_versions memory) n = let h = has_writes _ n in let g = has_store _ h.1 in (h.0, g.0, g.1)
  needed (take_versions memory) n = let h = has_writes _ n in let g = has_store _ h.1 in (h.0, g.0, g.1)
  needed find_edit n = (has_installed (λ e. Unit {0}) n).0
  needed (claim_name name) n = let h = has_locks _ n in (h.0, h.1.0, h.1.1)
  needed (take_name name q) n = let h = has_writes _ n in let g = has_locks _ h.1 in (g.0, g.1.0, g.1.1)
  needed (leave_name name) n = let h = has_locks _ n in let c = h.1.1 in (h.0, h.1.0, ap is_some (is_so (undecided_at name c.0) c.1).1)
  needed (free_transaction name) n = let h = has_locks _ n in (h.0, h.1.0, (is_so (unprepared name) h.1.1).1)
  needed (lock_key name x key) n = let h = has_locks _ n in (h.0, h.1.0, h.1.1, (is_so (unprepared name) h.1.2).1)
  needed (free_key name x key) n = let h = has_locks _ n in (h.0, h.1.0, h.1.1, (is_so (unprepared name) h.1.2).1)
  needed (lock_direct key) n = let h = has_locks _ n in (h.0, h.1.0, h.1.1)
  needed (free_direct key) n = has_locks _ n
  needed (tell label) n = (has_locks (λ t. Unit {0}) n).0
  needed (hear label n') n = has_locks _ n
  needed (set_batch name x batch) n = n
  needed (set_client client) n = n
  needed (begin_reading bits q snapshot) n = (n.0 ∙ sym k.cells, n.1, readable q snapshot n.1 n.2)
  needed (find_holder key holder account) n = absurd n
  needed (note fact) n = let f = facts fact n.1 in (n.0, f.0, f.1)
  needed (move_versions memory tables) n =
      let h = has_store _ n in let g = has_installed _ h.1 in
      let is = moved w.writes.history w.writes.pending w.first_edit.segment.base w.snapshots w.store w.installed sound.versions memory tables g.1 in
      let stays = next_stays w.writes.history w.writes.pending w.first_edit.segment.base w.snapshots w.store w.installed sound.versions memory tables g.1 in (h.0, g.0, (g.1.same, stays), is)
  needed (replace_versions tables floor) n =
      let h = has_store _ n in let g = has_installed _ h.1 in
      let r = subst (λ (first : InstalledEdit). KnowsReplaced a w.store w.installed.last.flushed first.segment.base tables floor) (same_some g.1.0 w.first_edit (sym g.1.1 ∙ k.first_edit)) g.1.2 in
      (h.0, g.0, r.rises, replaced w.writes.history w.writes.pending w.first_edit.segment.base w.snapshots w.store w.installed sound.versions a tables floor r sound.history.legal (seen_is p a w k) (is_so (live_listed floor r.listed) r.live).1 live_within)
  needed (install edit compacts) n =
      let h = has_installed _ n in let m = h.1 in
      (h.0, m.running, installed_now w.writes.history w.writes.pending w.first_edit.segment.base w.snapshots w.store w.installed sound.versions edit (covers edit m.covered) m.rises, m.one_more, m.keeps, m.rises, m.segment)
  needed (renew edit) n =
      let h = has_writes _ n in let g = has_installed _ h.1 in let m = g.1 in
      let rises : w.installed.last.flushed ≤ edit.flushed = let low = sound.versions.last.flushed in let whole = m.next.2 in omega (arith, low, whole) in
      (g.0, m.running, installed_now w.writes.history w.writes.pending w.first_edit.segment.base w.snapshots w.store w.installed sound.versions edit (covers edit m.covered) rises, (h.0, m.next.0, m.next.1, m.next.2), m.tables)
  needed (halt None) n = let h = has_installed _ n in (h.0, h.1, halted_only w.writes.history w.writes.pending w.first_edit.segment.base w.snapshots w.store w.installed sound.versions, λ edit q. absurd (none_some None edit refl q))
  needed (halt (Some edit)) n = let h = has_installed _ n in (h.0, h.1.0, halted_now w.writes.history w.writes.pending w.first_edit.segment.base w.snapshots w.store w.installed sound.versions edit (covers edit h.1.1), λ failed q. subst (λ (x : InstalledEdit). NamesSegment w x ⊎ NamesNext w p.by x) (same_some edit failed q) (segment_named edit h.1.2))
  needed (store_published entry others) n = let h = has_writes _ n in publishes entry others h.0 h.1
  needed (take_turn turn) n = absurd n
  needed make_note n = absurd n
  needed make_seat n = absurd n
  needed (learn other b) n = absurd n
  needed (join_seat other b) n = absurd n
