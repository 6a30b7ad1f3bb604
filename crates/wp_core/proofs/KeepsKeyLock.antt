-- Locking a key for a transaction keeps every part of a sound world.
use Rattle.std.proofs.Common.{◌≡◌, ◌≢◌, ◌⊎◌, ◌||◌, Bool, ⊎_elim, inl, inr, ℕ, true, List, [], ◌∷◌, ◌++◌, length, refl, sym, subst, ap, ◌∙◌, Option, Some, None, is_some}
use mathlib.Core.Option.{some}
use lib.ListN.{get_elem?}
use Rattle.std.specs.FinSet as words
use Rattle.std.specs.FinSet.{contains-insert}
use Rattle.std.specs.FinMap as finite
use Rattle.std.specs.Ordering.{eq_by_cmp}
use Rattle.std.proofs.lemmas.Cmp.{nat_list_cmp_total}
use Rattle.wp_model.specs.Batch.{key_cmp}
use Rattle.wp_model.specs.Changed.{IsUnchanged}
use Rattle.wp_model.specs.History.{holder_of, name_at, named}
use Rattle.wp_model.specs.declared.holder.Holder.TheVariants.{Txn, Client}
use Rattle.wp_model.specs.LockState.{LockState}
use Rattle.wp_model.proofs.Found.{found_holder}
use Rattle.wp_core.specs.Lists.{IsIn}
use Rattle.wp_core.specs.Views.{Event, locked, Fact, undecided_at, prior_values, unprepared, direct_free, unchanged, locks_stay}
use Rattle.wp_core.specs.World.{Transaction, Actor, Participant, World}
use Rattle.wp_core.specs.Steps.{lock_key}
use Rattle.wp_core.specs.Changes.{with_key}
use Rattle.wp_core.specs.Effects.{done}
use Rattle.wp_core.specs.Needs.{Needs}
use Rattle.wp_core.specs.Notes.{forgets}
use Rattle.wp_core.specs.Sound.Actors.{IsParticipantAt}
use Rattle.wp_core.specs.Sound.Locks.{Owner, owner_of, Has, IsNameOf, IsDirectOf, CameToKey, CameToKeys, HasOrLocked, IsOwner, AreLocked}
use Rattle.wp_core.specs.IsSound.{IsSound, participants}
use Rattle.wp_model.proofs.Keyed.{same_test, is_word_same, not_same, at_inserted}
use Rattle.wp_core.proofs.OwnerMoves.{owners_apart, came_apart, came_itself, beyond_moved, name_kept, direct_kept}
use Rattle.wp_core.proofs.AllParticipants.{mine, was_apart, each_apart}
use Rattle.wp_core.proofs.PastsGrow.{in_front, in_last}
use Rattle.wp_core.proofs.LocksChange.{SoWith, actor_after, owners_after, LocksParts, locks_change}
use Rattle.wp_core.proofs.AllParts.{SoIn}
use Rattle.wp_core.proofs.KeyLocked.{held_still, held_now, owner_locked, keys_locked, so_locked, pasts_locked}
use Rattle.wp_core.proofs.OtherKeys.{has_now, had_name, has_still, owns_still, owns_key_still, each_key, unprepared_still}
use Rattle.wp_model.proofs.Tests.{or_true, none_some}
use Rattle.wp_core.proofs.OtherOwners.{nobody_else}

-- ---- sets of keys

in_inserted : (s : words.FinSet key_cmp) (key k : List ℕ) → k ≡ key → words.contains (words.insert s key) k ≡ true
in_inserted s key k same = contains-insert nat_list_cmp_total s key k ∙ ap (λ (b : Bool). b || words.contains s k) (same_test k key same)

still_in : (s : words.FinSet key_cmp) (key k : List ℕ) → words.contains s k ≡ true → words.contains (words.insert s key) k ≡ true
still_in s key k h = contains-insert nat_list_cmp_total s key k ∙ ap (λ (b : Bool). eq_by_cmp key_cmp k key || b) h ∙ or_true (eq_by_cmp key_cmp k key)

was_in : (s : words.FinSet key_cmp) (key k : List ℕ) → (k ≡ key → ⊥) → words.contains (words.insert s key) k ≡ true → words.contains s k ≡ true
was_in s key k ne h = sym (ap (λ (b : Bool). b || words.contains s k) (not_same k key ne (eq_by_cmp key_cmp k key) refl)) ∙ (sym (contains-insert nat_list_cmp_total s key k) ∙ h)

-- ---- the step

module _ (w : World) (by : ℕ) (a : Actor) (name : List ℕ) (x0 : Transaction) (key : List ℕ) (at : get_elem? w.actors by ≡ some a) (has : finite.get a.participant.transactions name ≡ Some x0) (free : finite.get w.locks.keys key ≡ None) (unprepared_one : named w.writes.history name ≡ None) (s : IsSound w) where
  abbrev e : Event
  e = locked key (Txn name)

  abbrev x1 : Transaction
  x1 = record x0 { locked = words.insert x0.locked key }

  abbrev t : LockState
  t = with_key w.locks key (Txn name)

  abbrev p : Participant
  p = record a.participant { transactions = finite.insert a.participant.transactions name x1; past = a.participant.past ++ e ∷ [] }

  abbrev b : Actor
  b = actor_after w by a (lock_key name x0 key) p t

  abbrev after : List (List Owner)
  after = owners_after w by a (lock_key name x0 key) p t

  own_owner : IsOwner t (owner_of p)
  own_owner =
      let old = s.locks.had by 0 (owner_of a.participant) (mine owner_of w.actors by a a at refl) in
      record {
        names = λ n x h. let y = had_name w by a name x0 x1 at has n x h in old.names n y.0 y.1;
        keys = each_key w by a name x0 x1 at has (λ n c. finite.get t.keys c ≡ Some (Txn n))
            (λ c in_it. ⊎_elim
            (λ (q : c ≡ key). at_inserted w.locks.keys key (Txn name) c q)
            (λ (ne : c ≡ key → ⊥). held_still w key (Txn name) free c (Txn name) (old.keys name x0 c has (was_in x0.locked key c ne in_it))) (is_word_same c key))
            (λ n x c ne h held. held_still w key (Txn name) free c (Txn n) (old.keys n x c h held));
        direct = λ c h. held_still w key (Txn name) free c (Client a.participant.client) (old.direct c h);
      }

  grows : (x : Event) → IsIn x a.participant.past → IsIn x p.past
  grows x k = in_front x a.participant.past (e ∷ []) k

  own_came : CameToKeys w.opened w.writes.history after (owner_of p)
  own_came =
      let old = s.locks.came by 0 (owner_of a.participant) (mine owner_of w.actors by a a at refl) in
      let still : (n c : List ℕ) → CameToKey w.opened w.writes.history (participants owner_of w) a.participant.past n c → CameToKey w.opened w.writes.history after p.past n c = λ n c k. came_itself w.actors by a b at refl grows w.opened w.writes.history n c k in
      each_key w by a name x0 x1 at has (λ n c. CameToKey w.opened w.writes.history after p.past n c)
      (λ c in_it. ⊎_elim
      (λ (q : c ≡ key). inl (subst (λ (z : List ℕ). IsIn (locked z (Txn name)) p.past) (sym q) (in_last e a.participant.past)))
      (λ (ne : c ≡ key → ⊥). still name c (old name x0 c has (was_in x0.locked key c ne in_it))) (is_word_same c key))
      (λ n x c ne h held. still n c (old n x c h held))

  name_still : (n c : List ℕ) → IsNameOf (participants owner_of w) n c → IsNameOf after n c
  name_still n c k = name_kept w.actors by a b at refl refl (λ x k. in_front x a.participant.past (e ∷ []) k) n c (λ y h. has_still w by a name x0 x1 at has n y h) k

  direct_still : (k c : List ℕ) → IsDirectOf (participants owner_of w) k c → IsDirectOf after k c
  direct_still k c d = direct_kept w.actors by a b at refl refl (λ x k. in_front x a.participant.past (e ∷ []) k) k c (λ h. h) d

  name_lives : is_some (finite.get w.locks.names name) ≡ true
  name_lives = ap is_some ((s.locks.had by 0 (owner_of a.participant) (mine owner_of w.actors by a a at refl)).names name x0 has)

  keys_live : (k n : List ℕ) → finite.get t.keys k ≡ Some (Txn n) → is_some (finite.get w.locks.names n) ≡ true
  keys_live k n h = ⊎_elim
      (λ (g : (k ≡ key) × (Txn name ≡ Txn n)). let same : name ≡ n = let f = g.1 in cc in subst (λ (z : List ℕ). is_some (finite.get w.locks.names z) ≡ true) same name_lives)
      (λ (g : (k ≡ key → ⊥) × (finite.get w.locks.keys k ≡ Some (Txn n))). s.locks.keys_live k n g.1) (held_now w key (Txn name) free k (Txn n) h)

  keys_known : (k n : List ℕ) → finite.get t.keys k ≡ Some (Txn n) → (j i : ℕ) (o : Owner) → IsParticipantAt after j i o → (x : Transaction) → Has o n x → words.contains x.locked k ≡ true
  keys_known k n h j i o there x there_has = both (held_now w key (Txn name) free k (Txn n) h) (was_apart owner_of w.actors by a b at refl j i o there)
    where
      own_case : ((k ≡ key) × (Txn name ≡ Txn n)) ⊎ ((k ≡ key → ⊥) × (finite.get w.locks.keys k ≡ Some (Txn n))) → Has (owner_of p) n x → words.contains x.locked k ≡ true
      own_case held h2 = ⊎_elim
          (λ (u : (n ≡ name) × (x1 ≡ x)). subst (λ (z : Transaction). words.contains z.locked k ≡ true) u.1 (⊎_elim
          (λ (g : (k ≡ key) × (Txn name ≡ Txn n)). in_inserted x0.locked key k g.0)
          (λ (g : (k ≡ key → ⊥) × (finite.get w.locks.keys k ≡ Some (Txn n))). still_in x0.locked key k (s.locks.keys_known k n g.1 by 0 (owner_of a.participant) (mine owner_of w.actors by a a at refl) x0 (ap (finite.get a.participant.transactions) u.0 ∙ has))) held))
          (λ (u : (n ≡ name → ⊥) × (finite.get a.participant.transactions n ≡ Some x)). ⊎_elim
          (λ (g : (k ≡ key) × (Txn name ≡ Txn n)). let same : name ≡ n = let f = g.1 in cc in absurd (u.0 (sym same)))
          (λ (g : (k ≡ key → ⊥) × (finite.get w.locks.keys k ≡ Some (Txn n))). s.locks.keys_known k n g.1 by 0 (owner_of a.participant) (mine owner_of w.actors by a a at refl) x u.1) held)
          (has_now w by a name x0 x1 at has n x h2)

      both : ((k ≡ key) × (Txn name ≡ Txn n)) ⊎ ((k ≡ key → ⊥) × (finite.get w.locks.keys k ≡ Some (Txn n))) → ((j ≡ by) × (i ≡ 0) × (o ≡ owner_of p)) ⊎ (((j ≢ by) ⊎ (i ≢ 0)) × IsParticipantAt (participants owner_of w) j i o) → words.contains x.locked k ≡ true
      both held (inl g) = own_case held (subst (λ (z : Owner). Has z n x) g.2 there_has)
      both (inl g) (inr v) = let same : name ≡ n = let f = g.1 in cc in absurd (nobody_else w by a name x0 at has s j i o n x v.0 v.1 there_has (sym same))
      both (inr g) (inr v) = s.locks.keys_known k n g.1 j i o v.1 x there_has

  -- a prepared transaction is another one
  other : (n : List ℕ) (q : ℕ) → named w.writes.history n ≡ Some q → Txn name ≡ Txn n → ⊥
  other n q is e = let same : name ≡ n = cc in none_some (named w.writes.history name) q unprepared_one (ap (named w.writes.history) same ∙ is)

  unchanged_still : (k n : List ℕ) (q : ℕ) → named w.writes.history n ≡ Some q → finite.get t.keys k ≡ Some (Txn n) → IsUnchanged w.writes.history k q
  unchanged_still k n q is h = ⊎_elim
      (λ (g : (k ≡ key) × (Txn name ≡ Txn n)). absurd (other n q is g.1))
      (λ (g : (k ≡ key → ⊥) × (finite.get w.locks.keys k ≡ Some (Txn n))). s.locks.unchanged k n q is g.1) (held_now w key (Txn name) free k (Txn n) h)

  beyond : (k n : List ℕ) (q : ℕ) → named w.writes.history n ≡ Some q → finite.get t.keys k ≡ Some (Txn n) → HasOrLocked w.opened w.writes.history after q n k
  beyond k n q is h = ⊎_elim
      (λ (g : (k ≡ key) × (Txn name ≡ Txn n)). absurd (other n q is g.1))
      (λ (g : (k ≡ key → ⊥) × (finite.get w.locks.keys k ≡ Some (Txn n))). beyond_moved w.actors by a b at refl grows w.opened w.writes.history q n k (s.locks.beyond k n q is g.1)) (held_now w key (Txn name) free k (Txn n) h)

  keys_direct : (k c : List ℕ) → finite.get t.keys k ≡ Some (Client c) → IsDirectOf after k c
  keys_direct k c h = ⊎_elim
      (λ (g : (k ≡ key) × (Txn name ≡ Client c)). let f = g.1 in absurd cc)
      (λ (g : (k ≡ key → ⊥) × (finite.get w.locks.keys k ≡ Some (Client c))). direct_still k c (s.locks.keys_direct k c g.1)) (held_now w key (Txn name) free k (Client c) h)

  locked_part : AreLocked w.opened w.writes.history t after
  locked_part = record {
    prepared_names = s.locks.prepared_names;
    prepared_keys = λ q k u h. held_still w key (Txn name) free k (Txn (name_at w.writes.history q)) (s.locks.prepared_keys q k u h);
    had = each_apart owner_of w.actors by a b at refl (IsOwner t) own_owner (λ j i o elsewhere there. owner_locked w key (Txn name) free o (s.locks.had j i o there));
    came = came_apart w.actors by a b at refl grows w.opened w.writes.history own_came s.locks.came;
    apart = owners_apart w.actors by a b at refl (λ n x h. inl (had_name w by a name x0 x1 at has n x h)) (λ c h. inl h) s.locks.apart;
    names_had = λ n c h. name_still n c (s.locks.names_had n c h);
    names_left = s.locks.names_left;
    keys_live = keys_live;
    keys_known = keys_known;
    keys_direct = keys_direct;
    unchanged = unchanged_still;
    beyond = beyond;
  }

  -- no undecided prepare changes the key
  holder_free : (o : Option ℕ) → holder_of w.writes.history key ≡ o → o ≡ None
  holder_free None h = refl
  holder_free (Some q) h = let k = found_holder w.writes.history key q h in let f : None ≡ Some (Txn (name_at w.writes.history q)) = sym free ∙ s.locks.prepared_keys q key k.0 k.1 in absurd cc

  -- the keys of the transaction were its own, or are held by no undecided prepare
  was_or_free : (c : List ℕ) → words.contains x1.locked c ≡ true → (words.contains x0.locked c ≡ true) ⊎ (holder_of w.writes.history c ≡ None)
  was_or_free c held = ⊎_elim
      (λ (q : c ≡ key). inr (ap (holder_of w.writes.history) q ∙ holder_free (holder_of w.writes.history key) refl))
      (λ (ne : c ≡ key → ⊥). inl (was_in x0.locked key c ne held)) (is_word_same c key)

  mine_still : (fact : Fact) → SoIn w a.participant fact → SoWith w t p fact
  mine_still (undecided_at n q) k = (owns_still w by a name x0 x1 at has n k.0, k.1, k.2, λ c h. held_still w key (Txn name) free c (Txn n) (k.3 c h))
  mine_still (prior_values n q batch) k = (owns_still w by a name x0 x1 at has n k.0, k.1, k.2)
  mine_still (unprepared n) k = (owns_still w by a name x0 x1 at has n k.0, k.1, unprepared_still w by a name x0 x1 at has was_or_free n k.2)
  mine_still (direct_free c) k = (k.0, held_still w key (Txn name) free c (Client a.participant.client) k.1, k.2)
  mine_still (unchanged n c m) k = (owns_key_still w by a name x0 x1 at has n c (still_in x0.locked key c) k.0, k.1, k.2)
  mine_still (locks_stay n q keys) k = (k.0, λ is. keys_locked w key (Txn name) free other n q keys is (k.1 is))
  mine_still fact k = k

  parts : LocksParts w by a (lock_key name x0 key) p t
  parts = record {
    locks_part = locked_part;
    pasts_part = pasts_locked w key (Txn name) free by a (lock_key name x0 key) p at refl s;
    mine = λ fact left k. mine_still fact k;
    others = λ j q fact ne there k. so_locked w key (Txn name) free other q fact k;
  }

pub locks_key : (w : World) (by : ℕ) (a : Actor) (name : List ℕ) (x0 : Transaction) (key : List ℕ) → get_elem? w.actors by ≡ some a → Needs w by a (lock_key name x0 key) → IsSound w
    → IsSound (done w by (forgets w.writes.history (length w.cache) (lock_key name x0 key) a) (lock_key name x0 key))
locks_key w by a name x0 key at needs s = locks_change w by a (lock_key name x0 key) (p w by a name x0 key at needs.1 needs.2 needs.3 s) (t w by a name x0 key at needs.1 needs.2 needs.3 s) at needs.0 (parts w by a name x0 key at needs.1 needs.2 needs.3 s) s
