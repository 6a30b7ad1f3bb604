-- Freeing a key of a transaction keeps every part of a sound world.
use Rattle.std.proofs.Common.{◌≡◌, ◌&&◌, Bool, not, ⊎_elim, ℕ, true, false, true≢false, List, length, refl, sym, subst, ap, ◌∙◌, Some, None, inl}
use mathlib.Core.Option.{some}
use lib.ListN.{get_elem?}
use Rattle.std.specs.FinSet as words
use Rattle.std.specs.FinSet.{contains-remove}
use Rattle.std.specs.FinMap as finite
use Rattle.std.specs.Ordering.{eq_by_cmp}
use Rattle.std.proofs.lemmas.Cmp.{nat_list_cmp_total}
use Rattle.wp_model.specs.Batch.{key_cmp}
use Rattle.wp_model.specs.History.{is_undecided, is_changed, name_at, batch_at, named}
use Rattle.wp_model.specs.declared.holder.Holder.{Holder}
use Rattle.wp_model.specs.declared.holder.Holder.TheVariants.{Txn, Client}
use Rattle.wp_model.specs.LockState.{LockState}
use Rattle.wp_core.specs.Views.{Fact, undecided_at, prior_values, unprepared, direct_free, unchanged, locks_stay}
use Rattle.wp_core.specs.World.{Transaction, Actor, Participant, World}
use Rattle.wp_core.specs.Steps.{free_key}
use Rattle.wp_core.specs.Changes.{without_key}
use Rattle.wp_core.specs.Effects.{done}
use Rattle.wp_core.specs.Needs.{Needs}
use Rattle.wp_core.specs.Notes.{forgets, ends}
use Rattle.wp_core.specs.Sound.Actors.{IsParticipantAt}
use Rattle.wp_core.specs.Sound.Locks.{Owner, owner_of, Has, IsNameOf, IsDirectOf, CameToKey, CameToKeys, IsOwner, AreLocked}
use Rattle.wp_core.specs.IsSound.{IsSound, participants}
use Rattle.wp_model.proofs.Keyed.{same_test, is_word_same, not_same, else_removed, still_there}
use Rattle.wp_core.proofs.OwnerMoves.{owners_apart, came_apart, came_itself, beyond_moved, name_kept, direct_kept}
use Rattle.wp_core.proofs.AllParticipants.{mine, was, each_apart}
use Rattle.wp_history_laws.proofs.Named.{none_named}
use Rattle.wp_core.proofs.LocksChange.{SoWith, actor_after, owners_after, LocksParts, locks_change, pasts_left, keys_still}
use Rattle.wp_core.proofs.AllParts.{SoIn}
use Rattle.wp_core.proofs.OtherKeys.{has_now, had_name, has_still, owns_still, owns_key_still, each_key, unprepared_still}
use Rattle.wp_core.proofs.KeepsNameLeft.{two_names}
use Rattle.wp_core.proofs.OtherOwners.{KeepsOthers, others_own, others_so}

-- ---- sets of keys

was_in : (s : words.FinSet key_cmp) (key k : List ℕ) → words.contains (words.remove s key) k ≡ true → (k ≡ key → ⊥) × (words.contains s k ≡ true)
was_in s key k h = ⊎_elim
    (λ (q : k ≡ key). let f : false ≡ true = ap (λ (b : Bool). not b && words.contains s k) (sym (same_test k key q)) ∙ sym (contains-remove nat_list_cmp_total s key k) ∙ h in absurd (true≢false (sym f)))
    (λ (ne : k ≡ key → ⊥). (ne, ap (λ (b : Bool). not b && words.contains s k) (sym (not_same k key ne (eq_by_cmp key_cmp k key) refl)) ∙ sym (contains-remove nat_list_cmp_total s key k) ∙ h)) (is_word_same k key)

still_in : (s : words.FinSet key_cmp) (key k : List ℕ) → (k ≡ key → ⊥) → words.contains s k ≡ true → words.contains (words.remove s key) k ≡ true
still_in s key k ne h = contains-remove nat_list_cmp_total s key k ∙ ap (λ (b : Bool). not b && words.contains s k) (not_same k key ne (eq_by_cmp key_cmp k key) refl) ∙ h

-- ---- the step

module _ (w : World) (by : ℕ) (a : Actor) (name : List ℕ) (x0 : Transaction) (key : List ℕ) (at : get_elem? w.actors by ≡ some a) (has : finite.get a.participant.transactions name ≡ Some x0) (locked_one : words.contains x0.locked key ≡ true) (unprepared_one : named w.writes.history name ≡ None) (s : IsSound w) where
  abbrev client : List ℕ
  client = a.participant.client

  abbrev x1 : Transaction
  x1 = record x0 { locked = words.remove x0.locked key }

  abbrev t : LockState
  t = without_key w.locks key

  abbrev p : Participant
  p = record a.participant { transactions = finite.insert a.participant.transactions name x1 }

  abbrev b : Actor
  b = actor_after w by a (free_key name x0 key) p t

  abbrev after : List (List Owner)
  after = owners_after w by a (free_key name x0 key) p t

  -- the key was held for the transaction
  was_held : finite.get w.locks.keys key ≡ Some (Txn name)
  was_held = (s.locks.had by 0 (owner_of a.participant) (mine owner_of w.actors by a a at refl)).keys name x0 key has locked_one

  same_name : (k n : List ℕ) → finite.get w.locks.keys k ≡ Some (Txn n) → k ≡ key → n ≡ name
  same_name k n h q = let f : Some (Txn n) ≡ Some (Txn name) = sym h ∙ ap (finite.get w.locks.keys) q ∙ was_held in cc

  -- what is held for another transaction, or as a direct write's, stays held
  txn_still : (k n : List ℕ) → (n ≡ name → ⊥) → finite.get w.locks.keys k ≡ Some (Txn n) → finite.get t.keys k ≡ Some (Txn n)
  txn_still k n ne h = else_removed w.locks.keys key k (λ (q : k ≡ key). ne (same_name k n h q)) ∙ h

  direct_held : (k c : List ℕ) → finite.get w.locks.keys k ≡ Some (Client c) → finite.get t.keys k ≡ Some (Client c)
  direct_held k c h = else_removed w.locks.keys key k (λ (q : k ≡ key). let f : Some (Client c) ≡ Some (Txn name) = sym h ∙ ap (finite.get w.locks.keys) q ∙ was_held in absurd cc) ∙ h

  other_still : (k : List ℕ) (holder : Holder) → (k ≡ key → ⊥) → finite.get w.locks.keys k ≡ Some holder → finite.get t.keys k ≡ Some holder
  other_still k holder ne h = else_removed w.locks.keys key k ne ∙ h

  -- what is held was held, and is another key
  held_before : (k : List ℕ) (holder : Holder) → finite.get t.keys k ≡ Some holder → (k ≡ key → ⊥) × (finite.get w.locks.keys k ≡ Some holder)
  held_before k holder h = still_there w.locks.keys key holder k h

  -- an undecided prepare has another name
  other_name : (n : List ℕ) (q : ℕ) → named w.writes.history n ≡ Some q → n ≡ name → ⊥
  other_name n q h same = let f : None ≡ Some q = sym unprepared_one ∙ ap (named w.writes.history) (sym same) ∙ h in absurd cc

  keeps_others : KeepsOthers w name t
  keeps_others = record { names = λ n ne. refl; transactions = txn_still; prepared = λ k n q is h. txn_still k n (other_name n q is) h; directs = direct_held; were = λ k n h. (held_before k (Txn n) h).1 }

  own_owner : IsOwner t (owner_of p)
  own_owner =
      let old = s.locks.had by 0 (owner_of a.participant) (mine owner_of w.actors by a a at refl) in
      record {
        names = λ n x h. let y = had_name w by a name x0 x1 at has n x h in old.names n y.0 y.1;
        keys = each_key w by a name x0 x1 at has (λ n c. finite.get t.keys c ≡ Some (Txn n)) (λ c in_it. let g = was_in x0.locked key c in_it in other_still c (Txn name) g.0 (old.keys name x0 c has g.1)) (λ n x c ne h held. txn_still c n ne (old.keys n x c h held));
        direct = λ c h. direct_held c client (old.direct c h);
      }

  own_came : CameToKeys w.opened w.writes.history after (owner_of p)
  own_came =
      let old = s.locks.came by 0 (owner_of a.participant) (mine owner_of w.actors by a a at refl) in
      let still : (n c : List ℕ) → CameToKey w.opened w.writes.history (participants owner_of w) a.participant.past n c → CameToKey w.opened w.writes.history after p.past n c = λ n c k. came_itself w.actors by a b at refl (λ e h. h) w.opened w.writes.history n c k in
      each_key w by a name x0 x1 at has (λ n c. CameToKey w.opened w.writes.history after p.past n c) (λ c in_it. still name c (old name x0 c has (was_in x0.locked key c in_it).1)) (λ n x c ne h held. still n c (old n x c h held))

  name_still : (n c : List ℕ) → IsNameOf (participants owner_of w) n c → IsNameOf after n c
  name_still n c k = name_kept w.actors by a b at refl refl (λ x k. k) n c (λ y h. has_still w by a name x0 x1 at has n y h) k

  direct_still : (k c : List ℕ) → IsDirectOf (participants owner_of w) k c → IsDirectOf after k c
  direct_still k c d = direct_kept w.actors by a b at refl refl (λ x k. k) k c (λ h. h) d

  keys_known : (k n : List ℕ) → finite.get t.keys k ≡ Some (Txn n) → (j i : ℕ) (o : Owner) → IsParticipantAt after j i o → (x : Transaction) → Has o n x → words.contains x.locked k ≡ true
  keys_known k n h j i o there x there_has =
      let g = held_before k (Txn n) h in
      ⊎_elim
      (λ (c : (j ≡ by) × (i ≡ 0) × (o ≡ owner_of p)). ⊎_elim
      (λ (u : (n ≡ name) × (x1 ≡ x)). subst (λ (z : Transaction). words.contains z.locked k ≡ true) u.1 (still_in x0.locked key k g.0 (s.locks.keys_known k n g.1 by 0 (owner_of a.participant) (mine owner_of w.actors by a a at refl) x0 (ap (finite.get a.participant.transactions) u.0 ∙ has))))
      (λ (u : (n ≡ name → ⊥) × (finite.get a.participant.transactions n ≡ Some x)). s.locks.keys_known k n g.1 by 0 (owner_of a.participant) (mine owner_of w.actors by a a at refl) x u.1)
      (has_now w by a name x0 x1 at has n x (subst (λ (z : Owner). Has z n x) c.2 there_has)))
      (λ (c : IsParticipantAt (participants owner_of w) j i o). s.locks.keys_known k n g.1 j i o c x there_has) (was owner_of w.actors by a b at refl j i o there)

  -- a key of an undecided prepare is of another name
  prepared_keys : (q : ℕ) (k : List ℕ) → is_undecided w.writes.history q ≡ true → is_changed (batch_at w.writes.history q) k ≡ true → finite.get t.keys k ≡ Some (Txn (name_at w.writes.history q))
  prepared_keys q k u h = txn_still k (name_at w.writes.history q) (λ same. none_named w.writes.history name q unprepared_one u same) (s.locks.prepared_keys q k u h)

  locked_part : AreLocked w.opened w.writes.history t after
  locked_part = record {
    prepared_names = s.locks.prepared_names;
    prepared_keys = prepared_keys;
    had = each_apart owner_of w.actors by a b at refl (IsOwner t) own_owner (others_own w by a name x0 at has s t keeps_others);
    came = came_apart w.actors by a b at refl (λ e h. h) w.opened w.writes.history own_came s.locks.came;
    apart = owners_apart w.actors by a b at refl (λ n x h. inl (had_name w by a name x0 x1 at has n x h)) (λ c h. inl h) s.locks.apart;
    names_had = λ n c h. name_still n c (s.locks.names_had n c h);
    names_left = s.locks.names_left;
    keys_live = λ k n h. s.locks.keys_live k n (held_before k (Txn n) h).1;
    keys_known = keys_known;
    keys_direct = λ k c h. direct_still k c (s.locks.keys_direct k c (held_before k (Client c) h).1);
    unchanged = λ k n q is h. s.locks.unchanged k n q is (held_before k (Txn n) h).1;
    beyond = λ k n q is h. beyond_moved w.actors by a b at refl (λ e u. u) w.opened w.writes.history q n k (s.locks.beyond k n q is (held_before k (Txn n) h).1);
  }

  mine_still : (fact : Fact) → not (ends w.writes.history (length w.cache) (free_key name x0 key) fact) ≡ true → SoIn w a.participant fact → SoWith w t p fact
  mine_still (undecided_at n q) left k = (owns_still w by a name x0 x1 at has n k.0, k.1, k.2, λ c h. txn_still c n (other_name n q k.1) (k.3 c h))
  mine_still (prior_values n q batch) left k = (owns_still w by a name x0 x1 at has n k.0, k.1, k.2)
  mine_still (unprepared n) left k = (owns_still w by a name x0 x1 at has n k.0, k.1, unprepared_still w by a name x0 x1 at has (λ c held. inl (was_in x0.locked key c held).1) n k.2)
  mine_still (direct_free c) left k = (k.0, direct_held c client k.1, k.2)
  mine_still (unchanged n c m) left k = (owns_key_still w by a name x0 x1 at has n c (still_in x0.locked key c (two_names key c left)) k.0, k.1, k.2)
  mine_still (locks_stay n q keys) left k = (k.0, λ is. keys_still w.locks.keys t.keys n keys (λ c h. (held_before c (Txn n) h).1) (λ c h. txn_still c n (other_name n q is) h) (k.1 is))
  mine_still fact left k = k

  parts : LocksParts w by a (free_key name x0 key) p t
  parts = record {
    locks_part = locked_part;
    pasts_part = pasts_left w by a (free_key name x0 key) p t at refl refl (λ n live. live) (λ c holder h. (held_before c holder h).1) s;
    mine = mine_still;
    others = others_so w by a name x0 at has s t keeps_others;
  }

pub frees_key : (w : World) (by : ℕ) (a : Actor) (name : List ℕ) (x0 : Transaction) (key : List ℕ) → get_elem? w.actors by ≡ some a → Needs w by a (free_key name x0 key) → IsSound w
    → IsSound (done w by (forgets w.writes.history (length w.cache) (free_key name x0 key) a) (free_key name x0 key))
frees_key w by a name x0 key at needs s = locks_change w by a (free_key name x0 key) (p w by a name x0 key at needs.1 needs.2 needs.3 s) (t w by a name x0 key at needs.1 needs.2 needs.3 s) at needs.0 (parts w by a name x0 key at needs.1 needs.2 needs.3 s) s
