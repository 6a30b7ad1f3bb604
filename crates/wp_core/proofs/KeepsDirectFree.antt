-- Freeing the key of a direct write keeps every part of a sound world.
use Rattle.std.proofs.Common.{◌≡◌, ◌≢◌, ◌⊎◌, ⊎_elim, inl, ℕ, true, not, true≢false, List, length, refl, sym, ap, ◌∙◌, Some, None}
use mathlib.Core.Option.{some}
use lib.ListN.{get_elem?}
use Rattle.std.specs.FinMap as finite
use Rattle.wp_model.specs.History.{name_at}
use Rattle.wp_model.specs.declared.holder.Holder.{Holder}
use Rattle.wp_model.specs.declared.holder.Holder.TheVariants.{Txn, Client}
use Rattle.wp_model.specs.LockState.{LockState}
use Rattle.wp_core.specs.Views.{Fact, undecided_at, direct_free, locks_stay}
use Rattle.wp_core.specs.World.{Actor, Participant, World}
use Rattle.wp_core.specs.Steps.{free_direct}
use Rattle.wp_core.specs.Changes.{without_key}
use Rattle.wp_core.specs.Effects.{done}
use Rattle.wp_core.specs.Needs.{Needs}
use Rattle.wp_core.specs.Notes.{forgets, ends}
use Rattle.wp_core.specs.Sound.Actors.{IsParticipantAt}
use Rattle.wp_core.specs.Sound.Locks.{Owner, owner_of, IsNameOf, IsDirectOf, IsOwner, AreLocked}
use Rattle.wp_core.specs.Sound.Views.{AreKeysOf}
use Rattle.wp_core.specs.IsSound.{IsSound, participants}
use Rattle.wp_model.proofs.Keyed.{is_word_same, else_removed, still_there}
use Rattle.wp_core.proofs.OwnerMoves.{owners_apart, came_apart, came_itself, beyond_moved, key_known, name_kept, direct_kept}
use Rattle.wp_core.proofs.AllParticipants.{mine, each_apart}
use Rattle.wp_core.proofs.LocksChange.{SoWith, actor_after, owners_after, LocksParts, locks_change, pasts_left, keys_still}
use Rattle.wp_core.proofs.AllParts.{SoIn}

module _ (w : World) (by : ℕ) (a : Actor) (key : List ℕ) (at : get_elem? w.actors by ≡ some a) (has : a.participant.direct ≡ Some key) (s : IsSound w) where
  abbrev client : List ℕ
  client = a.participant.client

  abbrev t : LockState
  t = without_key w.locks key

  abbrev p : Participant
  p = record a.participant { direct = None }

  abbrev b : Actor
  b = actor_after w by a (free_direct key) p t

  abbrev after : List (List Owner)
  after = owners_after w by a (free_direct key) p t

  -- the key was held for the actor's direct write
  was_held : finite.get w.locks.keys key ≡ Some (Client client)
  was_held = (s.locks.had by 0 (owner_of a.participant) (mine owner_of w.actors by a a at refl)).direct key has

  -- a key that is held for a transaction stays held
  txn_still : (k n : List ℕ) → finite.get w.locks.keys k ≡ Some (Txn n) → finite.get t.keys k ≡ Some (Txn n)
  txn_still k n h = ⊎_elim
      (λ (q : k ≡ key). let f : Some (Client client) ≡ Some (Txn n) = sym was_held ∙ ap (finite.get w.locks.keys) (sym q) ∙ h in absurd cc)
      (λ (ne : k ≡ key → ⊥). else_removed w.locks.keys key k ne ∙ h) (is_word_same k key)

  -- what is held was held, and is another key
  held_before : (k : List ℕ) (holder : Holder) → finite.get t.keys k ≡ Some holder → (k ≡ key → ⊥) × (finite.get w.locks.keys k ≡ Some holder)
  held_before k holder h = still_there w.locks.keys key holder k h

  -- another one's direct write is of another key
  not_theirs : (j i : ℕ) (o : Owner) (k : List ℕ) → ((j ≢ by) ⊎ (i ≢ 0)) → IsParticipantAt (participants owner_of w) j i o → o.direct ≡ Some k → k ≡ key → ⊥
  not_theirs j i o k elsewhere there h q =
      let same = s.locks.apart.direct j i by 0 o (owner_of a.participant) key there (mine owner_of w.actors by a a at refl) (h ∙ ap (λ (z : List ℕ). Some z) q) has in
      ⊎_elim (λ (ne : j ≢ by). ne same.0) (λ (ne : i ≢ 0). ne same.1) elsewhere

  other_owner : (j i : ℕ) (o : Owner) → ((j ≢ by) ⊎ (i ≢ 0)) → IsParticipantAt (participants owner_of w) j i o → IsOwner t o
  other_owner j i o elsewhere there =
      let k = s.locks.had j i o there in
      record { names = k.names; keys = λ name x c h held. txn_still c name (k.keys name x c h held); direct = λ c h. else_removed w.locks.keys key c (not_theirs j i o c elsewhere there h) ∙ k.direct c h }

  own_owner : IsOwner t (owner_of p)
  own_owner =
      let old = s.locks.had by 0 (owner_of a.participant) (mine owner_of w.actors by a a at refl) in
      record { names = old.names; keys = λ name x c h held. txn_still c name (old.keys name x c h held); direct = λ c h. absurd cc }

  -- it has no direct write
  had_direct : (c : List ℕ) → p.direct ≡ Some c → a.participant.direct ≡ Some c
  had_direct c h = absurd cc

  name_still : (n c : List ℕ) → IsNameOf (participants owner_of w) n c → IsNameOf after n c
  name_still n c k = name_kept w.actors by a b at refl refl (λ x k. k) n c (λ y h. (y, h)) k

  other_key : (k : List ℕ) → a.participant.direct ≡ Some k → k ≡ key
  other_key k h = let f : Some k ≡ Some key = sym h ∙ has in cc

  direct_still : (k c : List ℕ) → (k ≡ key → ⊥) → IsDirectOf (participants owner_of w) k c → IsDirectOf after k c
  direct_still k c ne d = direct_kept w.actors by a b at refl refl (λ x k. k) k c (λ h. absurd (ne (other_key k h))) d

  locked_part : AreLocked w.opened w.writes.history t after
  locked_part = record {
    prepared_names = s.locks.prepared_names;
    prepared_keys = λ q k u h. txn_still k (name_at w.writes.history q) (s.locks.prepared_keys q k u h);
    had = each_apart owner_of w.actors by a b at refl (IsOwner t) own_owner other_owner;
    came = came_apart w.actors by a b at refl (λ e h. h) w.opened w.writes.history (λ n x c h held. came_itself w.actors by a b at refl (λ e q. q) w.opened w.writes.history n c (s.locks.came by 0 (owner_of a.participant) (mine owner_of w.actors by a a at refl) n x c h held)) s.locks.came;
    apart = owners_apart w.actors by a b at refl (λ n x h. inl (x, h)) (λ c h. inl (had_direct c h)) s.locks.apart;
    names_had = λ n c h. name_still n c (s.locks.names_had n c h);
    names_left = s.locks.names_left;
    keys_live = λ k n h. s.locks.keys_live k n (held_before k (Txn n) h).1;
    keys_known = λ k n h. key_known w.actors by a b at refl (λ m x has. has) k n (s.locks.keys_known k n (held_before k (Txn n) h).1);
    keys_direct = λ k c h. let u = held_before k (Client c) h in direct_still k c u.0 (s.locks.keys_direct k c u.1);
    unchanged = λ k n q is h. s.locks.unchanged k n q is (held_before k (Txn n) h).1;
    beyond = λ k n q is h. beyond_moved w.actors by a b at refl (λ e u. u) w.opened w.writes.history q n k (s.locks.beyond k n q is (held_before k (Txn n) h).1);
  }

  same_keys : (n : List ℕ) (keys : List (List ℕ)) → AreKeysOf w.locks.keys n keys → AreKeysOf t.keys n keys
  same_keys n keys k = keys_still w.locks.keys t.keys n keys (λ c h. (held_before c (Txn n) h).1) (λ c h. txn_still c n h) k

  mine_still : (fact : Fact) → not (ends w.writes.history (length w.cache) (free_direct key) fact) ≡ true → SoIn w a.participant fact → SoWith w t p fact
  mine_still (undecided_at n q) left k = (k.0, k.1, k.2, λ c h. txn_still c n (k.3 c h))
  mine_still (direct_free c) left k = absurd (true≢false (sym left))
  mine_still (locks_stay n q keys) left k = (k.0, λ is. same_keys n keys (k.1 is))
  mine_still fact left k = k

  others_still : (j : ℕ) (q : Participant) (fact : Fact) → j ≢ by → IsParticipantAt (participants owner_of w) j 0 (owner_of q) → SoIn w q fact → SoWith w t q fact
  others_still j q (undecided_at n m) ne there k = (k.0, k.1, k.2, λ c h. txn_still c n (k.3 c h))
  others_still j q (direct_free c) ne there k = (k.0, else_removed w.locks.keys key c (not_theirs j 0 (owner_of q) c (inl ne) there k.0) ∙ k.1, k.2)
  others_still j q (locks_stay n m keys) ne there k = (k.0, λ is. same_keys n keys (k.1 is))
  others_still j q fact ne there k = k

  parts : LocksParts w by a (free_direct key) p t
  parts = record { locks_part = locked_part; pasts_part = pasts_left w by a (free_direct key) p t at refl refl (λ n live. live) (λ c holder h. (held_before c holder h).1) s; mine = mine_still; others = others_still }

pub frees_direct : (w : World) (by : ℕ) (a : Actor) (key : List ℕ) → get_elem? w.actors by ≡ some a → Needs w by a (free_direct key) → IsSound w
    → IsSound (done w by (forgets w.writes.history (length w.cache) (free_direct key) a) (free_direct key))
frees_direct w by a key at needs s = locks_change w by a (free_direct key) (p w by a key at needs.1 s) (t w by a key at needs.1 s) at needs.0 (parts w by a key at needs.1 s) s
