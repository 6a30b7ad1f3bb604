-- Locking the key of a direct write keeps every part of a sound world.
use Rattle.std.proofs.Common.{◌≡◌, ⊎_elim, inl, inr, ℕ, List, [], ◌∷◌, ◌++◌, length, refl, sym, subst, ap, ◌∙◌, Some, None}
use mathlib.Core.Option.{some}
use lib.ListN.{get_elem?}
use Rattle.std.specs.FinMap as finite
use Rattle.wp_model.specs.History.{name_at, named}
use Rattle.wp_model.specs.declared.holder.Holder.TheVariants.{Txn, Client}
use Rattle.wp_model.specs.LockState.{LockState}
use Rattle.wp_core.specs.Lists.{IsIn}
use Rattle.wp_core.specs.Views.{Event, locked, Fact, undecided_at, direct_free, locks_stay}
use Rattle.wp_core.specs.World.{Actor, Participant, World}
use Rattle.wp_core.specs.Steps.{lock_direct}
use Rattle.wp_core.specs.Changes.{with_key}
use Rattle.wp_core.specs.Effects.{done}
use Rattle.wp_core.specs.Needs.{Needs}
use Rattle.wp_core.specs.Notes.{forgets}
use Rattle.wp_core.specs.Sound.Actors.{IsParticipantAt}
use Rattle.wp_core.specs.Sound.Locks.{Owner, owner_of, IsNameOf, IsDirectOf, IsOwner, AreLocked}
use Rattle.wp_core.specs.IsSound.{IsSound, participants}
use Rattle.wp_model.proofs.Keyed.{at_inserted}
use Rattle.wp_core.proofs.OwnerMoves.{owners_apart, came_apart, came_itself, beyond_moved, key_known, name_kept, direct_kept}
use Rattle.wp_core.proofs.AllParticipants.{mine, mine_now, each_apart}
use Rattle.wp_core.proofs.PastsGrow.{in_front, in_last}
use Rattle.wp_core.proofs.LocksChange.{SoWith, actor_after, owners_after, LocksParts, locks_change}
use Rattle.wp_core.proofs.AllParts.{SoIn}
use Rattle.wp_core.proofs.KeyLocked.{held_still, held_now, owner_locked, keys_locked, so_locked, pasts_locked}
use Rattle.wp_model.proofs.Tests.{same_some}

module _ (w : World) (by : ℕ) (a : Actor) (key : List ℕ) (at : get_elem? w.actors by ≡ some a) (no_direct : a.participant.direct ≡ None) (free : finite.get w.locks.keys key ≡ None) (s : IsSound w) where
  abbrev client : List ℕ
  client = a.participant.client

  abbrev e : Event
  e = locked key (Client client)

  abbrev t : LockState
  t = with_key w.locks key (Client client)

  abbrev p : Participant
  p = record a.participant { direct = Some key; past = a.participant.past ++ e ∷ [] }

  abbrev b : Actor
  b = actor_after w by a (lock_direct key) p t

  abbrev after : List (List Owner)
  after = owners_after w by a (lock_direct key) p t

  own_after : IsParticipantAt after by 0 (owner_of p)
  own_after = mine_now owner_of w.actors by a b at refl

  own_owner : IsOwner t (owner_of p)
  own_owner =
      let old = s.locks.had by 0 (owner_of a.participant) (mine owner_of w.actors by a a at refl) in
      record { names = old.names; keys = λ name x c h held. held_still w key (Client client) free c (Txn name) (old.keys name x c h held); direct = λ c h. let same : key ≡ c = cc in at_inserted w.locks.keys key (Client client) c (sym same) }

  none_had : (j i : ℕ) (o : Owner) (k : List ℕ) → IsParticipantAt (participants owner_of w) j i o → o.direct ≡ Some k → k ≡ key → ⊥
  none_had j i o k there h q = let f : None ≡ Some (Client o.client) = sym free ∙ ap (finite.get w.locks.keys) (sym q) ∙ (s.locks.had j i o there).direct k h in absurd cc

  -- its direct write is one that nobody had
  is_new : (k : List ℕ) → p.direct ≡ Some k → (j i : ℕ) (o : Owner) → IsParticipantAt (participants owner_of w) j i o → o.direct ≡ Some k → ⊥
  is_new k h j i o there has = none_had j i o k there has (sym (same_some key k h))

  name_still : (n c : List ℕ) → IsNameOf (participants owner_of w) n c → IsNameOf after n c
  name_still n c k = name_kept w.actors by a b at refl refl (λ x k. in_front x a.participant.past (e ∷ []) k) n c (λ y h. (y, h)) k

  direct_still : (k c : List ℕ) → IsDirectOf (participants owner_of w) k c → IsDirectOf after k c
  direct_still k c d = direct_kept w.actors by a b at refl refl (λ x k. in_front x a.participant.past (e ∷ []) k) k c (λ h. let f : None ≡ Some k = sym no_direct ∙ h in absurd cc) d

  direct_held : (k c : List ℕ) → finite.get t.keys k ≡ Some (Client c) → IsDirectOf after k c
  direct_held k c h = ⊎_elim
      (λ (g : (k ≡ key) × (Client client ≡ Client c)).
      let same : client ≡ c = let f = g.1 in cc in
      record { at = by; place = 0; owner = owner_of p; there = own_after; client_is = same; has = ap (λ (z : List ℕ). Some z) (sym g.0); began = subst (λ (z : List ℕ). IsIn (locked k (Client z)) p.past) same (subst (λ (z : List ℕ). IsIn (locked z (Client client)) p.past) (sym g.0) (in_last e a.participant.past)) })
      (λ (g : (k ≡ key → ⊥) × (finite.get w.locks.keys k ≡ Some (Client c))). direct_still k c (s.locks.keys_direct k c g.1)) (held_now w key (Client client) free k (Client c) h)

  txn_held : (k n : List ℕ) → finite.get t.keys k ≡ Some (Txn n) → finite.get w.locks.keys k ≡ Some (Txn n)
  txn_held k n h = ⊎_elim (λ (g : (k ≡ key) × (Client client ≡ Txn n)). let f = g.1 in absurd cc) (λ (g : (k ≡ key → ⊥) × (finite.get w.locks.keys k ≡ Some (Txn n))). g.1) (held_now w key (Client client) free k (Txn n) h)

  grows : (x : Event) → IsIn x a.participant.past → IsIn x p.past
  grows x k = in_front x a.participant.past (e ∷ []) k

  locked_part : AreLocked w.opened w.writes.history t after
  locked_part = record {
    prepared_names = s.locks.prepared_names;
    prepared_keys = λ q k u h. held_still w key (Client client) free k (Txn (name_at w.writes.history q)) (s.locks.prepared_keys q k u h);
    had = each_apart owner_of w.actors by a b at refl (IsOwner t) own_owner (λ j i o elsewhere there. owner_locked w key (Client client) free o (s.locks.had j i o there));
    came = came_apart w.actors by a b at refl grows w.opened w.writes.history (λ n x c h held. came_itself w.actors by a b at refl grows w.opened w.writes.history n c (s.locks.came by 0 (owner_of a.participant) (mine owner_of w.actors by a a at refl) n x c h held)) s.locks.came;
    apart = owners_apart w.actors by a b at refl (λ n x h. inl (x, h)) (λ c h. inr (is_new c h)) s.locks.apart;
    names_had = λ n c h. name_still n c (s.locks.names_had n c h);
    names_left = s.locks.names_left;
    keys_live = λ k n h. s.locks.keys_live k n (txn_held k n h);
    keys_known = λ k n h. key_known w.actors by a b at refl (λ m x has. has) k n (s.locks.keys_known k n (txn_held k n h));
    keys_direct = direct_held;
    unchanged = λ k n q is h. s.locks.unchanged k n q is (txn_held k n h);
    beyond = λ k n q is h. beyond_moved w.actors by a b at refl grows w.opened w.writes.history q n k (s.locks.beyond k n q is (txn_held k n h));
  }

  -- a client is no transaction
  other : (n : List ℕ) (q : ℕ) → named w.writes.history n ≡ Some q → Client client ≡ Txn n → ⊥
  other n q is e = absurd cc

  mine_still : (fact : Fact) → SoIn w a.participant fact → SoWith w t p fact
  mine_still (undecided_at n q) k = (k.0, k.1, k.2, λ c h. held_still w key (Client client) free c (Txn n) (k.3 c h))
  mine_still (direct_free c) k = let f : None ≡ Some c = sym no_direct ∙ k.0 in absurd cc
  mine_still (locks_stay n q keys) k = (k.0, λ is. keys_locked w key (Client client) free other n q keys is (k.1 is))
  mine_still fact k = k

  parts : LocksParts w by a (lock_direct key) p t
  parts = record {
    locks_part = locked_part;
    pasts_part = pasts_locked w key (Client client) free by a (lock_direct key) p at refl s;
    mine = λ fact left k. mine_still fact k;
    others = λ j q fact ne there k. so_locked w key (Client client) free other q fact k;
  }

pub locks_direct : (w : World) (by : ℕ) (a : Actor) (key : List ℕ) → get_elem? w.actors by ≡ some a → Needs w by a (lock_direct key) → IsSound w
    → IsSound (done w by (forgets w.writes.history (length w.cache) (lock_direct key) a) (lock_direct key))
locks_direct w by a key at needs s = locks_change w by a (lock_direct key) (p w by a key at needs.1 needs.2 s) (t w by a key at needs.1 needs.2 s) at needs.0 (parts w by a key at needs.1 needs.2 s) s
