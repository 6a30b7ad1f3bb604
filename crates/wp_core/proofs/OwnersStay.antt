-- Names and keys, where one actor's own participant changed but for what it has of them, and its past grew.
use Rattle.std.proofs.Common.{◌≡◌, ℕ, true, List, [], ◌∷◌, ◌++◌, map, set, refl, sym, subst, ap, ◌∙◌, Some, inl}
use mathlib.Core.Option.{some}
use lib.ListN.{get_elem?}
use Rattle.std.specs.FinSet as set_of
use Rattle.wp_model.specs.Batch.{key_cmp}
use Rattle.wp_model.specs.declared.entry.Entry.{Entry}
use Rattle.wp_model.specs.declared.holder.Holder.TheVariants.{Client}
use Rattle.wp_model.specs.LockState.{LockState}
use Rattle.wp_core.specs.Lists.{IsIn}
use Rattle.wp_core.specs.Views.{Event}
use Rattle.wp_core.specs.World.{Transaction, Actor}
use Rattle.wp_core.specs.Sound.Actors.{participants_of, IsParticipantAt, EachParticipant}
use Rattle.wp_core.specs.Sound.Locks.{Owner, owner_of, Has, IsOwner, CameToKeys, AreLocked}
use Rattle.wp_core.proofs.PastsGrow.{in_front}
use Rattle.wp_core.proofs.OwnerMoves.{owners_apart, came_still, locked_for_still, beyond_moved, name_kept, direct_kept}
use Rattle.wp_core.proofs.AllParticipants.{who_was}

-- the same of names and keys, and a past that grew
pub record IsSameOwner (o p : Owner) : Type 0 where
  pub client : p.client ≡ o.client
  pub had : (name : List ℕ) (x : Transaction) → Has p name x → (y : Transaction) × Has o name y × (y.locked ≡ x.locked)
  pub has : (name : List ℕ) (y : Transaction) → Has o name y → (x : Transaction) × Has p name x × (x.locked ≡ y.locked)
  pub direct : p.direct ≡ o.direct
  pub past : (x : Event) → IsIn x o.past → IsIn x p.past

same_owner : (o : Owner) → IsSameOwner o o
same_owner o = record { client = refl; had = λ name x h. (x, h, refl); has = λ name y h. (y, h, refl); direct = refl; past = λ x k. k }

-- the same transactions, to the batches
pub same_transactions : (o : Owner) (past : List Event) → ((x : Event) → IsIn x o.past → IsIn x past) → IsSameOwner o (record o { past = past })
same_transactions o past grew = record { client = refl; had = λ name x h. (x, h, refl); has = λ name y h. (y, h, refl); direct = refl; past = grew }

module _ (xs : List Actor) (by : ℕ) (a b : Actor) (at : get_elem? xs by ≡ some a) (same : b.joined ≡ a.joined) (is : IsSameOwner (owner_of a.participant) (owner_of b.participant)) where
  abbrev before : List (List Owner)
  before = map (participants_of owner_of) xs

  abbrev after : List (List Owner)
  after = map (participants_of owner_of) (set xs by b)

  owner_still : (t : LockState) (o p : Owner) → IsSameOwner o p → IsOwner t o → IsOwner t p
  owner_still t o p q k = record {
    names = λ name x h. let u = q.had name x h in k.names name u.0 u.1 ∙ ap (λ (c : List ℕ). Some (Some c)) (sym q.client);
    keys = λ name x key h held. let u = q.had name x h in k.keys name u.0 key u.1 (subst (λ (z : set_of.FinSet key_cmp). set_of.contains z key ≡ true) (sym u.2) held);
    direct = λ key h. k.direct key (sym q.direct ∙ h) ∙ ap (λ (c : List ℕ). Some (Client c)) (sym q.client);
  }

  was_there : (j i : ℕ) (p : Owner) → IsParticipantAt after j i p → (o : Owner) × IsParticipantAt before j i o × IsSameOwner o p
  was_there j i p there = who_was owner_of xs by a b at same (λ q o. IsSameOwner o q) same_owner is j i p there

  came_all : (opened history : List Entry) → EachParticipant (CameToKeys opened history before) before → EachParticipant (CameToKeys opened history after) after
  came_all opened history k j i p there name x key h held =
      let o = was_there j i p there in let u = o.2.had name x h in
      came_still opened history before after o.0.past p.past o.2.past name key (λ was. locked_for_still xs by a b at same is.past name key was) (k j i o.0 o.1 name u.0 key u.1 (subst (λ (z : set_of.FinSet key_cmp). set_of.contains z key ≡ true) (sym u.2) held))

  -- a held key that each had under its transaction
  known_still : (key name : List ℕ) → EachParticipant (λ o. (x : Transaction) → Has o name x → set_of.contains x.locked key ≡ true) before → EachParticipant (λ o. (x : Transaction) → Has o name x → set_of.contains x.locked key ≡ true) after
  known_still key name k j i p there x has =
      let o = was_there j i p there in let u = o.2.had name x has in
      subst (λ (z : set_of.FinSet key_cmp). set_of.contains z key ≡ true) u.2 (k j i o.0 o.1 u.0 u.1)

  pub locked_still : (opened history : List Entry) (t : LockState) → AreLocked opened history t before → AreLocked opened history t after
  locked_still opened history t k = record {
    prepared_names = k.prepared_names;
    prepared_keys = k.prepared_keys;
    had = λ j i p there. let o = was_there j i p there in owner_still t o.0 p o.2 (k.had j i o.0 o.1);
    came = came_all opened history k.came;
    apart = owners_apart xs by a b at same (λ name x h. let y = is.had name x h in inl (y.0, y.1)) (λ key h. inl (sym is.direct ∙ h)) k.apart;
    names_had = λ name client h. name_kept xs by a b at same is.client is.past name client (λ y q. let x = is.has name y q in (x.0, x.1)) (k.names_had name client h);
    names_left = k.names_left;
    keys_live = k.keys_live;
    keys_known = λ key name h. known_still key name (k.keys_known key name h);
    keys_direct = λ key client h. direct_kept xs by a b at same is.client is.past key client (λ q. is.direct ∙ q) (k.keys_direct key client h);
    unchanged = k.unchanged;
    beyond = λ key name p q h. beyond_moved xs by a b at same is.past opened history p name key (k.beyond key name p q h);
  }

-- one that has the same of names and keys remembers one event more
pub past_locked : (xs : List Actor) (by : ℕ) (a b : Actor) (e : Event) → get_elem? xs by ≡ some a → b.joined ≡ a.joined → owner_of b.participant ≡ owner_of (record a.participant { past = a.participant.past ++ e ∷ [] }) → (opened history : List Entry) (t : LockState)
    → AreLocked opened history t (map (participants_of owner_of) xs) → AreLocked opened history t (map (participants_of owner_of) (set xs by b))
past_locked xs by a b e at same is opened history t k =
    let grown = same_transactions (owner_of a.participant) (a.participant.past ++ e ∷ []) (λ x there. in_front x a.participant.past (e ∷ []) there) in
    locked_still xs by a b at same (subst (IsSameOwner (owner_of a.participant)) (sym is) grown) opened history t k
