-- A step that takes a transaction from the actor that has it, with its name left or gone, keeps a world sound.
use Rattle.std.proofs.Common.{◌≡◌, not, ⊎_elim, inl, ℕ, true, List, length, refl, sym, ap, ◌∙◌, Some, None, is_some}
use mathlib.Core.Option.{some}
use lib.ListN.{get_elem?}
use Rattle.std.specs.FinMap as finite
use Rattle.wp_model.specs.History.{is_undecided, is_changed, name_at, batch_at, named}
use Rattle.wp_model.specs.declared.holder.Holder.{Holder}
use Rattle.wp_model.specs.declared.holder.Holder.TheVariants.{Txn, Client}
use Rattle.wp_model.specs.LockState.{LockState}
use Rattle.wp_core.specs.Views.{Fact, undecided_at, prior_values, unprepared, direct_free, unchanged, locks_stay}
use Rattle.wp_core.specs.World.{Transaction, Actor, Participant, World}
use Rattle.wp_core.specs.Steps.{Step}
use Rattle.wp_core.specs.Notes.{ends, ends_transaction}
use Rattle.wp_core.specs.Sound.Locks.{Owner, owner_of, IsNameOf, IsDirectOf, IsOwner, AreLocked}
use Rattle.wp_core.specs.Sound.Views.{Owns}
use Rattle.wp_core.specs.IsSound.{IsSound, participants}
use Rattle.wp_model.proofs.Keyed.{is_word_same, else_removed, still_there}
use Rattle.wp_model.proofs.Tests.{neither}
use Rattle.wp_core.proofs.OwnerMoves.{owners_apart, came_apart, came_itself, beyond_moved, key_known, name_kept, direct_kept}
use Rattle.wp_core.proofs.AllParticipants.{mine, each_apart}
use Rattle.wp_core.proofs.LocksChange.{SoWith, actor_after, owners_after, LocksParts, pasts_left, keys_still}
use Rattle.wp_core.proofs.AllParts.{SoIn}
use Rattle.wp_core.proofs.OtherOwners.{KeepsOthers, others_own, others_so}

-- what of names and keys a step leaves that drops a transaction
pub record Drops (w : World) (name : List ℕ) (t : LockState) (step : Step) : Type 0 where
  pub labels : t.labels ≡ w.locks.labels
  pub others : KeepsOthers w name t
  pub nobody : (c : List ℕ) → finite.get t.names name ≡ Some (Some c) → ⊥
  pub left : finite.get t.names name ≡ Some None → is_some (named w.writes.history name) ≡ true
  pub directs_were : (k c : List ℕ) → finite.get t.keys k ≡ Some (Client c) → finite.get w.locks.keys k ≡ Some (Client c)
  pub prepared_names : (q : ℕ) → is_undecided w.writes.history q ≡ true → is_some (finite.get t.names (name_at w.writes.history q)) ≡ true
  pub prepared_keys : (q : ℕ) (k : List ℕ) → is_undecided w.writes.history q ≡ true → is_changed (batch_at w.writes.history q) k ≡ true → finite.get t.keys k ≡ Some (Txn (name_at w.writes.history q))
  pub live : (k n : List ℕ) → finite.get t.keys k ≡ Some (Txn n) → is_some (finite.get t.names n) ≡ true
  pub live_were : (n : List ℕ) → is_some (finite.get t.names n) ≡ true → is_some (finite.get w.locks.names n) ≡ true
  pub ended : (n : List ℕ) → not (ends_transaction w.writes.history n step) ≡ true → n ≡ name → ⊥

module _ (w : World) (by : ℕ) (a : Actor) (name : List ℕ) (x0 : Transaction) (t : LockState) (step : Step) (at : get_elem? w.actors by ≡ some a) (has : finite.get a.participant.transactions name ≡ Some x0) (d : Drops w name t step) (s : IsSound w) where
  abbrev pub p : Participant
  p = record a.participant { transactions = finite.remove a.participant.transactions name }

  abbrev b : Actor
  b = actor_after w by a step p t

  abbrev after : List (List Owner)
  after = owners_after w by a step p t

  -- what the actor has now it had, under another name
  had_name : (n : List ℕ) (x : Transaction) → finite.get p.transactions n ≡ Some x → (n ≡ name → ⊥) × (finite.get a.participant.transactions n ≡ Some x)
  had_name n x h = still_there a.participant.transactions name x n h

  has_still : (n : List ℕ) (y : Transaction) → (n ≡ name → ⊥) → finite.get a.participant.transactions n ≡ Some y → finite.get p.transactions n ≡ Some y
  has_still n y ne h = else_removed a.participant.transactions name n ne ∙ h

  own_owner : IsOwner t (owner_of p)
  own_owner =
      let old = s.locks.had by 0 (owner_of a.participant) (mine owner_of w.actors by a a at refl) in
      record {
        names = λ n x h. let g = had_name n x h in d.others.names n g.0 ∙ old.names n x g.1;
        keys = λ n x c h held. let g = had_name n x h in d.others.transactions c n g.0 (old.keys n x c g.1 held);
        direct = λ c h. d.others.directs c a.participant.client (old.direct c h);
      }

  name_still : (n c : List ℕ) → (n ≡ name → ⊥) → IsNameOf (participants owner_of w) n c → IsNameOf after n c
  name_still n c ne k = name_kept w.actors by a b at refl refl (λ x k. k) n c (λ y h. (y, has_still n y ne h)) k

  direct_still : (k c : List ℕ) → IsDirectOf (participants owner_of w) k c → IsDirectOf after k c
  direct_still k c d = direct_kept w.actors by a b at refl refl (λ x k. k) k c (λ h. h) d

  names_had : (n c : List ℕ) → finite.get t.names n ≡ Some (Some c) → IsNameOf after n c
  names_had n c h = ⊎_elim
      (λ (q : n ≡ name). absurd (d.nobody c (ap (finite.get t.names) (sym q) ∙ h)))
      (λ (ne : n ≡ name → ⊥). name_still n c ne (s.locks.names_had n c (sym (d.others.names n ne) ∙ h))) (is_word_same n name)

  names_left : (n : List ℕ) → finite.get t.names n ≡ Some None → is_some (named w.writes.history n) ≡ true
  names_left n h = ⊎_elim
      (λ (q : n ≡ name). ap (λ (z : List ℕ). is_some (named w.writes.history z)) q ∙ d.left (ap (finite.get t.names) (sym q) ∙ h))
      (λ (ne : n ≡ name → ⊥). s.locks.names_left n (sym (d.others.names n ne) ∙ h)) (is_word_same n name)

  locked_part : AreLocked w.opened w.writes.history t after
  locked_part = record {
    prepared_names = d.prepared_names;
    prepared_keys = d.prepared_keys;
    had = each_apart owner_of w.actors by a b at refl (IsOwner t) own_owner (others_own w by a name x0 at has s t d.others);
    came = came_apart w.actors by a b at refl (λ e h. h) w.opened w.writes.history (λ n x c h held. came_itself w.actors by a b at refl (λ e q. q) w.opened w.writes.history n c (s.locks.came by 0 (owner_of a.participant) (mine owner_of w.actors by a a at refl) n x c (had_name n x h).1 held)) s.locks.came;
    apart = owners_apart w.actors by a b at refl (λ n x h. inl (x, (had_name n x h).1)) (λ c h. inl h) s.locks.apart;
    names_had = names_had;
    names_left = names_left;
    keys_live = d.live;
    keys_known = λ k n h. key_known w.actors by a b at refl (λ m x has_it. (had_name m x has_it).1) k n (s.locks.keys_known k n (d.others.were k n h));
    keys_direct = λ k c h. direct_still k c (s.locks.keys_direct k c (d.directs_were k c h));
    unchanged = λ k n q is h. s.locks.unchanged k n q is (d.others.were k n h);
    beyond = λ k n q is h. beyond_moved w.actors by a b at refl (λ e u. u) w.opened w.writes.history q n k (s.locks.beyond k n q is (d.others.were k n h));
  }

  owns_still : (n : List ℕ) → (n ≡ name → ⊥) → Owns a.participant n → Owns p n
  owns_still n ne k = (k.0, has_still n k.0 ne k.1)

  mine_still : (fact : Fact) → not (ends w.writes.history (length w.cache) step fact) ≡ true → SoIn w a.participant fact → SoWith w t p fact
  mine_still (undecided_at n q) left k = let ne = d.ended n left in (owns_still n ne k.0, k.1, d.others.names n ne ∙ k.2, λ c h. d.others.transactions c n ne (k.3 c h))
  mine_still (prior_values n q batch) left k = (owns_still n (d.ended n left) k.0, k.1, k.2)
  mine_still (unprepared n) left k = (owns_still n (d.ended n left) k.0, k.1, λ x c h. k.2 x c (had_name n x h).1)
  mine_still (direct_free c) left k = (k.0, d.others.directs c a.participant.client k.1, k.2)
  mine_still (unchanged n c m) left k = ((k.0.0, has_still n k.0.0 (d.ended n (neither _ _ left).0) k.0.1, k.0.2), k.1, k.2)
  mine_still (locks_stay n q keys) left k = (k.0, λ is. keys_still w.locks.keys t.keys n keys (λ c h. d.others.were c n h) (λ c h. d.others.prepared c n q is h) (k.1 is))
  mine_still fact left k = k

  were : (k : List ℕ) (holder : Holder) → finite.get t.keys k ≡ Some holder → finite.get w.locks.keys k ≡ Some holder
  were k (Txn n) h = d.others.were k n h
  were k (Client c) h = d.directs_were k c h

  pub dropped_parts : LocksParts w by a step p t
  dropped_parts = record { locks_part = locked_part; pasts_part = pasts_left w by a step p t at refl d.labels d.live_were were s; mine = mine_still; others = others_so w by a name x0 at has s t d.others }
