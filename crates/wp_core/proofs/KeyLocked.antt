-- A key that was free is locked, for a transaction or as a direct write's: what is held, noted and past.
use Rattle.std.proofs.Common.{◌≡◌, ◌⊎◌, inl, inr, ℕ, List, [], ◌∷◌, ◌++◌, refl, sym, Some, None, ⊎_elim}
use mathlib.Core.Option.{some}
use lib.ListN.{get_elem?}
use Rattle.std.specs.FinMap as finite
use Rattle.wp_model.specs.declared.holder.Holder.{Holder}
use Rattle.wp_model.specs.declared.holder.Holder.TheVariants.{Txn, Client}
use Rattle.wp_model.specs.History.{named}
use Rattle.wp_model.specs.LockState.{LockState}
use Rattle.wp_core.specs.Views.{Fact, locked, undecided_at, direct_free, locks_stay}
use Rattle.wp_core.specs.World.{Participant, Actor, World}
use Rattle.wp_core.specs.Steps.{Step}
use Rattle.wp_core.specs.Changes.{with_key}
use Rattle.wp_core.specs.Sound.Locks.{Owner, IsOwner}
use Rattle.wp_core.specs.Sound.Views.{AreKeysOf}
use Rattle.wp_core.specs.IsSound.{IsSound}
use Rattle.wp_model.proofs.Keyed.{now_inserted, inserted_still}
use Rattle.wp_core.proofs.AllParts.{PastParts, SoIn}
use Rattle.wp_core.proofs.LocksChange.{SoWith, actors_after, pasts_grown, board_grown, keys_still}

module _ (w : World) (key : List ℕ) (holder : Holder) (free : finite.get w.locks.keys key ≡ None) where
  abbrev t : LockState
  t = with_key w.locks key holder

  -- what is held stays held
  pub held_still : (k : List ℕ) (h : Holder) → finite.get w.locks.keys k ≡ Some h → finite.get t.keys k ≡ Some h
  held_still k h is = inserted_still w.locks.keys key free holder h k is

  -- what is held now: the key, or what was
  pub held_now : (k : List ℕ) (h : Holder) → finite.get t.keys k ≡ Some h → ((k ≡ key) × (holder ≡ h)) ⊎ ((k ≡ key → ⊥) × (finite.get w.locks.keys k ≡ Some h))
  held_now k h is = now_inserted w.locks.keys key holder h k is

  pub owner_locked : (o : Owner) → IsOwner w.locks o → IsOwner t o
  owner_locked o k = record { names = k.names; keys = λ n x c h is. held_still c (Txn n) (k.keys n x c h is); direct = λ c h. held_still c (Client o.client) (k.direct c h) }

  -- the holder is no prepared transaction
  module _ (other : (n : List ℕ) (m : ℕ) → named w.writes.history n ≡ Some m → holder ≡ Txn n → ⊥) where
    pub keys_locked : (n : List ℕ) (m : ℕ) (keys : List (List ℕ)) → named w.writes.history n ≡ Some m → AreKeysOf w.locks.keys n keys → AreKeysOf t.keys n keys
    keys_locked n m keys is k =
        keys_still w.locks.keys t.keys n keys
        (λ c h. ⊎_elim (λ (g : (c ≡ key) × (holder ≡ Txn n)). absurd (other n m is g.1)) (λ (g : (c ≡ key → ⊥) × (finite.get w.locks.keys c ≡ Some (Txn n))). g.1) (held_now c (Txn n) h))
        (λ c h. held_still c (Txn n) h) k

    pub so_locked : (q : Participant) (fact : Fact) → SoIn w q fact → SoWith w t q fact
    so_locked q (undecided_at n m) k = (k.0, k.1, k.2, λ c h. held_still c (Txn n) (k.3 c h))
    so_locked q (direct_free c) k = (k.0, held_still c (Client q.client) k.1, k.2)
    so_locked q (locks_stay n m keys) k = (k.0, λ is. keys_locked n m keys is (k.1 is))
    so_locked q fact k = k

  pub pasts_locked : (by : ℕ) (a : Actor) (step : Step) (p : Participant) → get_elem? w.actors by ≡ some a → p.past ≡ a.participant.past ++ locked key holder ∷ [] → IsSound w → PastParts w.opened w.writes t w.first_edit w.installed (actors_after w by a step p t)
  pasts_locked by a step p at grown s =
      pasts_grown w by a step p t at (locked key holder) grown (record { log = refl; tables = refl; due = λ n. refl; last = λ n. refl }) tt (λ n live. inr live)
      (λ k h is. ⊎_elim
      (λ (g : (k ≡ key) × (holder ≡ h)). inl (λ i. locked (sym g.0 i) (g.1 i)))
      (λ (g : (k ≡ key → ⊥) × (finite.get w.locks.keys k ≡ Some h)). inr g.1) (held_now k h is))
      (board_grown w by a step p t at (locked key holder) grown tt refl s) s
