-- A step changes what there is of one transaction: what others have of names and keys, and noted, stays so.
use Rattle.std.proofs.Common.{◌≡◌, ◌≢◌, ◌⊎◌, ⊎_elim, inl, ℕ, List, refl, subst, ◌∙◌, Some}
use mathlib.Core.Option.{some}
use lib.ListN.{get_elem?}
use Rattle.std.specs.FinMap as finite
use Rattle.wp_model.specs.declared.holder.Holder.TheVariants.{Txn, Client}
use Rattle.wp_model.specs.History.{named}
use Rattle.wp_model.specs.LockState.{LockState}
use Rattle.wp_core.specs.Views.{Fact, undecided_at, direct_free, locks_stay}
use Rattle.wp_core.specs.World.{Transaction, Participant, Actor, World}
use Rattle.wp_core.specs.Sound.Actors.{IsParticipantAt}
use Rattle.wp_core.specs.Sound.Locks.{Owner, owner_of, Has, IsOwner}
use Rattle.wp_core.specs.IsSound.{IsSound, participants}
use Rattle.wp_core.proofs.AllParticipants.{mine}
use Rattle.wp_core.proofs.AllParts.{SoIn}
use Rattle.wp_core.proofs.LocksChange.{SoWith, keys_still}

-- the state has of other names, of prepared transactions and of direct writes what there was, and no more
pub record KeepsOthers (w : World) (name : List ℕ) (t : LockState) : Type 0 where
  pub names : (n : List ℕ) → (n ≡ name → ⊥) → finite.get t.names n ≡ finite.get w.locks.names n
  pub transactions : (k n : List ℕ) → (n ≡ name → ⊥) → finite.get w.locks.keys k ≡ Some (Txn n) → finite.get t.keys k ≡ Some (Txn n)
  pub prepared : (k n : List ℕ) (q : ℕ) → named w.writes.history n ≡ Some q → finite.get w.locks.keys k ≡ Some (Txn n) → finite.get t.keys k ≡ Some (Txn n)
  pub directs : (k c : List ℕ) → finite.get w.locks.keys k ≡ Some (Client c) → finite.get t.keys k ≡ Some (Client c)
  pub were : (k n : List ℕ) → finite.get t.keys k ≡ Some (Txn n) → finite.get w.locks.keys k ≡ Some (Txn n)

module _ (w : World) (by : ℕ) (a : Actor) (name : List ℕ) (x0 : Transaction) (at : get_elem? w.actors by ≡ some a) (has : finite.get a.participant.transactions name ≡ Some x0) (s : IsSound w) where
  -- nobody else has the actor's transaction
  pub nobody_else : (j i : ℕ) (o : Owner) (n : List ℕ) (x : Transaction) → ((j ≢ by) ⊎ (i ≢ 0)) → IsParticipantAt (participants owner_of w) j i o → Has o n x → n ≡ name → ⊥
  nobody_else j i o n x elsewhere there h is =
      let same = s.locks.apart.names j i by 0 o (owner_of a.participant) name x x0 there (mine owner_of w.actors by a a at refl) (subst (λ (z : List ℕ). Has o z x) is h) has in
      ⊎_elim (λ (ne : j ≢ by). ne same.0) (λ (ne : i ≢ 0). ne same.1) elsewhere

  module _ (t : LockState) (k : KeepsOthers w name t) where
    pub others_own : (j i : ℕ) (o : Owner) → ((j ≢ by) ⊎ (i ≢ 0)) → IsParticipantAt (participants owner_of w) j i o → IsOwner t o
    others_own j i o elsewhere there =
        let was = s.locks.had j i o there in
        record {
          names = λ n x h. k.names n (nobody_else j i o n x elsewhere there h) ∙ was.names n x h;
          keys = λ n x c h held. k.transactions c n (nobody_else j i o n x elsewhere there h) (was.keys n x c h held);
          direct = λ c h. k.directs c o.client (was.direct c h);
        }

    pub others_so : (j : ℕ) (q : Participant) (fact : Fact) → j ≢ by → IsParticipantAt (participants owner_of w) j 0 (owner_of q) → SoIn w q fact → SoWith w t q fact
    others_so j q (undecided_at n m) away there is = let ne = nobody_else j 0 (owner_of q) n is.0.0 (inl away) there is.0.1 in (is.0, is.1, k.names n ne ∙ is.2, λ c h. k.transactions c n ne (is.3 c h))
    others_so j q (direct_free c) away there is = (is.0, k.directs c q.client is.1, is.2)
    others_so j q (locks_stay n m keys) away there is = (is.0, λ named_is. keys_still w.locks.keys t.keys n keys (λ c h. k.were c n h) (λ c h. k.prepared c n m named_is h) (is.1 named_is))
    others_so j q fact away there is = is
