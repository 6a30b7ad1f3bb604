-- Each holder that a seat finds under the locks turn is accounted for.
use Rattle.std.proofs.Common.{◌≡◌, ◌≢◌, ◌⊎◌, inl, inr, ℕ, Bool, true, false, true≢false, ◌&&◌, cond, List, length, refl, sym, ap, ◌∙◌, Option, Some, None, is_some}
use mathlib.Core.Option.{some, some-injective}
use mathlib.Core.Logic.{dite}
use native.Mathlib.Decide.{ℕ_discrete}
use lib.ListN.{get_elem?}
use Rattle.std.specs.FinMap as finite
use Rattle.std.specs.Str.{bytes_eq}
use Rattle.std.proofs.lemmas.Bool.{and_parts}
use Rattle.std.proofs.lemmas.Slice.Eq.{bytes_eq-Decides}
use Rattle.wp_model.specs.declared.holder.Holder.{Holder}
use Rattle.wp_model.specs.declared.holder.Holder.TheVariants.{Txn, Client}
use Rattle.wp_core.specs.Views.{own, another}
use Rattle.wp_core.specs.World.{Transaction, Actor, World}
use Rattle.wp_core.specs.Conditions.{IsHolder, Accounts}
use Rattle.wp_core.specs.Sound.Actors.{IsParticipantAt, participants_of}
use Rattle.wp_core.specs.Sound.Locks.{Owner, owner_of}
use Rattle.wp_core.specs.IsSound.{IsSound, participants}
use Rattle.wp_core.proofs.Frames.{at_map}
use Rattle.wp_model.proofs.Tests.{none_some}
use Rattle.wp_rule.specs.Accounts.{IsHolderIn, is_key, is_self, account_by, account_of}

holder_found : (w : World) (key : Option (List ℕ)) (holder : Holder) → IsHolderIn w.locks key holder → IsHolder w key holder
holder_found w (Some key) holder h = h
holder_found w None holder h = h

same_name : (a b : List ℕ) → Txn a ≡ Txn b → a ≡ b
same_name a b e = cc

no_name : (a b : List ℕ) → Client a ≡ Txn b → ⊥
no_name a b e = absurd cc

key_is : (direct : Option (List ℕ)) (key : List ℕ) → is_key direct key ≡ true → direct ≡ Some key
key_is None key e = absurd cc
key_is (Some other) key e = ap (λ (k : List ℕ). Some k) ((bytes_eq-Decides other key).0 e)

is_its_key : (direct : Option (List ℕ)) (key : List ℕ) → direct ≡ Some key → is_key direct key ≡ true
is_its_key direct key e = ap (λ d. is_key d key) e ∙ (bytes_eq-Decides key key).1 refl

module _ (w : World) (by : ℕ) (a : Actor) (at : get_elem? w.actors by ≡ some a) (s : IsSound w) where
  -- the first participant of the actor is its own
  own_first : (o : Owner) → IsParticipantAt (participants owner_of w) by 0 o → owner_of a.participant ≡ o
  own_first o there =
      let all : participants_of owner_of a ≡ there.0 = some-injective (participants_of owner_of a) there.0 (sym (at_map (participants_of owner_of) w.actors by a at) ∙ there.1) in
      some-injective (owner_of a.participant) o (ap (λ (ps : List Owner). get_elem? ps 0) all ∙ there.2)

  -- one that is not as the actor's own is another
  apart_from : (j i : ℕ) (o : Owner) → IsParticipantAt (participants owner_of w) j i o → (owner_of a.participant ≡ o → ⊥) → (j ≢ by) ⊎ (i ≢ 0)
  apart_from j i o there other = dite (ℕ_discrete j by)
      (λ (e : j ≡ by). inr (λ (z : i ≡ 0). other (own_first o (there.0, ap (λ (n : ℕ). get_elem? (participants owner_of w) n) (sym e) ∙ there.1, ap (λ (n : ℕ). get_elem? there.0 n) (sym z) ∙ there.2))))
      (λ (ne : j ≢ by). inl ne)

  -- ---- a transaction

  abbrev account : Option (List ℕ) → Holder → Type 0
  account key holder = Accounts w by a key holder (account_of a.participant w.locks (length w.writes.history) key holder)

  is_live : (key : Option (List ℕ)) (name : List ℕ) → IsHolderIn w.locks key (Txn name) → is_some (finite.get w.locks.names name) ≡ true
  is_live (Some key) name h = s.locks.keys_live key name h
  is_live None name h = let same : name ≡ h.0 = same_name name h.0 h.1 in ap (λ (n : List ℕ). is_some (finite.get w.locks.names n)) same ∙ h.2

  by_name : (key : Option (List ℕ)) (name : List ℕ) → finite.get a.participant.transactions name ≡ None → (o : Option (Option (List ℕ))) → finite.get w.locks.names name ≡ o → is_some o ≡ true → Accounts w by a key (Txn name) (account_by (length w.writes.history) o)
  by_name key name none None is live = absurd (true≢false (sym live))
  by_name key name none (Some None) is live = (refl, is)
  by_name key name none (Some (Some client)) is live =
      let n = s.locks.names_had name client is in record {
        at = n.at;
        place = n.place;
        participant = n.owner;
        there = n.there;
        apart = apart_from n.at n.place n.owner n.there (λ same. none_some (finite.get a.participant.transactions name) n.transaction none (ap (λ (o : Owner). finite.get o.transactions name) same ∙ n.has));
        is = (n.transaction, n.has);
      }

  by_transaction : (key : Option (List ℕ)) (name : List ℕ) → IsHolderIn w.locks key (Txn name) → (o : Option Transaction) → finite.get a.participant.transactions name ≡ o
      → Accounts w by a key (Txn name) (cond (is_some o) own (account_by (length w.writes.history) (finite.get w.locks.names name)))
  by_transaction key name h (Some x) is = (x, is)
  by_transaction key name h None is = by_name key name is (finite.get w.locks.names name) refl (is_live key name h)

  -- ---- a direct write

  by_client : (key client : List ℕ) → IsHolderIn w.locks (Some key) (Client client) → (b : Bool) → is_self a.participant (Some key) (Client client) ≡ b → Accounts w by a (Some key) (Client client) (cond b own another)
  by_client key client h true is = let p = and_parts (bytes_eq a.participant.client client) (is_key a.participant.direct key) is in ((bytes_eq-Decides a.participant.client client).0 p.0, key_is a.participant.direct key p.1)
  by_client key client h false is =
      let d = s.locks.keys_direct key client h in record {
        at = d.at;
        place = d.place;
        participant = d.owner;
        there = d.there;
        apart = apart_from d.at d.place d.owner d.there (λ same.
            let mine : a.participant.client ≡ client = ap (λ (o : Owner). o.client) same ∙ d.client_is in
            let direct : a.participant.direct ≡ Some key = ap (λ (o : Owner). o.direct) same ∙ d.has in
            let yes : is_self a.participant (Some key) (Client client) ≡ true = λ i. (bytes_eq-Decides a.participant.client client).1 mine i && is_its_key a.participant.direct key direct i in
            true≢false (sym yes ∙ is));
        is = (d.client_is, d.has);
      }

  pub accounted : (key : Option (List ℕ)) (holder : Holder) → IsHolderIn w.locks key holder → IsHolder w key holder × account key holder
  accounted key (Txn name) h = (holder_found w key (Txn name) h, by_transaction key name h (finite.get a.participant.transactions name) refl)
  accounted (Some key) (Client client) h = (h, by_client key client h (is_self a.participant (Some key) (Client client)) refl)
  accounted None (Client client) h = absurd (no_name client h.0 h.1)
