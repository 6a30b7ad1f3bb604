-- Freeing a transaction, its name and its keys, keeps every part of a sound world.
use Rattle.std.proofs.Common.{◌≡◌, not, ⊎_elim, ℕ, Bool, true, false, cond, true≢false, List, length, refl, sym, ap, ◌∙◌, Option, Some, None, is_some}
use mathlib.Core.Option.{some}
use lib.ListN.{get_elem?}
use Rattle.std.specs.Str.{bytes_eq}
use Rattle.std.specs.Option.{option_map_or}
use Rattle.std.specs.FinMap as finite
use Rattle.std.specs.FinMap.{get-retain_keys}
use Rattle.std.proofs.lemmas.Map.Lookups.{exact_bytes}
use Rattle.std.proofs.lemmas.Slice.Eq.{bytes_eq-Decides}
use Rattle.wp_model.specs.History.{name_at, named}
use Rattle.wp_model.specs.Holder.{is_same}
use Rattle.wp_model.specs.declared.holder.Holder.{Holder}
use Rattle.wp_model.specs.declared.holder.Holder.TheVariants.{Txn, Client}
use Rattle.wp_model.specs.LockState.{LockState}
use Rattle.wp_core.specs.World.{Transaction, Actor, World}
use Rattle.wp_core.specs.Steps.{free_transaction}
use Rattle.wp_core.specs.Changes.{is_held_by, without_transaction}
use Rattle.wp_core.specs.Effects.{done}
use Rattle.wp_core.specs.Needs.{Needs}
use Rattle.wp_core.specs.Notes.{forgets}
use Rattle.wp_core.specs.IsSound.{IsSound}
use Rattle.wp_model.proofs.Keyed.{is_word_same, at_removed, else_removed}
use Rattle.wp_model.proofs.Tests.{none_some}
use Rattle.wp_history_laws.proofs.Named.{none_named}
use Rattle.wp_core.proofs.LocksChange.{locks_change}
use Rattle.wp_core.proofs.DropsTransaction.{Drops, p, dropped_parts}
use Rattle.wp_core.proofs.KeepsNameLeft.{two_names}

other_test : (name n : List ℕ) → (n ≡ name → ⊥) → (b : Bool) → bytes_eq name n ≡ b → b ≡ false
other_test name n ne true e = absurd (ne (sym ((bytes_eq-Decides name n).0 e)))
other_test name n ne false e = refl

module _ (w : World) (by : ℕ) (a : Actor) (name : List ℕ) (x0 : Transaction) (at : get_elem? w.actors by ≡ some a) (has : finite.get a.participant.transactions name ≡ Some x0) (unprepared : named w.writes.history name ≡ None) (s : IsSound w) where
  abbrev t : LockState
  t = without_transaction w.locks name

  abbrev held : List ℕ → Bool
  held k = is_held_by w.locks (Txn name) k

  kept_or_gone : (k : List ℕ) → finite.get t.keys k ≡ cond (not (held k)) (finite.get w.locks.keys k) None
  kept_or_gone k = get-retain_keys w.locks.keys (λ key. not (held key)) k (λ x e. ap (λ (z : List ℕ). not (held z)) (sym (exact_bytes k x e)))

  -- a key that is not held for it stays as it is
  stays : (k : List ℕ) → held k ≡ false → finite.get t.keys k ≡ finite.get w.locks.keys k
  stays k h = kept_or_gone k ∙ ap (λ (b : Bool). cond (not b) (finite.get w.locks.keys k) None) h

  -- one that is held now was not held for it
  not_for_it : (k : List ℕ) (holder : Holder) → finite.get t.keys k ≡ Some holder → (b : Bool) → held k ≡ b → b ≡ false
  not_for_it k holder h true e = let f : None ≡ Some holder = sym (ap (λ (b : Bool). cond (not b) (finite.get w.locks.keys k) None) e) ∙ sym (kept_or_gone k) ∙ h in absurd cc
  not_for_it k holder h false e = refl

  were : (k : List ℕ) (holder : Holder) → finite.get t.keys k ≡ Some holder → finite.get w.locks.keys k ≡ Some holder
  were k holder h = sym (stays k (not_held k holder h)) ∙ h
    where
      not_held : (q : List ℕ) (o : Holder) → finite.get t.keys q ≡ Some o → held q ≡ false
      not_held q o g = not_for_it q o g (held q) refl

  transactions : (k n : List ℕ) → (n ≡ name → ⊥) → finite.get w.locks.keys k ≡ Some (Txn n) → finite.get t.keys k ≡ Some (Txn n)
  transactions k n ne h = stays k (ap (λ (o : Option Holder). option_map_or (is_same (Txn name)) o false) h ∙ other_test name n ne (bytes_eq name n) refl) ∙ h

  directs : (k c : List ℕ) → finite.get w.locks.keys k ≡ Some (Client c) → finite.get t.keys k ≡ Some (Client c)
  directs k c h = stays k (ap (λ (o : Option Holder). option_map_or (is_same (Txn name)) o false) h) ∙ h

  -- a key is held for another one
  for_another : (k n : List ℕ) → finite.get t.keys k ≡ Some (Txn n) → n ≡ name → ⊥
  for_another k n h same =
      let one : held k ≡ true = ap (λ (o : Option Holder). option_map_or (is_same (Txn name)) o false) (were k (Txn n) h) ∙ (bytes_eq-Decides name n).1 (sym same) in
      true≢false (sym one ∙ not_for_it k (Txn n) h (held k) refl)

  live_were : (n : List ℕ) → is_some (finite.get t.names n) ≡ true → is_some (finite.get w.locks.names n) ≡ true
  live_were n live = ⊎_elim
      (λ (q : n ≡ name). absurd (true≢false (sym live ∙ ap is_some (at_removed w.locks.names name n q))))
      (λ (ne : n ≡ name → ⊥). ap is_some (sym (else_removed w.locks.names name n ne)) ∙ live) (is_word_same n name)

  freed_one : Drops w name t (free_transaction name)
  freed_one = record {
    labels = refl;
    others = record { names = λ n ne. else_removed w.locks.names name n ne; transactions = transactions; prepared = λ k n q is h. transactions k n (λ same. none_some (named w.writes.history name) q unprepared (ap (named w.writes.history) (sym same) ∙ is)) h; directs = directs; were = λ k n h. were k (Txn n) h };
    nobody = λ c h. let f : None ≡ Some (Some c) = sym (at_removed w.locks.names name name refl) ∙ h in absurd cc;
    left = λ h. let f : None ≡ Some None = sym (at_removed w.locks.names name name refl) ∙ h in absurd cc;
    directs_were = λ k c h. were k (Client c) h;
    prepared_names = λ q u. ap is_some (else_removed w.locks.names name (name_at w.writes.history q) (λ same. none_named w.writes.history name q unprepared u same)) ∙ s.locks.prepared_names q u;
    prepared_keys = λ q k u h. transactions k (name_at w.writes.history q) (λ same. none_named w.writes.history name q unprepared u same) (s.locks.prepared_keys q k u h);
    live = λ k n h. ap is_some (else_removed w.locks.names name n (for_another k n h)) ∙ s.locks.keys_live k n (were k (Txn n) h);
    live_were = live_were;
    ended = λ n h. two_names name n h;
  }

pub frees_transaction : (w : World) (by : ℕ) (a : Actor) (name : List ℕ) → get_elem? w.actors by ≡ some a → Needs w by a (free_transaction name) → IsSound w
    → IsSound (done w by (forgets w.writes.history (length w.cache) (free_transaction name) a) (free_transaction name))
frees_transaction w by a name at needs s =
    let d = freed_one w by a name needs.1.0 at needs.1.1 needs.2 s in
    locks_change w by a (free_transaction name) (p w by a name needs.1.0 (without_transaction w.locks name) (free_transaction name) at needs.1.1 d s) (without_transaction w.locks name) at needs.0
    (dropped_parts w by a name needs.1.0 (without_transaction w.locks name) (free_transaction name) at needs.1.1 d s) s
