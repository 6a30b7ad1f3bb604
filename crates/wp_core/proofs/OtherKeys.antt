-- A transaction of an actor has other keys than it had: what the actor has now, and what that leaves of who has what.
use Rattle.std.proofs.Common.{◌≡◌, ◌⊎◌, ⊎_elim, ℕ, true, List, refl, sym, subst, ap, ◌∙◌, Some, None}
use mathlib.Core.Option.{some}
use lib.ListN.{get_elem?}
use Rattle.std.specs.FinMap as finite
use Rattle.std.specs.FinSet as words
use Rattle.wp_model.specs.History.{holder_of}
use Rattle.wp_core.specs.World.{Transaction, Participant, Actor, World}
use Rattle.wp_core.specs.Sound.Views.{Owns, OwnsKey}
use Rattle.wp_model.proofs.Keyed.{is_word_same, at_inserted, else_inserted, now_inserted}
use Rattle.wp_model.proofs.Tests.{same_some}

module _ (w : World) (by : ℕ) (a : Actor) (name : List ℕ) (x0 x1 : Transaction) (at : get_elem? w.actors by ≡ some a) (has : finite.get a.participant.transactions name ≡ Some x0) where
  abbrev p : Participant
  p = record a.participant { transactions = finite.insert a.participant.transactions name x1 }

  -- what the actor has now: the transaction with its other keys, or what it had
  pub has_now : (n : List ℕ) (x : Transaction) → finite.get p.transactions n ≡ Some x → ((n ≡ name) × (x1 ≡ x)) ⊎ ((n ≡ name → ⊥) × (finite.get a.participant.transactions n ≡ Some x))
  has_now n x h = now_inserted a.participant.transactions name x1 x n h

  -- it has the same names
  pub had_name : (n : List ℕ) (x : Transaction) → finite.get p.transactions n ≡ Some x → (y : Transaction) × (finite.get a.participant.transactions n ≡ Some y)
  had_name n x h = ⊎_elim
      (λ (u : (n ≡ name) × (x1 ≡ x)). (x0, ap (finite.get a.participant.transactions) u.0 ∙ has))
      (λ (u : (n ≡ name → ⊥) × (finite.get a.participant.transactions n ≡ Some x)). (x, u.1)) (has_now n x h)

  pub has_still : (n : List ℕ) (y : Transaction) → finite.get a.participant.transactions n ≡ Some y → (x : Transaction) × (finite.get p.transactions n ≡ Some x)
  has_still n y h = ⊎_elim
      (λ (q : n ≡ name). (x1, at_inserted a.participant.transactions name x1 n q))
      (λ (ne : n ≡ name → ⊥). (y, else_inserted a.participant.transactions name x1 n ne ∙ h)) (is_word_same n name)

  pub owns_still : (n : List ℕ) → Owns a.participant n → Owns p n
  owns_still n k = has_still n k.0 k.1

  pub owns_key_still : (n c : List ℕ) → (words.contains x0.locked c ≡ true → words.contains x1.locked c ≡ true) → OwnsKey a.participant n c → OwnsKey p n c
  owns_key_still n c stays k = ⊎_elim
      (λ (q : n ≡ name).
      let its : k.0 ≡ x0 = same_some k.0 x0 (sym k.1 ∙ ap (finite.get a.participant.transactions) q ∙ has) in
      (x1, at_inserted a.participant.transactions name x1 n q, stays (subst (λ (z : Transaction). words.contains z.locked c ≡ true) its k.2)))
      (λ (ne : n ≡ name → ⊥). (k.0, else_inserted a.participant.transactions name x1 n ne ∙ k.1, k.2)) (is_word_same n name)

  -- what is so of each key of each transaction that the actor has, from what was so
  pub each_key : (P : List ℕ → List ℕ → Type 0) → ((c : List ℕ) → words.contains x1.locked c ≡ true → P name c) → ((n : List ℕ) (x : Transaction) (c : List ℕ) → (n ≡ name → ⊥) → finite.get a.participant.transactions n ≡ Some x → words.contains x.locked c ≡ true → P n c)
      → (n : List ℕ) (x : Transaction) (c : List ℕ) → finite.get p.transactions n ≡ Some x → words.contains x.locked c ≡ true → P n c
  each_key P changed others n x c h held = ⊎_elim
      (λ (u : (n ≡ name) × (x1 ≡ x)). subst (λ (z : List ℕ). P z c) (sym u.0) (changed c (subst (λ (z : Transaction). words.contains z.locked c ≡ true) (sym u.1) held)))
      (λ (u : (n ≡ name → ⊥) × (finite.get a.participant.transactions n ≡ Some x)). others n x c u.0 u.1 held) (has_now n x h)

  -- none of its keys is held by an undecided prepare, where none was and those that came are not
  pub unprepared_still : ((c : List ℕ) → words.contains x1.locked c ≡ true → (words.contains x0.locked c ≡ true) ⊎ (holder_of w.writes.history c ≡ None))
      → (n : List ℕ) → ((x : Transaction) (c : List ℕ) → finite.get a.participant.transactions n ≡ Some x → words.contains x.locked c ≡ true → holder_of w.writes.history c ≡ None)
      → (x : Transaction) (c : List ℕ) → finite.get p.transactions n ≡ Some x → words.contains x.locked c ≡ true → holder_of w.writes.history c ≡ None
  unprepared_still was n old x c h held =
      each_key (λ v k. v ≡ n → holder_of w.writes.history k ≡ None)
      (λ k locked is. ⊎_elim (λ (q : words.contains x0.locked k ≡ true). old x0 k (ap (finite.get a.participant.transactions) (sym is) ∙ has) q) (λ (q : holder_of w.writes.history k ≡ None). q) (was k locked))
      (λ v y k ne has_it locked is. old y k (ap (finite.get a.participant.transactions) (sym is) ∙ has_it) locked) n x c h held refl
