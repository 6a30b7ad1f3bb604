-- Finite maps whose keys are words.
use Rattle.std.proofs.Common.{◌≡◌, ◌⊎◌, inl, inr, ℕ, Bool, true, false, cond, true≢false, List, Some, None, refl, sym, ap, ◌∙◌, ⊎_elim, is_some}
use Rattle.std.specs.Cmp.{eq_by_cmp_equiv}
use Rattle.std.specs.Ordering.{eq_by_cmp}
use Rattle.std.specs.FinMap.{FinMap, get, insert, remove, get-insert, get-remove}
use Rattle.std.proofs.lemmas.Cmp.{nat_list_cmp_total}
use Rattle.wp_model.specs.Batch.{key_cmp}
use Rattle.wp_model.proofs.Words.{same_word}
use Rattle.wp_model.proofs.Tests.{same_some}
use Rattle.wp_model.specs.declared.holder.Holder.TheVariants.{Txn}

pub same_test : (a b : List ℕ) → a ≡ b → eq_by_cmp key_cmp a b ≡ true
same_test a b e = ap (eq_by_cmp key_cmp a) (sym e) ∙ (eq_by_cmp_equiv nat_list_cmp_total).refl a

by_test : (a b : List ℕ) (t : Bool) → eq_by_cmp key_cmp a b ≡ t → (a ≡ b) ⊎ (a ≡ b → ⊥)
by_test a b true e = inl (same_word a b e)
by_test a b false e = inr (λ same. true≢false (sym (same_test a b same) ∙ e))

-- two words are the same or not
pub is_word_same : (a b : List ℕ) → (a ≡ b) ⊎ (a ≡ b → ⊥)
is_word_same a b = by_test a b (eq_by_cmp key_cmp a b) refl

pub not_same : (a b : List ℕ) → (a ≡ b → ⊥) → (t : Bool) → eq_by_cmp key_cmp a b ≡ t → t ≡ false
not_same a b ne true e = absurd (ne (same_word a b e))
not_same a b ne false e = refl

module _ {X : Type 0} (m : FinMap key_cmp X) (k : List ℕ) where
  pub at_inserted : (v : X) (q : List ℕ) → q ≡ k → get (insert m k v) q ≡ Some v
  at_inserted v q same = get-insert nat_list_cmp_total m k v q ∙ ap (λ (b : Bool). cond b (Some v) (get m q)) (same_test q k same)

  pub else_inserted : (v : X) (q : List ℕ) → (q ≡ k → ⊥) → get (insert m k v) q ≡ get m q
  else_inserted v q ne = get-insert nat_list_cmp_total m k v q ∙ ap (λ (b : Bool). cond b (Some v) (get m q)) (not_same q k ne (eq_by_cmp key_cmp q k) refl)

  pub at_removed : (q : List ℕ) → q ≡ k → get (remove m k) q ≡ None
  at_removed q same = get-remove nat_list_cmp_total m k q ∙ ap (λ (b : Bool). cond b None (get m q)) (same_test q k same)

  pub else_removed : (q : List ℕ) → (q ≡ k → ⊥) → get (remove m k) q ≡ get m q
  else_removed q ne = get-remove nat_list_cmp_total m k q ∙ ap (λ (b : Bool). cond b None (get m q)) (not_same q k ne (eq_by_cmp key_cmp q k) refl)

  -- what is there now: the new one, or what was there
  pub now_inserted : (v x : X) (q : List ℕ) → get (insert m k v) q ≡ Some x → ((q ≡ k) × (v ≡ x)) ⊎ ((q ≡ k → ⊥) × (get m q ≡ Some x))
  now_inserted v x q h = ⊎_elim
      (λ (e : q ≡ k). inl (e, same_some v x (sym (at_inserted v q e) ∙ h)))
      (λ (ne : q ≡ k → ⊥). inr (ne, sym (else_inserted v q ne) ∙ h)) (is_word_same q k)

  -- what is still there was there
  pub still_there : (x : X) (q : List ℕ) → get (remove m k) q ≡ Some x → (q ≡ k → ⊥) × (get m q ≡ Some x)
  still_there x q h = ⊎_elim
      (λ (e : q ≡ k). let f : None ≡ Some x = sym (at_removed q e) ∙ h in absurd cc)
      (λ (ne : q ≡ k → ⊥). (ne, sym (else_removed q ne) ∙ h)) (is_word_same q k)

  -- where nothing was under it, what is there stays there
  pub inserted_still : get m k ≡ None → (v x : X) (q : List ℕ) → get m q ≡ Some x → get (insert m k v) q ≡ Some x
  inserted_still free v x q h = ⊎_elim
      (λ (e : q ≡ k). let f : None ≡ Some x = sym free ∙ ap (get m) (sym e) ∙ h in absurd cc)
      (λ (ne : q ≡ k → ⊥). else_inserted v q ne ∙ h) (is_word_same q k)

  -- what has an item keeps one
  pub some_inserted : (v : X) (q : List ℕ) → is_some (get m q) ≡ true → is_some (get (insert m k v) q) ≡ true
  some_inserted v q there = ⊎_elim
      (λ (e : q ≡ k). ap is_some (at_inserted v q e))
      (λ (ne : q ≡ k → ⊥). ap is_some (else_inserted v q ne) ∙ there) (is_word_same q k)

-- a holder is for one transaction
pub txn_is : (x y : List ℕ) → Some (Txn x) ≡ Some (Txn y) → x ≡ y
txn_is x y e = cc
