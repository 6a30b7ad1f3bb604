-- In a legal history no two undecided prepares have the same key, nor the same name, so who is found to have one is the only
-- one.
use Rattle.std.proofs.Common.{◌≡◌, ◌⊎◌, inl, inr, ⊎_elim, ℕ, ◌+◌, ◌<◌, ◌≤◌, Bool, true, true≢false, List, [], ◌∷◌, ◌++◌, length, refl, sym, subst, ap, ◌∙◌, Option, Some, None, is_some, length-append, arith}
use Rattle.std.specs.Str.{bytes_eq}
use Rattle.std.proofs.lemmas.Bool.{cases_lt}
use Rattle.std.proofs.lemmas.Slice.Eq.{bytes_eq-Decides}
use Rattle.wp_model.specs.declared.entry.Entry.{Entry}
use Rattle.wp_model.specs.declared.entry.Entry.TheVariants.{Write, Prepare, Commit, Undo, Close}
use Rattle.wp_model.specs.History.{entry_at, is_prepare, prepared_name, prepared_batch, batch_at, name_at, is_undecided, is_changed, holder_of, named}
use Rattle.wp_model.specs.Legal.{IsLegal, IsLegalNext}
use Rattle.wp_history_laws.proofs.Growth.{entry_at_next, by_growth}
use Rattle.wp_model.proofs.Entries.{entry_at_old, undecided_prepared, undecided_within}
use Rattle.wp_history_laws.proofs.Undecided.{undecided_old}
use Rattle.wp_history_laws.proofs.Held.{not_free, free_key}
use Rattle.wp_model.proofs.Found.{found_holder, found_named}
use Rattle.wp_history_laws.proofs.Named.{none_named}
use Rattle.wp_model.proofs.Tests.{both}

-- the prepare is undecided, and passes a test of this word
abbrev HasIt : (Option Entry → List ℕ → Bool) → List Entry → ℕ → List ℕ → Type 0
HasIt test history p word = (is_undecided history p ≡ true) × (test (entry_at history p) word ≡ true)

-- what is so of a test, and of who is found by it: a prepare comes only where none is found that passes it already
record IsSingle (test : Option Entry → List ℕ → Bool) (who : List Entry → List ℕ → Option ℕ) : Type 0 where
  found : (history : List Entry) (word : List ℕ) (p : ℕ) → who history word ≡ Some p → HasIt test history p word
  not_free : (history : List Entry) (word : List ℕ) (p : ℕ) → HasIt test history p word → who history word ≡ None → ⊥
  free_before : (history : List Entry) (entry : Entry) (word : List ℕ) → IsLegalNext history entry → is_prepare (Some entry) ≡ true → test (Some entry) word ≡ true → who history word ≡ None

module _ (test : Option Entry → List ℕ → Bool) (who : List Entry → List ℕ → Option ℕ) (single : IsSingle test who) where
  abbrev Has : List Entry → ℕ → List ℕ → Type 0
  Has = HasIt test

  module _ (history : List Entry) (entry : Entry) (next : IsLegalNext history entry) where
    abbrev grown : List Entry
    grown = history ++ entry ∷ []

    had_before : (p : ℕ) (word : List ℕ) → p ≤ length history → Has grown p word → Has history p word
    had_before p word le h = ((both _ _ (sym (undecided_old history entry p le) ∙ h.0)).0, ap (λ (x : Option Entry). test x word) (sym (entry_at_old history (entry ∷ []) p le)) ∙ h.1)

    last_free : (word : List ℕ) → Has grown (length history + 1) word → who history word ≡ None
    last_free word h =
        single.free_before history entry word next (ap is_prepare (sym (entry_at_next history entry)) ∙ undecided_prepared grown (length history + 1) h.0)
        (ap (λ (x : Option Entry). test x word) (sym (entry_at_next history entry)) ∙ h.1)

    old_or_last : (p : ℕ) (word : List ℕ) → Has grown p word → (Has history p word) ⊎ ((p ≡ length history + 1) × (who history word ≡ None))
    old_or_last p word h = ⊎_elim
        (λ (past : length history < p).
        let within = (undecided_within grown p h.0).1 in
        let same : p ≡ length history + 1 = omega (arith, past, within, length-append history (entry ∷ [])) in
        inr (same, last_free word (subst (λ (n : ℕ). Has grown n word) same h)))
        (λ (le : p ≤ length history). inl (had_before p word le h)) (cases_lt (length history) p)

    one_more : ((p q : ℕ) (word : List ℕ) → Has history p word → Has history q word → p ≡ q) → (p q : ℕ) (word : List ℕ) → Has grown p word → Has grown q word → p ≡ q
    one_more old p q word hp hq = ⊎_elim
        (λ (x : Has history p word). ⊎_elim
        (λ (y : Has history q word). old p q word x y)
        (λ (y : (q ≡ length history + 1) × (who history word ≡ None)). absurd (single.not_free history word p x y.1)) (old_or_last q word hq))
        (λ (x : (p ≡ length history + 1) × (who history word ≡ None)). ⊎_elim
        (λ (y : Has history q word). absurd (single.not_free history word q y x.1))
        (λ (y : (q ≡ length history + 1) × (who history word ≡ None)). x.0 ∙ sym y.0) (old_or_last q word hq))
        (old_or_last p word hp)

  -- two that pass it are one
  one_has : (history : List Entry) → IsLegal history → (p q : ℕ) (word : List ℕ) → Has history p word → Has history q word → p ≡ q
  one_has history legal = by_growth (λ h. (p q : ℕ) (word : List ℕ) → Has h p word → Has h q word → p ≡ q)
      (λ p q word hp hq. let within = undecided_within [] p hp.0 in absurd (nothing_within p within.0 within.1))
      (λ h entry whole legal_h next old. one_more h entry next old) history legal
    where
      nothing_within : (p : ℕ) → 1 ≤ p → p ≤ 0 → ⊥
      nothing_within p low high = omega (arith, low, high)

  found_is : (history : List Entry) → IsLegal history → (p : ℕ) (word : List ℕ) → Has history p word → who history word ≡ Some p
  found_is history legal p word h = by (who history word) refl
    where
      by : (o : Option ℕ) → who history word ≡ o → who history word ≡ Some p
      by None e = absurd (single.not_free history word p h e)
      by (Some q) e = e ∙ ap Some (one_has history legal q p word (single.found history word q e) h)

-- ---- keys

free_of : (history : List Entry) (e : Entry) (key : List ℕ) → IsLegalNext history e → is_prepare (Some e) ≡ true → is_changed (prepared_batch (Some e)) key ≡ true → holder_of history key ≡ None
free_of history (Write batch) key n is changed = absurd (true≢false (sym is))
free_of history (Prepare name batch) key n is changed = free_key history batch key n.orderly.keys_are_free.0 changed
free_of history (Commit p) key n is changed = absurd (true≢false (sym is))
free_of history (Undo p batch) key n is changed = absurd (true≢false (sym is))
free_of history (Close p) key n is changed = absurd (true≢false (sym is))

keys_single : IsSingle (λ x key. is_changed (prepared_batch x) key) holder_of
keys_single = record { found = λ history key p e. found_holder history key p e; not_free = λ history key p h none. not_free history key p h.0 h.1 none; free_before = free_of }

-- who is found to hold the key is it
pub holder_is : (history : List Entry) → IsLegal history → (p : ℕ) (key : List ℕ) → is_undecided history p ≡ true → is_changed (batch_at history p) key ≡ true → holder_of history key ≡ Some p
holder_is history legal p key u changed = found_is (λ x key. is_changed (prepared_batch x) key) holder_of keys_single history legal p key (u, changed)

-- ---- names

new_of : (history : List Entry) (e : Entry) (name : List ℕ) → IsLegalNext history e → is_prepare (Some e) ≡ true → bytes_eq (prepared_name (Some e)) name ≡ true → named history name ≡ None
new_of history (Write batch) name n is same = absurd (true≢false (sym is))
new_of history (Prepare other batch) name n is same = ap (named history) (sym ((bytes_eq-Decides other name).0 same)) ∙ n.orderly.keys_are_free.1
new_of history (Commit p) name n is same = absurd (true≢false (sym is))
new_of history (Undo p batch) name n is same = absurd (true≢false (sym is))
new_of history (Close p) name n is same = absurd (true≢false (sym is))

names_single : IsSingle (λ x name. bytes_eq (prepared_name x) name) named
names_single = record {
  found = λ history name p e. found_named history name p e;
  not_free = λ history name p h none. none_named history name p none h.0 ((bytes_eq-Decides (name_at history p) name).0 h.1);
  free_before = new_of;
}

-- an undecided prepare is found by its name
pub name_is : (history : List Entry) → IsLegal history → (p : ℕ) → is_undecided history p ≡ true → named history (name_at history p) ≡ Some p
name_is history legal p u = let name = name_at history p in found_is (λ x name. bytes_eq (prepared_name x) name) named names_single history legal p name (u, (bytes_eq-Decides name name).1 refl)

-- the name of an undecided prepare is found
pub found_name : (history : List Entry) (p : ℕ) → is_undecided history p ≡ true → is_some (named history (name_at history p)) ≡ true
found_name history p u = by (named history (name_at history p)) refl
  where
    by : (o : Option ℕ) → named history (name_at history p) ≡ o → is_some (named history (name_at history p)) ≡ true
    by None e = absurd (none_named history (name_at history p) p e u refl)
    by (Some q) e = ap is_some e
