-- Where a change is among changes whose keys ascend, and what the changes say with it.
use Rattle.std.proofs.Common.{◌≡◌, ℕ, suc, ◌+◌, ◌<◌, true, false, leb, List, [], ◌∷◌, ◌++◌, length, get_or, set, take, drop, Some, None, refl, sym, ap, ◌∙◌, append_assoc, add-one, arith}
use Rattle.std.specs.Prelude.{insert}
use Rattle.std.specs.declared.cmp.Ordering.{Ordering}
use Rattle.std.specs.declared.cmp.Ordering.TheVariants.{Less, Equal, Greater}
use Rattle.std.specs.Ordering.{is_eq, is_lt, ordering_reverse}
use Rattle.std.specs.Str.{bytes_eq}
use Rattle.std.proofs.Math.Seq.{drop-cons}
use Rattle.std.proofs.lemmas.Bool.{and_parts, and_from, le-leb}
use Rattle.std.proofs.lemmas.Cmp.{nat_list_cmp_total}
use Rattle.std.proofs.lemmas.List.{take_more, set_split, length-set}
use Rattle.std.proofs.lemmas.List.Edits.{length-insert}
use Rattle.std.proofs.lemmas.Map.Text.{is_eq-slice_cmp}
use Rattle.wp_model.specs.declared.batch.TheConstants.{MOST_KEYS}
use Rattle.wp_model.specs.declared.change.Change.{Change}
use Rattle.wp_model.specs.Batch.{key_cmp, key_of, value_of, change_to, by_order, with_change, are_ascending, is_batch}
use Rattle.wp_model.specs.Place.{IsChangedAt, IsUnchangedBefore}

-- The first i changes are to keys below this one.
pub record Passed (changes : List Change) (key : List ℕ) (i : ℕ) : Type 0 where
  pub placed : (change : Change) → key_of change ≡ key → with_change changes change ≡ take i changes ++ with_change (drop i changes) change
  pub said : change_to changes key ≡ change_to (drop i changes) key
  pub ascending : are_ascending (drop i changes) ≡ true

-- ---- keys

differ_if_above : (a b : List ℕ) → key_cmp a b ≡ Greater → bytes_eq b a ≡ false
differ_if_above a b e = sym (is_eq-slice_cmp b a) ∙ ap is_eq (nat_list_cmp_total.antisymm b a ∙ ap ordering_reverse e)

differ_if_below : (a b : List ℕ) → key_cmp a b ≡ Less → bytes_eq b a ≡ false
differ_if_below a b e = sym (is_eq-slice_cmp b a) ∙ ap is_eq (nat_list_cmp_total.antisymm b a ∙ ap ordering_reverse e)

same_if_equal : (a b : List ℕ) → key_cmp a b ≡ Equal → bytes_eq b a ≡ true
same_if_equal a b e = sym (is_eq-slice_cmp b a) ∙ ap is_eq (nat_list_cmp_total.antisymm b a ∙ ap ordering_reverse e)

pub less_from_test : (o : Ordering) → is_lt o ≡ true → o ≡ Less
less_from_test Less h = refl
less_from_test Equal h = absurd cc
less_from_test Greater h = absurd cc

-- ---- ascending changes

pub ascending_rest : (first : Change) (others : List Change) → are_ascending (first ∷ others) ≡ true → are_ascending others ≡ true
ascending_rest first [] h = refl
ascending_rest first (second ∷ others) h = (and_parts (is_lt (key_cmp (key_of first) (key_of second))) (are_ascending (second ∷ others)) h).1

-- a key below the first is not among them
missing_below : (key : List ℕ) (first : Change) (others : List Change) → are_ascending (first ∷ others) ≡ true → key_cmp key (key_of first) ≡ Less → change_to (first ∷ others) key ≡ None
missing_below key first [] h below = rw (differ_if_below key (key_of first) below) refl
missing_below key first (second ∷ others) h below =
    let parts = and_parts (is_lt (key_cmp (key_of first) (key_of second))) (are_ascending (second ∷ others)) h in
    let next : key_cmp key (key_of second) ≡ Less = nat_list_cmp_total.trans key (key_of first) (key_of second) below (less_from_test _ parts.0) in
    rw (differ_if_below key (key_of first) below) (missing_below key second others parts.1 next)

-- one change in front of others
abbrev leads : (first : Change) (others : List Change) → Type 0
leads first [] = Unit {0}
leads first (second ∷ others) = is_lt (key_cmp (key_of first) (key_of second)) ≡ true

ascending_from_leads : (first : Change) (others : List Change) → leads first others → are_ascending others ≡ true → are_ascending (first ∷ others) ≡ true
ascending_from_leads first [] l h = refl
ascending_from_leads first (second ∷ others) l h = and_from _ _ l h

leads_from_ascending : (first : Change) (others : List Change) → are_ascending (first ∷ others) ≡ true → leads first others
leads_from_ascending first [] h = tt
leads_from_ascending first (second ∷ others) h = (and_parts (is_lt (key_cmp (key_of first) (key_of second))) (are_ascending (second ∷ others)) h).0

leads_with : (first change : Change) (others : List Change) → is_lt (key_cmp (key_of first) (key_of change)) ≡ true → leads first others → leads first (with_change others change)
leads_with first change [] below l = below
leads_with first change (second ∷ others) below l =
    elim (key_cmp (key_of change) (key_of second)) as (λ o. leads first (by_order o (change ∷ second ∷ others) (change ∷ others) (second ∷ with_change others change))) [
      | Less ↦ below
      | Equal ↦ below
      | Greater ↦ l
    ]

leads_same : (first change : Change) (others : List Change) → key_cmp (key_of change) (key_of first) ≡ Equal → leads first others → leads change others
leads_same first change [] same l = tt
leads_same first change (second ∷ others) same l = ap is_lt (nat_list_cmp_total.congr (key_of change) (key_of first) (key_of second) same) ∙ l

-- with one more change they still ascend
ascending_by : (first change : Change) (others with_it : List Change) → are_ascending (first ∷ others) ≡ true → (is_lt (key_cmp (key_of first) (key_of change)) ≡ true → leads first with_it) → are_ascending with_it ≡ true
    → (o : Ordering) → key_cmp (key_of change) (key_of first) ≡ o → are_ascending (by_order o (change ∷ first ∷ others) (change ∷ others) (first ∷ with_it)) ≡ true
ascending_by first change others with_it h l rest Less e = and_from _ _ (ap is_lt e) h
ascending_by first change others with_it h l rest Equal e = ascending_from_leads change others (leads_same first change others e (leads_from_ascending first others h)) (ascending_rest first others h)
ascending_by first change others with_it h l rest Greater e = ascending_from_leads first with_it (l (ap is_lt (nat_list_cmp_total.antisymm (key_of first) (key_of change) ∙ ap ordering_reverse e))) rest

pub ascending_with : (changes : List Change) (change : Change) → are_ascending changes ≡ true → are_ascending (with_change changes change) ≡ true
ascending_with [] change h = refl
ascending_with (first ∷ others) change h =
    ascending_by first change others (with_change others change) h (λ below. leads_with first change others below (leads_from_ascending first others h)) (ascending_with others change (ascending_rest first others h)) (key_cmp (key_of change) (key_of first)) refl

-- ---- the place of a change

pub passes : (changes : List Change) (key : List ℕ) (i : ℕ) (here : Change) → i < length changes → here ≡ get_or changes i here → key_cmp key (key_of here) ≡ Greater → Passed changes key i → Passed changes key (i + 1)
passes changes key i here lt is above passed =
    let rest = drop (i + 1) changes in
    let split : drop i changes ≡ here ∷ rest = rw (add-one, drop-cons changes i here lt) (ap (λ (x : Change). x ∷ drop (suc i) changes) (sym is)) in
    let front : take (i + 1) changes ≡ take i changes ++ here ∷ [] = take_more changes i here lt ∙ ap (λ (x : Change). take i changes ++ x ∷ []) (sym is) in
    record {
      placed = λ change e.
          let goes_on : with_change (here ∷ rest) change ≡ here ∷ with_change rest change = rw (e, above) refl in
          passed.placed change e ∙ ap (λ (xs : List Change). take i changes ++ with_change xs change) split ∙ ap (λ (xs : List Change). take i changes ++ xs) goes_on ∙ sym (append_assoc (take i changes) (here ∷ []) (with_change rest change)) ∙ ap (λ (xs : List Change). xs ++ with_change rest change) (sym front);
      said = passed.said ∙ ap (λ (xs : List Change). change_to xs key) split ∙ rw (differ_if_above key (key_of here) above) refl;
      ascending = ascending_rest here rest (ap are_ascending (sym split) ∙ passed.ascending);
    }

pub unchanged_before : (changes : List Change) (key : List ℕ) (i : ℕ) (here : Change) → i < length changes → here ≡ get_or changes i here → key_cmp key (key_of here) ≡ Less → Passed changes key i → IsUnchangedBefore changes key i
unchanged_before changes key i here lt is below passed =
    let rest = drop (i + 1) changes in
    let split : drop i changes ≡ here ∷ rest = rw (add-one, drop-cons changes i here lt) (ap (λ (x : Change). x ∷ drop (suc i) changes) (sym is)) in
    record {
      within = omega arith;
      missing = passed.said ∙ ap (λ (xs : List Change). change_to xs key) split ∙ missing_below key here rest (ap are_ascending (sym split) ∙ passed.ascending) below;
      placed = λ change e.
          let leads_it : with_change (here ∷ rest) change ≡ change ∷ here ∷ rest = rw (e, below) refl in
          passed.placed change e ∙ ap (λ (xs : List Change). take i changes ++ with_change xs change) split ∙ ap (λ (xs : List Change). take i changes ++ xs) leads_it ∙ ap (λ (xs : List Change). take i changes ++ change ∷ xs) (sym split);
    }

pub changed_at : (changes : List Change) (key : List ℕ) (i : ℕ) (here : Change) → i < length changes → here ≡ get_or changes i here → key_cmp key (key_of here) ≡ Equal → Passed changes key i → IsChangedAt changes key i
changed_at changes key i here lt is same passed =
    let rest = drop (i + 1) changes in
    let split : drop i changes ≡ here ∷ rest = rw (add-one, drop-cons changes i here lt) (ap (λ (x : Change). x ∷ drop (suc i) changes) (sym is)) in
    let said : change_to changes key ≡ Some (value_of here) = passed.said ∙ ap (λ (xs : List Change). change_to xs key) split ∙ rw (same_if_equal key (key_of here) same) refl in
    record {
      within = lt;
      there = λ missing. absurd cc;
      placed = λ change e.
          let replaces : with_change (here ∷ rest) change ≡ change ∷ rest = rw (e, same) refl in
          passed.placed change e ∙ ap (λ (xs : List Change). take i changes ++ with_change xs change) split ∙ ap (λ (xs : List Change). take i changes ++ xs) replaces ∙ sym (rw add-one (set_split changes i change lt));
    }

-- ---- batches

pub batch_ascends : (changes : List Change) → is_batch changes ≡ true → are_ascending changes ≡ true
batch_ascends changes h = (and_parts (leb (length changes) MOST_KEYS) (are_ascending changes) h).1

pub batch_changed : (changes : List Change) (i : ℕ) (change : Change) → is_batch changes ≡ true → IsChangedAt changes (key_of change) i → is_batch (set changes i change) ≡ true
batch_changed changes i change h place =
    let parts = and_parts (leb (length changes) MOST_KEYS) (are_ascending changes) h in
    and_from _ _ (rw length-set parts.0) (ap are_ascending (sym (place.placed change refl)) ∙ ascending_with changes change parts.1)

pub batch_inserted : (changes : List Change) (i : ℕ) (change : Change) → is_batch changes ≡ true → length changes < MOST_KEYS → IsUnchangedBefore changes (key_of change) i → is_batch (insert changes i change) ≡ true
batch_inserted changes i change h room place =
    let parts = and_parts (leb (length changes) MOST_KEYS) (are_ascending changes) h in
    and_from _ _ (le-leb _ _ (omega (arith, length-insert changes i change place.within))) (ap are_ascending (sym (place.placed change refl)) ∙ ascending_with changes change parts.1)
