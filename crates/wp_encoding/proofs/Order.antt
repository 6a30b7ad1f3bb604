-- A change to a key above all others comes last.
use Rattle.std.proofs.Common.{◌≡◌, ℕ, suc, ◌-◌, ◌≤◌, true, List, [], ◌∷◌, ◌++◌, length, get_or, refl, sym, ap, ◌∙◌, arith}
use Rattle.std.specs.declared.cmp.Ordering.TheVariants.{Less, Greater}
use Rattle.std.specs.Ordering.{is_lt, ordering_reverse}
use Rattle.std.proofs.lemmas.Bool.{and_parts, and_from}
use Rattle.std.proofs.lemmas.Cmp.{nat_list_cmp_total}
use Rattle.wp_model.specs.declared.change.Change.{Change}
use Rattle.wp_model.specs.Batch.{key_cmp, key_of, with_change, are_ascending}
use Rattle.wp_model.proofs.BatchLemmas.{less_from_test}
use Rattle.wp_encoding.specs.Reading.{is_above_last}

above_from_below : (a b : List ℕ) → key_cmp a b ≡ Less → key_cmp b a ≡ Greater
above_from_below a b e = nat_list_cmp_total.antisymm b a ∙ ap ordering_reverse e

-- the first two, and those after the first
first_parts : (first second : Change) (others : List Change) → are_ascending (first ∷ second ∷ others) ≡ true → (key_cmp (key_of first) (key_of second) ≡ Less) × (are_ascending (second ∷ others) ≡ true)
first_parts first second others h =
    let parts = and_parts (is_lt (key_cmp (key_of first) (key_of second))) (are_ascending (second ∷ others)) h in
    (less_from_test _ parts.0, parts.1)

-- a key above the last is above the first
first_below : (first : Change) (others : List Change) (key : List ℕ) → are_ascending (first ∷ others) ≡ true → is_above_last (first ∷ others) key ≡ true → key_cmp (key_of first) key ≡ Less
first_below first [] key h above = less_from_test _ above
first_below first (second ∷ others) key h above =
    let parts = first_parts first second others h in
    nat_list_cmp_total.trans (key_of first) (key_of second) key parts.0 (first_below second others key parts.1 above)

pub with_change-last : (batch : List Change) (change : Change) → are_ascending batch ≡ true → is_above_last batch (key_of change) ≡ true → with_change batch change ≡ batch ++ change ∷ []
with_change-last [] change h above = refl
with_change-last (first ∷ []) change h above = rw (above_from_below (key_of first) (key_of change) (less_from_test _ above)) refl
with_change-last (first ∷ second ∷ others) change h above =
    let below : key_cmp (key_of change) (key_of first) ≡ Greater = above_from_below (key_of first) (key_of change) (first_below first (second ∷ others) (key_of change) h above) in
    let rest = with_change-last (second ∷ others) change (first_parts first second others h).1 above in
    rw below (ap (λ (xs : List Change). first ∷ xs) rest)

pub ascending_push : (batch : List Change) (change : Change) → are_ascending batch ≡ true → is_above_last batch (key_of change) ≡ true → are_ascending (batch ++ change ∷ []) ≡ true
ascending_push [] change h above = refl
ascending_push (first ∷ []) change h above = and_from _ _ above refl
ascending_push (first ∷ second ∷ others) change h above =
    let parts = and_parts (is_lt (key_cmp (key_of first) (key_of second))) (are_ascending (second ∷ others)) h in
    and_from _ _ parts.0 (ascending_push (second ∷ others) change parts.1 above)

pub above_from_ascending : (batch : List Change) (change : Change) (others : List Change) → are_ascending (batch ++ change ∷ others) ≡ true → is_above_last batch (key_of change) ≡ true
above_from_ascending [] change others h = refl
above_from_ascending (first ∷ []) change others h = (and_parts (is_lt (key_cmp (key_of first) (key_of change))) (are_ascending (change ∷ others)) h).0
above_from_ascending (first ∷ second ∷ batch) change others h = above_from_ascending (second ∷ batch) change others (and_parts (is_lt (key_cmp (key_of first) (key_of second))) (are_ascending ((second ∷ batch) ++ change ∷ others)) h).1

pub is_above_last-at : (batch : List Change) (key : List ℕ) (last : Change) → 1 ≤ length batch → last ≡ get_or batch (length batch - 1) last → is_above_last batch key ≡ is_lt (key_cmp (key_of last) key)
is_above_last-at [] key last h is = absurd (omega arith)
is_above_last-at (first ∷ []) key last h is = ap (λ (c : Change). is_lt (key_cmp (key_of c) key)) (sym is)
is_above_last-at (first ∷ second ∷ others) key last h is =
    let i : length (first ∷ second ∷ others) - 1 ≡ suc (length (second ∷ others) - 1) = omega arith in
    is_above_last-at (second ∷ others) key last (omega arith) (is ∙ ap (λ (n : ℕ). get_or (first ∷ second ∷ others) n last) i)
