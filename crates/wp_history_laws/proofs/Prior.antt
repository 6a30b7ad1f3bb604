-- What the keys of a batch have in the store: the batch of an undo.
use Rattle.std.proofs.Common.{arith, ◌≡◌, ℕ, ◌+◌, ◌<◌, Bool, true, false, ◌&&◌, List, [], ◌∷◌, ◌++◌, length, get_or, take, drop, Some, None, refl, sym, ap, ◌∙◌}
use Rattle.std.specs.Prelude.{◌==◌, nat_le}
use Rattle.std.specs.declared.cmp.Ordering.TheVariants.{Less, Greater}
use Rattle.std.specs.Ordering.{is_lt, ordering_reverse}
use Rattle.std.specs.Cmp.Lexicographic.{pointwise, told_text}
use Rattle.std.proofs.lemmas.Bool.{and_parts, and_from, leb-true}
use Rattle.std.proofs.lemmas.Cmp.{nat_list_cmp_total}
use Rattle.std.proofs.lemmas.List.{take_more, take-append-drop, map-append, length-map, length-take-le}
use Rattle.wp_model.specs.declared.batch.TheConstants.{MOST_KEYS}
use Rattle.wp_model.specs.declared.change.Change.{Change}
use Rattle.wp_model.specs.declared.change.Change.TheVariants.{Put, Del}
use Rattle.wp_model.specs.declared.entry.Entry.{Entry}
use Rattle.wp_model.specs.Batch.{key_cmp, key_of, with_change, are_ascending, is_batch}
use Rattle.wp_model.specs.History.{newest, value_at}
use Rattle.wp_model.specs.Legal.{change_that_leaves, prior}
use Rattle.wp_model.proofs.BatchLemmas.{less_from_test, ascending_rest, batch_ascends}
use Rattle.wp_model.proofs.Entries.{left_key}

-- ---- one change

abbrev Same : Bool → Change → Change → Type 0
Same r change other = (r ≡ true → change ≡ other) × (change ≡ other → r ≡ true)

same_put : (key value old : List ℕ) (r : Bool) → r ≡ pointwise ◌==◌ value old → Same r (Put key value) (Put key old)
same_put key value old true e = let told : value ≡ old = told_text value old true e in (λ _. ap (Put key) told, λ _. refl)
same_put key value old false e = (λ no. absurd cc, λ same. let equal : value ≡ old = cc in absurd (told_text value old false e equal))

same_del : (key other : List ℕ) (r : Bool) → r ≡ pointwise ◌==◌ other key → Same r (Del other) (Del key)
same_del key other true e = let told : other ≡ key = told_text other key true e in (λ _. ap (λ (k : List ℕ). Del k) told, λ _. refl)
same_del key other false e = (λ no. absurd cc, λ same. let equal : other ≡ key = cc in absurd (told_text other key false e equal))

pub put_restores : (history : List Entry) (key other value old : List ℕ) (n : ℕ) (change : Change) (r : Bool) → Some old ≡ value_at history key n → change ≡ Put other value → true ≡ pointwise ◌==◌ other key → r ≡ pointwise ◌==◌ value old
    → Same r change (change_that_leaves key (value_at history key n))
put_restores history key other value old n change r found put keys values =
    let store : value_at history key n ≡ Some old = sym found in
    let key-is : other ≡ key = told_text other key true keys in
    rw (put, store, key-is) (same_put key value old r values)

pub del_restores : (history : List Entry) (key other : List ℕ) (n : ℕ) (change : Change) (r : Bool) → None ≡ value_at history key n → change ≡ Del other → r ≡ pointwise ◌==◌ other key
    → Same r change (change_that_leaves key (value_at history key n))
del_restores history key other n change r found del keys =
    let store : value_at history key n ≡ None = sym found in
    rw (del, store) (same_del key other r keys)

-- ---- ascending changes

ascending_parts : (first second : Change) (others : List Change) → are_ascending (first ∷ second ∷ others) ≡ true → (is_lt (key_cmp (key_of first) (key_of second)) ≡ true) × (are_ascending (second ∷ others) ≡ true)
ascending_parts first second others h = and_parts (is_lt (key_cmp (key_of first) (key_of second))) (are_ascending (second ∷ others)) h

ascending_front : (changes more : List Change) → are_ascending (changes ++ more) ≡ true → are_ascending changes ≡ true
ascending_front [] more h = refl
ascending_front (first ∷ []) more h = refl
ascending_front (first ∷ second ∷ others) more h =
    let parts = ascending_parts first second (others ++ more) h in
    and_from _ _ parts.0 (ascending_front (second ∷ others) more parts.1)

first_below_last : (first : Change) (others : List Change) (last : Change) → are_ascending (first ∷ others ++ last ∷ []) ≡ true → key_cmp (key_of first) (key_of last) ≡ Less
first_below_last first [] last h = less_from_test _ (ascending_parts first last [] h).0
first_below_last first (second ∷ others) last h =
    let parts = ascending_parts first second (others ++ last ∷ []) h in
    nat_list_cmp_total.trans (key_of first) (key_of second) (key_of last) (less_from_test _ parts.0) (first_below_last second others last parts.1)

with_change_last : (changes : List Change) (last : Change) → are_ascending (changes ++ last ∷ []) ≡ true → with_change changes last ≡ changes ++ last ∷ []
with_change_last [] last h = refl
with_change_last (first ∷ others) last h =
    let above : key_cmp (key_of last) (key_of first) ≡ Greater = nat_list_cmp_total.antisymm (key_of last) (key_of first) ∙ ap ordering_reverse (first_below_last first others last h) in
    rw above (ap (λ (rest : List Change). first ∷ rest) (with_change_last others last (ascending_rest first (others ++ last ∷ []) h)))

-- ---- change by change

abbrev restored : List Entry → Change → Change
restored history change = change_that_leaves (key_of change) (newest history (key_of change))

prior_ascending : (history : List Entry) (changes : List Change) → are_ascending (prior history changes) ≡ are_ascending changes
prior_ascending history [] = refl
prior_ascending history (first ∷ []) = refl
prior_ascending history (first ∷ second ∷ others) =
    let Q : List ℕ → List ℕ → Bool → Bool = λ a b rest. is_lt (key_cmp a b) && rest in
    ap (λ (a : List ℕ). Q a (key_of (restored history second)) (are_ascending (prior history (second ∷ others)))) (left_key (key_of first) (newest history (key_of first)))
    ∙ ap (λ (b : List ℕ). Q (key_of first) b (are_ascending (prior history (second ∷ others)))) (left_key (key_of second) (newest history (key_of second)))
    ∙ ap (Q (key_of first) (key_of second)) (prior_ascending history (second ∷ others))

prior_take : (history : List Entry) (changes : List Change) (i : ℕ) (here : Change) → i < length changes → here ≡ get_or changes i here → prior history (take (i + 1) changes) ≡ prior history (take i changes) ++ restored history here ∷ []
prior_take history changes i here lt is =
    ap (prior history) (take_more changes i here lt ∙ ap (λ (c : Change). take i changes ++ c ∷ []) (sym is)) ∙ map-append (restored history) (take i changes) (here ∷ [])

pub prior_more : (history : List Entry) (changes : List Change) (i : ℕ) (here : Change) → i < length changes → here ≡ get_or changes i here → is_batch changes ≡ true
    → with_change (prior history (take i changes)) (restored history here) ≡ prior history (take (i + 1) changes)
prior_more history changes i here lt is batch =
    let whole : are_ascending (take (i + 1) changes ++ drop (i + 1) changes) ≡ true = rw (take-append-drop (i + 1) changes) (batch_ascends changes batch) in
    let front : are_ascending (prior history (take (i + 1) changes)) ≡ true = prior_ascending history (take (i + 1) changes) ∙ ascending_front (take (i + 1) changes) (drop (i + 1) changes) whole in
    let step = prior_take history changes i here lt is in
    with_change_last (prior history (take i changes)) (restored history here) (ap are_ascending (sym step) ∙ front) ∙ sym step

-- while changes are left, those that were restored are not as many as a batch may have
pub prior_is_not_full : (history : List Entry) (changes : List Change) (i : ℕ) → i < length changes → is_batch changes ≡ true → length (prior history (take i changes)) ≡ MOST_KEYS → ⊥
prior_is_not_full history changes i lt batch full =
    let few = leb-true _ _ (and_parts (nat_le (length changes) MOST_KEYS) (are_ascending changes) batch).0 in
    omega (arith, few, length-map (take i changes) (restored history), length-take-le i changes (omega (arith, lt)), full)
