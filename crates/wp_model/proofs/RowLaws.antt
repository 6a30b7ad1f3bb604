-- Which pairs are rows, where the rows stay, and how a range falls apart.
use Rattle.std.proofs.Common.{◌≡◌, ◌⊎◌, ◌↔◌, inl, inr, ℕ, zero, suc, ◌<◌, ◌≤◌, Bool, true, false, ◌&&◌, cond, T, List, [], ◌∷◌, ◌++◌, length, take, filter, Some, refl, sym, ap, ◌∙◌, subst, arith}
use Rattle.std.specs.Prelude.{slice_index_or}
use Rattle.std.specs.List.{Contains}
use Rattle.std.specs.FinMap as finite
use Rattle.std.specs.FinMap.Entries.{below_all}
use Rattle.std.specs.Ordering.{eq_by_cmp}
use Rattle.std.proofs.lemmas.Bool.{and_parts, and_from}
use Rattle.std.proofs.lemmas.List.{take-append-le}
use Rattle.wp_model.specs.declared.entry.Entry.{Entry}
use Rattle.wp_model.specs.Batch.{key_cmp}
use Rattle.wp_model.specs.History.{value_at}
use Rattle.wp_model.specs.Rows.{Pair, Values, stored, is_from, rows_at, rows_from, rows}
use Rattle.wp_model.proofs.BatchLemmas.{less_from_test}
use Rattle.wp_model.proofs.Ordered.{IsLess, which_less, from_lesser, not_from_greater, from_itself, not_above_itself, from_is, from_later}
use Rattle.wp_model.proofs.Rows.{found, found_here, found_behind, none_below, first_true, second_true, first_of, below_more, left, left_alike, not_left, row_found, rows_sorted, same_stored}
use Rattle.wp_model.proofs.Tests.{some_none, same_some}
use Rattle.wp_model.proofs.Words.{same_word}

-- ---- what a list has

contains_here : {X : Type 0} (x : X) (xs : List X) → Contains (x ∷ xs) x
contains_here x xs = (0, omega arith, refl)

contains_behind : {X : Type 0} (x y : X) (xs : List X) → Contains xs y → Contains (x ∷ xs) y
contains_behind x y xs has = let lt = has.1 in (suc has.0, omega (arith, lt), has.2)

contains_either : {X : Type 0} (x y : X) (xs : List X) → Contains (x ∷ xs) y → (x ≡ y) ⊎ Contains xs y
contains_either x y xs has = by has.0 has.1 has.2
  where
    by : (k : ℕ) → k < length (x ∷ xs) → slice_index_or (x ∷ xs) k y ≡ y → (x ≡ y) ⊎ Contains xs y
    by zero lt is = inl is
    by (suc k) lt is = inr (k, omega (arith, lt), is)

contains_none : {X : Type 0} (y : X) → Contains [] y → ⊥
contains_none y has = let lt = has.1 in absurd (omega (arith, lt))

kept_contains : {X : Type 0} (p : X → Bool) (xs : List X) (y : X) → Contains xs y → p y ≡ true → Contains (filter p xs) y
kept_contains p [] y has passes = absurd (contains_none y has)
kept_contains p (x ∷ xs) y has passes = by (λ rest. kept_contains p xs y rest passes) (contains_either x y xs has)
  where
    more : (b : Bool) → Contains (filter p xs) y → Contains (cond b (x ∷ filter p xs) (filter p xs)) y
    more true rest = contains_behind x y (filter p xs) rest
    more false rest = rest

    by : (Contains xs y → Contains (filter p xs) y) → (x ≡ y) ⊎ Contains xs y → Contains (filter p (x ∷ xs)) y
    by again (inl same) = subst (λ (b : Bool). Contains (cond b (x ∷ filter p xs) (filter p xs)) y) (sym (ap p same ∙ passes)) (subst (λ z. Contains (z ∷ filter p xs) y) (sym same) (contains_here y (filter p xs)))
    by again (inr rest) = more (p x) (again rest)

contains_kept : {X : Type 0} (p : X → Bool) (xs : List X) (y : X) → Contains (filter p xs) y → Contains xs y × (p y ≡ true)
contains_kept p [] y has = absurd (contains_none y has)
contains_kept p (x ∷ xs) y has = by (λ rest. contains_kept p xs y rest) (p x) refl has
  where
    by : (Contains (filter p xs) y → Contains xs y × (p y ≡ true)) → (b : Bool) → p x ≡ b → Contains (cond b (x ∷ filter p xs) (filter p xs)) y → Contains (x ∷ xs) y × (p y ≡ true)
    by again true is there = inner (contains_either x y (filter p xs) there)
      where
        inner : (x ≡ y) ⊎ Contains (filter p xs) y → Contains (x ∷ xs) y × (p y ≡ true)
        inner (inl same) = (subst (λ z. Contains (x ∷ xs) z) same (contains_here x xs), ap p (sym same) ∙ is)
        inner (inr rest) = let k = again rest in (contains_behind x y xs k.0, k.1)
    by again false is there = let k = again there in (contains_behind x y xs k.0, k.1)

-- ---- what is found is there

found_there : (key value : List ℕ) (es : List Pair) → found key es ≡ Some value → Contains es (key, value)
found_there key value [] is = absurd (some_none value (sym is))
found_there key value (e ∷ es) is = by (λ rest. found_there key value es rest) (eq_by_cmp key_cmp key e.0) refl
  where
    by : (found key es ≡ Some value → Contains es (key, value)) → (b : Bool) → eq_by_cmp key_cmp key e.0 ≡ b → Contains (e ∷ es) (key, value)
    by again true t =
        let same = same_word key e.0 t in
        let here : e ≡ (key, value) = λ i. (sym same i, same_some e.1 value (sym (found_here key e es same) ∙ is) i) in
        subst (λ (x : Pair). Contains (e ∷ es) x) here (contains_here e es)
    by again false t = contains_behind e (key, value) es (again (sym (ap (λ (b : Bool). cond b (Some e.1) (found key es)) t) ∙ is))

there_found : (key value : List ℕ) (es : List Pair) → T (finite.is_sorted key_cmp es) → Contains es (key, value) → found key es ≡ Some value
there_found key value [] sorted has = absurd (contains_none (key, value) has)
there_found key value (e ∷ es) sorted has = by (λ rest. there_found key value es (second_true (below_all key_cmp e.0 es) (finite.is_sorted key_cmp es) sorted) rest) (contains_either e (key, value) es has)
  where
    below : T (below_all key_cmp e.0 es)
    below = first_of (below_all key_cmp e.0 es) (finite.is_sorted key_cmp es) sorted

    by : (Contains es (key, value) → found key es ≡ Some value) → (e ≡ (key, value)) ⊎ Contains es (key, value) → found key (e ∷ es) ≡ Some value
    by again (inl same) = found_here key e es (sym (ap (λ (x : Pair). x.0) same)) ∙ ap (λ (x : Pair). Some x.1) same
    by again (inr rest) =
        let is = again rest in
        found_behind key e es (λ same. some_none value (sym is ∙ ap (λ (k : List ℕ). found k es) same ∙ none_below e.0 es below)) ∙ is

-- ---- ranges

-- what is left up to a key, and behind it
left_parts : (above : Bool) (at key to : List ℕ) (es : List Pair) → T (finite.is_sorted key_cmp es) → is_from above at key ≡ true → is_from false key to ≡ true → left above at to es ≡ left above at key es ++ left true key to es
left_parts above at key to [] sorted from within = refl
left_parts above at key to (e ∷ es) sorted from within = by (left_parts above at key to es (second_true (below_all key_cmp e.0 es) (finite.is_sorted key_cmp es) sorted) from within) (which_less e.0 key)
  where
    -- one that is not behind the key
    before : left above at to es ≡ left above at key es ++ left true key to es → is_from false e.0 to ≡ true → is_from false e.0 key ≡ true → is_from true key e.0 ≡ false → left above at to (e ∷ es) ≡ left above at key (e ∷ es) ++ left true key to (e ∷ es)
    before rest to_end to_key not_behind = step (is_from above at e.0) refl
      where
        tail : left true key to (e ∷ es) ≡ left true key to es
        tail = not_left true key to e es not_behind

        step : (b : Bool) → is_from above at e.0 ≡ b → left above at to (e ∷ es) ≡ left above at key (e ∷ es) ++ left true key to (e ∷ es)
        step true there =
            (λ i. cond (there i && to_end i) (e ∷ left above at to es) (left above at to es))
            ∙ ap (λ (ws : List Pair). e ∷ ws) rest
            ∙ (λ i. cond (sym there i && sym to_key i) (e ∷ left above at key es) (left above at key es) ++ sym tail i)
        step false short = not_left above at to e es short ∙ rest ∙ (λ i. sym (not_left above at key e es short) i ++ sym tail i)

    none_up_to : (fs : List Pair) → T (below_all key_cmp key fs) → left above at key fs ≡ []
    none_up_to [] below = refl
    none_up_to (f ∷ fs) below =
        let past : is_from false f.0 key ≡ false = not_from_greater false f.0 key (less_from_test _ (first_true _ _ below)) in
        drop_it (is_from above at f.0) past ∙ none_up_to fs (second_true _ _ below)
      where
        drop_it : (b : Bool) → is_from false f.0 key ≡ false → cond (b && is_from false f.0 key) (f ∷ left above at key fs) (left above at key fs) ≡ left above at key fs
        drop_it true past = ap (λ (b : Bool). cond b (f ∷ left above at key fs) (left above at key fs)) past
        drop_it false past = refl

    by : left above at to es ≡ left above at key es ++ left true key to es → IsLess e.0 key ⊎ ((e.0 ≡ key) ⊎ IsLess key e.0) → left above at to (e ∷ es) ≡ left above at key (e ∷ es) ++ left true key to (e ∷ es)
    by rest (inl less) = before rest (reaches less) (from_lesser false e.0 key less) (not_from_greater true key e.0 less)
      where
        reaches : IsLess e.0 key → is_from false e.0 to ≡ true
        reaches less = to_end (from_is false key to within)
          where
            to_end : IsLess key to ⊎ (key ≡ to) → is_from false e.0 to ≡ true
            to_end (inl more) = from_later false e.0 key to (from_lesser false e.0 key less) more
            to_end (inr same) = subst (λ (k : List ℕ). is_from false e.0 k ≡ true) same (from_lesser false e.0 key less)
    by rest (inr (inl same)) =
        before rest (ap (λ (k : List ℕ). is_from false k to) same ∙ within) (ap (λ (k : List ℕ). is_from false k key) same ∙ from_itself key) (ap (is_from true key) same ∙ not_above_itself key)
    by rest (inr (inr less)) =
        let below = below_more key e es less (first_of (below_all key_cmp e.0 es) (finite.is_sorted key_cmp es) sorted) in
        left_alike above at key to (e ∷ es) from below ∙ ap (λ (ws : List Pair). ws ++ left true key to (e ∷ es)) (sym (none_up_to (e ∷ es) below))

-- ---- as laws

module _ (history : List Entry) where
  pub row_is : (from to : List ℕ) (n : ℕ) (row : Pair) → Contains (rows history from to n) row ↔ ((is_from false from row.0 ≡ true) × (is_from false row.0 to ≡ true) × (value_at history row.0 n ≡ Some row.1))
  row_is from to n row = (
    λ has.
        let k = contains_kept (λ (x : Pair). is_from false from x.0 && is_from false x.0 to) (rows_at history n) row has in
        let parts = and_parts (is_from false from row.0) (is_from false row.0 to) k.1 in
        (parts.0, parts.1, sym (row_found history n row.0) ∙ there_found row.0 row.1 (rows_at history n) (rows_sorted history n) k.0),
    λ is.
        kept_contains (λ (x : Pair). is_from false from x.0 && is_from false x.0 to) (rows_at history n) row (found_there row.0 row.1 (rows_at history n) (row_found history n row.0 ∙ is.2)) (and_from (is_from false from row.0) (is_from false row.0 to) is.0 is.1),
  )

  pub rows_stay : (more : List Entry) (above : Bool) (at to : List ℕ) (n : ℕ) → n ≤ length history → rows_from (history ++ more) above at to n ≡ rows_from history above at to n
  rows_stay more above at to n within = ap (λ (h : List Entry). left above at to (finite.entries (stored h))) (take-append-le n history more within)

  pub rows_part : (above : Bool) (at key to : List ℕ) (n : ℕ) → is_from above at key ≡ true → is_from false key to ≡ true → rows_from history above at to n ≡ rows_from history above at key n ++ rows_from history true key to n
  rows_part above at key to n from within = left_parts above at key to (rows_at history n) (rows_sorted history n) from within

pub same_rows : (one other : List Entry) (n : ℕ) → ((key : List ℕ) → value_at one key n ≡ value_at other key n) → (above : Bool) (at to : List ℕ) → rows_from one above at to n ≡ rows_from other above at to n
same_rows one other n same above at to = ap (λ (values : Values). left above at to (finite.entries values)) (same_stored (take n one) (take n other) same)
