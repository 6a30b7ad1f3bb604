-- What the store that a history leaves has under a key, and what rows are left behind a place.
use Rattle.std.proofs.Common.{◌≡◌, ◌⊎◌, inl, inr, ℕ, Bool, true, false, true≢false, ◌&&◌, cond, T, List, [], ◌∷◌, take, filter, Option, Some, None, refl, sym, ap, ◌∙◌, subst}
use Rattle.std.specs.Prelude.{fold, unwrap_or}
use Rattle.std.specs.Cmp.{eq_by_cmp_equiv}
use Rattle.std.specs.FinMap as finite
use Rattle.std.specs.FinMap.Entries.{below_all}
use Rattle.std.specs.Ordering.{is_lt, is_eq, eq_by_cmp}
use Rattle.std.specs.Str.{bytes_eq}
use Rattle.std.proofs.lemmas.Cmp.{nat_list_cmp_total}
use Rattle.std.proofs.lemmas.Map.Text.{is_eq-slice_cmp}
use Rattle.wp_model.specs.declared.change.Change.{Change}
use Rattle.wp_model.specs.declared.change.Change.TheVariants.{Put, Del}
use Rattle.wp_model.specs.declared.entry.Entry.{Entry}
use Rattle.wp_model.specs.Batch.{key_cmp, key_of, value_of, change_to}
use Rattle.wp_model.specs.History.{changes_of, value_after, newest, value_at}
use Rattle.wp_model.specs.Rows.{Values, Pair, after_change, after_changes, stored_after, stored, is_from, rows_at, rows_from}
use Rattle.wp_model.proofs.Keyed.{same_test}
use Rattle.wp_model.proofs.Ordered.{IsLess, which_less, less_not_same, from_lesser, not_from_greater, not_above_itself, from_later}
use Rattle.wp_model.proofs.BatchLemmas.{less_from_test}
use Rattle.wp_model.proofs.Tests.{some_none, same_some}
use Rattle.wp_model.proofs.Words.{same_word}

-- ---- what the store has under a key

same_tests : (q k : List ℕ) → eq_by_cmp key_cmp q k ≡ bytes_eq k q
same_tests q k = (eq_by_cmp_equiv nat_list_cmp_total).symm q k ∙ is_eq-slice_cmp k q

change_gives : (change : Change) (values : Values) (key : List ℕ) → finite.get (after_change change values) key ≡ cond (bytes_eq (key_of change) key) (value_of change) (finite.get values key)
change_gives (Put k v) values key = finite.get-insert nat_list_cmp_total values k v key ∙ ap (λ (b : Bool). cond b (Some v) (finite.get values key)) (same_tests key k)
change_gives (Del k) values key = finite.get-remove nat_list_cmp_total values k key ∙ ap (λ (b : Bool). cond b None (finite.get values key)) (same_tests key k)

one_first : (b : Bool) (value before : Option (List ℕ)) (later : Option (Option (List ℕ))) → cond b value (unwrap_or later before) ≡ unwrap_or (cond b (Some value) later) before
one_first true value before later = refl
one_first false value before later = refl

changes_give : (changes : List Change) (values : Values) (key : List ℕ) → finite.get (after_changes changes values) key ≡ unwrap_or (change_to changes key) (finite.get values key)
changes_give [] values key = refl
changes_give (change ∷ changes) values key =
    change_gives change (after_changes changes values) key
    ∙ ap (cond (bytes_eq (key_of change) key) (value_of change)) (changes_give changes values key)
    ∙ one_first (bytes_eq (key_of change) key) (value_of change) (finite.get values key) (change_to changes key)

pub entries_give : (history entries : List Entry) (values : Values) (key : List ℕ) → finite.get (fold (stored_after history) values entries) key ≡ fold (value_after history key) (finite.get values key) entries
entries_give history [] values key = refl
entries_give history (entry ∷ entries) values key =
    entries_give history entries (stored_after history values entry) key
    ∙ ap (λ (before : Option (List ℕ)). fold (value_after history key) before entries) (changes_give (changes_of history entry) values key)

-- under each key the store has what the history leaves there
pub stored_is : (history : List Entry) (key : List ℕ) → finite.get (stored history) key ≡ newest history key
stored_is history key = entries_give history history finite.empty key ∙ ap (λ (before : Option (List ℕ)). fold (value_after history key) before history) (finite.get-empty key_cmp key)

pub same_stored : (one other : List Entry) → ((key : List ℕ) → newest one key ≡ newest other key) → stored one ≡ stored other
same_stored one other same = finite.same_map nat_list_cmp_total (λ a b e. same_word a b (ap is_eq e)) (stored one) (stored other) (λ key. stored_is one key ∙ same key ∙ sym (stored_is other key))

-- ---- lists of rows in order

abbrev pub found : List ℕ → List Pair → Option (List ℕ)
found key es = finite.find key_cmp key es

pub first_true : (a b : Bool) → T (a && b) → a ≡ true
first_true true b t = refl
first_true false b t = absurd t

pub second_true : (a b : Bool) → T (a && b) → T b
second_true true b t = t
second_true false b t = absurd t

pub first_of : (a b : Bool) → T (a && b) → T a
first_of true b t = tt
first_of false b t = t

both_true : (a b : Bool) → a ≡ true → T b → T (a && b)
both_true true b e t = t
both_true false b e t = absurd (true≢false (sym e))

-- a key that is not the first one's is looked for behind it
pub found_behind : (key : List ℕ) (e : Pair) (es : List Pair) → (key ≡ e.0 → ⊥) → found key (e ∷ es) ≡ found key es
found_behind key e es differ = by (eq_by_cmp key_cmp key e.0) refl
  where
    by : (b : Bool) → eq_by_cmp key_cmp key e.0 ≡ b → found key (e ∷ es) ≡ found key es
    by true t = absurd (differ (same_word key e.0 t))
    by false t = ap (λ (b : Bool). cond b (Some e.1) (found key es)) t

pub found_here : (key : List ℕ) (e : Pair) (es : List Pair) → key ≡ e.0 → found key (e ∷ es) ≡ Some e.1
found_here key e es same = ap (λ (b : Bool). cond b (Some e.1) (found key es)) (same_test key e.0 same)

-- below all keys that are there nothing is found
pub none_below : (key : List ℕ) (es : List Pair) → T (below_all key_cmp key es) → found key es ≡ None
none_below key [] below = refl
none_below key (e ∷ es) below =
    let less : IsLess key e.0 = less_from_test _ (first_true _ _ below) in
    found_behind key e es (less_not_same key e.0 less) ∙ none_below key es (second_true _ _ below)

-- a key that is below another one is below all that come behind that
pub below_more : (key : List ℕ) (e : Pair) (es : List Pair) → IsLess key e.0 → T (below_all key_cmp e.0 es) → T (below_all key_cmp key (e ∷ es))
below_more key e es less below = both_true (is_lt (key_cmp key e.0)) (below_all key_cmp key es) (ap is_lt less) (all es below)
  where
    all : (fs : List Pair) → T (below_all key_cmp e.0 fs) → T (below_all key_cmp key fs)
    all [] below = tt
    all (f ∷ fs) below = both_true (is_lt (key_cmp key f.0)) (below_all key_cmp key fs) (ap is_lt (nat_list_cmp_total.trans key e.0 f.0 less (less_from_test _ (first_true _ _ below)))) (all fs (second_true _ _ below))

-- no row is left from the place on and below that key
abbrev pub NoneBefore : (above : Bool) → (at key : List ℕ) → List Pair → Type 0
NoneBefore above at key es = (other : List ℕ) → is_from above at other ≡ true → IsLess other key → found other es ≡ None

none_before_rest : (above : Bool) (at key : List ℕ) (e : Pair) (es : List Pair) → NoneBefore above at key (e ∷ es) → NoneBefore above at key es
none_before_rest above at key e es none other from less = by (eq_by_cmp key_cmp other e.0) refl
  where
    by : (b : Bool) → eq_by_cmp key_cmp other e.0 ≡ b → found other es ≡ None
    by true t = absurd (some_none e.1 (sym (found_here other e es (same_word other e.0 t)) ∙ none other from less))
    by false t = sym (ap (λ (b : Bool). cond b (Some e.1) (found other es)) t) ∙ none other from less

-- so what comes before that key is before the place too
before_place : (above : Bool) (at key : List ℕ) (e : Pair) (es : List Pair) → NoneBefore above at key (e ∷ es) → IsLess e.0 key → is_from above at e.0 ≡ false
before_place above at key e es none less = by (is_from above at e.0) refl
  where
    by : (b : Bool) → is_from above at e.0 ≡ b → is_from above at e.0 ≡ false
    by true t = absurd (some_none e.1 (sym (found_here e.0 e es refl) ∙ none e.0 t less))
    by false t = t

-- those that are left from a place on, up to a key
abbrev pub left : (above : Bool) → (at to : List ℕ) → List Pair → List Pair
left above at to es = filter (λ row. is_from above at row.0 && is_from false row.0 to) es

pub not_left : (above : Bool) (at to : List ℕ) (e : Pair) (es : List Pair) → is_from above at e.0 ≡ false → left above at to (e ∷ es) ≡ left above at to es
not_left above at to e es short = ap (λ (b : Bool). cond (b && is_from false e.0 to) (e ∷ left above at to es) (left above at to es)) short

-- above a key those that follow one by one are left from either place
pub left_alike : (above : Bool) (at key to : List ℕ) (es : List Pair) → is_from above at key ≡ true → T (below_all key_cmp key es) → left above at to es ≡ left true key to es
left_alike above at key to [] from below = refl
left_alike above at key to (e ∷ es) from below =
    let less : IsLess key e.0 = less_from_test _ (first_true _ _ below) in
    let rest = left_alike above at key to es from (second_true _ _ below) in
    λ i. cond ((from_later above at key e.0 from less ∙ sym (from_lesser true key e.0 less)) i && is_from false e.0 to) (e ∷ rest i) (rest i)

-- a key that is found is the first that is left, where none before it is
pub left_first : (above : Bool) (at key to value : List ℕ) (es : List Pair) → T (finite.is_sorted key_cmp es) → is_from above at key ≡ true → is_from false key to ≡ true
    → NoneBefore above at key es → found key es ≡ Some value → left above at to es ≡ (key, value) ∷ left true key to es
left_first above at key to value [] sorted from within none is = absurd (some_none value (sym is))
left_first above at key to value (e ∷ es) sorted from within none is =
    by (λ less. left_first above at key to value es (second_true (below_all key_cmp e.0 es) (finite.is_sorted key_cmp es) sorted) from within (none_before_rest above at key e es none) (sym (found_behind key e es (λ same. less_not_same e.0 key less (sym same))) ∙ is))
    (which_less e.0 key)
  where
    by : (IsLess e.0 key → left above at to es ≡ (key, value) ∷ left true key to es) → IsLess e.0 key ⊎ ((e.0 ≡ key) ⊎ IsLess key e.0) → left above at to (e ∷ es) ≡ (key, value) ∷ left true key to (e ∷ es)
    by again (inl less) =
        not_left above at to e es (before_place above at key e es none less)
        ∙ again less
        ∙ ap (λ (es : List Pair). (key, value) ∷ es) (sym (not_left true key to e es (not_from_greater true key e.0 less)))
    by again (inr (inl same)) =
        let here : e ≡ (key, value) = λ i. (same i, same_some e.1 value (sym (found_here key e es (sym same)) ∙ is) i) in
        let below : T (below_all key_cmp key es) = subst (λ (k : List ℕ). T (below_all key_cmp k es)) same (first_of (below_all key_cmp e.0 es) (finite.is_sorted key_cmp es) sorted) in
        (λ i. cond ((ap (is_from above at) same ∙ from) i && (ap (λ (k : List ℕ). is_from false k to) same ∙ within) i) (here i ∷ left above at to es) (left above at to es))
        ∙ ap (λ (es : List Pair). (key, value) ∷ es) (left_alike above at key to es from below ∙ sym (not_left true key to e es (ap (is_from true key) same ∙ not_above_itself key)))
    by again (inr (inr less)) =
        let below : T (below_all key_cmp key (e ∷ es)) = below_more key e es less (first_of (below_all key_cmp e.0 es) (finite.is_sorted key_cmp es) sorted) in
        absurd (some_none value (sym is ∙ none_below key (e ∷ es) below))

-- past a key without a row as much is left, where none before it has one
pub left_past : (above : Bool) (at key to : List ℕ) (es : List Pair) → is_from above at key ≡ true → NoneBefore above at key es → found key es ≡ None → left above at to es ≡ left true key to es
left_past above at key to [] from none is = refl
left_past above at key to (e ∷ es) from none is =
    let again = left_past above at key to es from (none_before_rest above at key e es none) (sym (found_behind key e es differ) ∙ is) in
    λ i. cond (alike i && is_from false e.0 to) (e ∷ again i) (again i)
  where
    differ : key ≡ e.0 → ⊥
    differ same = some_none e.1 (sym (found_here key e es same) ∙ is)

    by : IsLess e.0 key ⊎ ((e.0 ≡ key) ⊎ IsLess key e.0) → is_from above at e.0 ≡ is_from true key e.0
    by (inl less) = before_place above at key e es none less ∙ sym (not_from_greater true key e.0 less)
    by (inr (inl same)) = absurd (differ (sym same))
    by (inr (inr less)) = from_later above at key e.0 from less ∙ sym (from_lesser true key e.0 less)

    alike : is_from above at e.0 ≡ is_from true key e.0
    alike = by (which_less e.0 key)

-- nothing is left where no key from the place on and up to the end has a row
pub left_none : (above : Bool) (at to : List ℕ) (es : List Pair) → ((other : List ℕ) → is_from above at other ≡ true → is_from false other to ≡ true → found other es ≡ None) → left above at to es ≡ []
left_none above at to [] none = refl
left_none above at to (e ∷ es) none = by (left_none above at to es less_there) (is_from above at e.0) (is_from false e.0 to) refl refl
  where
    less_there : (other : List ℕ) → is_from above at other ≡ true → is_from false other to ≡ true → found other es ≡ None
    less_there other from within = inner (eq_by_cmp key_cmp other e.0) refl
      where
        inner : (b : Bool) → eq_by_cmp key_cmp other e.0 ≡ b → found other es ≡ None
        inner true t = absurd (some_none e.1 (sym (found_here other e es (same_word other e.0 t)) ∙ none other from within))
        inner false t = sym (ap (λ (b : Bool). cond b (Some e.1) (found other es)) t) ∙ none other from within

    by : left above at to es ≡ [] → (a b : Bool) → is_from above at e.0 ≡ a → is_from false e.0 to ≡ b → left above at to (e ∷ es) ≡ []
    by rest true true from within = absurd (some_none e.1 (sym (found_here e.0 e es refl) ∙ none e.0 from within))
    by rest true false from past = (λ i. cond (from i && past i) (e ∷ left above at to es) (left above at to es)) ∙ rest
    by rest false b not_from is = (λ i. cond (not_from i && is_from false e.0 to) (e ∷ left above at to es) (left above at to es)) ∙ rest

-- ---- what is left of a store

module _ (history : List Entry) (n : ℕ) where
  pub row_found : (key : List ℕ) → found key (rows_at history n) ≡ value_at history key n
  row_found key = sym (finite.get-entries (stored (take n history)) key) ∙ stored_is (take n history) key

  pub rows_sorted : T (finite.is_sorted key_cmp (rows_at history n))
  rows_sorted = finite.entries_sorted (stored (take n history))

  -- no key from a place on and below that one has a value
  abbrev pub NoValueBefore : (above : Bool) → (at key : List ℕ) → Type 0
  NoValueBefore above at key = (other : List ℕ) → is_from above at other ≡ true → IsLess other key → value_at history other n ≡ None

  pub first_row : (above : Bool) (at key to value : List ℕ) → is_from above at key ≡ true → is_from false key to ≡ true → NoValueBefore above at key
      → value_at history key n ≡ Some value → rows_from history above at to n ≡ (key, value) ∷ rows_from history true key to n
  first_row above at key to value from within none is =
      left_first above at key to value (rows_at history n) rows_sorted from within (λ other o less. row_found other ∙ none other o less) (row_found key ∙ is)

  pub past_row : (above : Bool) (at key to : List ℕ) → is_from above at key ≡ true → NoValueBefore above at key → value_at history key n ≡ None
      → rows_from history above at to n ≡ rows_from history true key to n
  past_row above at key to from none is =
      left_past above at key to (rows_at history n) from (λ other o less. row_found other ∙ none other o less) (row_found key ∙ is)

  pub no_row : (above : Bool) (at to : List ℕ) → ((other : List ℕ) → is_from above at other ≡ true → is_from false other to ≡ true → value_at history other n ≡ None)
      → rows_from history above at to n ≡ []
  no_row above at to none = left_none above at to (rows_at history n) (λ other o within. row_found other ∙ none other o within)
