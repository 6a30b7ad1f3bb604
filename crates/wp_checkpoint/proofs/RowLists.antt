-- The versions of rows whose keys ascend: of each key one at most, and it has the key's value.
use Rattle.std.proofs.Common.{◌≡◌, ◌⊎◌, inl, inr, ℕ, Bool, true, false, cond, Less, List, [], ◌∷◌, ◌++◌, map, Option, None, Some, refl, sym, ap, ◌∙◌, subst}
use Rattle.std.specs.List.{AllByRecursion}
use Rattle.std.specs.List.Sorted.{IsStrictlySortedBy}
use Rattle.std.specs.Map.{keys_of}
use Rattle.std.specs.Ordering.{nat_cmp, ordering_then}
use Rattle.std.specs.declared.cmp.Ordering.{Ordering}
use Rattle.std.proofs.lemmas.List.{append-nil, append_assoc, map-append}
use Rattle.wp_model.specs.declared.row.Row.{Row}
use Rattle.wp_model.specs.declared.version.Version.{Version}
use Rattle.wp_model.specs.Batch.{key_cmp}
use Rattle.wp_model.specs.Rows.{Pair, pair_of}
use Rattle.wp_model.specs.Versions.{AreInOrder, version_at}
use Rattle.wp_model.proofs.Keyed.{is_word_same}
use Rattle.wp_model.proofs.Ordered.{IsLess, less_not_same}
use Rattle.wp_model.proofs.Rows.{found, found_behind, found_here}
use Rattle.wp_model.proofs.Tests.{none_some, same_some}
use Rattle.wp_model.proofs.VersionLists.{IsBefore, in_order_nil, in_order_cons}
use Rattle.wp_merge.proofs.Merged.{is_here, place_of}
use Rattle.wp_merge.proofs.Sorted.{own_value}
use Rattle.wp_checkpoint.specs.Copy.{version_of}
use Rattle.wp_checkpoint.specs.Image.{AreMadeOf}

abbrev pub Ascend : List Pair → Type 0
Ascend pairs = IsStrictlySortedBy key_cmp (keys_of pairs)

-- the key is below each of these
abbrev IsBelow : List ℕ → List Row → Type 0
IsBelow key rows = AllByRecursion (λ other. key_cmp key other ≡ Less) (keys_of (map pair_of rows))

ascend_parts : (row : Row) (rows : List Row) → Ascend (map pair_of (row ∷ rows)) → IsBelow row.key rows × Ascend (map pair_of rows)
unfolding IsStrictlySortedBy
ascend_parts row rows h = h

-- ---- their order

before_rows : (row : Row) (rows : List Row) → IsBelow row.key rows → IsBefore (version_of row) (map version_of rows)
before_rows row [] below = tt
before_rows row (other ∷ rows) below = (ap (λ (o : Ordering). ordering_then o (nat_cmp other.number row.number)) below.0, before_rows row rows below.1)

pub rows_in_order : (rows : List Row) → Ascend (map pair_of rows) → AreInOrder (map version_of rows)
rows_in_order [] ascend = in_order_nil
rows_in_order (row ∷ rows) ascend =
    let parts = ascend_parts row rows ascend in
    in_order_cons (version_of row) (map version_of rows) (before_rows row rows parts.0) (rows_in_order rows parts.1)

-- ---- what is under a key and a number

-- what is found is the first row's, or one's behind it
at_first : (row : Row) (rows : List Row) (key : List ℕ) (n : ℕ) (value : Option (List ℕ)) → version_at (map version_of (row ∷ rows)) key n ≡ Some value
    → ((row.key ≡ key) × (row.number ≡ n) × (Some row.value ≡ value)) ⊎ (version_at (map version_of rows) key n ≡ Some value)
at_first row rows key n value there = by (is_here key n (version_of row)) refl there
  where
    by : (b : Bool) → is_here key n (version_of row) ≡ b → cond b (Some (Some row.value)) (version_at (map version_of rows) key n) ≡ Some value
        → ((row.key ≡ key) × (row.number ≡ n) × (Some row.value ≡ value)) ⊎ (version_at (map version_of rows) key n ≡ Some value)
    by true here is = let place = place_of key n (version_of row) here in inl (place.0, place.1, same_some (Some row.value) value is)
    by false other is = inr is

-- what is found is behind a key that is below all
less_found : (key other : List ℕ) (rows : List Row) (n : ℕ) (value : Option (List ℕ)) → IsBelow key rows → version_at (map version_of rows) other n ≡ Some value → IsLess key other
less_found key other [] n value below there = absurd cc
less_found key other (row ∷ rows) n value below there = by (less_found key other rows n value below.1) (at_first row rows other n value there)
  where
    by : (version_at (map version_of rows) other n ≡ Some value → IsLess key other) → ((row.key ≡ other) × (row.number ≡ n) × (Some row.value ≡ value)) ⊎ (version_at (map version_of rows) other n ≡ Some value) → IsLess key other
    by again (inl here) = subst (IsLess key) here.0 below.0
    by again (inr behind) = again behind

-- a row of that key and number, with its value, which the key has among the pairs
pub record RowAt (P : Row → Type 0) (rows : List Row) (key : List ℕ) (n : ℕ) (value : Option (List ℕ)) : Type 0 where
  pub row : Row
  pub of_key : row.key ≡ key
  pub numbered : row.number ≡ n
  pub has : Some row.value ≡ value
  pub passes : P row
  pub paired : found key (map pair_of rows) ≡ Some row.value

pub row_at : (P : Row → Type 0) (rows : List Row) (key : List ℕ) (n : ℕ) (value : Option (List ℕ)) → Ascend (map pair_of rows) → AllByRecursion P rows → version_at (map version_of rows) key n ≡ Some value → RowAt P rows key n value
row_at P [] key n value ascend each there = absurd cc
row_at P (row ∷ rows) key n value ascend each there = by (λ rest. row_at P rows key n value rest each.1) (ascend_parts row rows ascend) (at_first row rows key n value there)
  where
    by : (Ascend (map pair_of rows) → version_at (map version_of rows) key n ≡ Some value → RowAt P rows key n value) → IsBelow row.key rows × Ascend (map pair_of rows)
        → ((row.key ≡ key) × (row.number ≡ n) × (Some row.value ≡ value)) ⊎ (version_at (map version_of rows) key n ≡ Some value) → RowAt P (row ∷ rows) key n value
    by again parts (inl here) = record {
      row = row;
      of_key = here.0;
      numbered = here.1;
      has = here.2;
      passes = each.0;
      paired = found_here key (pair_of row) (map pair_of rows) (sym here.0);
    }
    by again parts (inr behind) =
        let less = less_found row.key key rows n value parts.0 behind in
        let rest = again parts.1 behind in
        record {
          row = rest.row;
          of_key = rest.of_key;
          numbered = rest.numbered;
          has = rest.has;
          passes = rest.passes;
          paired = found_behind key (pair_of row) (map pair_of rows) (λ same. less_not_same row.key key less (sym same)) ∙ rest.paired;
        }

-- no key has two
pub one_row : (rows : List Row) (key : List ℕ) (p q : ℕ) (value other : Option (List ℕ)) → Ascend (map pair_of rows) → version_at (map version_of rows) key p ≡ Some value → version_at (map version_of rows) key q ≡ Some other → p ≡ q
one_row [] key p q value other ascend one two = absurd cc
one_row (row ∷ rows) key p q value other ascend one two = by (λ rest. one_row rows key p q value other rest) (ascend_parts row rows ascend) (at_first row rows key p value one) (at_first row rows key q other two)
  where
    by : (Ascend (map pair_of rows) → version_at (map version_of rows) key p ≡ Some value → version_at (map version_of rows) key q ≡ Some other → p ≡ q) → IsBelow row.key rows × Ascend (map pair_of rows)
        → ((row.key ≡ key) × (row.number ≡ p) × (Some row.value ≡ value)) ⊎ (version_at (map version_of rows) key p ≡ Some value)
        → ((row.key ≡ key) × (row.number ≡ q) × (Some row.value ≡ other)) ⊎ (version_at (map version_of rows) key q ≡ Some other) → p ≡ q
    by again parts (inl here) (inl there) = sym here.1 ∙ there.1
    by again parts (inl here) (inr behind) = absurd (less_not_same row.key key (less_found row.key key rows q other parts.0 behind) here.0)
    by again parts (inr behind) (inl here) = absurd (less_not_same row.key key (less_found row.key key rows p value parts.0 behind) here.0)
    by again parts (inr one_behind) (inr two_behind) = again parts.1 one_behind two_behind

-- ---- what a key has among the pairs

-- a row has it
pub row_of : (rows : List Row) (key value : List ℕ) → found key (map pair_of rows) ≡ Some value → (n : ℕ) × (version_at (map version_of rows) key n ≡ Some (Some value))
row_of [] key value is = absurd cc
row_of (row ∷ rows) key value is = by (row_of rows key value) (is_word_same key row.key)
  where
    by : (found key (map pair_of rows) ≡ Some value → (n : ℕ) × (version_at (map version_of rows) key n ≡ Some (Some value))) → (key ≡ row.key) ⊎ (key ≡ row.key → ⊥) → (n : ℕ) × (version_at (map version_of (row ∷ rows)) key n ≡ Some (Some value))
    by again (inl same) =
        let has : row.value ≡ value = same_some row.value value (sym (found_here key (pair_of row) (map pair_of rows) same) ∙ is) in
        (row.number, subst (λ (k : List ℕ). version_at (map version_of (row ∷ rows)) k row.number ≡ Some (Some value)) (sym same) (own_value (version_of row) (map version_of rows) ∙ ap (λ (v : List ℕ). Some (Some v)) has))
    by again (inr differ) =
        let rest = again (sym (found_behind key (pair_of row) (map pair_of rows) differ) ∙ is) in
        (rest.0, past rest.0 (is_here key rest.0 (version_of row)) refl rest.1)
      where
        past : (n : ℕ) (b : Bool) → is_here key n (version_of row) ≡ b → version_at (map version_of rows) key n ≡ Some (Some value) → version_at (map version_of (row ∷ rows)) key n ≡ Some (Some value)
        past n true here there = absurd (differ (sym (place_of key n (version_of row) here).0))
        past n false other there = ap (λ (b : Bool). cond b (Some (Some row.value)) (version_at (map version_of rows) key n)) other ∙ there

-- without one no row has the key
pub no_row : (rows : List Row) (key : List ℕ) (n : ℕ) → Ascend (map pair_of rows) → found key (map pair_of rows) ≡ None → version_at (map version_of rows) key n ≡ None
no_row rows key n ascend none = by (version_at (map version_of rows) key n) refl
  where
    all : (rows : List Row) → AllByRecursion (λ (row : Row). Unit {0}) rows
    all [] = tt
    all (row ∷ rows) = (tt, all rows)

    by : (o : Option (Option (List ℕ))) → version_at (map version_of rows) key n ≡ o → o ≡ None
    by None e = refl
    by (Some value) e = let at = row_at (λ row. Unit {0}) rows key n value ascend (all rows) e in absurd (none_some (found key (map pair_of rows)) at.row.value none at.paired)

-- ---- row after row

-- so far these rows were given, and their versions are there
pub record AreSoFar (P : Row → Type 0) (left now : List Pair) (versions : List Version) : Type 0 where
  pub rows : List Row
  pub all : map pair_of rows ++ now ≡ left
  pub each : AllByRecursion P rows
  pub are : versions ≡ map version_of rows

pub so_far_none : (P : Row → Type 0) (left : List Pair) (versions : List Version) → versions ≡ [] → AreSoFar P left left versions
so_far_none P left versions none = record { rows = []; all = refl; each = tt; are = none }

each_more : (P : Row → Type 0) (rows : List Row) (row : Row) → AllByRecursion P rows → P row → AllByRecursion P (rows ++ row ∷ [])
each_more P [] row each one = (one, tt)
each_more P (first ∷ rows) row each one = (each.0, each_more P rows row each.1 one)

pub so_far_more : (P : Row → Type 0) (left now after : List Pair) (versions more : List Version) (row : Row) → now ≡ pair_of row ∷ after → P row → more ≡ versions ++ version_of row ∷ [] → AreSoFar P left now versions → AreSoFar P left after more
so_far_more P left now after versions more row first passes is s = record {
  rows = s.rows ++ row ∷ [];
  all =
      ap (λ (l : List Pair). l ++ after) (map-append pair_of s.rows (row ∷ []))
      ∙ append_assoc (map pair_of s.rows) (pair_of row ∷ []) after
      ∙ ap (λ (l : List Pair). map pair_of s.rows ++ l) (sym first)
      ∙ s.all;
  each = each_more P s.rows row s.each passes;
  are = is ∙ ap (λ (l : List Version). l ++ version_of row ∷ []) s.are ∙ sym (map-append version_of s.rows (row ∷ []));
}

pub so_far_all : (P : Row → Type 0) (left now : List Pair) (versions : List Version) → now ≡ [] → AreSoFar P left now versions → AreMadeOf left P (map version_of) versions
so_far_all P left now versions none s = record {
  rows = s.rows;
  all = sym (append-nil (map pair_of s.rows)) ∙ ap (λ (l : List Pair). map pair_of s.rows ++ l) (sym none) ∙ s.all;
  each = s.each;
  are = s.are;
}
