-- Versions in order, searched for those of one key.
use Rattle.std.proofs.Common.{◌≡◌, ℕ, zero, suc, ◌+◌, ◌*◌, ◌<◌, ◌≤◌, Bool, true, false, Less, Equal, Greater, List, [], ◌∷◌, length, drop, filter, not, Option, Some, None, refl, sym, ap, ◌∙◌, arith, inl, inr, ◌⊎◌}
use Rattle.std.specs.declared.cmp.Ordering.{Ordering}
use Rattle.std.specs.Option.{option_map}
use Rattle.std.specs.Ordering.{nat_cmp, is_lt, is_le, ordering_then, ordering_reverse}
use Rattle.std.specs.Str.{bytes_eq}
use Rattle.std.proofs.lemmas.Cmp.{nat_list_cmp_total}
use Rattle.std.proofs.lemmas.Map.Lookups.{exact_bytes}
use Rattle.std.proofs.lemmas.Slice.Eq.{bytes_eq-Decides}
use Rattle.wp_fields.proofs.Results.{either}
use Rattle.wp_model.specs.Batch.{key_cmp}
use Rattle.wp_model.specs.declared.version.Version.{Version}
use Rattle.wp_model.specs.Versions.{AreInOrder, version_cmp}
use Rattle.wp_model.proofs.BatchLemmas.{less_from_test}
use Rattle.wp_model.proofs.VersionLists.{IsBefore, in_order_parts}
use Rattle.wp_model.specs.Rows.{is_from, next_version}
use Rattle.wp_table.specs.declared.version.VersionRef.{VersionRef}
use Rattle.wp_table.specs.Borrowed.{seen, with_next, is_short, begins_short, begins_below, skip_short, front_with}
use Rattle.std.proofs.lemmas.List.{drop_all, drop-drop}
use Rattle.wp_table.specs.declared.layout.TheConstants.{BLOCK}
use Rattle.wp_table.specs.Table.{block_count}
use Rattle.wp_table.specs.Walk.{StandsFrom}
use Rattle.wp_table.proofs.BlockLemmas.{count_bounds}
use Rattle.wp_table.proofs.Order.{in_order_drop}

-- ---- earlier and later versions

not_after : (o p : Ordering) → ordering_then o p ≡ Less → (o ≡ Less) ⊎ (o ≡ Equal)
not_after Less p h = inl refl
not_after Equal p h = inr refl
not_after Greater p h = absurd cc

test_of_less : (o : Ordering) → o ≡ Less → is_lt o ≡ true
test_of_less o e = ap is_lt e

-- a key that is not after one that comes before what is looked for comes before that too
less_short : (above : Bool) (a b key : List ℕ) → key_cmp a b ≡ Less → is_short above key b ≡ true → is_short above key a ≡ true
less_short false a b key before short = ap is_lt (nat_list_cmp_total.trans a b key before (less_from_test _ short))
less_short true a b key before short = by (key_cmp b key) refl short
  where
    by : (o : Ordering) → key_cmp b key ≡ o → is_le o ≡ true → is_le (key_cmp a key) ≡ true
    by Less e is = ap is_le (nat_list_cmp_total.trans a b key before e)
    by Equal e is = ap is_le (ap (key_cmp a) (sym (exact_bytes b key e)) ∙ before)
    by Greater e is = absurd cc

shorter : (above : Bool) (v w : Version) (key : List ℕ) → version_cmp v w ≡ Less → is_short above key w.key ≡ true → is_short above key v.key ≡ true
shorter above v w key h short =
    elim (not_after (key_cmp v.key w.key) (nat_cmp w.number v.number) h) [
      | inl before ↦ less_short above v.key w.key key before short
      | inr same ↦ ap (is_short above key) (exact_bytes v.key w.key same) ∙ short
    ]

true_or_false : true ≡ false → ⊥
true_or_false h = absurd cc

-- a key that is not after that one, and not lesser, is the same
same_key : (v w : Version) (key : List ℕ) → version_cmp v w ≡ Less → bytes_eq w.key key ≡ true → is_lt (key_cmp v.key key) ≡ false → bytes_eq v.key key ≡ true
same_key v w key h equal not_less =
    let is : w.key ≡ key = (bytes_eq-Decides w.key key).0 equal in
    elim (not_after (key_cmp v.key w.key) (nat_cmp w.number v.number) h) [
      | inl before ↦ absurd (true_or_false (sym (test_of_less (key_cmp v.key key) (ap (key_cmp v.key) (sym is) ∙ before)) ∙ not_less))
      | inr same ↦ (bytes_eq-Decides v.key key).1 (exact_bytes v.key w.key same ∙ is)
    ]

-- ---- what is found

less_or_greater : Less ≡ Greater → ⊥
less_or_greater h = absurd cc

not_itself : (key : List ℕ) → key_cmp key key ≡ Less → ⊥
not_itself key less = less_or_greater (sym less ∙ nat_list_cmp_total.antisymm key key ∙ ap ordering_reverse less)

other_key : (v : Version) (key : List ℕ) → is_lt (key_cmp v.key key) ≡ true → bytes_eq v.key key ≡ false
other_key v key less =
    elim (either (bytes_eq v.key key)) [
      | inl same ↦ absurd (not_itself key (ap (λ (k : List ℕ). key_cmp k key) (sym ((bytes_eq-Decides v.key key).0 same)) ∙ less_from_test _ less))
      | inr differ ↦ differ
    ]

abbrev has : List ℕ → Version → Bool
has key v = bytes_eq v.key key

-- behind a key that does not come before what is looked for comes none that does
not_short_next : (above : Bool) (v : Version) (vs : List Version) (key : List ℕ) → AreInOrder (v ∷ vs) → is_short above key v.key ≡ false → begins_short above key vs ≡ false
not_short_next above v [] key h not_short = refl
not_short_next above v (w ∷ vs) key h not_short =
    elim (either (is_short above key w.key)) [
      | inl short ↦ absurd (true_or_false (sym (shorter above v w key (in_order_parts v (w ∷ vs) h).0.0 short) ∙ not_short))
      | inr is ↦ is
    ]

not_short_later : (above : Bool) (n : ℕ) (vs : List Version) (key : List ℕ) → AreInOrder vs → begins_short above key vs ≡ false → begins_short above key (drop n vs) ≡ false
not_short_later above zero vs key h not_short = not_short
not_short_later above (suc n) [] key h not_short = refl
not_short_later above (suc n) (v ∷ vs) key h not_short = not_short_later above n vs key (in_order_parts v vs h).1 (not_short_next above v vs key h not_short)

-- before one that comes before what is looked for all do
short_before : (above : Bool) (n : ℕ) (vs : List Version) (key : List ℕ) → AreInOrder vs → begins_short above key (drop n vs) ≡ true → skip_short above key (drop n vs) ≡ skip_short above key vs
short_before above zero vs key h short = refl
short_before above (suc n) [] key h short = refl
short_before above (suc n) (v ∷ vs) key h short =
    let here : is_short above key v.key ≡ true = elim (either (is_short above key v.key)) [
      | inl is ↦ is
      | inr not_short ↦ absurd (true_or_false (sym short ∙ not_short_later above (suc n) (v ∷ vs) key h not_short))
    ] in
    rw here (short_before above n vs key (in_order_parts v vs h).1 short)

-- behind a greater key the key does not stand
none_behind : (v : Version) (vs : List Version) (key : List ℕ) → IsBefore v vs → is_lt (key_cmp v.key key) ≡ false → bytes_eq v.key key ≡ false → filter (has key) vs ≡ []
none_behind v [] key before not_less other = refl
none_behind v (w ∷ vs) key before not_less other =
    let differ : bytes_eq w.key key ≡ false = elim (either (bytes_eq w.key key)) [
      | inl same ↦ absurd (true_or_false (sym (same_key v w key before.0 same not_less) ∙ other))
      | inr is ↦ is
    ] in
    rw differ (none_behind v vs key before.1 not_less other)

front_is : (vs : List Version) (key : List ℕ) → AreInOrder vs → begins_below key vs ≡ false → front_with key vs ≡ filter (has key) vs
front_is [] key h not_less = refl
front_is (v ∷ vs) key h not_less =
    let parts = in_order_parts v vs h in
    elim (either (bytes_eq v.key key)) [
      | inl same ↦ rw same (ap (λ (ws : List Version). v ∷ ws) (front_is vs key parts.1 (not_short_next false v vs key h not_less)))
      | inr other ↦ rw other (sym (none_behind v vs key parts.0 not_less other))
    ]

found_in : (vs : List Version) (key : List ℕ) → AreInOrder vs → front_with key (skip_short false key vs) ≡ filter (has key) vs
found_in [] key h = refl
found_in (v ∷ vs) key h =
    elim (either (is_lt (key_cmp v.key key))) [
      | inl less ↦ rw (less, other_key v key less) (found_in vs key (in_order_parts v vs h).1)
      | inr not_less ↦ rw not_less (front_is (v ∷ vs) key h not_less)
    ]

-- what is found from a place on, in front of which the key does not stand
pub found_from : (n : ℕ) (vs : List Version) (key : List ℕ) → AreInOrder vs → filter (has key) (drop n vs) ≡ filter (has key) vs → front_with key (skip_short false key (drop n vs)) ≡ filter (has key) vs
found_from n vs key h from = found_in (drop n vs) key (in_order_drop n vs h) ∙ from

-- where all in front of a place come before the key, it does not stand there
pub key_stands : (n : ℕ) (vs : List Version) (key : List ℕ) → AreInOrder vs → skip_short false key (drop n vs) ≡ skip_short false key vs → filter (has key) (drop n vs) ≡ filter (has key) vs
key_stands n vs key h from = sym (found_in (drop n vs) key (in_order_drop n vs h)) ∙ ap (front_with key) from ∙ found_in vs key h

-- ---- the next version

from_is_not_short : (above : Bool) (key other : List ℕ) → is_from above key other ≡ not (is_short above key other)
from_is_not_short true key other = ap is_lt (nat_list_cmp_total.antisymm key other) ∙ by (key_cmp other key)
  where
    by : (o : Ordering) → is_lt (ordering_reverse o) ≡ not (is_le o)
    by Less = refl
    by Equal = refl
    by Greater = refl
from_is_not_short false key other = ap is_le (nat_list_cmp_total.antisymm key other) ∙ by (key_cmp other key)
  where
    by : (o : Ordering) → is_le (ordering_reverse o) ≡ not (is_lt o)
    by Less = refl
    by Equal = refl
    by Greater = refl

abbrev front : List Version → Option Version
front [] = None
front (v ∷ vs) = Some v

module _ (above : Bool) (key : List ℕ) where
  next_front : (vs : List Version) → next_version above key vs ≡ front (skip_short above key vs)
  next_front [] = refl
  next_front (v ∷ vs) = by (next_front vs) (is_short above key v.key) refl
    where
      by : next_version above key vs ≡ front (skip_short above key vs) → (b : Bool) → is_short above key v.key ≡ b → next_version above key (v ∷ vs) ≡ front (skip_short above key (v ∷ vs))
      by again true short = rw (from_is_not_short above key v.key, short) again
      by again false not_short = rw (from_is_not_short above key v.key, not_short) refl

  front_next : (o : Option VersionRef) (rest : List Version) → option_map seen o ≡ front (with_next (option_map seen o) rest)
  front_next None rest = refl
  front_next (Some v) rest = refl

  -- it is the first that is not skipped
  pub next_is : (o : Option VersionRef) (rest : List Version) (n : ℕ) (vs : List Version) → with_next (option_map seen o) rest ≡ skip_short above key (drop n vs) → skip_short above key (drop n vs) ≡ skip_short above key vs → option_map seen o ≡ next_version above key vs
  next_is o rest n vs found from = front_next o rest ∙ ap front (found ∙ from) ∙ sym (next_front vs)

-- ---- what is skipped

pub short_front : (above : Bool) (key : List ℕ) (next : Option Version) (rest : List Version) → begins_short above key (with_next next []) ≡ begins_short above key (with_next next rest)
short_front above key None rest = refl
short_front above key (Some v) rest = refl

pub one_skipped : (above : Bool) (key : List ℕ) (next : Option Version) (rest : List Version) → begins_short above key (with_next next []) ≡ true → length (with_next next rest) ≡ length rest + 1
one_skipped above key None rest short = absurd cc
one_skipped above key (Some v) rest short = omega arith

none_skipped : (above : Bool) (vs : List Version) (key : List ℕ) → begins_short above key vs ≡ false → length vs ≤ length (skip_short above key vs)
none_skipped above [] key not_short = omega arith
none_skipped above (v ∷ vs) key not_short = rw not_short (omega arith)

few_skipped : (above : Bool) (n : ℕ) (vs : List Version) (key : List ℕ) → begins_short above key (drop n vs) ≡ false → length vs ≤ n + length (skip_short above key vs)
few_skipped above zero vs key h = omega (arith, none_skipped above vs key h)
few_skipped above (suc n) [] key h = omega arith
few_skipped above (suc n) (v ∷ vs) key h =
    elim (either (is_short above key v.key)) [
      | inl short ↦ rw short (omega (arith, few_skipped above n vs key h))
      | inr not_short ↦ rw not_short (omega arith)
    ]

-- From a block on, behind which none comes before what is looked for, at most the block is skipped.
pub block_skipped : (above : Bool) (block : ℕ) (vs : List Version) (key : List ℕ) → begins_short above key (drop ((block + 1) * BLOCK) vs) ≡ false
    → length (drop (block * BLOCK) vs) ≤ BLOCK + length (skip_short above key (drop (block * BLOCK) vs))
block_skipped above block vs key h =
    let behind : block * BLOCK + BLOCK ≡ (block + 1) * BLOCK = omega arith in
    few_skipped above BLOCK (drop (block * BLOCK) vs) key (ap (begins_short above key) (drop-drop BLOCK (block * BLOCK) vs ∙ ap (λ n. drop n vs) behind) ∙ h)

-- ---- where what is looked for stands

pub all_stand : (vs : List Version) (above : Bool) (key : List ℕ) (blocks : ℕ) → blocks ≡ block_count (length vs) → 1 ≤ blocks → StandsFrom vs above key 0 blocks
all_stand vs above key blocks is some =
    let none : drop (blocks * BLOCK) vs ≡ [] = drop_all (blocks * BLOCK) vs (omega (arith, (count_bounds (length vs)).0, is)) in
    record { later = omega (arith, some); within = omega (arith, is); from = refl; not_short = ap (begins_short above key) none }

pub later_stands : (vs : List Version) (above : Bool) (key : List ℕ) (first behind middle : ℕ) → AreInOrder vs → StandsFrom vs above key first behind → begins_short above key (drop (middle * BLOCK) vs) ≡ true → middle < behind → StandsFrom vs above key middle behind
later_stands vs above key first behind middle h stands short lt =
    record { later = lt; within = stands.within; from = short_before above (middle * BLOCK) vs key h short; not_short = stands.not_short }
