-- Each key is from the least word on, and up to the greatest one: so the rows between these two are all rows.
use Rattle.std.proofs.Common.{◌≡◌, ℕ, zero, suc, ◌≤◌, true, false, ◌&&◌, cond, T, Less, Equal, Greater, List, [], ◌∷◌, length, Some, None, refl, sym, ap, ◌∙◌, arith}
use Rattle.std.specs.Prelude.{nat_le}
use Rattle.std.specs.FinMap as finite
use Rattle.std.specs.FinMap.Entries.{below_all}
use Rattle.std.specs.List.{AllByRecursion, filter, list_all}
use Rattle.std.specs.List.Sorted.{IsStrictlySortedBy}
use Rattle.std.specs.Map.{keys_of}
use Rattle.std.specs.Ordering.{is_le, is_lt, nat_cmp}
use Rattle.std.specs.declared.cmp.Ordering.{Ordering}
use Rattle.std.specs.Cmp.Lexicographic.{slice_cmp}
use Rattle.std.proofs.Math.ListN.{replicate}
use Rattle.std.proofs.lemmas.Bool.{and_parts}
use Rattle.std.proofs.lemmas.Bool.Decides.{nat_tests}
use Rattle.wp_model.specs.declared.entry.Entry.{Entry}
use Rattle.wp_model.specs.Batch.{key_cmp}
use Rattle.wp_model.specs.Rows.{Pair, is_from, rows, rows_at}
use Rattle.wp_model.specs.Word.{is_word_byte, is_key}
use Rattle.wp_model.proofs.Rows.{found, found_here, first_of, first_true, second_true, none_below, found_behind, row_found, rows_sorted}
use Rattle.wp_read.specs.Rows.{HasWords}
use Rattle.wp_copy.specs.Rows.{least, greatest}

-- ---- the two ends

-- the parts of a word: it has some bytes, not too many, and each is one of a word's
parts : (key : List ℕ) → is_key key ≡ true → (1 ≤ length key) × (length key ≤ 64) × (list_all is_word_byte key ≡ true)
parts key is =
    let both = and_parts (nat_le 1 (length key) && nat_le (length key) 64) (list_all is_word_byte key) is in
    let ends = and_parts (nat_le 1 (length key)) (nat_le (length key) 64) both.0 in
    (grind (arith, nat_tests, ends.0), grind (arith, nat_tests, ends.1), both.1)

pub from_least : (key : List ℕ) → is_key key ≡ true → is_from false least key ≡ true
from_least [] is = let none = parts [] is in absurd (omega (arith, none.0))
from_least (byte ∷ bytes) is =
    let p = parts (byte ∷ bytes) is in let each = and_parts (is_word_byte byte) (list_all is_word_byte bytes) p.2 in
    let low : 33 ≤ byte = let k = (and_parts (nat_le 33 byte) (nat_le byte 126) each.0).0 in grind (arith, nat_tests, k) in
    by low (nat_cmp 33 byte) refl bytes
  where
    by : 33 ≤ byte → (o : Ordering) → nat_cmp 33 byte ≡ o → (rest : List ℕ) → is_le (slice_cmp nat_cmp (33 ∷ []) (byte ∷ rest)) ≡ true
    by low Less e rest = rw e refl
    by low Equal e [] = rw e refl
    by low Equal e (b ∷ rest) = rw e refl
    by low Greater e rest = absurd (grind (arith, nat_tests, e, low))

up_to : (n : ℕ) (key : List ℕ) → length key ≤ n → list_all is_word_byte key ≡ true → is_le (slice_cmp nat_cmp key (replicate n 126)) ≡ true
up_to zero [] few all = refl
up_to (suc n) [] few all = refl
up_to zero (byte ∷ bytes) few all = absurd (omega (arith, few))
up_to (suc n) (byte ∷ bytes) few all =
    let each = and_parts (is_word_byte byte) (list_all is_word_byte bytes) all in
    let high : byte ≤ 126 = let k = (and_parts (nat_le 33 byte) (nat_le byte 126) each.0).1 in grind (arith, nat_tests, k) in
    by high (up_to n bytes (omega (arith, few)) each.1) (nat_cmp byte 126) refl
  where
    by : byte ≤ 126 → is_le (slice_cmp nat_cmp bytes (replicate n 126)) ≡ true → (o : Ordering) → nat_cmp byte 126 ≡ o → is_le (slice_cmp nat_cmp (byte ∷ bytes) (126 ∷ replicate n 126)) ≡ true
    by high rest Less e = rw e refl
    by high rest Equal e = rw e rest
    by high rest Greater e = absurd (grind (arith, nat_tests, e, high))

pub to_greatest : (key : List ℕ) → is_key key ≡ true → is_from false key greatest ≡ true
to_greatest key is = let p = parts key is in up_to 64 key p.1 p.2

-- ---- all rows

all_kept : (from to : List ℕ) (es : List Pair) → T (finite.is_sorted key_cmp es) → ((key value : List ℕ) → found key es ≡ Some value → (is_from false from key ≡ true) × (is_from false key to ≡ true))
    → filter (λ row. is_from false from row.0 && is_from false row.0 to) es ≡ es
all_kept from to [] sorted each = refl
all_kept from to (e ∷ es) sorted each =
    let below = first_of (below_all key_cmp e.0 es) (finite.is_sorted key_cmp es) sorted in
    let here = each e.0 e.1 (found_here e.0 e es refl) in
    let behind = all_kept from to es (second_true (below_all key_cmp e.0 es) (finite.is_sorted key_cmp es) sorted) (λ key value there. each key value (found_behind key e es (other key value there (none_below e.0 es below)) ∙ there)) in
    (λ i. cond (here.0 i && here.1 i) (e ∷ filter (λ (row : Pair). is_from false from row.0 && is_from false row.0 to) es) (filter (λ (row : Pair). is_from false from row.0 && is_from false row.0 to) es))
    ∙ ap (λ (ws : List Pair). e ∷ ws) behind
  where
    other : (key value : List ℕ) → found key es ≡ Some value → found e.0 es ≡ None → key ≡ e.0 → ⊥
    other key value there none same = let found_none : found key es ≡ None = ap (λ (k : List ℕ). found k es) same ∙ none in absurd cc

pub all_rows : (history : List Entry) (n : ℕ) → HasWords history n → rows history least greatest n ≡ rows_at history n
all_rows history n words =
    all_kept least greatest (rows_at history n) (rows_sorted history n) (λ key value there. let is = words key value (sym (row_found history n key) ∙ there) in (from_least key is, to_greatest key is))

-- ---- their keys ascend

less_all : (key : List ℕ) (es : List Pair) → T (below_all key_cmp key es) → AllByRecursion (λ q. key_cmp key q ≡ Less) (keys_of es)
less_all key [] below = tt
less_all key (e ∷ es) below = (is_less (key_cmp key e.0) (first_true (is_lt (key_cmp key e.0)) (below_all key_cmp key es) below), less_all key es (second_true (is_lt (key_cmp key e.0)) (below_all key_cmp key es) below))
  where
    is_less : (o : Ordering) → is_lt o ≡ true → o ≡ Less
    is_less Less is = refl
    is_less Equal is = absurd cc
    is_less Greater is = absurd cc

ascend : (es : List Pair) → T (finite.is_sorted key_cmp es) → IsStrictlySortedBy key_cmp (keys_of es)
unfolding IsStrictlySortedBy
ascend [] sorted = tt
ascend (e ∷ es) sorted = (less_all e.0 es (first_of (below_all key_cmp e.0 es) (finite.is_sorted key_cmp es) sorted), ascend es (second_true (below_all key_cmp e.0 es) (finite.is_sorted key_cmp es) sorted))

pub rows_ascend : (history : List Entry) (n : ℕ) → IsStrictlySortedBy key_cmp (keys_of (rows_at history n))
rows_ascend history n = ascend (rows_at history n) (rows_sorted history n)
