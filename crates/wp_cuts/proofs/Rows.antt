-- A list that has at each number, from 1 to the last, a Write or a Prepare.
use Rattle.std.proofs.Common.{◌≡◌, ℕ, zero, suc, ◌+◌, ◌<◌, ◌≤◌, Bool, true, false, ◌&&◌, not, List, [], ◌∷◌, ◌++◌, length, map, take, Some, None, refl, sym, ap, ◌∙◌, subst, add-zero, arith}
use Rattle.std.specs.Prelude.{slice_get}
use Rattle.std.specs.List.{list_any, range_with_len}
use Rattle.std.proofs.lemmas.Bool.{or_from}
use Rattle.wp_model.specs.declared.entry.Entry.{Entry}
use Rattle.wp_model.specs.declared.entry.Entry.TheVariants.{Write, Prepare, Commit, Undo, Close}
use Rattle.wp_model.specs.History.{entry_at, is_prepare, decides, is_undecided, value_after, newest}
use Rattle.wp_model.specs.Legal.{NamesUndecided, UndoIsClosed, undone_last}
use Rattle.wp_history_laws.specs.Growth.{undone_by}
use Rattle.wp_history_laws.proofs.Undone.{undone_next}
use Rattle.wp_history_laws.proofs.Following.{follow_none, follow_next}
use Rattle.wp_history_laws.proofs.Growth.{AreNaming}
use Rattle.wp_history_laws.proofs.Newest.{newest_next}
use Rattle.wp_cuts.specs.Cut.{is_start}

pub start_names : (before : List Entry) (entry : Entry) → is_start entry ≡ true → NamesUndecided before entry
start_names before (Write batch) is = tt
start_names before (Prepare name batch) is = tt
start_names before (Commit p) is = absurd cc
start_names before (Undo p batch) is = absurd cc
start_names before (Close p) is = absurd cc

pub start_closed : (before : List Entry) (entry : Entry) → is_start entry ≡ true → undone_last before ≡ None → UndoIsClosed before entry
start_closed before (Write batch) is none = none
start_closed before (Prepare name batch) is none = none
start_closed before (Commit p) is none = absurd cc
start_closed before (Undo p batch) is none = absurd cc
start_closed before (Close p) is none = absurd cc

start_decides : (p : ℕ) (entry : Entry) → is_start entry ≡ true → decides p entry ≡ false
start_decides p (Write batch) is = refl
start_decides p (Prepare name batch) is = refl
start_decides p (Commit q) is = absurd cc
start_decides p (Undo q batch) is = absurd cc
start_decides p (Close q) is = absurd cc

start_undoes : (entry : Entry) → is_start entry ≡ true → undone_by entry ≡ None
start_undoes (Write batch) is = refl
start_undoes (Prepare name batch) is = refl
start_undoes (Commit q) is = absurd cc
start_undoes (Undo q batch) is = absurd cc
start_undoes (Close q) is = absurd cc

and_true : (b : Bool) → (b && true) ≡ b
and_true true = refl
and_true false = refl

module _ (row : ℕ → Entry) (starts : (p : ℕ) → is_start (row p) ≡ true) where
  abbrev pub rows : ℕ → List Entry
  rows n = map row (range_with_len 1 n)

  -- ---- what is where

  from_more : (a n : ℕ) → map row (range_with_len a (suc n)) ≡ map row (range_with_len a n) ++ row (a + n) ∷ []
  from_more a zero = ap (λ (p : ℕ). row p ∷ []) (sym (add-zero a))
  from_more a (suc n) =
      let e : a + 1 + n ≡ a + suc n = omega arith in
      ap (λ (h : List Entry). row a ∷ h) (from_more (a + 1) n ∙ ap (λ (p : ℕ). map row (range_with_len (a + 1) n) ++ row p ∷ []) e)

  pub rows_more : (n : ℕ) → rows (suc n) ≡ rows n ++ row (suc n) ∷ []
  rows_more n = from_more 1 n ∙ ap (λ (p : ℕ). rows n ++ row p ∷ []) (let e : 1 + n ≡ suc n = omega arith in e)

  from_long : (a n : ℕ) → length (map row (range_with_len a n)) ≡ n
  from_long a zero = refl
  from_long a (suc n) = ap suc (from_long (a + 1) n)

  pub rows_long : (n : ℕ) → length (rows n) ≡ n
  rows_long n = from_long 1 n

  from_at : (a n i : ℕ) → i < n → slice_get (map row (range_with_len a n)) i ≡ Some (row (a + i))
  from_at a zero i lt = absurd (omega arith)
  from_at a (suc n) zero lt = ap (λ (p : ℕ). Some (row p)) (sym (add-zero a))
  from_at a (suc n) (suc i) lt =
      let e : a + 1 + i ≡ a + suc i = omega arith in
      from_at (a + 1) n i (omega arith) ∙ ap (λ (p : ℕ). Some (row p)) e

  pub rows_at : (n p : ℕ) → 1 ≤ p → p ≤ n → entry_at (rows n) p ≡ Some (row p)
  rows_at n zero le within = absurd (omega arith)
  rows_at n (suc i) le within = from_at 1 n i (omega arith) ∙ ap (λ (p : ℕ). Some (row p)) (let e : 1 + i ≡ suc i = omega arith in e)

  from_take : (a n m : ℕ) → n ≤ m → take n (map row (range_with_len a m)) ≡ map row (range_with_len a n)
  from_take a zero m le = refl
  from_take a (suc n) zero le = absurd (omega arith)
  from_take a (suc n) (suc m) le = ap (λ (h : List Entry). row a ∷ h) (from_take (a + 1) n m (omega arith))

  pub rows_take : (n m : ℕ) → n ≤ m → take n (rows m) ≡ rows n
  rows_take n m le = from_take 1 n m le

  -- ---- nothing is decided or undone

  none_decided_in : (ps : List ℕ) (p : ℕ) → list_any (decides p) (map row ps) ≡ false
  none_decided_in [] p = refl
  none_decided_in (q ∷ ps) p = or_from (decides p (row q)) (list_any (decides p) (map row ps)) (start_decides p (row q) (starts q)) (none_decided_in ps p)

  pub rows_undecided : (n p : ℕ) → is_undecided (rows n) p ≡ is_prepare (entry_at (rows n) p)
  rows_undecided n p = ap (λ (b : Bool). is_prepare (entry_at (rows n) p) && not b) (none_decided_in (range_with_len 1 n) p) ∙ and_true (is_prepare (entry_at (rows n) p))

  pub rows_undone : (n : ℕ) → undone_last (rows n) ≡ None
  rows_undone zero = refl
  rows_undone (suc n) = ap undone_last (rows_more n) ∙ undone_next (rows n) (row (suc n)) ∙ start_undoes (row (suc n)) (starts (suc n))

  -- ---- by growth

  pub rows_naming : (n : ℕ) → AreNaming (rows n)
  rows_naming zero = follow_none NamesUndecided
  rows_naming (suc n) = subst AreNaming (sym (rows_more n)) (follow_next NamesUndecided (rows n) (row (suc n)) (rows_naming n) (start_names (rows n) (row (suc n)) (starts (suc n))))

  pub rows_newest : (n : ℕ) (key : List ℕ) → newest (rows (suc n)) key ≡ value_after (rows n) key (newest (rows n) key) (row (suc n))
  rows_newest n key = ap (λ (h : List Entry). newest h key) (rows_more n) ∙ newest_next (rows n) (row (suc n)) key (rows_naming n) (start_names (rows n) (row (suc n)) (starts (suc n)))
