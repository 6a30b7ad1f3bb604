-- What an entry more decides and leaves, and where the last one is.
use Rattle.std.proofs.Common.{◌≡◌, ℕ, suc, ◌+◌, ◌-◌, ◌<◌, Bool, true, false, cond, List, [], ◌∷◌, ◌++◌, length, get_or, take, Option, Some, None, refl, sym, ap, ◌∙◌, add-zero, arith}
use Rattle.std.specs.Prelude.{option_map, unwrap_or, slice_get}
use Rattle.std.specs.Option.{option_or}
use Rattle.std.specs.List.{position, position_from}
use Rattle.std.proofs.lemmas.Iterator.Adapters.{position_from-zero}
use Rattle.wp_model.specs.declared.entry.Entry.{Entry}
use Rattle.wp_model.specs.Batch.{change_to}
use Rattle.wp_model.specs.History.{entry_at, decides, changes_of, newest, value_at}
use Rattle.wp_model.specs.Legal.{IsLegal}
use Rattle.wp_history_laws.proofs.Growth.{legal_naming}
use Rattle.wp_history_laws.proofs.Newest.{changed_at, unchanged_at}
use Rattle.wp_cover.specs.Decisions.{decider_of}

-- ---- the first place where a test passes, with an element more

position_from_more : {X : Type 0} (test : X → Bool) (i : ℕ) (xs : List X) (y : X) → position_from test i (xs ++ y ∷ []) ≡ option_or (position_from test i xs) (cond (test y) (Some (i + length xs)) None)
position_from_more test i [] y = ap (λ (n : ℕ). cond (test y) (Some n) None) (sym (add-zero i))
position_from_more test i (x ∷ xs) y = by (test x) (position_from_more test (i + 1) xs y)
  where
    by : (b : Bool) → position_from test (i + 1) (xs ++ y ∷ []) ≡ option_or (position_from test (i + 1) xs) (cond (test y) (Some (i + 1 + length xs)) None) → cond b (Some i) (position_from test (i + 1) (xs ++ y ∷ [])) ≡ option_or (cond b (Some i) (position_from test (i + 1) xs)) (cond (test y) (Some (i + suc (length xs))) None)
    by true rest = refl
    by false rest = let same : i + 1 + length xs ≡ i + suc (length xs) = omega arith in rest ∙ ap (λ (n : ℕ). option_or (position_from test (i + 1) xs) (cond (test y) (Some n) None)) same

position_more : {X : Type 0} (test : X → Bool) (xs : List X) (y : X) → position test (xs ++ y ∷ []) ≡ option_or (position test xs) (cond (test y) (Some (length xs)) None)
position_more test xs y =
    position_from-zero test (xs ++ y ∷ [])
    ∙ position_from_more test 0 xs y
    ∙ (λ i. option_or (sym (position_from-zero test xs) i) (cond (test y) (Some (zero_add i)) None))
  where
    zero_add : 0 + length xs ≡ length xs
    zero_add = omega arith

suc_either : (a : Option ℕ) (b : Bool) (n : ℕ) → option_map suc (option_or a (cond b (Some n) None)) ≡ option_or (option_map suc a) (cond b (Some (suc n)) None)
suc_either None true n = refl
suc_either None false n = refl
suc_either (Some m) b n = refl

pub decider_next : (entries : List Entry) (entry : Entry) (p : ℕ) → decider_of (entries ++ entry ∷ []) p ≡ option_or (decider_of entries p) (cond (decides p entry) (Some (suc (length entries))) None)
decider_next entries entry p = ap (option_map suc) (position_more (decides p) entries entry) ∙ suc_either (position (decides p) entries) (decides p entry) (length entries)

-- ---- what the first entries leave

-- what the first i + 1 entries leave under the key, by what the last of them changes there
pub value_more : (history : List Entry) (key : List ℕ) (i : ℕ) (here : Entry) → IsLegal history → i < length history → here ≡ get_or history i here → value_at history key (i + 1) ≡ unwrap_or (change_to (changes_of history here) key) (value_at history key i)
value_more history key i here legal lt is = by (change_to (changes_of history here) key) refl
  where
    by : (c : Option (Option (List ℕ))) → change_to (changes_of history here) key ≡ c → newest (take (i + 1) history) key ≡ unwrap_or c (newest (take i history) key)
    by None e = unchanged_at history key i (i + 1) here (legal_naming history legal.each) refl lt is e
    by (Some value) e = changed_at history key i (i + 1) here value (legal_naming history legal.each) refl lt is (sym e)

-- ---- the last entry

pub entry_at_last : (history : List Entry) (entry : Entry) → slice_get history (length history - 1) ≡ Some entry → entry_at history (length history) ≡ Some entry
entry_at_last [] entry at = absurd cc
entry_at_last (first ∷ others) entry at = ap (slice_get (first ∷ others)) (let e : length others ≡ suc (length others) - 1 = omega arith in e) ∙ at
