-- Laws of histories: when a version is decided, and that entries after it leave its decision as it was.
use Rattle.std.proofs.Common.{◌≡◌, ◌⊎◌, inl, inr, ℕ, zero, suc, ◌+◌, ◌<◌, ◌≤◌, nat_lt, ◌==◌, ◌&&◌, ◌||◌, not, Bool, true, false, cond, true≢false, List, [], ◌∷◌, ◌++◌, length, take, refl, sym, subst, ap, ◌∙◌, Option, Some, None, option_map, slice_get, length-append, append_assoc, eq-eqb, arith}
use Rattle.std.proofs.lemmas.Bool.Decides.{nat_tests}
use Rattle.std.proofs.lemmas.Option.{slice_get_within}
use Rattle.std.specs.List.{list_any, position_or_len}
use Rattle.std.proofs.lemmas.Bool.{cases_lt, cond-true, lt-ltb}
use Rattle.wp_model.specs.declared.entry.Entry.{Entry}
use Rattle.wp_model.specs.declared.entry.Entry.TheVariants.{Write, Prepare, Commit, Undo, Close}
use Rattle.wp_model.specs.History.{entry_at, is_prepare, decides, is_undecided}
use Rattle.wp_model.specs.Legal.{IsLegal, IsLegalNext}
use Rattle.wp_model.specs.Decision.{decision_of, decision_in}
use Rattle.wp_history_laws.proofs.Growth.{entry_at_next, after_front, legal_before}
use Rattle.wp_model.proofs.Entries.{entry_at_old, entry_at_past, undecided_within}
use Rattle.wp_judge.specs.Words.{CommitPair, commit_pair}
use Rattle.wp_core.specs.Entries.{pair_by}
use Rattle.wp_core.specs.Sound.Snapshots.{has_versions, has_versions_at}
use Rattle.wp_model.proofs.Tests.{both, one_not_other, same_some}

pub is_equal : (q p : ℕ) → (q == p) ≡ true → q ≡ p
is_equal q p e = grind (arith, nat_tests)

prepare_there : (o : Option Entry) → is_prepare o ≡ true → (e : Entry) × (o ≡ Some e)
prepare_there None is = absurd (true≢false (sym is))
prepare_there (Some e) is = (e, refl)

short : (xs : List Entry) (i : ℕ) → length (take i xs) ≤ i
short [] zero = omega arith
short [] (suc i) = omega arith
short (x ∷ xs) zero = omega arith
short (x ∷ xs) (suc i) = let k = short xs i in omega arith

taken_within : (xs : List Entry) (i n : ℕ) (e : Entry) → slice_get (take i xs) n ≡ Some e → n < i
taken_within xs i n e at = let k = slice_get_within (take i xs) n e at in omega (arith, short xs i)

-- the first that passes
pub record IsFirst (p : Entry → Bool) (xs : List Entry) : Type 0 where
  pub entry : Entry
  pub there : slice_get xs (position_or_len p xs) ≡ Some entry
  pub passes : p entry ≡ true

first_by : (p : Entry → Bool) (x : Entry) (xs : List Entry) (b : Bool) → p x ≡ b → (position_or_len p xs < length xs → IsFirst p xs) → cond (not b) (1 + position_or_len p xs) 0 < length (x ∷ xs)
    → (e : Entry) × (slice_get (x ∷ xs) (cond (not b) (1 + position_or_len p xs) 0) ≡ Some e) × (p e ≡ true)
first_by p x xs true is others lt = (x, refl, is)
first_by p x xs false is others lt =
    let k = others (omega arith) in
    let n : ℕ = position_or_len p xs in
    (k.entry, subst (λ (m : ℕ). slice_get (x ∷ xs) m ≡ Some k.entry) (let e : suc n ≡ 1 + n = omega arith in e) k.there, k.passes)

first_of_them : (p : Entry → Bool) (xs : List Entry) → position_or_len p xs < length xs → IsFirst p xs
first_of_them p [] lt = absurd (omega arith)
first_of_them p (x ∷ xs) lt = let k = first_by p x xs (p x) refl (first_of_them p xs) lt in record { entry = k.0; there = k.1; passes = k.2 }

names_before : (before : List Entry) (p : ℕ) (e : Entry) → decides p e ≡ true → IsLegalNext before e → is_undecided before p ≡ true
names_before before p (Commit q) d legal = subst (λ (n : ℕ). is_undecided before n ≡ true) (is_equal q p d) legal.orderly.names_undecided
names_before before p (Close q) d legal = subst (λ (n : ℕ). is_undecided before n ≡ true) (is_equal q p d) legal.orderly.names_undecided
names_before before p (Write batch) d legal = absurd (true≢false (sym d))
names_before before p (Prepare name batch) d legal = absurd (true≢false (sym d))
names_before before p (Undo q batch) d legal = absurd (true≢false (sym d))

stands_below : (history : List Entry) (i p : ℕ) → is_prepare (entry_at (take i history) p) ≡ true → p ≤ i
stands_below history i zero is = omega arith
stands_below history i (suc n) is = let k = prepare_there (slice_get (take i history) n) is in let l = taken_within history i n k.0 k.1 in omega arith

-- where the first entry that passes stands, by its number
position_is : (test : Entry → Bool) (xs : List Entry) (c : ℕ) → option_map suc (cond (nat_lt (position_or_len test xs) (length xs)) (Some (position_or_len test xs)) None) ≡ Some c → (position_or_len test xs < length xs) × (suc (position_or_len test xs) ≡ c)
position_is test xs c e = by (nat_lt (position_or_len test xs) (length xs)) refl e
  where
    by : (b : Bool) → nat_lt (position_or_len test xs) (length xs) ≡ b → option_map suc (cond b (Some (position_or_len test xs)) None) ≡ Some c → (position_or_len test xs < length xs) × (suc (position_or_len test xs) ≡ c)
    by true lt h = (grind (arith, nat_tests), same_some (suc (position_or_len test xs)) c h)
    by false lt h = let no : None ≡ Some c = h in absurd (cc)

decided_in : (history : List Entry) (p c : ℕ) (o : Option Entry) → IsLegal history → decision_in history p o ≡ Some c → p ≤ c
decided_in history p c (Some (Write batch)) legal e = let q : p ≡ c = cc in omega arith
decided_in history p c (Some (Undo r batch)) legal e = let q : p ≡ c = cc in omega arith
decided_in history p c (Some (Prepare name batch)) legal e =
    let k = position_is (decides p) history c e in
    let i : ℕ = position_or_len (decides p) history in
    let f = first_of_them (decides p) history k.0 in
    let open_before = names_before (take i history) p f.entry f.passes (legal.each i f.entry f.there) in
    let le = stands_below history i p (both _ _ open_before).0 in let same : suc i ≡ c = k.1 in omega arith
decided_in history p c (Some (Commit q)) legal e = let no : None ≡ Some c = e in absurd (cc)
decided_in history p c (Some (Close q)) legal e = let no : None ≡ Some c = e in absurd (cc)
decided_in history p c None legal e = let no : None ≡ Some c = e in absurd (cc)

-- a version's decision is at its number or above
pub decided_late : (history : List Entry) (p c : ℕ) → IsLegal history → decision_of history p ≡ Some c → p ≤ c
decided_late history p c legal e = decided_in history p c (entry_at history p) legal e

-- ---- entries after it

same_first : (test : Entry → Bool) (xs ys : List Entry) → position_or_len test xs < length xs → position_or_len test (xs ++ ys) ≡ position_or_len test xs
same_first test [] ys lt = absurd (omega arith)
same_first test (x ∷ xs) ys lt =
    let rest : position_or_len test xs < length xs → position_or_len test (xs ++ ys) ≡ position_or_len test xs = same_first test xs ys in
    elim (test x) as (λ b. cond (not b) (1 + position_or_len test xs) 0 < suc (length xs) → cond (not b) (1 + position_or_len test (xs ++ ys)) 0 ≡ cond (not b) (1 + position_or_len test xs) 0) [
      | true ↦ λ e. refl
      | false ↦ λ e. ap (λ n. 1 + n) (rest (omega arith))
    ] lt

first_there : (test : Entry → Bool) (xs ys : List Entry) → position_or_len test (xs ++ ys) < length xs → position_or_len test xs ≡ position_or_len test (xs ++ ys)
first_there test [] ys lt = absurd (omega arith)
first_there test (x ∷ xs) ys lt =
    let rest : position_or_len test (xs ++ ys) < length xs → position_or_len test xs ≡ position_or_len test (xs ++ ys) = first_there test xs ys in
    elim (test x) as (λ b. cond (not b) (1 + position_or_len test (xs ++ ys)) 0 < suc (length xs) → cond (not b) (1 + position_or_len test xs) 0 ≡ cond (not b) (1 + position_or_len test (xs ++ ys)) 0) [
      | true ↦ λ e. refl
      | false ↦ λ e. ap (λ n. 1 + n) (rest (omega arith))
    ] lt

any_first : (test : Entry → Bool) (xs : List Entry) → list_any test xs ≡ true → position_or_len test xs < length xs
any_first test [] h = absurd (true≢false (sym h))
any_first test (x ∷ xs) h =
    let rest : list_any test xs ≡ true → position_or_len test xs < length xs = any_first test xs in
    elim (test x) as (λ b. (b || list_any test xs) ≡ true → cond (not b) (1 + position_or_len test xs) 0 < suc (length xs)) [
      | true ↦ λ e. omega arith
      | false ↦ λ e. let r = rest e in omega arith
    ] h

-- the number of the first entry that passes
first_number : (test : Entry → Bool) (xs : List Entry) → position_or_len test xs < length xs → option_map suc (cond (nat_lt (position_or_len test xs) (length xs)) (Some (position_or_len test xs)) None) ≡ Some (suc (position_or_len test xs))
first_number test xs lt = ap (option_map suc) (cond-true _ _ _ (lt-ltb (position_or_len test xs) (length xs) lt))

stays_in : (history more : List Entry) (p c : ℕ) (o : Option Entry) → decision_in history p o ≡ Some c → decision_in (history ++ more) p o ≡ Some c
stays_in history more p c (Some (Write batch)) e = e
stays_in history more p c (Some (Undo r batch)) e = e
stays_in history more p c (Some (Prepare name batch)) e =
    let k = position_is (decides p) history c e in
    let same = same_first (decides p) history more k.0 in
    first_number (decides p) (history ++ more) (omega (arith, same, k.0, length-append history more)) ∙ (ap (λ n. Some (suc n)) same ∙ ap Some k.1)
stays_in history more p c (Some (Commit q)) e = e
stays_in history more p c (Some (Close q)) e = e
stays_in history more p c None e = e

was_in : (history more : List Entry) (p c : ℕ) (o : Option Entry) → c ≤ length history → decision_in (history ++ more) p o ≡ Some c → decision_in history p o ≡ Some c
was_in history more p c (Some (Write batch)) within e = e
was_in history more p c (Some (Undo r batch)) within e = e
was_in history more p c (Some (Prepare name batch)) within e =
    let k = position_is (decides p) (history ++ more) c e in
    let lt : position_or_len (decides p) (history ++ more) < length history = omega (arith, k.1) in
    let same = first_there (decides p) history more lt in
    first_number (decides p) history (omega (arith, same, lt)) ∙ (ap (λ n. Some (suc n)) same ∙ ap Some k.1)
was_in history more p c (Some (Commit q)) within e = e
was_in history more p c (Some (Close q)) within e = e
was_in history more p c None within e = e

none_decides : (history : List Entry) (p c : ℕ) → entry_at history p ≡ None → decision_of history p ≡ Some c → ⊥
none_decides history p c none e = let q : None ≡ Some c = sym (ap (decision_in history p) none) ∙ e in absurd (cc)

-- only what is in the history is decided
pub decided_within : (history : List Entry) (p c : ℕ) → decision_of history p ≡ Some c → p ≤ length history
decided_within history p c e =
    elim (cases_lt (length history) p) [
      | inl past ↦ absurd (none_decides history p c (entry_at_past history p past) e)
      | inr within ↦ within
    ]

-- what is decided stays decided by the same entry
pub decision_stays : (history more : List Entry) (p c : ℕ) → decision_of history p ≡ Some c → decision_of (history ++ more) p ≡ Some c
decision_stays history more p c e = ap (decision_in (history ++ more) p) (entry_at_old history more p (decided_within history p c e)) ∙ stays_in history more p c (entry_at history p) e

-- what a longer history decides by an old entry was decided
pub decision_was : (history more : List Entry) (p c : ℕ) → p ≤ length history → c ≤ length history → decision_of (history ++ more) p ≡ Some c → decision_of history p ≡ Some c
decision_was history more p c le within e = was_in history more p c (entry_at history p) within (sym (ap (decision_in (history ++ more) p) (entry_at_old history more p le)) ∙ e)

-- ---- decided or undecided

either_in : (history : List Entry) (p : ℕ) (o : Option Entry) (b : Bool) → list_any (decides p) history ≡ b → has_versions o ≡ true → ((c : ℕ) × (decision_in history p o ≡ Some c)) ⊎ ((is_prepare o && not b) ≡ true)
either_in history p (Some (Write batch)) b any has = inl (p, refl)
either_in history p (Some (Undo r batch)) b any has = inl (p, refl)
either_in history p (Some (Prepare name batch)) true any has = inl (suc (position_or_len (decides p) history), first_number (decides p) history (any_first (decides p) history any))
either_in history p (Some (Prepare name batch)) false any has = inr refl
either_in history p (Some (Commit q)) b any has = absurd (true≢false (sym has))
either_in history p (Some (Close q)) b any has = absurd (true≢false (sym has))
either_in history p None b any has = absurd (true≢false (sym has))

-- an entry that has versions is decided, or is an undecided prepare
pub decided_or_undecided : (history : List Entry) (p : ℕ) → has_versions_at history p ≡ true → ((c : ℕ) × (decision_of history p ≡ Some c)) ⊎ (is_undecided history p ≡ true)
decided_or_undecided history p has = either_in history p (entry_at history p) (list_any (decides p) history) refl has

position_any : (test : Entry → Bool) (xs : List Entry) → position_or_len test xs < length xs → list_any test xs ≡ true
position_any test [] lt = absurd (omega arith)
position_any test (x ∷ xs) lt =
    let rest : position_or_len test xs < length xs → list_any test xs ≡ true = position_any test xs in
    elim (test x) as (λ b. cond (not b) (1 + position_or_len test xs) 0 < suc (length xs) → (b || list_any test xs) ≡ true) [
      | true ↦ λ e. refl
      | false ↦ λ e. rest (omega arith)
    ] lt

exclusive_in : (history : List Entry) (p c : ℕ) (o : Option Entry) → decision_in history p o ≡ Some c → (is_prepare o && not (list_any (decides p) history)) ≡ true → ⊥
exclusive_in history p c (Some (Write batch)) e u = true≢false (sym u)
exclusive_in history p c (Some (Undo r batch)) e u = true≢false (sym u)
exclusive_in history p c (Some (Prepare name batch)) e u =
    let k = position_is (decides p) history c e in
    true≢false (sym u ∙ ap not (position_any (decides p) history k.0))
exclusive_in history p c (Some (Commit q)) e u = true≢false (sym u)
exclusive_in history p c (Some (Close q)) e u = true≢false (sym u)
exclusive_in history p c None e u = true≢false (sym u)

-- no undecided prepare is decided
pub undecided_not_decided : (history : List Entry) (p c : ℕ) → is_undecided history p ≡ true → decision_of history p ≡ Some c → ⊥
undecided_not_decided history p c u e = exclusive_in history p c (entry_at history p) e u

-- ---- what comes next

within_in : (history : List Entry) (p c : ℕ) (o : Option Entry) → p ≤ length history → decision_in history p o ≡ Some c → c ≤ length history
within_in history p c (Some (Write batch)) low e = let q : p ≡ c = cc in omega arith
within_in history p c (Some (Undo r batch)) low e = let q : p ≡ c = cc in omega arith
within_in history p c (Some (Prepare name batch)) low e =
    let k = position_is (decides p) history c e in let lt = k.0 in let same = k.1 in omega arith
within_in history p c (Some (Commit q)) low e = let no : None ≡ Some c = e in absurd (cc)
within_in history p c (Some (Close q)) low e = let no : None ≡ Some c = e in absurd (cc)
within_in history p c None low e = let no : None ≡ Some c = e in absurd (cc)

-- what decides is in the history
pub decision_within : (history : List Entry) (p c : ℕ) → decision_of history p ≡ Some c → c ≤ length history
decision_within history p c e = within_in history p c (entry_at history p) (decided_within history p c e) e

last_first : (test : Entry → Bool) (xs : List Entry) (y : Entry) → list_any test xs ≡ false → test y ≡ true → position_or_len test (xs ++ y ∷ []) ≡ length xs
last_first test [] y none is = ap (λ b. cond (not b) 1 0) is
last_first test (x ∷ xs) y none is =
    let rest : list_any test xs ≡ false → position_or_len test (xs ++ y ∷ []) ≡ length xs = λ e. last_first test xs y e is in
    elim (test x) as (λ b. (b || list_any test xs) ≡ false → cond (not b) (1 + position_or_len test (xs ++ y ∷ [])) 0 ≡ suc (length xs)) [
      | true ↦ λ e. absurd (true≢false e)
      | false ↦ λ e. let r = rest e in omega arith
    ] none

decided_now : (history : List Entry) (entry : Entry) (p : ℕ) (o : Option Entry) → is_prepare o ≡ true → list_any (decides p) history ≡ false → decides p entry ≡ true → decision_in (history ++ entry ∷ []) p o ≡ Some (suc (length history))
decided_now history entry p (Some (Prepare name batch)) is none now =
    let at = last_first (decides p) history entry none now in
    first_number (decides p) (history ++ entry ∷ []) (omega (arith, at, length-append history (entry ∷ []))) ∙ ap (λ n. Some (suc n)) at
decided_now history entry p (Some (Write batch)) is none now = absurd (true≢false (sym is))
decided_now history entry p (Some (Undo r batch)) is none now = absurd (true≢false (sym is))
decided_now history entry p (Some (Commit q)) is none now = absurd (true≢false (sym is))
decided_now history entry p (Some (Close q)) is none now = absurd (true≢false (sym is))
decided_now history entry p None is none now = absurd (true≢false (sym is))

-- the entry that comes next decides an undecided prepare
pub next_decides_prepare : (history : List Entry) (entry : Entry) (p : ℕ) → is_undecided history p ≡ true → decides p entry ≡ true → decision_of (history ++ entry ∷ []) p ≡ Some (suc (length history))
next_decides_prepare history entry p u now =
    let k = one_not_other (is_prepare (entry_at history p)) (list_any (decides p) history) u in
    let low = (undecided_within history p u).1 in
    decided_now history entry p (entry_at (history ++ entry ∷ []) p) (ap is_prepare (entry_at_old history (entry ∷ []) p low) ∙ k.0) k.1 now

-- what the next entry decides, by its number
pub record IsDecidedNext (history : List Entry) (entry : Entry) (pair : CommitPair) : Type 0 where
  pub decided : decision_of (history ++ entry ∷ []) pair.number ≡ Some pair.decision
  pub positive : 1 ≤ pair.number
  pub ordered : pair.number ≤ pair.decision
  pub last : pair.decision ≡ suc (length history)

is_pair : (history : List Entry) (entry : Entry) (p c : ℕ) (pair : CommitPair) → Some (commit_pair p c) ≡ Some pair → IsDecidedNext history entry (commit_pair p c) → IsDecidedNext history entry pair
is_pair history entry p c pair e k = subst (IsDecidedNext history entry) (same (commit_pair p c) pair e) k
  where
    same : (x y : CommitPair) → Some x ≡ Some y → x ≡ y
    same x y q = cc

entry_next : (history : List Entry) (entry : Entry) → entry_at (history ++ entry ∷ []) (suc (length history)) ≡ Some entry
entry_next history entry = subst (λ (n : ℕ). entry_at (history ++ entry ∷ []) n ≡ Some entry) (let q : length history + 1 ≡ suc (length history) = omega arith in q) (entry_at_next history entry)

decides_itself : (p : ℕ) → (p == p) ≡ true
decides_itself p = eq-eqb p p refl

pub next_decides : (history : List Entry) (entry : Entry) (pair : CommitPair) → IsLegal (history ++ entry ∷ []) → pair_by (suc (length history)) entry ≡ Some pair → IsDecidedNext history entry pair
next_decides history (Write batch) pair legal e =
    is_pair history (Write batch) (suc (length history)) (suc (length history)) pair e
    record { decided = ap (decision_in (history ++ Write batch ∷ []) (suc (length history))) (entry_next history (Write batch)); positive = omega arith; ordered = omega arith; last = refl }
next_decides history (Undo p batch) pair legal e =
    is_pair history (Undo p batch) (suc (length history)) (suc (length history)) pair e
    record { decided = ap (decision_in (history ++ Undo p batch ∷ []) (suc (length history))) (entry_next history (Undo p batch)); positive = omega arith; ordered = omega arith; last = refl }
next_decides history (Commit p) pair legal e =
    let u : is_undecided history p ≡ true = (after_front history (Commit p) [] legal).orderly.names_undecided in let low = undecided_within history p u in
    is_pair history (Commit p) p (suc (length history)) pair e
    record { decided = next_decides_prepare history (Commit p) p u (decides_itself p); positive = low.0; ordered = omega (arith, low.1); last = refl }
next_decides history (Close p) pair legal e =
    let u : is_undecided history p ≡ true = (after_front history (Close p) [] legal).orderly.names_undecided in let low = undecided_within history p u in
    is_pair history (Close p) p (suc (length history)) pair e
    record { decided = next_decides_prepare history (Close p) p u (decides_itself p); positive = low.0; ordered = omega (arith, low.1); last = refl }
next_decides history (Prepare name batch) pair legal e = let no : None ≡ Some pair = e in absurd (cc)

-- the first of entries that may come next may come next
pub first_legal : (history : List Entry) (entry : Entry) (others : List Entry) → IsLegal (history ++ entry ∷ others) → IsLegal (history ++ entry ∷ [])
first_legal history entry others legal = legal_before (history ++ entry ∷ []) others (subst IsLegal (sym (append_assoc history (entry ∷ []) others)) legal)

-- ---- what the last entry decided

pair_of_decider : (n p : ℕ) (entry : Entry) → decides p entry ≡ true → pair_by n entry ≡ Some (commit_pair p n)
pair_of_decider n p (Commit q) d = ap (λ (x : ℕ). Some (commit_pair x n)) (is_equal q p d)
pair_of_decider n p (Close q) d = ap (λ (x : ℕ). Some (commit_pair x n)) (is_equal q p d)
pair_of_decider n p (Write batch) d = absurd (true≢false (sym d))
pair_of_decider n p (Prepare name batch) d = absurd (true≢false (sym d))
pair_of_decider n p (Undo q batch) d = absurd (true≢false (sym d))

-- where the last entry is the first to decide p, it decides p
last_decides : (history : List Entry) (entry : Entry) (p : ℕ) → position_or_len (decides p) (history ++ entry ∷ []) ≡ length history → decides p entry ≡ true
last_decides history entry p at =
    let f = first_of_them (decides p) (history ++ entry ∷ []) (omega (arith, at, length-append history (entry ∷ []))) in
    let there : slice_get (history ++ entry ∷ []) (length history) ≡ Some f.entry = subst (λ (n : ℕ). slice_get (history ++ entry ∷ []) n ≡ Some f.entry) at f.there in
    let q : Some f.entry ≡ Some entry = sym there ∙ entry_next history entry in
    ap (decides p) (sym (same_some f.entry entry q)) ∙ f.passes

-- an entry that decides itself, as the last one
by_itself : (history : List Entry) (entry x : Entry) (p : ℕ) → pair_by (suc (length history)) x ≡ Some (commit_pair (suc (length history)) (suc (length history))) → Some p ≡ Some (suc (length history)) → (p ≡ suc (length history) → Some x ≡ Some entry)
    → pair_by (suc (length history)) entry ≡ Some (commit_pair p (suc (length history)))
by_itself history entry x p own e is =
    let q : p ≡ suc (length history) = same_some p (suc (length history)) e in
    let same : Some x ≡ Some entry = is q in
    ap (λ (o : Option Entry). pair_in (suc (length history)) o) (sym same) ∙ own ∙ ap (λ (n : ℕ). Some (commit_pair n (suc (length history)))) (sym q)
  where
    pair_in : ℕ → Option Entry → Option CommitPair
    pair_in n (Some y) = pair_by n y
    pair_in n None = None

by_last : (history : List Entry) (entry : Entry) (p : ℕ) (o : Option Entry) → decision_in (history ++ entry ∷ []) p o ≡ Some (suc (length history)) → (p ≡ suc (length history) → o ≡ Some entry) → pair_by (suc (length history)) entry ≡ Some (commit_pair p (suc (length history)))
by_last history entry p (Some (Prepare name batch)) e is =
    let k = position_is (decides p) (history ++ entry ∷ []) (suc (length history)) e in
    let at = k.1 in pair_of_decider (suc (length history)) p entry (last_decides history entry p (omega arith))
by_last history entry p (Some (Write batch)) e is = by_itself history entry (Write batch) p refl e is
by_last history entry p (Some (Undo r batch)) e is = by_itself history entry (Undo r batch) p refl e is
by_last history entry p (Some (Commit q)) e is = let no : None ≡ Some (suc (length history)) = e in absurd (cc)
by_last history entry p (Some (Close q)) e is = let no : None ≡ Some (suc (length history)) = e in absurd (cc)
by_last history entry p None e is = let no : None ≡ Some (suc (length history)) = e in absurd (cc)

-- what is decided by the last entry is its pair
pub decided_by_last : (history : List Entry) (entry : Entry) (p : ℕ) → decision_of (history ++ entry ∷ []) p ≡ Some (suc (length history)) → pair_by (suc (length history)) entry ≡ Some (commit_pair p (suc (length history)))
decided_by_last history entry p e = by_last history entry p (entry_at (history ++ entry ∷ []) p) e (λ q. ap (entry_at (history ++ entry ∷ [])) q ∙ entry_next history entry)
