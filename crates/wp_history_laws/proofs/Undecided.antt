-- The undecided prepares of a legal history, and what an entry more makes of them.
use Rattle.std.proofs.Common.{◌≡◌, ℕ, zero, suc, ◌+◌, ◌<◌, ◌≤◌, Bool, true, false, ◌&&◌, ◌||◌, not, cond, eqb, List, [], ◌∷◌, ◌++◌, length, Some, refl, sym, ap, ◌∙◌, inl, inr, add-one, arith}
use Rattle.std.specs.List.{list_any, filter, range_with_len}
use Rattle.std.proofs.lemmas.Bool.{cases_eq, and_from, or_left, or_right, eqb-true, eq-eqb, ne_eqb, false_from_ne_true}
use Rattle.std.proofs.lemmas.List.{append-nil}
use Rattle.std.proofs.lemmas.List.Elements.{filter-append}
use Rattle.std.proofs.lemmas.Map.Views.{any-filter_same}
use Rattle.wp_model.specs.declared.change.Change.{Change}
use Rattle.wp_model.specs.declared.entry.Entry.{Entry}
use Rattle.wp_model.specs.declared.entry.Entry.TheVariants.{Write, Prepare, Commit, Undo, Close}
use Rattle.wp_model.specs.History.{entry_at, is_prepare, decides, is_undecided, undecided}
use Rattle.wp_model.specs.Legal.{IsLegal, IsLegalNext, NamesUndecided, undone_last}
use Rattle.wp_history_laws.specs.Growth.{without_decided, undecided_after}
use Rattle.wp_model.proofs.Entries.{undecided_within, entry_at_old, prepared_within}
use Rattle.wp_history_laws.proofs.Growth.{entry_at_next, length_next, decides_undecided, decided_next, legal_naming, AreNaming, decided_prepared}

-- ---- numbers in a row

range_more : (a n : ℕ) → range_with_len a (n + 1) ≡ range_with_len a n ++ (a + n) ∷ []
range_more a zero = grind arith
range_more a (suc n) = rw add-one (ap (λ (xs : List ℕ). a ∷ xs) (let e : a + 1 + n ≡ a + suc n = omega arith in sym (ap (λ (m : ℕ). range_with_len (a + 1) m) (add-one n)) ∙ range_more (a + 1) n ∙ ap (λ (m : ℕ). range_with_len (a + 1) n ++ m ∷ []) e))

pub filter_range : (p q : ℕ → Bool) (a n : ℕ) → ((k : ℕ) → a ≤ k → k < a + n → p k ≡ q k) → filter p (range_with_len a n) ≡ filter q (range_with_len a n)
filter_range p q a zero same = refl
filter_range p q a (suc n) same =
    let rest : filter p (range_with_len (a + 1) n) ≡ filter q (range_with_len (a + 1) n) = filter_range p q (a + 1) n (λ k le lt. same k (omega arith) (omega arith)) in
    let here : p a ≡ q a = same a (omega arith) (omega arith) in
    rw (here, rest) refl

filter_both : (p q : ℕ → Bool) (xs : List ℕ) → filter (λ k. p k && q k) xs ≡ filter q (filter p xs)
filter_both p q [] = refl
filter_both p q (x ∷ xs) =
    elim (p x) as (λ b. cond (b && q x) (x ∷ filter (λ k. p k && q k) xs) (filter (λ k. p k && q k) xs) ≡ filter q (cond b (x ∷ filter p xs) (filter p xs))) [
      | true ↦ ap (λ (ys : List ℕ). cond (q x) (x ∷ ys) ys) (filter_both p q xs)
      | false ↦ filter_both p q xs
    ]

any_in_range : (a n p : ℕ) → a ≤ p → p < a + n → list_any (λ k. eqb k p) (range_with_len a n) ≡ true
any_in_range a zero p le lt = absurd (omega arith)
any_in_range a (suc n) p le lt =
    elim (cases_eq a p) [
      | inl same ↦ or_left (eqb a p) (list_any (λ k. eqb k p) (range_with_len (a + 1) n)) (eq-eqb a p same)
      | inr other ↦ or_right (eqb a p) (list_any (λ k. eqb k p) (range_with_len (a + 1) n)) (any_in_range (a + 1) n p (omega arith) (omega arith))
    ]

-- ---- the test by the list

among_undecided : (history : List Entry) (p : ℕ) (b : Bool) → is_undecided history p ≡ b → (b && list_any (λ k. eqb k p) (range_with_len 1 (length history))) ≡ b
among_undecided history p true e = let within = undecided_within history p e in any_in_range 1 (length history) p within.0 (omega (arith, within.1))
among_undecided history p false e = refl

pub is_undecided_by_list : (history : List Entry) (p : ℕ) → list_any (λ k. eqb k p) (undecided history) ≡ is_undecided history p
is_undecided_by_list history p =
    any-filter_same (λ k. eqb k p) (is_undecided history) (is_undecided history p) (λ k e. ap (is_undecided history) (eqb-true k p e)) (range_with_len 1 (length history)) ∙ among_undecided history p (is_undecided history p) refl

-- ---- an entry more

and_not_or : (a b c : Bool) → (a && not (b || c)) ≡ ((a && not b) && not c)
and_not_or true true c = refl
and_not_or true false c = refl
and_not_or false b c = refl

pub undecided_old : (history : List Entry) (entry : Entry) (p : ℕ) → p ≤ length history → is_undecided (history ++ entry ∷ []) p ≡ (is_undecided history p && not (decides p entry))
undecided_old history entry p le = rw (entry_at_old history (entry ∷ []) p le, decided_next history entry p) (and_not_or (is_prepare (entry_at history p)) (list_any (decides p) history) (decides p entry))

-- nothing decides a number past the history
pub never_decided : (history : List Entry) (p : ℕ) → AreNaming history → length history < p → list_any (decides p) history ≡ false
never_decided history p naming past =
    false_from_ne_true _ (λ h. let within = prepared_within history p (decided_prepared history naming p h) in absurd (omega (arith, within.1)))

pub not_decided_by : (history : List Entry) (entry : Entry) (p : ℕ) → NamesUndecided history entry → length history < p → decides p entry ≡ false
not_decided_by history entry p names past =
    false_from_ne_true _ (λ h. let within = undecided_within history p (decides_undecided history entry p names h) in absurd (omega (arith, within.1)))

and_true : (b : Bool) → (b && true) ≡ b
and_true true = refl
and_true false = refl

at_next : (history : List Entry) (entry : Entry) → AreNaming history → decides (length history + 1) entry ≡ false → is_undecided (history ++ entry ∷ []) (length history + 1) ≡ is_prepare (Some entry)
at_next history entry naming not_it = rw (entry_at_next history entry, decided_next history entry (length history + 1), never_decided history (length history + 1) naming (omega arith), not_it) (and_true (is_prepare (Some entry)))

pub undecided_at_next : (history : List Entry) (entry : Entry) → IsLegal history → decides (length history + 1) entry ≡ false → is_undecided (history ++ entry ∷ []) (length history + 1) ≡ is_prepare (Some entry)
undecided_at_next history entry legal not_it = at_next history entry (legal_naming history legal.each) not_it

-- the undecided prepares with an entry more, by the test at each number
undecided_split : (history : List Entry) (entry : Entry) → AreNaming history → NamesUndecided history entry
    → undecided (history ++ entry ∷ []) ≡ filter (λ k. not (decides k entry)) (undecided history) ++ cond (is_prepare (Some entry)) ((length history + 1) ∷ []) []
undecided_split history entry naming names =
    let next = length history + 1 in
    let test : ℕ → Bool = is_undecided (history ++ entry ∷ []) in
    let numbers : range_with_len 1 (length (history ++ entry ∷ [])) ≡ range_with_len 1 (length history) ++ next ∷ [] =
    ap (range_with_len 1) (length_next history entry) ∙ range_more 1 (length history) ∙ ap (λ (m : ℕ). range_with_len 1 (length history) ++ m ∷ []) (omega arith) in
    let old : filter test (range_with_len 1 (length history)) ≡ filter (λ k. not (decides k entry)) (undecided history) =
    filter_range test (λ k. is_undecided history k && not (decides k entry)) 1 (length history) (λ k le lt. undecided_old history entry k (omega arith)) ∙ filter_both (is_undecided history) (λ k. not (decides k entry)) (range_with_len 1 (length history)) in
    let last : filter test (next ∷ []) ≡ cond (is_prepare (Some entry)) (next ∷ []) [] = ap (λ (b : Bool). cond b (next ∷ []) []) (at_next history entry naming (not_decided_by history entry next names (omega arith))) in
    ap (filter test) numbers ∙ filter-append test (range_with_len 1 (length history)) (next ∷ []) ∙ ap (λ (xs : List ℕ). xs ++ filter test (next ∷ [])) old ∙ ap (λ (xs : List ℕ). filter (λ k. not (decides k entry)) (undecided history) ++ xs) last

filter_all : (xs : List ℕ) → filter (λ k. true) xs ≡ xs
filter_all [] = refl
filter_all (x ∷ xs) = ap (λ (ys : List ℕ). x ∷ ys) (filter_all xs)

eqb_swapped : (a b : ℕ) → eqb a b ≡ eqb b a
eqb_swapped a b = elim (cases_eq a b) [
  | inl same ↦ eq-eqb a b same ∙ sym (eq-eqb b a (sym same))
  | inr other ↦ ne_eqb a b other ∙ sym (ne_eqb b a (λ same. other (sym same)))
]

without_swapped : (p : ℕ) (xs : List ℕ) → filter (λ k. not (eqb p k)) xs ≡ without_decided xs p
without_swapped p [] = refl
without_swapped p (x ∷ xs) = rw (eqb_swapped p x, without_swapped p xs) refl

pub undecided_more : (history : List Entry) (entry : Entry) → AreNaming history → NamesUndecided history entry → undecided (history ++ entry ∷ []) ≡ undecided_after (undecided history) (length history + 1) entry
undecided_more history (Write batch) naming names = undecided_split history (Write batch) naming names ∙ append-nil (filter (λ k. true) (undecided history)) ∙ filter_all (undecided history)
undecided_more history (Prepare name batch) naming names = undecided_split history (Prepare name batch) naming names ∙ ap (λ (xs : List ℕ). xs ++ (length history + 1) ∷ []) (filter_all (undecided history))
undecided_more history (Commit p) naming names = undecided_split history (Commit p) naming names ∙ append-nil (filter (λ k. not (eqb p k)) (undecided history)) ∙ without_swapped p (undecided history)
undecided_more history (Undo p batch) naming names = undecided_split history (Undo p batch) naming names ∙ append-nil (filter (λ k. true) (undecided history)) ∙ filter_all (undecided history)
undecided_more history (Close p) naming names = undecided_split history (Close p) naming names ∙ append-nil (filter (λ k. not (eqb p k)) (undecided history)) ∙ without_swapped p (undecided history)

pub undecided_next : (history : List Entry) (entry : Entry) → IsLegal history → NamesUndecided history entry → undecided (history ++ entry ∷ []) ≡ undecided_after (undecided history) (length history + 1) entry
undecided_next history entry legal names = undecided_more history entry (legal_naming history legal.each) names

-- ---- an undo and its close

pub undo_undoes : (history : List Entry) (p : ℕ) (batch : List Change) → undone_last (history ++ Undo p batch ∷ []) ≡ Some p
undo_undoes [] p batch = refl
undo_undoes (first ∷ []) p batch = refl
undo_undoes (first ∷ second ∷ others) p batch = undo_undoes (second ∷ others) p batch

pub close_follows : (history : List Entry) (p : ℕ) (batch : List Change) → IsLegalNext history (Undo p batch) → IsLegalNext (history ++ Undo p batch ∷ []) (Close p)
close_follows history p batch after = record {
  orderly = record {
    ascending = refl;
    names_undecided = undecided_old history (Undo p batch) p (undecided_within history p after.orderly.names_undecided).1 ∙ and_from _ true after.orderly.names_undecided refl;
    undo_is_closed = undo_undoes history p batch;
    keys_are_free = tt;
  };
  restores_prior = tt;
}
