-- Numbers that ascend: how one of them is found, and what is left without it.
use Rattle.std.proofs.Common.{◌≡◌, ◌≢◌, ℕ, zero, suc, ◌+◌, ◌<◌, ◌≤◌, Bool, true, false, ◌||◌, not, cond, eqb, List, [], ◌∷◌, length, get_or, Result, Ok, Err, refl, sym, ap, ◌∙◌, subst, inl, inr, arith}
use Rattle.std.specs.Result.{MatchResult, is_ok}
use Rattle.std.specs.List.{AllByRecursion, filter, list_any, range_with_len, remove}
use Rattle.std.specs.List.Sorted.{IsBinarySearchResult}
use Rattle.std.specs.Ordering.{nat_cmp}
use Rattle.std.proofs.lemmas.Bool.{cases_lt, eq-eqb, ne_eqb}
use Rattle.std.proofs.lemmas.List.Folds.{list_any_at}
use Rattle.std.proofs.lemmas.List.Sorted.{searched}
use Rattle.wp_model.specs.declared.entry.Entry.{Entry}
use Rattle.wp_model.specs.History.{is_undecided, undecided}
use Rattle.wp_history_laws.specs.Growth.{AreAscending, without_decided}
use Rattle.wp_history_laws.proofs.Undecided.{is_undecided_by_list}

-- ---- the undecided prepares

range_above : (a n p : ℕ) → p < a → AllByRecursion (λ q. p < q) (range_with_len a n)
range_above a zero p lt = tt
range_above a (suc n) p lt = (lt, range_above (a + 1) n p (omega arith))

range_ascends : (a n : ℕ) → AreAscending (range_with_len a n)
range_ascends a zero = tt
range_ascends a (suc n) = (range_above (a + 1) n a (omega arith), range_ascends (a + 1) n)

some_above : (test : ℕ → Bool) (p : ℕ) (qs : List ℕ) → AllByRecursion (λ q. p < q) qs → AllByRecursion (λ q. p < q) (filter test qs)
some_above test p [] above = tt
some_above test p (q ∷ qs) above =
    elim (test q) as (λ b. AllByRecursion (λ r. p < r) (cond b (q ∷ filter test qs) (filter test qs))) [
      | true ↦ (above.0, some_above test p qs above.1)
      | false ↦ some_above test p qs above.1
    ]

some_ascend : (test : ℕ → Bool) (ps : List ℕ) → AreAscending ps → AreAscending (filter test ps)
some_ascend test [] ascend = tt
some_ascend test (p ∷ ps) ascend =
    elim (test p) as (λ b. AreAscending (cond b (p ∷ filter test ps) (filter test ps))) [
      | true ↦ (some_above test p ps ascend.0, some_ascend test ps ascend.1)
      | false ↦ some_ascend test ps ascend.1
    ]

pub undecided_ascend : (history : List Entry) → AreAscending (undecided history)
undecided_ascend history = some_ascend (is_undecided history) (range_with_len 1 (length history)) (range_ascends 1 (length history))

-- ---- place by place

pub above_at : (p : ℕ) (qs : List ℕ) (i : ℕ) → AllByRecursion (λ q. p < q) qs → i < length qs → p < get_or qs i 0
above_at p [] i above lt = absurd (omega arith)
above_at p (q ∷ qs) zero above lt = above.0
above_at p (q ∷ qs) (suc i) above lt = above_at p qs i above.1 (omega arith)

pub rises : (ps : List ℕ) → AreAscending ps → (i j : ℕ) → i ≤ j → j < length ps → get_or ps i 0 ≤ get_or ps j 0
rises [] ascend i j le lt = absurd (omega arith)
rises (p ∷ ps) ascend zero zero le lt = omega arith
rises (p ∷ ps) ascend zero (suc j) le lt = let above = above_at p ps j ascend.0 (omega arith) in omega (arith, above)
rises (p ∷ ps) ascend (suc i) zero le lt = absurd (omega arith)
rises (p ∷ ps) ascend (suc i) (suc j) le lt = rises ps ascend.1 i j (omega arith) (omega arith)

-- ---- one taken out

taken : (q : ℕ) (qs : List ℕ) (p : ℕ) → q ≡ p → without_decided (q ∷ qs) p ≡ without_decided qs p
taken q qs p same = ap (λ (b : Bool). cond (not b) (q ∷ without_decided qs p) (without_decided qs p)) (eq-eqb q p same)

left : (q : ℕ) (qs : List ℕ) (p : ℕ) → q ≢ p → without_decided (q ∷ qs) p ≡ q ∷ without_decided qs p
left q qs p other = ap (λ (b : Bool). cond (not b) (q ∷ without_decided qs p) (without_decided qs p)) (ne_eqb q p other)

all_left : (p : ℕ) (qs : List ℕ) → AllByRecursion (λ q. p < q) qs → without_decided qs p ≡ qs
all_left p [] above = refl
all_left p (q ∷ qs) above = let lt = above.0 in left q qs p (λ same. absurd (omega (arith, same, lt))) ∙ ap (λ (rs : List ℕ). q ∷ rs) (all_left p qs above.1)

removed : (ps : List ℕ) (i p : ℕ) → AreAscending ps → i < length ps → get_or ps i 0 ≡ p → remove ps i ≡ without_decided ps p
removed [] i p ascend lt here = absurd (omega arith)
removed (q ∷ qs) zero p ascend lt here = sym (taken q qs p here ∙ subst (λ (r : ℕ). without_decided qs r ≡ qs) here (all_left q qs ascend.0))
removed (q ∷ qs) (suc i) p ascend lt here =
    let above = above_at q qs i ascend.0 (omega arith) in
    ap (λ (rs : List ℕ). q ∷ rs) (removed qs i p ascend.1 (omega arith) here) ∙ sym (left q qs p (λ same. absurd (omega (arith, same, above, here))))

-- ---- none there

abbrev pub IsNowhere : List ℕ → ℕ → Type 0
IsNowhere ps p = (k : ℕ) → k < length ps → get_or ps k 0 ≢ p

none_taken : (ps : List ℕ) (p : ℕ) → IsNowhere ps p → without_decided ps p ≡ ps
none_taken [] p nowhere = refl
none_taken (q ∷ qs) p nowhere = left q qs p (nowhere 0 (omega arith)) ∙ ap (λ (rs : List ℕ). q ∷ rs) (none_taken qs p (λ k lt. nowhere (suc k) (omega arith)))

not_among : (ps : List ℕ) (p : ℕ) → IsNowhere ps p → list_any (λ k. eqb k p) ps ≡ false
not_among [] p nowhere = refl
not_among (q ∷ qs) p nowhere = ap (λ (b : Bool). b || list_any (λ k. eqb k p) qs) (ne_eqb q p (nowhere 0 (omega arith))) ∙ not_among qs p (λ k lt. nowhere (suc k) (omega arith))

pub between : (ps : List ℕ) (p i : ℕ) → ((k : ℕ) → k < i → get_or ps k 0 < p) → ((k : ℕ) → i ≤ k → k < length ps → p < get_or ps k 0) → IsNowhere ps p
between ps p i below behind k lt same = elim (cases_lt k i) [
  | inl before ↦ let less = below k before in absurd (omega (arith, less, same))
  | inr from ↦ let more = behind k from lt in absurd (omega (arith, more, same))
]

-- ---- what a search finds

-- p is at i, or belongs there
abbrev pub IsPlace : List ℕ → ℕ → Result ℕ ℕ → Type 0
IsPlace ps p r =
    MatchResult r (λ i. (i < length ps) × (get_or ps i 0 ≡ p)) (λ i. (i ≤ length ps) × ((k : ℕ) → k < i → get_or ps k 0 < p) × ((k : ℕ) → i ≤ k → k < length ps → p < get_or ps k 0))

-- what a search for p in the slice qs answered, where qs is ps and the answer was matched as s
pub place_of : (ps : List ℕ) (p : ℕ) (qs : List ℕ) (r s : Result ℕ ℕ) → AreAscending ps → qs ≡ ps → IsBinarySearchResult (λ q. nat_cmp q p) qs r → r ≡ s → IsPlace ps p s
place_of ps p qs r s ascend same finds is =
    subst (IsPlace ps p) is (searched ps p r (subst (λ (xs : List ℕ). IsBinarySearchResult (λ q. nat_cmp q p) xs r) same finds) (rises ps ascend))

pub removed_there : (ps : List ℕ) (p i : ℕ) → AreAscending ps → IsPlace ps p (Ok i) → remove ps i ≡ without_decided ps p
removed_there ps p i ascend place = removed ps i p ascend place.0 place.1

pub none_there : (ps : List ℕ) (p i : ℕ) → IsPlace ps p (Err i) → ps ≡ without_decided ps p
none_there ps p i place = sym (none_taken ps p (between ps p i place.1 place.2))

among : (ps : List ℕ) (p : ℕ) (r : Result ℕ ℕ) → IsPlace ps p r → is_ok r ≡ list_any (λ k. eqb k p) ps
among ps p (Ok i) place = sym (list_any_at (λ k. eqb k p) ps i 0 place.0 (eq-eqb (get_or ps i 0) p place.1))
among ps p (Err i) place = sym (not_among ps p (between ps p i place.1 place.2))

pub is_found : (history : List Entry) (numbers : List ℕ) (p : ℕ) (r : Result ℕ ℕ) → numbers ≡ undecided history → IsBinarySearchResult (λ q. nat_cmp q p) numbers r → is_ok r ≡ is_undecided history p
is_found history numbers p r are finds = among (undecided history) p r (place_of (undecided history) p numbers r r (undecided_ascend history) are finds refl) ∙ is_undecided_by_list history p
