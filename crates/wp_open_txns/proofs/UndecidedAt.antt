-- Which prepares are undecided where a history is cut: up to there those that are so at its end, and those that are decided behind.
use Rattle.std.proofs.Common.{◌≡◌, ℕ, zero, suc, ◌<◌, ◌≤◌, Bool, true, false, ◌&&◌, ◌||◌, not, cond, eqb, List, [], ◌∷◌, ◌++◌, length, take, drop, Less, None, Some, refl, sym, ap, ◌∙◌, subst, arith, append-nil, append_assoc, true≢false, ◌+◌, ◌-◌, get_or, map, length-drop, ltb, add-one, take_all, take-append-drop}
use Rattle.std.specs.Prelude.{nat_le, slice_get}
use Rattle.std.specs.BTreeMap.{is_at}
use Rattle.std.specs.BTreeSet as sorted
use Rattle.std.specs.BTreeSet.{BTreeSet}
use Rattle.std.specs.Cmp.{nat_cmp_total}
use Rattle.std.specs.List.{AllByRecursion, filter, list_any, range_with_len}
use Rattle.std.specs.List.Sorted.{IsStrictlySortedBy}
use Rattle.std.specs.Ordering.{nat_cmp}
use Rattle.std.proofs.lemmas.Option.{get_or_from_slice_get, slice_get-get_or}
use Rattle.std.proofs.lemmas.Map.Lookups.{btree_set_from_contains, exact_unsigned}
use Rattle.std.proofs.lemmas.Bool.{eq-eqb, false_from_ne_true}
use Rattle.std.proofs.lemmas.Bool.Decides.{nat_tests}
use Rattle.std.proofs.lemmas.List.{drop-drop, length-take-le, take_more}
use Rattle.std.proofs.lemmas.List.Folds.{list_any_at}
use Rattle.wp_model.specs.declared.entry.Entry.{Entry}
use Rattle.wp_model.specs.declared.entry.Entry.TheVariants.{Write, Prepare, Commit, Undo, Close}
use Rattle.wp_model.specs.History.{decides, entry_at, is_prepare, is_undecided, prepared_batch, prepared_name, undecided}
use Rattle.wp_model.specs.Legal.{IsLegal, NamesUndecided, undone_last}
use Rattle.wp_model.proofs.Entries.{entry_at_old, undecided_prepared, undecided_within}
use Rattle.wp_cuts.specs.Cut.{carried_from, carried_of, is_start}
use Rattle.wp_history_laws.specs.Growth.{AreAscending, undone_by}
use Rattle.wp_history_laws.proofs.Ascending.{undecided_ascend}
use Rattle.wp_history_laws.proofs.Growth.{after_front, decided_next, decides_undecided, length_next}
use Rattle.wp_history_laws.proofs.Undecided.{is_undecided_by_list, undecided_old}
use Rattle.wp_history_laws.proofs.Undone.{undone_next}

-- ---- at a cut

pub or_none : (b : Bool) → (b || false) ≡ b
or_none true = refl
or_none false = refl

-- one entry, which decides the prepare or does not; what comes behind it is the rest
by_entry : (was here rest late : Bool) → (here ≡ true → was ≡ true) → (was && not here) ≡ (rest || late) → was ≡ (rest || (here || late))
by_entry true true true late k e = refl
by_entry true true false late k e = refl
by_entry true false rest late k e = e
by_entry false true rest late k e = absurd (true≢false (sym (k refl)))
by_entry false false rest late k e = e

pub undecided_before : (front behind : List Entry) (p : ℕ) → IsLegal (front ++ behind) → p ≤ length front → is_undecided front p ≡ (is_undecided (front ++ behind) p || list_any (decides p) behind)
undecided_before front [] p legal within = sym (or_none (is_undecided (front ++ []) p) ∙ ap (λ (h : List Entry). is_undecided h p) (append-nil front))
undecided_before front (entry ∷ behind) p legal within =
    let joined : (front ++ entry ∷ []) ++ behind ≡ front ++ entry ∷ behind = append_assoc front (entry ∷ []) behind in
    let size = length_next front entry in
    let names : NamesUndecided front entry = (after_front front entry behind legal).orderly.names_undecided in
    let rest = undecided_before (front ++ entry ∷ []) behind p (subst IsLegal (sym joined) legal) (omega (arith, within, size)) in
    by_entry (is_undecided front p) (decides p entry) (is_undecided (front ++ entry ∷ behind) p) (list_any (decides p) behind) (decides_undecided front entry p names)
    (sym (undecided_old front entry p within) ∙ rest ∙ ap (λ (h : List Entry). is_undecided h p || list_any (decides p) behind) joined)

-- ---- the numbers as a set

below_less : (p : ℕ) (qs : List ℕ) → AllByRecursion (λ q. p < q) qs → AllByRecursion (λ q. nat_cmp p q ≡ Less) qs
below_less p [] below = tt
below_less p (q ∷ qs) below = (grind (arith, nat_tests, below.0), below_less p qs below.1)

sorted_from : (ps : List ℕ) → AreAscending ps → IsStrictlySortedBy nat_cmp ps
unfolding IsStrictlySortedBy
sorted_from [] ascend = tt
sorted_from (p ∷ ps) ascend = (below_less p ps ascend.0, sorted_from ps ascend.1)

same_test : (p q : ℕ) → is_at (nat_cmp p) q ≡ eqb q p
same_test p q = grind (arith, nat_tests)

contained : (p : ℕ) (qs : List ℕ) → list_any (is_at (nat_cmp p)) qs ≡ list_any (λ q. eqb q p) qs
contained p [] = refl
contained p (q ∷ qs) = λ i. same_test p q i || contained p qs i

-- a set of just the prepares that are undecided has them in order
pub set_is : (front : List Entry) (numbers : BTreeSet ℕ) → sorted.IsOrdered nat_cmp numbers → ((p : ℕ) → sorted.contains nat_cmp numbers p ≡ is_undecided front p) → numbers.keys ≡ undecided front
set_is front numbers ordered has =
    let all : BTreeSet ℕ = record { keys = undecided front } in
    btree_set_from_contains nat_cmp_total numbers all ordered (sorted_from (undecided front) (undecided_ascend front)) (λ p. has p ∙ sym (contained p (undecided front) ∙ is_undecided_by_list front p)) exact_unsigned

-- ---- as they are gathered

-- the entries behind a number, in the list of those behind a base
pub behind_is : (history : List Entry) (base n from : ℕ) (later : List Entry) → base ≤ n → n ≤ length history → from ≡ base → later ≡ drop base history → take (length later - (n - from)) (drop (n - from) later) ≡ drop n history
behind_is history base n from later low within is are =
    let place : base + (n - from) ≡ n = omega (arith, low, is) in
    let dropped : drop (n - from) later ≡ drop n history = ap (drop (n - from)) are ∙ drop-drop (n - from) base history ∙ ap (λ (m : ℕ). drop m history) place in
    let long : length (drop (n - from) later) ≤ length later - (n - from) = let size = length-drop (n - from) later in omega (arith, size) in
    take_all (length later - (n - from)) (drop (n - from) later) long ∙ dropped

-- with one entry more
by_one : (low is so_far one : Bool) → ((low && (is || so_far)) || (low && one)) ≡ (low && (is || (so_far || one)))
by_one false is so_far one = refl
by_one true true so_far one = refl
by_one true false so_far one = refl

pub decided_more : (p n : ℕ) (is : Bool) (entries : List Entry) (i : ℕ) (entry : Entry) → i < length entries → entry ≡ get_or entries i entry
    → ((nat_le p n && (is || list_any (decides p) (take i entries))) || (nat_le p n && decides p entry)) ≡ (nat_le p n && (is || list_any (decides p) (take (i + 1) entries)))
decided_more p n is entries i entry within at =
    by_one (nat_le p n) is (list_any (decides p) (take i entries)) (decides p entry)
    ∙ ap (λ (b : Bool). nat_le p n && (is || b)) (sym (ap (list_any (decides p)) (take_more entries i entry within ∙ ap (λ (e : Entry). take i entries ++ e ∷ []) (sym at)) ∙ decided_next (take i entries) entry p))

pub all_decided : (p n : ℕ) (is : Bool) (entries : List Entry) (i : ℕ) → length entries ≤ i → (nat_le p n && (is || list_any (decides p) (take i entries))) ≡ (nat_le p n && (is || list_any (decides p) entries))
all_decided p n is entries i all = ap (λ (es : List Entry). nat_le p n && (is || list_any (decides p) es)) (take_all i entries all)

-- ---- at a number

-- a prepare above the number is none of those up to it
above_none : (front : List Entry) (p n : ℕ) → length front ≡ n → nat_le p n ≡ false → is_undecided front p ≡ false
above_none front p n long above = false_from_ne_true (is_undecided front p) (λ is. let within = undecided_within front p is in absurd (grind (arith, nat_tests, above, within.1, long)))

pub set_at : (history : List Entry) (n : ℕ) → IsLegal history → n ≤ length history → (numbers : BTreeSet ℕ) → sorted.IsOrdered nat_cmp numbers
    → ((p : ℕ) → sorted.contains nat_cmp numbers p ≡ (nat_le p n && (is_undecided history p || list_any (decides p) (drop n history)))) → numbers.keys ≡ undecided (take n history)
set_at history n legal within numbers ordered has = set_is (take n history) numbers ordered (λ p. has p ∙ by p (nat_le p n) refl)
  where
    long : length (take n history) ≡ n
    long = length-take-le n history within

    whole : take n history ++ drop n history ≡ history
    whole = take-append-drop n history

    by : (p : ℕ) (b : Bool) → nat_le p n ≡ b → (b && (is_undecided history p || list_any (decides p) (drop n history))) ≡ is_undecided (take n history) p
    by p true low =
        sym (undecided_before (take n history) (drop n history) p (subst IsLegal (sym whole) legal) (grind (arith, nat_tests, low, long)) ∙ ap (λ (h : List Entry). is_undecided h p || list_any (decides p) (drop n history)) whole)
    by p false above = sym (above_none (take n history) p n long above)

-- ---- the prepares that are carried

-- each prepare that is undecided at the number is one of the whole history, and is carried as it is there
all_pass : (test : ℕ → Bool) (ps : List ℕ) → AllByRecursion (λ p. test p ≡ true) (filter test ps)
all_pass test [] = tt
all_pass test (p ∷ ps) = by (test p) refl (all_pass test ps)
  where
    by : (b : Bool) → test p ≡ b → AllByRecursion (λ q. test q ≡ true) (filter test ps) → AllByRecursion (λ q. test q ≡ true) (cond b (p ∷ filter test ps) (filter test ps))
    by true e rest = (e, rest)
    by false e rest = rest

module _ (history : List Entry) (n : ℕ) (within : n ≤ length history) where
  one_alike : (p : ℕ) → is_undecided (take n history) p ≡ true → entry_at history p ≡ entry_at (take n history) p
  one_alike p is = ap (λ (h : List Entry). entry_at h p) (sym (take-append-drop n history)) ∙ entry_at_old (take n history) (drop n history) p ((undecided_within (take n history) p is).1)

  each_alike : (ps : List ℕ) → AllByRecursion (λ p. is_undecided (take n history) p ≡ true) ps → map (carried_from history) ps ≡ map (carried_from (take n history)) ps
  each_alike [] all = refl
  each_alike (p ∷ ps) all =
      let same = one_alike p all.0 in let rest = each_alike ps all.1 in
      λ i. record { number = p; name = prepared_name (same i); batch = prepared_batch (same i) } ∷ rest i

  pub carried_alike : map (carried_from history) (undecided (take n history)) ≡ carried_of (take n history)
  carried_alike = each_alike (undecided (take n history)) (all_pass (is_undecided (take n history)) (range_with_len 1 (length (take n history))))

  pub prepared_at : (ps : List ℕ) (i : ℕ) → ps ≡ undecided (take n history) → i < length ps → is_prepare (entry_at history (get_or ps i 0)) ≡ true
  prepared_at ps i are lt =
      let p = get_or ps i 0 in
      let is : is_undecided (take n history) p ≡ true =
      sym (is_undecided_by_list (take n history) p) ∙ ap (list_any (λ k. eqb k p)) (sym are) ∙ list_any_at (λ k. eqb k p) ps i 0 lt (eq-eqb p p refl) in
      ap is_prepare (one_alike p is) ∙ undecided_prepared (take n history) p is

-- ---- undos

pub undone_starts : (entries : List Entry) → AllByRecursion (λ entry. is_start entry ≡ true) entries → undone_last entries ≡ None
undone_starts [] all = refl
undone_starts (Write batch ∷ []) all = refl
undone_starts (Prepare name batch ∷ []) all = refl
undone_starts (Commit p ∷ []) all = absurd cc
undone_starts (Undo p batch ∷ []) all = absurd cc
undone_starts (Close p ∷ []) all = absurd cc
undone_starts (first ∷ second ∷ others) all = undone_starts (second ∷ others) all.1

-- what the entry with a number behind the base undoes
pub undone_there : (history : List Entry) (n : ℕ) → 1 ≤ n → n ≤ length history → (entry : Entry) → entry_at history n ≡ Some entry → undone_last (take n history) ≡ undone_by entry
undone_there history (suc i) low within entry at =
    let lt : i < length history = omega (arith, within) in
    ap undone_last (ap (λ (m : ℕ). take m history) (sym (add-one i)) ∙ take_more history i entry lt ∙ ap (λ (e : Entry). take i history ++ e ∷ []) (get_or_from_slice_get history i entry entry at)) ∙ undone_next (take i history) entry
undone_there history zero low within entry at = absurd (omega (arith, low))

module _ (history : List Entry) (base n : ℕ) (low : base ≤ n) (within : n ≤ length history) (starts : AllByRecursion (λ entry. is_start entry ≡ true) (take base history)) where
  at_base : n ≤ base → None ≡ undone_last (take n history)
  at_base le = let same : base ≡ n = omega (arith, low, le) in sym (undone_starts (take n history) (subst (λ (m : ℕ). AllByRecursion (λ entry. is_start entry ≡ true) (take m history)) same starts))

  pub some_undone : (entry : Entry) → Some entry ≡ cond (ltb base n) (entry_at history n) None → undone_by entry ≡ undone_last (take n history)
  some_undone entry found = by (ltb base n) refl found
    where
      by : (b : Bool) → ltb base n ≡ b → Some entry ≡ cond b (entry_at history n) None → undone_by entry ≡ undone_last (take n history)
      by true above is = sym (undone_there history n (grind (arith, nat_tests, above)) within entry (sym is))
      by false none is = absurd cc

  pub none_undone : None ≡ cond (ltb base n) (entry_at history n) None → None ≡ undone_last (take n history)
  none_undone found = by (ltb base n) refl found
    where
      missing : (m : ℕ) → 1 ≤ m → m ≤ length history → None ≡ entry_at history m → ⊥
      missing zero some inside is = omega (arith, some)
      missing (suc i) some inside is = let there : slice_get history i ≡ Some (get_or history i (Close 0)) = slice_get-get_or history i (Close 0) (omega (arith, inside)) in cc

      by : (b : Bool) → ltb base n ≡ b → None ≡ cond b (entry_at history n) None → None ≡ undone_last (take n history)
      by true above is = absurd (missing n (grind (arith, nat_tests, above)) within is)
      by false none is = at_base (grind (arith, nat_tests, none))
