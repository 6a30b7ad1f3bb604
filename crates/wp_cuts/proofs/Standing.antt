-- The full list of a cut is like each list that has this cut; what follows one follows the other.
use Rattle.std.proofs.Common.{◌≡◌, ℕ, zero, suc, ◌+◌, ◌-◌, ◌<◌, ◌≤◌, Bool, true, false, cond, List, [], ◌∷◌, ◌++◌, length, map, take, Option, sym, ap, ◌∙◌, subst, inl, inr, append_assoc, append-nil, length-take-le, arith}
use Rattle.std.specs.Prelude.{fold, unwrap_or}
use Rattle.std.specs.List.{AllByRecursion, filter, range_with_len}
use Rattle.std.proofs.lemmas.Bool.{cases_Bool}
use Rattle.std.proofs.lemmas.List.{take-take}
use Rattle.wp_model.specs.declared.carried.Carried.{Carried}
use Rattle.wp_model.specs.declared.change.Change.{Change}
use Rattle.wp_model.specs.declared.entry.Entry.{Entry}
use Rattle.wp_model.specs.declared.entry.Entry.TheVariants.{Write, Prepare, Commit, Undo, Close}
use Rattle.wp_model.specs.declared.version.Version.{Version}
use Rattle.wp_model.specs.Batch.{key_of, change_to}
use Rattle.wp_model.specs.History.{prepared_batch, batch_at, is_undecided, undecided, value_after, value_at, newest}
use Rattle.wp_model.specs.Legal.{NamesUndecided, RestoresPrior, change_that_leaves, prior, IsOrderlyNext}
use Rattle.wp_model.proofs.Entries.{undecided_within}
use Rattle.wp_history_laws.specs.Growth.{AreAscending}
use Rattle.wp_history_laws.proofs.Following.{follow_front, follows, follow_next, follow_take}
use Rattle.wp_history_laws.proofs.Growth.{AreNaming}
use Rattle.wp_history_laws.proofs.Newest.{newest_next, changes_stay}
use Rattle.wp_cuts.specs.Cut.{Cut, carried_from, IsCut, full_of}
use Rattle.wp_cuts.specs.LegalCut.{AreNumbered, cut_front, prepares_of, value_behind, RestoresBehind}
use Rattle.wp_cuts.proofs.Alike.{AreAlike, alike_back, alike_next, alike_behind, names_alike, changes_alike, orderly_alike}
use Rattle.wp_cuts.proofs.Agreeing.{numbers_back, alike_at_base, cut_whole}
use Rattle.wp_cuts.proofs.Growing.{cut_to}
use Rattle.wp_cuts.proofs.FullList.{front, full_is, front_naming, take_front, full_is_cut}

-- ---- the numbers that a cut carries

above_in : (a n p : ℕ) → p < a → AllByRecursion (λ q. p < q) (range_with_len a n)
above_in a zero p lt = tt
above_in a (suc n) p lt = (lt, above_in (a + 1) n p (omega arith))

some_above : (test : ℕ → Bool) (p : ℕ) (qs : List ℕ) → AllByRecursion (λ q. p < q) qs → AllByRecursion (λ q. p < q) (filter test qs)
some_above test p [] above = tt
some_above test p (q ∷ qs) above =
    elim (test q) as (λ b. AllByRecursion (λ r. p < r) (cond b (q ∷ filter test qs) (filter test qs))) [
      | true ↦ (above.0, some_above test p qs above.1)
      | false ↦ some_above test p qs above.1
    ]

some_ascend : (test : ℕ → Bool) (a n : ℕ) → AreAscending (filter test (range_with_len a n))
some_ascend test a zero = tt
some_ascend test a (suc n) =
    elim (test a) as (λ b. AreAscending (cond b (a ∷ filter test (range_with_len (a + 1) n)) (filter test (range_with_len (a + 1) n)))) [
      | true ↦ (some_above test a (range_with_len (a + 1) n) (above_in (a + 1) n a (omega arith)), some_ascend test (a + 1) n)
      | false ↦ some_ascend test (a + 1) n
    ]

abbrev IsWithin : ℕ → Carried → Type 0
IsWithin base x = (1 ≤ x.number) × (x.number ≤ base)

all_kept : (keeps : ℕ → Bool) (Q : Carried → Type 0) (g : ℕ → Carried) → ((p : ℕ) → keeps p ≡ true → Q (g p)) → (ps : List ℕ) → AllByRecursion Q (map g (filter keeps ps))
all_kept keeps Q g each [] = tt
all_kept keeps Q g each (p ∷ ps) =
    let rest = all_kept keeps Q g each ps in
    elim (cases_Bool (keeps p)) [
      | inl kept ↦ rw kept (each p kept, rest)
      | inr dropped ↦ rw dropped rest
    ]

pub cut_numbered : (history : List Entry) (c : Cut) → IsCut history c → AreNumbered c
cut_numbered history c cut =
    let before = take c.base history in
    let numbers : map (λ (x : Carried). x.number) c.carried ≡ undecided before = ap (λ (d : Cut). map (λ (x : Carried). x.number) d.carried) cut.is ∙ numbers_back before (undecided before) in
    record {
      ascend = subst AreAscending (sym numbers) (some_ascend (is_undecided before) 1 (length before));
      within = subst (λ (xs : List Carried). AllByRecursion (IsWithin c.base) xs) (sym (ap (λ (d : Cut). d.carried) cut.is))
          (all_kept (is_undecided before) (IsWithin c.base) (carried_from before) (λ p undecided_p. let both = undecided_within before p undecided_p in (both.0, omega (arith, both.1, long))) (range_with_len 1 (length before)));
    }
  where
    long : length (take c.base history) ≡ c.base
    long = length-take-le c.base history cut.within

-- ---- the full list is like the list

pub base_alike : (history : List Entry) (c : Cut) (versions : List Version) → IsCut history c → AreAlike (take c.base history) (front c versions c.base)
base_alike history c versions cut =
    let numbered = cut_numbered history c cut in
    subst (AreAlike (take c.base history)) (take_front c versions numbered) (alike_at_base history (full_of c versions) c cut (full_is_cut c versions numbered))

pub record StandsFor (history : List Entry) (c : Cut) (versions : List Version) : Type 0 where
  pub alike : AreAlike history (full_of c versions)
  pub naming : AreNaming (full_of c versions)

pub stands_for : (history : List Entry) (c : Cut) (versions : List Version) → AreNaming history → IsCut history c → StandsFor history c versions
stands_for history c versions naming cut =
    let whole = cut_whole history c cut in
    let grown = alike_behind (take c.base history) (front c versions c.base) c.entries (base_alike history c versions cut) (subst AreNaming whole naming) (front_naming c versions c.base) in
    record {
      alike = subst (λ (h : List Entry). AreAlike h (full_of c versions)) (sym whole) (subst (AreAlike (take c.base history ++ c.entries)) (sym (full_is c versions)) grown.alike);
      naming = subst AreNaming (sym (full_is c versions)) grown.naming;
    }

-- what is orderly behind a cut is that behind each list with this cut
pub orderly_to : (history : List Entry) (c : Cut) (entry : Entry) → AreNaming history → IsCut history c → IsOrderlyNext (prepares_of c) entry → IsOrderlyNext history entry
orderly_to history c entry naming cut after = orderly_alike (prepares_of c) history entry (alike_back history (prepares_of c) (stands_for history c [] naming cut).alike) after

pub orderly_from : (history : List Entry) (c : Cut) (entry : Entry) → AreNaming history → IsCut history c → IsOrderlyNext history entry → IsOrderlyNext (prepares_of c) entry
orderly_from history c entry naming cut after = orderly_alike history (prepares_of c) entry (stands_for history c [] naming cut).alike after

-- ---- values, from those at the base on

fold_values : (base one more : List Entry) (key : List ℕ) → AreAlike base one → AreNaming (base ++ more) → AreNaming one → newest (one ++ more) key ≡ fold (value_after (base ++ more) key) (newest one key) more
fold_values base one [] key a naming also = ap (λ (h : List Entry). newest h key) (append-nil one)
fold_values base one (entry ∷ more) key a naming also =
    let regrouped : (h : List Entry) → (h ++ entry ∷ []) ++ more ≡ h ++ entry ∷ more = λ h. append_assoc h (entry ∷ []) more in
    let names = follows NamesUndecided base entry more naming in
    let too = names_alike base one entry a names in
    let next = alike_next base one entry a (follow_front NamesUndecided base (entry ∷ more) naming) also names too in
    let rest = fold_values (base ++ entry ∷ []) (one ++ entry ∷ []) more key next (subst AreNaming (sym (regrouped base)) naming) (follow_next NamesUndecided one entry also too) in
    let step : newest (one ++ entry ∷ []) key ≡ value_after (base ++ entry ∷ more) key (newest one key) entry =
    newest_next one entry key also too ∙ ap (λ (changes : List Change). unwrap_or (change_to changes key) (newest one key)) (sym (changes_alike base one entry a names) ∙ sym (changes_stay base (entry ∷ more) entry names)) in
    ap (λ (h : List Entry). newest h key) (sym (regrouped one)) ∙ rest ∙ (λ i. fold (value_after (regrouped base i) key) (step i) more)

module _ (history : List Entry) (c : Cut) (values : List ℕ → Option (List ℕ)) (naming : AreNaming history) (cut : IsCut history c) (same : (key : List ℕ) → value_at history key c.base ≡ values key) where
  pub cut_value : (key : List ℕ) → newest history key ≡ value_behind c values key
  cut_value key =
      let whole = cut_whole history c cut in
      let stands = stands_for history c [] naming cut in
      let before : AreNaming (take c.base history) = follow_front NamesUndecided (take c.base history) c.entries (subst AreNaming whole naming) in
      let full : front c [] c.base ++ c.entries ≡ prepares_of c = sym (full_is c []) in
      ap (λ (h : List Entry). newest h key) whole
      ∙ fold_values (front c [] c.base) (take c.base history) c.entries key (alike_back (take c.base history) (front c [] c.base) (base_alike history c [] cut)) (subst AreNaming (sym full) stands.naming) before
      ∙ (λ i. fold (value_after (full i) key) (same key i) c.entries)

  restored : (p : ℕ) → is_undecided history p ≡ true → prior history (batch_at history p) ≡ map (λ change. change_that_leaves (key_of change) (value_behind c values (key_of change))) (batch_at (prepares_of c) p)
  restored p undecided_p =
      let stands = stands_for history c [] naming cut in
      λ i. map (λ change. change_that_leaves (key_of change) (cut_value (key_of change) i)) (prepared_batch (stands.alike.prepares p undecided_p i))

  pub restores_from : (entry : Entry) → NamesUndecided history entry → RestoresPrior history entry → RestoresBehind c values entry
  restores_from (Write batch) names is = tt
  restores_from (Prepare name batch) names is = tt
  restores_from (Commit p) names is = tt
  restores_from (Undo p batch) names is = is ∙ restored p names
  restores_from (Close p) names is = tt

  pub restores_to : (entry : Entry) → NamesUndecided history entry → RestoresBehind c values entry → RestoresPrior history entry
  restores_to (Write batch) names is = tt
  restores_to (Prepare name batch) names is = tt
  restores_to (Commit p) names is = tt
  restores_to (Undo p batch) names is = is ∙ sym (restored p names)
  restores_to (Close p) names is = tt

-- what the first entries leave, from the values at the base on
pub value_from_base : (history : List Entry) (c : Cut) (values : List ℕ → Option (List ℕ)) (key : List ℕ) (n : ℕ) → AreNaming history → IsCut history c → ((k : List ℕ) → value_at history k c.base ≡ values k) → c.base ≤ n → n ≤ length history → value_at history key n ≡ value_behind (cut_front c (n - c.base)) values key
value_from_base history c values key n naming cut same above within =
    cut_value (take n history) (cut_front c (n - c.base)) values (follow_take NamesUndecided n history naming) (cut_to history c n cut above within)
    (λ k. ap (λ (h : List Entry). newest h k) (take-take c.base n history above) ∙ same k) key
