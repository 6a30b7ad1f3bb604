-- The keys of an undecided prepare keep their values: nobody else commits a change of one.
use Rattle.std.proofs.Common.{◌≡◌, ⊎_elim, ℕ, suc, ◌<◌, ◌≤◌, eq-eqb, true, false, true≢false, List, [], ◌∷◌, ◌++◌, length, take, refl, sym, ap, ◌∙◌, Some, None, length-append, arith}
use Rattle.std.proofs.lemmas.Bool.{cases_lt}
use Rattle.std.proofs.lemmas.List.{take_all, take-append-le}
use Rattle.wp_model.specs.declared.change.Change.{Change}
use Rattle.wp_model.specs.declared.entry.Entry.{Entry}
use Rattle.wp_model.specs.declared.entry.Entry.TheVariants.{Write, Prepare, Commit, Undo, Close}
use Rattle.wp_model.specs.Batch.{change_to}
use Rattle.wp_model.specs.History.{is_prepare, batch_at, decides, is_changed, is_undecided, changes_of}
use Rattle.wp_model.specs.Legal.{IsLegal, IsLegalNext, prior}
use Rattle.wp_model.proofs.Entries.{undecided_within}
use Rattle.wp_history_laws.proofs.Above.{is_changed_from}
use Rattle.wp_history_laws.proofs.Growth.{by_growth}
use Rattle.wp_history_laws.proofs.Held.{not_free, free_key}
use Rattle.wp_core.proofs.HistoryGrows.{none_is, undecided_before_or_now, batch_at_grown, newest_kept, prior_same}
use Rattle.wp_core.proofs.OneHolder.{holder_is}
use Rattle.wp_model.proofs.Tests.{same_some}

-- what comes next and does not decide the prepare commits no change of its keys
commits_none : (history : List Entry) → IsLegal history → (entry : Entry) → IsLegalNext history entry → (p : ℕ) (key : List ℕ) → is_undecided history p ≡ true → is_changed (batch_at history p) key ≡ true → decides p entry ≡ false → change_to (changes_of history entry) key ≡ None
commits_none history legal (Write batch) next p key u changed other = none_is (change_to batch key) (λ v e. not_free history key p u changed (free_key history batch key next.orderly.keys_are_free (is_changed_from batch key v e)))
commits_none history legal (Prepare name batch) next p key u changed other = refl
commits_none history legal (Commit q) next p key u changed other = none_is (change_to (batch_at history q) key) (λ v e.
    let its = holder_is history legal q key next.orderly.names_undecided (is_changed_from (batch_at history q) key v e) in
    let same : q ≡ p = same_some q p (sym its ∙ holder_is history legal p key u changed) in
    true≢false (sym (eq-eqb q p same) ∙ other))
commits_none history legal (Undo q batch) next p key u changed other = refl
commits_none history legal (Close q) next p key u changed other = refl

-- the keys of each undecided prepare have what they had at each number from its own on
abbrev KeepsValues : List Entry → Type 0
KeepsValues history = (p n : ℕ) → is_undecided history p ≡ true → p ≤ n → n ≤ length history → prior (take n history) (batch_at history p) ≡ prior history (batch_at history p)

module _ (history : List Entry) (entry : Entry) (legal : IsLegal (history ++ entry ∷ [])) (before : IsLegal history) (next : IsLegalNext history entry) (kept : KeepsValues history) where
  abbrev grown : List Entry
  grown = history ++ entry ∷ []

  kept_old : (p n : ℕ) → n ≤ length history → is_undecided history p ≡ true → decides p entry ≡ false → p ≤ n → prior (take n grown) (batch_at grown p) ≡ prior grown (batch_at grown p)
  kept_old p n old u other low =
      let within : p ≤ length history = omega arith in
      let batch : batch_at grown p ≡ batch_at history p = batch_at_grown history entry legal p within in
      let same : prior grown (batch_at history p) ≡ prior history (batch_at history p) = prior_same history grown (batch_at history p) (λ key changed. newest_kept history entry legal key (commits_none history before entry next p key u changed other)) in
      ap (λ (x : List Entry × List Change). prior x.0 x.1) (λ i. (take-append-le n history (entry ∷ []) old i, batch i)) ∙ (kept p n u low old ∙ (sym same ∙ ap (prior grown) (sym batch)))

  kept_next : KeepsValues grown
  kept_next p n u low within = ⊎_elim
      (λ (past : length history < n). let all : length grown ≤ n = (let l = length-append history (entry ∷ []) in omega arith) in ap (λ (h : List Entry). prior h (batch_at grown p)) (take_all n grown all))
      (λ (old : n ≤ length history). ⊎_elim
      (λ (k : (p ≤ length history) × (is_undecided history p ≡ true) × (decides p entry ≡ false)). kept_old p n old k.1 k.2 low)
      (λ (k : (p ≡ suc (length history)) × (is_prepare (Some entry) ≡ true)). let is : p ≡ suc (length history) = k.0 in absurd (omega arith)) (undecided_before_or_now history entry legal p u))
      (cases_lt (length history) n)

pub keeps_values : (history : List Entry) → IsLegal history → KeepsValues history
keeps_values history legal = by_growth KeepsValues
    (λ p n u low within. let k = undecided_within [] p u in absurd (none_within p k.0 k.1))
    (λ h entry whole before next kept. kept_next h entry whole before next kept) history legal
  where
    none_within : (p : ℕ) → 1 ≤ p → p ≤ 0 → ⊥
    none_within p low high = omega (arith, low, high)
