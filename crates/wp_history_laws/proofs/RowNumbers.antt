-- Where the number of a version stands that is committed at a number: below the prepares that are undecided there and have its key.
use Rattle.std.proofs.Common.{◌≡◌, ℕ, zero, suc, ◌<◌, ◌≤◌, true, false, true≢false, ◌&&◌, not, List, ◌++◌, length, take, drop, Option, Some, None, refl, sym, ap, ◌∙◌, subst, inl, inr, arith}
use Rattle.std.specs.Prelude.{is_some}
use Rattle.std.specs.List.{list_any}
use Rattle.std.proofs.lemmas.Bool.{cases_lt, cases_eq}
use Rattle.std.proofs.lemmas.List.{take-append-drop, length-take-le}
use Rattle.wp_model.specs.declared.change.Change.{Change}
use Rattle.wp_model.specs.declared.entry.Entry.{Entry}
use Rattle.wp_model.specs.declared.entry.Entry.TheVariants.{Write, Prepare, Commit, Undo, Close}
use Rattle.wp_model.specs.Decision.{version_in, entry_version, decision_in, IsCommittedAt}
use Rattle.wp_model.specs.History.{entry_at, batch_at, decides, is_prepare, is_undecided, is_changed}
use Rattle.wp_model.specs.Legal.{IsLegal, undone_last}
use Rattle.wp_model.proofs.Entries.{entry_at_old, batch_at_old, undecided_within}
use Rattle.wp_model.proofs.Tests.{some_none}
use Rattle.wp_history_laws.proofs.Above.{Holds, none_above, legal_none_above}
use Rattle.wp_history_laws.proofs.Counting.{counts, counts_from, counts_within, decided_any}
use Rattle.wp_history_laws.proofs.Growth.{legal_before}

some_number : (history : List Entry) (p : ℕ) → counts history p ≡ true → 1 ≤ p
some_number history zero counted = absurd (true≢false (sym counted))
some_number history (suc p) counted = omega arith

not_undecided : (history : List Entry) (p : ℕ) (at : Option Entry) → is_some (decision_in history p at) ≡ true → (is_prepare at && not (list_any (decides p) history)) ≡ false
not_undecided history p None decided = refl
not_undecided history p (Some (Write batch)) decided = refl
not_undecided history p (Some (Prepare name batch)) decided = ap not (sym (decided_any history p) ∙ decided)
not_undecided history p (Some (Commit q)) decided = refl
not_undecided history p (Some (Undo q batch)) decided = refl
not_undecided history p (Some (Close q)) decided = refl

module _ (history : List Entry) (n p : ℕ) (legal : IsLegal history) (within : n ≤ length history) (committed : IsCommittedAt history p n) where
  abbrev front : List Entry
  front = take n history

  split : front ++ drop n history ≡ history
  split = take-append-drop n history

  long : length front ≡ n
  long = length-take-le n history within

  legal_front : IsLegal front
  legal_front = legal_before front (drop n history) (subst IsLegal (sym split) legal)

  counted : counts front p ≡ true
  counted = counts_from front (drop n history) p (subst IsLegal (sym split) legal)
      (subst (λ (h : List Entry). IsCommittedAt h p (length front)) (sym split) (subst (IsCommittedAt history p) (sym long) committed))

  in_front : p ≤ length front
  in_front = counts_within front p counted

  pub committed_within : (1 ≤ p) × (p ≤ n)
  committed_within = (some_number front p counted, omega (arith, in_front, long))

  pub committed_decided : is_undecided front p ≡ false
  committed_decided = not_undecided front p (entry_at front p) counted

  pub committed_below : (q : ℕ) (key : List ℕ) (value : Option (List ℕ)) → undone_last front ≡ None → entry_version history p key ≡ Some value → is_undecided front q ≡ true → is_changed (batch_at history q) key ≡ true → p < q
  committed_below q key value ends version undecided changed = elim (cases_lt p q) [
    | inl below ↦ below
    | inr le ↦ elim (cases_eq p q) [
      | inl same ↦ absurd (true≢false (sym undecided ∙ ap (is_undecided front) (sym same) ∙ committed_decided))
      | inr other ↦ absurd (some_none value (sym there ∙ none_above front key q p (legal_none_above front legal_front) ends holds (omega (arith, le, other))))
    ]
  ]
    where
      there : entry_version front p key ≡ Some value
      there = ap (λ (o : Option Entry). version_in o key) (sym (entry_at_old front (drop n history) p in_front) ∙ ap (λ (h : List Entry). entry_at h p) split) ∙ version

      holds : Holds front key q
      holds = record {
        undecided = undecided;
        changed = ap (λ (batch : List Change). is_changed batch key) (sym (batch_at_old front (drop n history) q (undecided_within front q undecided).1) ∙ ap (λ (h : List Entry). batch_at h q) split) ∙ changed;
      }
