-- What a snapshot's rows and prepares are to a copy at its number.
use Rattle.std.proofs.Common.{◌≡◌, ℕ, ◌≤◌, true, List, [], length, take, drop, None, Some, refl, sym, ap, ◌∙◌, subst, arith, take_all, take-append-drop}
use Rattle.std.proofs.lemmas.List.{length-take-le, take-append-le}
use Rattle.wp_model.specs.declared.carried.Carried.{Carried}
use Rattle.wp_model.specs.declared.change.Change.{Change}
use Rattle.wp_model.specs.declared.entry.Entry.{Entry}
use Rattle.wp_model.specs.declared.row.Row.{Row}
use Rattle.wp_model.specs.History.{batch_at, is_changed, is_undecided, prepared_batch, value_at}
use Rattle.wp_model.specs.Legal.{IsLegal, undone_last}
use Rattle.wp_model.specs.Rows.{rows_at}
use Rattle.wp_model.proofs.Entries.{entry_at_old, undecided_within}
use Rattle.wp_history_laws.proofs.Growth.{legal_before}
use Rattle.wp_history_laws.proofs.RowNumbers.{committed_within, committed_decided, committed_below}
use Rattle.wp_core.specs.Sound.Actors.{StartsWith}
use Rattle.wp_cuts.specs.Cut.{Cut, IsCut, carried_of, is_carried}
use Rattle.wp_cuts.specs.LegalCut.{IsOrderlyCut}
use Rattle.wp_cuts.proofs.Fixed.{is_carried_is}
use Rattle.wp_cuts.proofs.FullList.{fixed_from}
use Rattle.wp_cuts.proofs.Growing.{cut_at_end}
use Rattle.wp_cuts.proofs.LegalCuts.{carried_is, cut_is_legal}
use Rattle.wp_checkpoint.specs.Copy.{MayAllBeCopied, MayBeCopied, copied_cut}
use Rattle.wp_scan.specs.Scan.{IsShownAt}
use Rattle.wp_copy.proofs.Ranges.{rows_ascend}

-- what was seen first is what more begins with
pub same_front : (long short : List Entry) (n : ℕ) → StartsWith long short → n ≤ length short → take n long ≡ take n short
same_front long short n begins within = ap (take n) begins.1 ∙ take-append-le n short begins.0 within

module _ (history : List Entry) (n : ℕ) (legal : IsLegal history) (within : n ≤ length history) (whole : undone_last (take n history) ≡ None) where
  abbrev pub front : List Entry
  front = take n history

  abbrev pub cut : Cut
  cut = copied_cut n (carried_of front)

  pub long : length front ≡ n
  long = length-take-le n history within

  pub legal_front : IsLegal front
  legal_front = legal_before front (drop n history) (subst IsLegal (sym (take-append-drop n history)) legal)

  pub is_cut : IsCut front cut
  is_cut = subst (λ (m : ℕ). IsCut front (copied_cut m (carried_of front))) long (cut_at_end front whole)

  pub orderly : IsOrderlyCut cut
  orderly = (cut_is_legal front cut (λ key. value_at front key n) legal_front is_cut (λ key. refl)).orderly

  pub all_front : take n front ≡ front
  all_front = take_all n front (omega (arith, long))

  carried_one : (p : ℕ) → is_carried cut p ≡ is_undecided front p
  carried_one p = is_carried_is front cut [] legal_front is_cut (λ key q value none. absurd cc) p ∙ ap (λ (h : List Entry). is_undecided h p) all_front

  batch_front : (p : ℕ) → is_undecided front p ≡ true → batch_at history p ≡ batch_at front p
  batch_front p undecided =
      let inside = undecided_within front p undecided in
      ap (λ (h : List Entry). batch_at h p) (sym (take-append-drop n history)) ∙ ap prepared_batch (entry_at_old front (drop n history) p inside.1)

  -- a row that is shown there may be copied
  pub may_be_copied : (row : Row) → IsShownAt history n row → MayBeCopied n (carried_of front) row
  may_be_copied row shown =
      let at = shown.is in let low = committed_within history n row.number legal within at.committed in record {
        fixed = fixed_from cut row.number low.0 low.1 (carried_one row.number ∙ committed_decided history n row.number legal within at.committed);
        below = λ p x found changed.
            let from = carried_is front cut p x is_cut found in
            let undecided : is_undecided front p ≡ true = subst (λ (h : List Entry). is_undecided h p ≡ true) all_front from.0 in
            committed_below history n row.number legal within at.committed p row.key (Some row.value) whole at.version undecided
            (ap (λ (changes : List Change). is_changed changes row.key) (batch_front p undecided ∙ ap (λ (h : List Entry). batch_at h p) (sym all_front) ∙ ap (λ (y : Carried). y.batch) (sym from.1)) ∙ changed);
      }

  pub all_may : MayAllBeCopied n (carried_of front) (rows_at history n) (IsShownAt history n)
  all_may = record { ascend = rows_ascend history n; each = may_be_copied }
