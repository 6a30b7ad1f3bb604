-- What `copy_at` asks of `checkpoint`, and answers of what that does.
use Rattle.std.proofs.Common.{◌≡◌, ℕ, ◌≤◌, List, length, take, None, sym, subst, ap, ◌∙◌, arith}
use Rattle.wp_model.specs.declared.carried.Carried.{Carried}
use Rattle.wp_model.specs.declared.entry.Entry.{Entry}
use Rattle.wp_model.specs.declared.row.Row.{Row}
use Rattle.wp_model.specs.Legal.{IsLegal, undone_last}
use Rattle.wp_model.specs.Rows.{Pair, rows_at}
use Rattle.wp_contents.specs.Devices.{DevicesLeft}
use Rattle.wp_core.specs.Reading.{Registration}
use Rattle.wp_core.proofs.KeepsSeen.{shorter}
use Rattle.wp_cuts.specs.Cut.{carried_of}
use Rattle.wp_cuts.specs.LegalCut.{IsOrderlyCut}
use Rattle.wp_checkpoint.specs.Copy.{MakesCopy, MayAllBeCopied, copied_cut}
use Rattle.wp_checkpoint.specs.declared.copying.Copied.{Copied}
use Rattle.wp_scan.specs.Scan.{ScanState, IsShownAt, left_of}
use Rattle.wp_shared.specs.Calls.{Continues}
use Rattle.wp_shared.specs.Seats.{SharedState, SeatState, participant_of, seen_by}
use Rattle.wp_copy.specs.CopyAt.{CopiesTo}
use Rattle.wp_copy.specs.Rows.{AllRowsState, IsRowIn, rows_left}
use Rattle.wp_copy.proofs.Copies.{copies_to}
use Rattle.wp_copy.proofs.Sources.{all_may, orderly, same_front}

-- The prepares and rows are those that the history, as the seat has seen it now, has at the snapshot; up to there that is what it had
-- seen before.
module _ {D : Type 0} (z : SharedState D) (old now : SeatState) (r : Registration) (on : Continues z old now (participant_of old))
    (legal : IsLegal (seen_by now)) (low : r.number ≤ length (seen_by old)) (before : undone_last (take r.number (seen_by old)) ≡ None) where
  within : r.number ≤ length (seen_by now)
  within = let long = shorter (seen_by now) (seen_by old) on.seen in omega (arith, long, low)

  same : take r.number (seen_by now) ≡ take r.number (seen_by old)
  same = same_front (seen_by now) (seen_by old) r.number on.seen low

  whole : undone_last (take r.number (seen_by now)) ≡ None
  whole = ap undone_last same ∙ before

  module _ (at : ℕ) (number : at ≡ r.number) (carried : List Carried) (prepares : carried ≡ carried_of (take r.number (seen_by now))) where
    pub cut_of : IsOrderlyCut (copied_cut at carried)
    cut_of =
        subst (λ (m : ℕ). IsOrderlyCut (copied_cut m carried)) (sym number)
        (subst (λ (xs : List Carried). IsOrderlyCut (copied_cut r.number xs)) (sym prepares) (orderly (seen_by now) r.number legal within whole))

    module _ (scan : ScanState) (rows : AllRowsState D) (is : rows ≡ record { store = z; seat = now; snapshot = r; scan = scan }) (all : left_of (seen_by now) r.number scan ≡ rows_at (seen_by now) r.number) where
      left : rows_left rows ≡ rows_at (seen_by now) r.number
      left = ap rows_left is ∙ all

      gives : IsRowIn rows ≡ IsShownAt (seen_by now) r.number
      gives = ap IsRowIn is

      pub may_of : MayAllBeCopied at carried (rows_left rows) (IsRowIn rows)
      may_of =
          subst (λ (m : ℕ). MayAllBeCopied m carried (rows_left rows) (IsRowIn rows)) (sym number)
          (subst (λ (xs : List Carried). MayAllBeCopied r.number xs (rows_left rows) (IsRowIn rows)) (sym prepares)
          (subst (λ (es : List Pair). MayAllBeCopied r.number (carried_of (take r.number (seen_by now))) es (IsRowIn rows)) (sym left)
          (subst (λ (Gives : Row → Type 0). MayAllBeCopied r.number (carried_of (take r.number (seen_by now))) (rows_at (seen_by now) r.number) Gives) (sym gives)
          (all_may (seen_by now) r.number legal within whole))))

      pub made_of : (id : ℕ) (empty : DevicesLeft) (copied : Copied) (new : DevicesLeft) → MakesCopy id at (rows_left rows) (IsRowIn rows) carried empty copied new → CopiesTo id (take r.number (seen_by old)) empty copied new
      made_of id empty copied new made =
          subst (λ (h : List Entry). CopiesTo id h empty copied new) same
          (copies_to (seen_by now) r.number legal within whole id empty copied new
          (subst (λ (Gives : Row → Type 0). MakesCopy id r.number (rows_at (seen_by now) r.number) Gives (carried_of (take r.number (seen_by now))) empty copied new) gives
          (subst (λ (es : List Pair). MakesCopy id r.number es (IsRowIn rows) (carried_of (take r.number (seen_by now))) empty copied new) left
          (subst (λ (xs : List Carried). MakesCopy id r.number (rows_left rows) (IsRowIn rows) xs empty copied new) prepares
          (subst (λ (m : ℕ). MakesCopy id m (rows_left rows) (IsRowIn rows) carried empty copied new) number made)))))
