-- What was copied of a snapshot opens to the history up to there.
use Rattle.std.proofs.Common.{◌≡◌, ℕ, ◌≤◌, List, [], ◌∷◌, length, map, take, None, refl, sym, ap, ◌∙◌, subst, arith}
use Rattle.std.specs.List.{AllByRecursion}
use Rattle.std.proofs.lemmas.List.{length-map}
use Rattle.wp_model.specs.declared.carried.Carried.{Carried}
use Rattle.wp_model.specs.declared.entry.Entry.{Entry}
use Rattle.wp_model.specs.declared.row.Row.{Row}
use Rattle.wp_model.specs.History.{newest, undecided}
use Rattle.wp_model.specs.Legal.{IsLegal, undone_last}
use Rattle.wp_model.specs.Rows.{pair_of, rows_at}
use Rattle.wp_model.specs.Versions.{AreInOrder}
use Rattle.wp_model.proofs.Rows.{found, row_found}
use Rattle.wp_contents.specs.Devices.{DevicesLeft}
use Rattle.wp_cuts.specs.Agree.{HaveSameValues}
use Rattle.wp_cuts.specs.Cut.{base_value, carried_from, carried_of, cut_at}
use Rattle.wp_cuts.specs.LegalCut.{AreNumbered}
use Rattle.wp_cuts.proofs.FullList.{full_is_cut, full_value}
use Rattle.wp_checkpoint.specs.Copy.{MakesCopy, IsCopy, MayBeCopied, copied_cut, copied_edit, copied_history, copied_versions}
use Rattle.wp_checkpoint.specs.declared.copying.Copied.{Copied}
use Rattle.wp_shared.specs.Ended.{IsFrom}
use Rattle.wp_scan.specs.Scan.{IsShownAt}
use Rattle.wp_copy.specs.CopyAt.{CopiesTo, IsCopyOf}
use Rattle.wp_checkpoint.proofs.CopiedVersions as of_rows
use Rattle.wp_checkpoint.proofs.RowLists.{Ascend}
use Rattle.wp_copy.proofs.Ranges.{rows_ascend}
use Rattle.wp_copy.proofs.Sources as of

all_as : (P Q : Row → Type 0) → ((row : Row) → P row → Q row) → (rows : List Row) → AllByRecursion P rows → AllByRecursion Q rows
all_as P Q turn [] all = tt
all_as P Q turn (row ∷ rows) all = (turn row all.0, all_as P Q turn rows all.1)

module _ (history : List Entry) (n : ℕ) (legal : IsLegal history) (within : n ≤ length history) (whole : undone_last (take n history) ≡ None) where
  abbrev front : List Entry
  front = take n history

  abbrev carried : List Carried
  carried = carried_of front

  numbered : AreNumbered (copied_cut n carried)
  numbered = (of.orderly history n legal within whole).numbered

  front_long : length front ≡ n
  front_long = of.long history n legal within whole

  -- the copy's list is the history up to there, from there on
  module _ (rows : List Row) (all : map pair_of rows ≡ rows_at history n) (each : AllByRecursion (IsShownAt history n) rows) (values : (key : List ℕ) → base_value (copied_cut n carried) (copied_versions rows carried) key ≡ found key (rows_at history n)) where
    in_order : AreInOrder (copied_versions rows carried)
    in_order = of_rows.in_order n carried rows numbered (subst Ascend (sym all) (rows_ascend history n)) (all_as (IsShownAt history n) (MayBeCopied n carried) (of.may_be_copied history n legal within whole) rows each)

    same_cut : cut_at (copied_history n rows carried) n ≡ cut_at front n
    same_cut = sym (full_is_cut (copied_cut n carried) (copied_versions rows carried) numbered).is ∙ (of.is_cut history n legal within whole).is

    same_values : HaveSameValues (copied_history n rows carried) front n
    same_values key =
        full_value (copied_cut n carried) (copied_versions rows carried) key numbered in_order
        ∙ values key
        ∙ row_found history n key
        ∙ ap (λ (h : List Entry). newest h key) (sym (of.all_front history n legal within whole))

    pub is_from : IsFrom (length front) front (copied_history n rows carried)
    is_from = subst (λ (m : ℕ). IsFrom m front (copied_history n rows carried)) (sym front_long) (record { within = omega (arith, front_long); cut = same_cut; values = same_values })

  copy_of : (id : ℕ) (copied : Copied) (new : DevicesLeft) → IsCopy id n (rows_at history n) (IsShownAt history n) carried copied new → IsCopyOf id front copied new
  copy_of id copied new copy = record {
    copy = copied_history n copy.rows carried;
    same = is_from copy.rows copy.all copy.each copy.values;
    edit = copied_edit n copy.rows carried;
    edit_is = record { place = refl; base = sym front_long; flushed = sym front_long; tables = refl };
    opens = copy.opens;
    at = ap (λ (c : Copied). c.at) copy.counted ∙ sym front_long;
    versions = ap (λ (c : Copied). c.versions) copy.counted;
    carried = ap (λ (c : Copied). c.carried) copy.counted ∙ length-map (undecided front) (carried_from front);
  }

  pub copies_to : (id : ℕ) (old : DevicesLeft) (copied : Copied) (new : DevicesLeft) → MakesCopy id n (rows_at history n) (IsShownAt history n) carried old copied new → CopiesTo id front old copied new
  copies_to id old copied new made = record { empty = made.empty; copy = copy_of id copied new made.copy; unfailed = made.unfailed }
