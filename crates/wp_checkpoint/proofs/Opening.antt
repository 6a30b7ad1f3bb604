-- The devices to which a copy was written open to the list that stands for it.
use Rattle.std.proofs.Common.{◌≡◌, ℕ, ◌<◌, ◌≤◌, ◌^◌, true, List, [], ◌∷◌, length, map, Option, None, Some, refl, sym, ap, ◌∙◌, subst, arith}
use Rattle.std.specs.List.{AllByRecursion, list_all}
use Rattle.std.proofs.lemmas.List.{append-nil}
use Rattle.wp_model.specs.declared.carried.Carried.{Carried}
use Rattle.wp_model.specs.declared.row.Row.{Row}
use Rattle.wp_model.specs.declared.version.Version.{Version}
use Rattle.wp_model.specs.Flushed.{InstalledEdit, IsEditCovered}
use Rattle.wp_model.specs.Legal.{log_end}
use Rattle.wp_model.specs.Rows.{pair_of}
use Rattle.wp_model.specs.Versions.{AreInOrder}
use Rattle.wp_cuts.specs.Cut.{Cut, full_of}
use Rattle.wp_cuts.specs.LegalCut.{AreApart, AreBelow, AreNumbered}
use Rattle.wp_entry.specs.Base.{AscendUpTo}
use Rattle.wp_history_laws.specs.Growth.{AreAscending}
use Rattle.wp_table.specs.File.{HasTables}
use Rattle.wp_table.specs.Table.{is_flushed}
use Rattle.wp_table.specs.Walk.{BuiltTable}
use Rattle.wp_merge.specs.Merge.{sorted_of}
use Rattle.wp_merge.proofs.Sorted.{at_sorted, in_order_same, in_order_sorted}
use Rattle.wp_manifest.specs.Spelling.{IsManifestOf}
use Rattle.wp_wal.specs.Spelling.{IsLogAt}
use Rattle.wp_wal.specs.Reading.{IsJudged}
use Rattle.wp_contents.specs.Opens.{AreCovering, Opens, OpensTo, all_in, installed_of}
use Rattle.wp_checkpoint.specs.Copy.{MayBeCopied, copied_cut, copied_edit, copied_history, copied_versions, edit_with, table_count}
use Rattle.wp_checkpoint.specs.Image.{IsTableOf, edit_of, places_of}
use Rattle.wp_checkpoint.proofs.CopiedHistory as of
use Rattle.wp_checkpoint.proofs.CopiedVersions as versions
use Rattle.wp_checkpoint.proofs.Prepared.{number_of}
use Rattle.wp_checkpoint.proofs.RowLists.{Ascend}

-- ---- numbers that ascend

ascend_above : (base last : ℕ) (xs : List Carried) → AllByRecursion (λ q. last < q) (map number_of xs) → AreAscending (map number_of xs) → AllByRecursion (λ (x : Carried). (1 ≤ x.number) × (x.number ≤ base)) xs → AscendUpTo base last xs
ascend_above base last [] above ascend within = tt
ascend_above base last (x ∷ xs) above ascend within = (above.0, within.0.1, ascend_above base x.number xs ascend.0 ascend.1 within.1)

pub ascend_up : (at : ℕ) (carried : List Carried) → AreNumbered (copied_cut at carried) → AscendUpTo at 0 carried
ascend_up at carried numbered = ascend_above at 0 carried (all_low carried numbered.within) numbered.ascend numbered.within
  where
    all_low : (xs : List Carried) → AllByRecursion (λ (x : Carried). (1 ≤ x.number) × (x.number ≤ at)) xs → AllByRecursion (λ q. 0 < q) (map number_of xs)
    all_low [] within = tt
    all_low (x ∷ xs) within = let low = within.0.0 in (omega (arith, low), all_low xs within.1)

-- ---- the tables

abbrev parts_of : List Version → Option BuiltTable → List (List Version)
parts_of all None = []
parts_of all (Some built) = all ∷ []

sorted_same : (all : List Version) → AreInOrder all → sorted_of all ≡ all
sorted_same all order = in_order_same (sorted_of all) all (in_order_sorted all) order (λ key n. at_sorted all key n)

all_in_parts : (id : ℕ) (all : List Version) (table : Option BuiltTable) → AreInOrder all → IsTableOf id all table → all_in (parts_of all table) ≡ all
all_in_parts id all None order none = sym none
all_in_parts id all (Some built) order is = ap sorted_of (append-nil all) ∙ sorted_same all order

count_of : (id : ℕ) (all : List Version) (table : Option BuiltTable) → IsTableOf id all table → table_count all ≡ length (parts_of all table)
count_of id all None none = ap table_count none
count_of id [] (Some built) is = let some = is.0 in absurd (omega arith)
count_of id (v ∷ all) (Some built) is = refl

-- what the device has where the table was written
abbrev pub IsThere : Option BuiltTable → List ℕ → Type 0
IsThere None bytes = Unit {0}
IsThere (Some built) bytes = bytes ≡ built.bytes

tables_there : (id at : ℕ) (all : List Version) (table : Option BuiltTable) (bytes : List ℕ) → IsTableOf id all table → list_all (is_flushed at) all ≡ true → IsThere table bytes → HasTables id at bytes (places_of table) (parts_of all table)
tables_there id at all None bytes is flushed there = tt
tables_there id at all (Some built) bytes is flushed there = (
  record {
    before = [];
    spelling = built.bytes;
    after = [];
    parts = there ∙ sym (append-nil built.bytes);
    place = refl;
    size = refl;
    is = is.1 at flushed;
  },
  tt,
)

-- ---- all three

module _ (at id : ℕ) (carried : List Carried) (rows : List Row) (small : at < log_end) (numbered : AreNumbered (copied_cut at carried)) (apart : AreApart (copied_cut at carried)) (ascend : Ascend (map pair_of rows))
    (each : AllByRecursion (MayBeCopied at carried) rows) (fits : id < 2 ^ 32) (table : Option BuiltTable) (is_table : IsTableOf id (copied_versions rows carried) table) where
  abbrev c : Cut
  c = copied_cut at carried

  abbrev all : List Version
  all = copied_versions rows carried

  abbrev parts : List (List Version)
  parts = parts_of all table

  in_parts : all_in parts ≡ all
  in_parts = all_in_parts id all table (versions.in_order at carried rows numbered ascend each) is_table

  edit_is : edit_with at all ≡ installed_of at (edit_of at table) parts
  edit_is = λ i. record {
    segment = record { place = 0; base = at };
    flushed = at;
    versions = sym in_parts i;
    tables = count_of id all table is_table i;
  }

  judged : IsJudged c
  judged = record {
    orderly = of.orderly at carried rows small numbered apart ascend each;
    legal = λ none. record { few = omega arith; each = λ n entry e. absurd cc };
  }

  covering : AreCovering c (edit_of at table) parts
  covering = record {
    below = subst (AreBelow c) (sym in_parts) (of.below at carried rows small numbered apart ascend each);
    covered = subst (λ (e : InstalledEdit). IsEditCovered (full_of c (all_in parts)) e) edit_is
        (subst (λ (vs : List Version). IsEditCovered (full_of c vs) (edit_with at all)) (sym in_parts) (of.edit_covered at carried rows small numbered apart ascend each));
  }

  pub opens_to : (log manifest tables : List ℕ) → IsLogAt id 0 c log → IsManifestOf id (edit_of at table ∷ []) manifest → IsThere table tables
      → OpensTo id (copied_history at rows carried) (copied_edit at rows carried) log manifest tables
  opens_to log manifest tables spelled installed there = (opens, edit_is)
    where
      opens : Opens id (copied_history at rows carried) log manifest tables
      opens = record {
        id_fits = fits;
        edits = edit_of at table ∷ [];
        installed = installed;
        cut = c;
        spelled = spelled;
        judged = judged;
        parts = parts;
        there = tables_there id at all table tables is_table (versions.all_flushed at carried rows numbered ascend each) there;
        full = ap (full_of c) (sym in_parts);
        legal = of.legal at carried rows small numbered apart ascend each;
        covering = covering;
      }
