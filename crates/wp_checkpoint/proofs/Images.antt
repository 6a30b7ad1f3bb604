-- What is put together in memory.
use Rattle.std.proofs.Common.{◌≡◌, ℕ, ◌≤◌, ◌<◌, ◌^◌, true, List, [], ◌∷◌, ◌++◌, length, map, Option, None, Some, sym, ap, ◌∙◌, subst, arith}
use Rattle.std.specs.List.{AllByRecursion, list_all}
use Rattle.std.specs.Option.{option_or}
use Rattle.wp_model.specs.declared.carried.Carried.{Carried}
use Rattle.wp_model.specs.declared.row.Row.{Row}
use Rattle.wp_model.specs.declared.version.Version.{Version}
use Rattle.wp_model.specs.Legal.{log_end}
use Rattle.wp_model.specs.Rows.{Pair, pair_of}
use Rattle.wp_model.specs.Versions.{version_at}
use Rattle.wp_model.proofs.Rows.{found}
use Rattle.wp_cuts.specs.Kept.{carried_versions}
use Rattle.wp_cuts.specs.LegalCut.{AreApart, AreNumbered}
use Rattle.wp_fields.specs.declared.format.Format.TheVariants.{Two}
use Rattle.wp_entry.specs.Base.{Base, IsBase, base_bytes}
use Rattle.wp_table.specs.Table.{is_numbered}
use Rattle.wp_table.specs.Walk.{BuiltTable}
use Rattle.wp_gatelog.specs.Beside.{IsWholeLog}
use Rattle.wp_gatelog.specs.Spelling.{stamped}
use Rattle.wp_manifest.specs.Edit.{Edit, IsEdit, edit_bytes}
use Rattle.wp_manifest.specs.Spelling as manifest
use Rattle.wp_wal.specs.Segment.{cut_behind}
use Rattle.wp_wal.specs.Spelling as wal
use Rattle.wp_contents.specs.Devices.{DevicesLeft}
use Rattle.wp_merge.specs.Merge.{AreMerged, sorted_of}
use Rattle.wp_merge.proofs.Sorted.{at_append, at_sorted, in_order_same, in_order_sorted}
use Rattle.wp_checkpoint.specs.Copy.{IsCopy, MayAllBeCopied, MayBeCopied, copied_base, copied_cut, copied_versions}
use Rattle.wp_checkpoint.specs.Image.{AreMadeOf, IsImageOf, IsTableOf, edit_of, places_of}
use Rattle.wp_checkpoint.specs.Written.{HasImage, LeavesTable}
use Rattle.wp_checkpoint.specs.declared.copying.Copied.{Copied}
use Rattle.wp_checkpoint.specs.declared.image.Image.{Image}
use Rattle.wp_checkpoint.proofs.CopiedVersions.{all_numbered, some_low, values}
use Rattle.wp_checkpoint.proofs.Opening.{opens_to}
use Rattle.wp_checkpoint.proofs.Prepared.{or_none}
use Rattle.wp_checkpoint.proofs.RowLists.{Ascend}
use Rattle.wp_checkpoint.proofs.Writes.{there_by}

-- the rows' versions and the sorted ones of the prepares, merged
pub merged_is : (rows prepared all : List Version) (carried : List Carried) → prepared ≡ sorted_of (carried_versions carried) → AreMerged (rows ∷ prepared ∷ []) all → all ≡ sorted_of (rows ++ carried_versions carried)
merged_is rows prepared all carried is merged =
    in_order_same all (sorted_of (rows ++ carried_versions carried)) merged.in_order (in_order_sorted (rows ++ carried_versions carried))
    (λ key n. merged.each key n
    ∙ ap (λ (l : List Version). option_or (version_at rows key n) (option_or (version_at l key n) None)) is
    ∙ ap (option_or (version_at rows key n)) (or_none (version_at (sorted_of (carried_versions carried)) key n) ∙ at_sorted (carried_versions carried) key n)
    ∙ sym (at_append rows (carried_versions carried) key n)
    ∙ sym (at_sorted (rows ++ carried_versions carried) key n))

pub each_is : (P Q : Row → Type 0) (rows : List Row) → ((row : Row) → P row → Q row) → AllByRecursion P rows → AllByRecursion Q rows
each_is P Q [] other each = tt
each_is P Q (row ∷ rows) other each = (other row each.0, each_is P Q rows other each.1)

-- an edit has no more tables than flushed entries
pub few_tables : (id at : ℕ) (versions : List Version) (table : Option BuiltTable) → IsTableOf id versions table → (1 ≤ length versions → 1 ≤ at) → length (places_of table) ≤ at
few_tables id at versions None is low = omega arith
few_tables id at versions (Some built) is low = low is.0

-- what was put together
pub image_made : (id at : ℕ) (carried : List Carried) (left : List Pair) (Gives : Row → Type 0) (versions : List Version) (base : Base) (edit : Edit) (image : Image) → AreMadeOf left Gives (λ rows. copied_versions rows carried) versions
    → image.copied ≡ record { at = at; versions = length versions; carried = length carried } → IsTableOf id versions image.table
    → base ≡ copied_base at carried → (image.log.base ≡ base) × IsBase base → IsWholeLog wal.MAGIC (stamped Two id) (base_bytes base ∷ []) image.log.bytes
    → edit ≡ edit_of at image.table → IsEdit edit → IsWholeLog manifest.MAGIC (manifest.head_stamp id) (edit_bytes edit ∷ []) image.manifest → IsImageOf id at left Gives carried image
image_made id at carried left Gives versions base edit image made copied table is_base log whole_log is_edit fits whole_manifest = record {
  rows = made.rows;
  all = made.all;
  each = made.each;
  counted = copied ∙ (λ i. record { at = at; versions = length (made.are i); carried = length carried });
  table = subst (λ (vs : List Version). IsTableOf id vs image.table) made.are table;
  log = record {
    based = log.0 ∙ is_base;
    is = subst IsBase (sym log.0) log.1;
    whole = subst (λ (b : Base). IsWholeLog wal.MAGIC (stamped Two id) (base_bytes b ∷ []) image.log.bytes) (sym log.0) whole_log;
  };
  manifest = record {
    is = subst IsEdit is_edit fits;
    whole = subst (λ (e : Edit). IsWholeLog manifest.MAGIC (manifest.head_stamp id) (edit_bytes e ∷ []) image.manifest) is_edit whole_manifest;
  };
}

-- ---- rows that may be copied

module _ (at : ℕ) (carried : List Carried) (left : List Pair) (Gives : Row → Type 0) (numbered : AreNumbered (copied_cut at carried)) (may : MayAllBeCopied at carried left Gives) where
  rows_ascend : (rows : List Row) → map pair_of rows ≡ left → Ascend (map pair_of rows)
  rows_ascend rows all = subst Ascend (sym all) may.ascend

  rows_may : (rows : List Row) → AllByRecursion Gives rows → AllByRecursion (MayBeCopied at carried) rows
  rows_may rows each = each_is Gives (MayBeCopied at carried) rows may.each each

  module _ (versions : List Version) (made : AreMadeOf left Gives (λ rows. copied_versions rows carried) versions) where
    pub made_numbered : at < log_end → list_all is_numbered versions ≡ true
    made_numbered small = ap (list_all is_numbered) made.are ∙ all_numbered at carried made.rows numbered (rows_ascend made.rows made.all) (rows_may made.rows made.each) small

    pub made_low : 1 ≤ length versions → 1 ≤ at
    made_low some = some_low at carried made.rows numbered (rows_ascend made.rows made.all) (rows_may made.rows made.each) versions made.are some

  -- where the image was written, the devices are the copy
  pub is_copy : (id : ℕ) (image : Image) (old new : DevicesLeft) → at < log_end → AreApart (copied_cut at carried) → id < 2 ^ 32 → IsImageOf id at left Gives carried image → HasImage id at image old new → IsCopy id at left Gives carried image.copied new
  is_copy id image old new small apart fits is has =
      let ascending = rows_ascend is.rows is.all in
      let each = rows_may is.rows is.each in
      record {
        rows = is.rows;
        all = is.all;
        each = is.each;
        counted = is.counted;
        values = λ key. values at carried is.rows numbered ascending each key ∙ ap (found key) is.all;
        opens = λ log manifest tables log_left manifest_left tables_left.
            opens_to at id carried is.rows small numbered apart ascending each fits image.table is.table log manifest tables
            (subst (λ (base : Base). wal.IsLogAt id 0 (cut_behind base) log) is.log.based (has.log log log_left))
            (has.manifest manifest manifest_left)
            (there_by image.table old.tables new.tables tables has.tables tables_left);
      }

  -- without versions there is no table, and none was written
  pub none_written : (id : ℕ) (image : Image) (old new : DevicesLeft) → IsImageOf id at left Gives carried image → HasImage id at image old new → image.copied.versions ≡ 0 → new.tables ≡ old.tables
  none_written id image old new is has none = by image.table is.table has.tables
    where
      by : (table : Option BuiltTable) → IsTableOf id (copied_versions is.rows carried) table → LeavesTable table old.tables new.tables → new.tables ≡ old.tables
      by None no_versions same = same
      by (Some built) spelled leaves = let some = spelled.0 in let counted = ap (λ (c : Copied). c.versions) is.counted in absurd (omega (arith, some, none, counted))
