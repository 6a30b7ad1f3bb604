-- To which history the bytes of a store's three devices open.
use Rattle.std.specs.Prelude.{◌≡◌, ℕ, ◌<◌, ◌^◌, List, length}
use Rattle.wp_model.specs.declared.entry.Entry.{Entry}
use Rattle.wp_model.specs.declared.version.Version.{Version}
use Rattle.wp_model.specs.Flushed.{InstalledEdit, IsEditCovered}
use Rattle.wp_model.specs.Legal.{IsLegal}
use Rattle.wp_outside.specs.Disk.{Moment, IfKnown}
use Rattle.wp_cuts.specs.Cut.{Cut, full_of}
use Rattle.wp_cuts.specs.LegalCut.{AreBelow}
use Rattle.wp_gatelog.specs.Spelling.{IsUnmadeAt}
use Rattle.wp_wal.specs.Reading.{IsJudged}
use Rattle.wp_wal.specs.Spelling.{IsLogAt}
use Rattle.wp_manifest.specs.Edit.{Edit, place_of}
use Rattle.wp_manifest.specs.Spelling.{IsManifestOf, last_edit}
use Rattle.wp_table.specs.File.{HasTables}
use Rattle.wp_merge.specs.Merge.{joined, sorted_of}

-- all versions of the tables, in order: of several of one key and number the newest table's
abbrev pub all_in : List (List Version) → List Version
all_in parts = sorted_of (joined parts)

-- what the edit says, where these are its tables, and the log has this base at its place
abbrev pub installed_of : ℕ → Edit → List (List Version) → InstalledEdit
installed_of base edit parts = record {
  segment = record { place = place_of edit; base = base };
  flushed = edit.flushed;
  versions = all_in parts;
  tables = length parts;
}

-- the list that stands for the cut and the tables
abbrev pub history_over : Cut → List (List Version) → List Entry
history_over c parts = full_of c (all_in parts)

-- The versions of the edit's tables show every reader what the list holds that stands for the cut and them, with those of its later
-- entries. Of a carried prepare's keys they have nothing from its number on up to the base, but what is carried.
pub record AreCovering (c : Cut) (edit : Edit) (parts : List (List Version)) : Type 0 where
  pub below : AreBelow c (all_in parts)
  pub covered : IsEditCovered (history_over c parts) (installed_of c.base edit parts)

-- The manifest spells edits. At the place that the last one names the log spells a cut, under the manifest's id. The cut and the tables
-- of that edit stand for the history, which is legal, and they cover it. A log or a manifest that was not made has any id.
pub record Opens (id : ℕ) (history : List Entry) (log manifest tables : List ℕ) : Type 0 where
  pub id_fits : id < 2 ^ 32
  pub edits : List Edit
  pub installed : IsManifestOf id edits manifest
  pub cut : Cut
  pub spelled : IsLogAt id (place_of (last_edit edits)) cut log
  pub judged : IsJudged cut
  pub parts : List (List Version)
  pub there : HasTables id (last_edit edits).flushed tables (last_edit edits).tables parts
  pub full : history ≡ history_over cut parts
  pub legal : IsLegal history
  pub covering : AreCovering cut (last_edit edits) parts

-- ... and the manifest's last edit is this one
abbrev pub OpensTo : ℕ → List Entry → InstalledEdit → (log manifest tables : List ℕ) → Type 0
OpensTo id history edit log manifest tables = (opens : Opens id history log manifest tables) × (edit ≡ installed_of opens.cut.base (last_edit opens.edits) opens.parts)

-- a log that was not made at the place that the last edit names has the id that is asked for
abbrev pub HasAsked : ℕ → ℕ → List Edit → List ℕ → Type 0
HasAsked asked id edits log = IsUnmadeAt (place_of (last_edit edits)) log → id ≡ asked

-- of three devices that show their moments: P of what they read
abbrev pub AllKnown : List Moment → List Moment → List Moment → (List ℕ → List ℕ → List ℕ → Type 0) → Type 0
AllKnown log manifest tables P = IfKnown log (λ l. IfKnown manifest (λ m. IfKnown tables (λ t. P l.reads m.reads t.reads)))
