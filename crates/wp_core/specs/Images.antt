-- What a crash between two steps may leave of the devices behind the write turn and the tables turn.
use Rattle.std.specs.Prelude.{◌≡◌, ◌⊎◌, ℕ, true, List, ◌++◌, Some}
use Rattle.wp_model.specs.declared.entry.Entry.{Entry}
use Rattle.wp_model.specs.declared.segment.Segment.{Segment}
use Rattle.wp_core.specs.States.{WriteState, Installed}
use Rattle.wp_model.specs.Flushed.{InstalledEdit}

-- ---- what the states say of it

-- the log spells these entries: those that were logged; or, once an append has failed, those and the failed record, whole
abbrev pub MaySpell : WriteState → List Entry → Type 0
MaySpell t entries = (entries ≡ t.log) ⊎ ((t.closed ≡ true) × (entries ≡ t.log ++ t.failed))

-- the manifest's last edit is this one: the one that was installed last, or the one whose install failed
abbrev pub MayName : Installed → InstalledEdit → Type 0
MayName t edit = (edit ≡ t.last) ⊎ (t.failed ≡ Some edit)

-- ---- what a value's devices say of it

-- each of the images spells, in the segment in use, entries that the state says; and in the next one, where there is one, the history
abbrev pub LogTells : (images : List ℕ → Type 0) → (spells : Segment → List ℕ → List Entry → Type 0) → WriteState → Type 0
LogTells images spells t =
    (image : List ℕ) → images image
    → ((entries : List Entry) × spells t.segment image entries × MaySpell t entries) × ((next : Segment) → t.next ≡ Some next → spells next image t.history)

-- each of the images names an edit that the state says
abbrev pub ManifestTells : (images : List ℕ → Type 0) → (names : List ℕ → InstalledEdit → Type 0) → Installed → Type 0
ManifestTells images names t = (image : List ℕ) → images image → (edit : InstalledEdit) × names image edit × MayName t edit

-- each of the images has the tables of each edit that the state says
abbrev pub TablesTell : (images : List ℕ → Type 0) → (has_tables : List ℕ → InstalledEdit → Type 0) → Installed → Type 0
TablesTell images has_tables t = (image : List ℕ) → images image → (edit : InstalledEdit) → MayName t edit → has_tables image edit
