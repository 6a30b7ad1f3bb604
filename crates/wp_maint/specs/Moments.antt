-- What a crash leaves of the three devices at each moment of an install, while others go on.
use Rattle.std.specs.Prelude.{◌≡◌, ◌⊎◌, ℕ, ◌<◌, ◌^◌, List, ◌++◌}
use Rattle.wp_model.specs.declared.entry.Entry.{Entry}
use Rattle.wp_model.specs.declared.segment.Segment.{Segment}
use Rattle.wp_model.specs.Flushed.{InstalledEdit}
use Rattle.wp_cuts.specs.Cut.{Cut, IsCut}
use Rattle.wp_outside.specs.Disk.{Moment, images}
use Rattle.wp_wal.specs.Spelling.{IsLogAt}
use Rattle.wp_contents.specs.Opens.{OpensTo}
use Rattle.wp_core.specs.Images.{MayName, MaySpell}
use Rattle.wp_core.specs.Runs.{Reaches}
use Rattle.wp_core.specs.Sound.Actors.{StartsWith}
use Rattle.wp_core.specs.States.{WriteState}
use Rattle.wp_core.specs.World.{World, history}
use Rattle.wp_parts.specs.VersionSet.{VersionSetState}
use Rattle.wp_shared.specs.Ended.{IsFrom}

-- ---- the devices

-- a crash leaves these bytes at the newest of the old moments, or at one that came after it
abbrev pub LeftSince : List Moment → List Moment → List ℕ → Type 0
LeftSince old new bytes = (later since : List Moment) × (new ≡ later ++ (since ++ old)) × images (since ++ old) bytes

-- First the tables' device is called, and the manifest's is as it was; once that is done the manifest's is called. That the code
-- calls them so, no clause tells: each device shows its own moments.
abbrev pub LeftInInstall : VersionSetState → VersionSetState → (manifest tables : List ℕ) → Type 0
LeftInInstall old new manifest tables =
    (images old.set.manifest.log.moments manifest × LeftSince old.set.moments new.set.moments tables)
    ⊎ (LeftSince old.set.manifest.log.moments new.set.manifest.log.moments manifest × images new.set.moments tables)

-- What the log spells at a moment of such a world: what it may have between two steps; or that and the pending record, whole, where a
-- crash falls into its append.
abbrev pub MaySpellAmid : WriteState → List Entry → Type 0
MaySpellAmid t entries = MaySpell t entries ⊎ (entries ≡ t.history ++ t.pending)

-- In this segment the bytes have the log of these entries under the id, cut at its base.
abbrev pub SpellsCut : ℕ → Segment → List Entry → List ℕ → Type 0
SpellsCut id segment entries bytes = (c : Cut) × IsLogAt id segment.place c bytes × IsCut entries c × (c.base ≡ segment.base)

-- ---- all three

-- the bytes of the three devices open to a list that is these entries from the edit's base on
abbrev pub OpensFromBase : ℕ → List Entry → InstalledEdit → (log manifest tables : List ℕ) → Type 0
OpensFromBase id entries edit log manifest tables = (history : List Entry) × IsFrom edit.segment.base entries history × OpensTo id history edit log manifest tables

-- In each reached world with the old tables, whose history begins with these entries: whatever a crash in the install leaves, the three
-- devices open to just the entries that the log spells in its segment, from the segment's base on, and to the last edit or the next one.
abbrev pub OpensFrom : List Entry → VersionSetState → VersionSetState → InstalledEdit → Type 0
OpensFrom seen old new next =
    old.set.manifest.log.id < 2 ^ 32
    → (w : World) → Reaches w → w.installed ≡ old.state → StartsWith (history w) seen
    → (entries : List Entry) → MaySpellAmid w.writes entries
    → (log manifest tables : List ℕ) → SpellsCut old.set.manifest.log.id old.state.last.segment entries log → LeftInInstall old new manifest tables
    → (edit : InstalledEdit) × ((edit ≡ old.state.last) ⊎ (edit ≡ next)) × OpensFromBase old.set.manifest.log.id entries edit log manifest tables

-- ... of what a seat had seen as the install began, between what it had seen before the call and after it. So that is so of each world
-- in which the seat was in the midst of the install.
pub record OpensThroughout (before after : List Entry) (old new : VersionSetState) (next : InstalledEdit) : Type 0 where
  pub seen : List Entry
  pub later : StartsWith seen before
  pub within : StartsWith after seen
  pub opens : OpensFrom seen old new next

-- ---- no device is called

-- In the segment of each edit that the manifest may name in this world the bytes have, from its base on, entries that the log may have
-- then: also where a crash falls into another's append.
abbrev pub SpellsNamed : ℕ → World → List ℕ → Type 0
SpellsNamed id w log = (edit : InstalledEdit) → MayName w.installed edit → (entries : List Entry) × MaySpellAmid w.writes entries × SpellsCut id edit.segment entries log

-- the bytes of the three devices open to a list that is such entries from the base of such an edit on, and to that edit
abbrev pub OpensToSuch : (Spells : List Entry → Type 0) → (Names : InstalledEdit → Type 0) → ℕ → (log manifest tables : List ℕ) → Type 0
OpensToSuch Spells Names id log manifest tables = (edit : InstalledEdit) × Names edit × (entries : List Entry) × Spells entries × OpensFromBase id entries edit log manifest tables
