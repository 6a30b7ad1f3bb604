-- What a store was opened from, and what a refused opening hands back.
use Rattle.std.specs.declared.alloc.Global.{Global}
use Rattle.std.proofs.Common.{Box, ◌≡◌, ℕ, ◌<◌, ◌^◌, List, [], ◌∷◌, Some, refl, sym, ap, subst, ◌∙◌, arith}
use Rattle.std.specs.Prelude.{slice_index_or}
use Rattle.std.specs.List.{remove}
use Rattle.wp_model.specs.declared.entry.Entry.{Entry}
use Rattle.wp_model.specs.Flushed.{InstalledEdit}
use Rattle.wp_outside.specs.Disk.{Moment}
use Rattle.wp_opened.proofs.OpeningLemmas.{is_within}
use Rattle.wp_cuts.specs.Cut.{Cut, IsCut, cut_at}
use Rattle.wp_store.specs.Store.{StoreParts}
use Rattle.wp_tableset.specs.Set.{TableSetState}
use Rattle.wp_wal.specs.Opening.{KeepsWal}
use Rattle.wp_wal.specs.Wal.{WalState}
use Rattle.wp_wal.proofs.AppendLemmas.{running_cut}
use Rattle.wp_manifest.specs.declared.error.ManifestError.TheVariants as manifest_error
use Rattle.wp_manifest.specs.Edit.{place_of}
use Rattle.wp_manifest.specs.Manifest.{ManifestState}
use Rattle.wp_manifest.specs.Spelling.{last_edit}
use Rattle.wp_refused.specs.Damage.{IsWithin}
use Rattle.wp_contents.specs.Opens.{AllKnown, installed_of}
use Rattle.wp_refused.specs.Parts.{PartsOpened, ArePartsOf, LogsOpened, stored_cut}
use Rattle.wp_refused.specs.Refused.{of_manifest, AreLeft, IsLeft, at_tables, IsRefusedFrom}
use Rattle.wp_refused.specs.declared.error.OpenError.TheVariants as open_error
use Rattle.wp_refused.proofs.BothOpen.{logs_left}
use Rattle.wp_core.specs.States.{writes, installed}
use Rattle.wp_core.specs.Turns.{write_turn, tables_turn}
use Rattle.wp_rule.specs.Shows.{WasLast}
use Rattle.wp_rule.specs.Words.{first_edit_of}
use Rattle.wp_parts.specs.Log.{LogState}
use Rattle.wp_parts.specs.VersionSet.{VersionSetState}
use Rattle.wp_opened.specs.Filled.{AreFilled, running_set}
use Rattle.wp_parts.specs.Parts.{content, log_first, set_first, IsGuardedBy}
use Rattle.wp_parts.specs.declared.turn_value.TurnValue.{TurnValue}
use Rattle.wp_parts.specs.declared.turn_value.TurnValue.TheVariants as part
use Rattle.wp_parts.specs.Devices.{DevicesLeft, devices_behind}
use Rattle.wp_shared.specs.Opening.{IsOneStore}

pub one_store : {D : Type 0} (opened history : List Entry) (slots : List (TurnValue D)) (wal : WalState) (set : TableSetState) (edit : InstalledEdit) → opened ≡ history → log_first slots ≡ Some wal → set_first slots ≡ Some set
    → WasLast content slots edit → set.manifest.log.id ≡ wal.id → wal.id < 2 ^ 32 → edit.segment ≡ wal.segment → IsCut history (cut_at history edit.segment.base) → IsOneStore opened slots
one_store opened history slots wal set edit same log tables last id fits segment cut =
    subst (λ (x : List Entry). IsOneStore x slots) (sym same)
    (record { wal = wal; set = set; log = log; tables = tables; id = id; id_fits = fits; edit = edit; last = last; segment = segment; based = cut.within; whole = cut.whole })

-- the last edit of an opened manifest names the segment of the log that was opened
pub segment_named : (asked : ℕ) (log manifest tables : List Moment) (wal : WalState) (history : List Entry) (edits : ManifestState) (tables_now : List Moment) (versions : StoreParts) → PartsOpened asked log manifest tables wal history edits tables_now versions
    → (installed_of wal.segment.base edits.edit versions.tables).segment ≡ wal.segment
segment_named asked log manifest tables wal history edits tables_now versions p = λ i. record { place = sym p.opened.placed i; base = wal.segment.base }

abbrev log_in : {D : Type 0} → TurnValue D → LogState → LogState
log_in (part.Write log) d = log.value
log_in other d = d

abbrev edits_in : {D : Type 0} → TurnValue D → VersionSetState → VersionSetState
edits_in (part.Tables edits) d = edits.value
edits_in other d = d

-- ---- the values in their slots

module _ {D : Type 0} (slots : List (TurnValue D)) (wal : WalState) (history : List Entry) (set : TableSetState) (store : StoreParts) (f : AreFilled wal history set store slots) where
  pub log_there : log_first slots ≡ Some wal
  log_there = ap log_first f.are ∙ ap (λ (log : LogState). Some log.first) f.log_is

  pub set_there : set_first slots ≡ Some set
  set_there = ap set_first f.are ∙ ap (λ (edits : VersionSetState). Some edits.first) f.edits_are

  pub last_edit_is : (first : List (TurnValue D)) → first ≡ slots → WasLast content first (installed_of wal.segment.base set.manifest.edit store.tables)
  last_edit_is first same = ap (first_edit_of content) (same ∙ f.are) ∙ ap (λ (edits : VersionSetState). Some edits.state.last) f.edits_are

  -- the slots came back: the last one is taken out, and then the first
  module _ (back : List (TurnValue D)) (same : back ≡ slots) where
    abbrev shown : back ≡ part.Write f.log ∷ part.Prepared f.prepared ∷ part.Snapshots f.snaps ∷ part.Store f.stock ∷ part.Locks f.locks ∷ part.Tables f.edits ∷ []
    shown = same ∙ f.are

    pub last_slot : (x : TurnValue D) → x ≡ slice_index_or back 5 x → x ≡ part.Tables f.edits
    last_slot x at = at ∙ ap (λ (xs : List (TurnValue D)). slice_index_or xs 5 x) shown

    pub first_slot : (others : List (TurnValue D)) (x : TurnValue D) → others ≡ remove back 5 → x ≡ slice_index_or others 0 x → x ≡ part.Write f.log
    first_slot others x left at = at ∙ ap (λ (xs : List (TurnValue D)). slice_index_or xs 0 x) (left ∙ ap (λ (xs : List (TurnValue D)). remove xs 5) shown)

    pub last_guarded : (x : TurnValue D) → x ≡ slice_index_or back 5 x → IsGuardedBy tables_turn x
    last_guarded x at = (installed f.edits.value.state, ap content (last_slot x at), refl)

    pub first_guarded : (others : List (TurnValue D)) (x : TurnValue D) → others ≡ remove back 5 → x ≡ slice_index_or others 0 x → IsGuardedBy write_turn x
    first_guarded others x left at = (writes f.log.value.state, ap content (first_slot others x left at), refl)

    pub same_edits : (x : TurnValue D) (edits : Box VersionSetState Global) → x ≡ slice_index_or back 5 x → x ≡ part.Tables edits → edits.value.set ≡ set
    same_edits x edits at is = ap (λ (y : TurnValue D). (edits_in y edits.value).set) (sym is ∙ last_slot x at) ∙ ap (λ (e : VersionSetState). e.set) f.edits_are

    pub same_log : (others : List (TurnValue D)) (x : TurnValue D) (log : Box LogState Global) → others ≡ remove back 5 → x ≡ slice_index_or others 0 x → x ≡ part.Write log → log.value.wal ≡ wal
    same_log others x log left at is = ap (λ (y : TurnValue D). (log_in y log.value).wal) (sym is ∙ first_slot others x left at) ∙ ap (λ (l : LogState). l.wal) f.log_is

    -- their devices are those of the store
    pub devices_back : (others : List (TurnValue D)) (x y : TurnValue D) (edits_box : Box VersionSetState Global) (log_box : Box LogState Global) (log : LogState) (edits : VersionSetState) (left : DevicesLeft) → x ≡ slice_index_or back 5 x → x ≡ part.Tables edits_box
        → others ≡ remove back 5 → y ≡ slice_index_or others 0 y → y ≡ part.Write log_box → log ≡ log_box.value → edits ≡ edits_box.value → left ≡ devices_behind log.wal edits.set → left ≡ devices_behind wal set
    devices_back others x y edits_box log_box log edits left at out left_are there log_is inside edits_inside e =
        e ∙ (λ i. devices_behind ((ap (λ (l : LogState). l.wal) inside ∙ same_log others y log_box left_are there log_is) i) ((ap (λ (s : VersionSetState). s.set) edits_inside ∙ same_edits x edits_box at out) i))

-- ---- all is read, and memory is wanting

-- what the devices are then left as
module _ (same_log same_tables : Type 0) (asked : ℕ) (old : DevicesLeft) (wal : WalState) (history : List Entry) (edits : ManifestState) (tables_now : List Moment) (faults : ℕ) (versions : StoreParts)
    (p : PartsOpened asked old.log old.manifest old.tables wal history edits tables_now versions) (found : ArePartsOf asked old wal history edits faults versions) where
  abbrev left : DevicesLeft
  left = devices_behind wal (running_set edits tables_now faults)

  abbrev cut : Cut
  cut = stored_cut wal history

  abbrev logs_opened : LogsOpened asked old wal cut edits
  logs_opened = record {
    log = p.opened;
    manifest = p.installed;
    one_id = p.one_id;
    log_kept = subst (λ (n : ℕ). KeepsWal n asked old.log wal.moments old.log_faults wal.faults) p.opened.placed found.log;
    manifest_kept = found.manifest;
    unfailed = (found.unfailed.0, found.unfailed.1);
  }

  left_behind : IsLeft asked same_log same_tables old left open_error.Memory
  left_behind =
      at_tables wal.id cut p.installed.edits
      (subst (λ (n : ℕ). AreLeft asked wal.id n (place_of (last_edit p.installed.edits)) cut p.installed.edits old left) p.one_id (logs_left asked old left wal cut edits logs_opened refl refl refl (running_cut wal cut [] p.opened.stores p.opened.running)))
      (subst (IsWithin cut) p.installed.stores.last (is_within asked old.log old.manifest old.tables wal history edits tables_now versions p)) tt p.synced

-- nothing of the bytes is the cause
none_known : (P : List ℕ → List ℕ → List ℕ → Type 0) (log manifest tables : List Moment) → ((l m t : List ℕ) → P l m t) → AllKnown log manifest tables P
none_known P [] manifest tables all = tt
none_known P (l ∷ ls) [] tables all = tt
none_known P (l ∷ ls) (m ∷ ms) [] all = tt
none_known P (l ∷ ls) (m ∷ ms) (t ∷ ts) all = all l.reads m.reads t.reads

-- it is a refusal, with no other cause
pub refused_late : (same_log same_tables : Type 0) (asked : ℕ) (old left : DevicesLeft) (wal : WalState) (history : List Entry) (edits : ManifestState) (tables_now : List Moment) (faults : ℕ) (versions : StoreParts)
    → left ≡ devices_behind wal (running_set edits tables_now faults) → PartsOpened asked old.log old.manifest old.tables wal history edits tables_now versions
    → ArePartsOf asked old wal history edits faults versions → IsRefusedFrom asked same_log same_tables old left open_error.Memory
refused_late same_log same_tables asked old left wal history edits tables_now faults versions is p found =
    subst (λ (x : DevicesLeft). IsRefusedFrom asked same_log same_tables old x open_error.Memory) (sym is) (record {
      cause = of_manifest manifest_error.Memory refl tt;
      only = none_known _ old.log old.manifest old.tables (λ l m t its entries opens asked_too. tt);
      left = left_behind same_log same_tables asked old wal history edits tables_now faults versions p found;
      manifest_durable = found.manifest.durable;
      log_later = found.log.later;
      manifest_later = found.manifest.later;
      tables_later = omega (arith, found.unfailed.2);
    })
