-- The manifest and the log, opened one after the other: what is handed out, and each refusal.
use Rattle.std.proofs.Common.{◌≡◌, ◌≢◌, inl, inr, ℕ, ◌<◌, ◌≤◌, ◌^◌, List, [], sym, ap, ◌∙◌, subst}
use Rattle.wp_outside.specs.declared.disk.Device.TheVariants as device
use Rattle.wp_outside.specs.Disk.{Moment, IfKnown}
use Rattle.wp_cuts.specs.Cut.{Cut, cut_at}
use Rattle.wp_gatelog.specs.Durability.{LosesNoRecord}
use Rattle.wp_gatelog.specs.Left.{IsLeftAtRest}
use Rattle.wp_gatelog.specs.Opening.{KeepsLog, SurvivesThrough}
use Rattle.wp_gatelog.specs.Spelling.{IsUnmade}
use Rattle.wp_gatelog.proofs.MomentLemmas.{known_both, known_map}
use Rattle.wp_history.specs.History.{RoomyHistory}
use Rattle.wp_history.specs.Outline.{cut_in}
use Rattle.wp_wal.specs.declared.error.WalError.{WalError}
use Rattle.wp_wal.specs.declared.error.WalError.TheVariants as wal_error
use Rattle.wp_wal.specs.Opening.{IsOpenedLog, IsUnopenedLog, KeepsWal}
use Rattle.wp_wal.specs.Wal.{LeavesCut, StoresCut, WalState}
use Rattle.wp_manifest.specs.declared.error.ManifestError.{ManifestError}
use Rattle.wp_manifest.specs.Edit.{Edit, place_of}
use Rattle.wp_manifest.specs.Manifest.{ManifestState, Opened}
use Rattle.wp_manifest.specs.Opening.{IsUnopenedManifest}
use Rattle.wp_manifest.specs.Spelling as edits
use Rattle.wp_refused.specs.declared.bad.Bad.TheVariants as bad
use Rattle.wp_refused.specs.declared.error.OpenError.{OpenError}
use Rattle.wp_refused.specs.declared.error.OpenError.TheVariants as open_error
use Rattle.wp_refused.specs.Damage.{IsOther}
use Rattle.wp_contents.specs.Devices.{DevicesLeft}
use Rattle.wp_refused.specs.Parts.{LogsOpened, stored_cut}
use Rattle.wp_refused.specs.Refused.{WasRead, WereRead, of_manifest, of_log, of_place, of_ids, of_edit, IsLogReason, IsManifestReason, IsLogBroken, IsLogLeft, IsLogSeen, IsManifestLeft, IsManifestSeen, AreLeft, at_manifest, at_log, at_ids, at_repair, at_new_manifest, at_place, IsRefusedFrom}
use Rattle.wp_refused.specs.Tables.{IsStoreCause, LeavesSynced}
use Rattle.wp_outside.specs.Faults.{Rose}
use Rattle.wp_refused.proofs.Stages.{OpensOrDamaged, edit_left, kept_whatever, made_any, manifest_rests, opened_anew, opened_read, refused_from}

-- ---- both are open

pub logs_made : (asked : ℕ) (old : DevicesLeft) (wal : WalState) (c : Cut) (state : ManifestState) → IsOpenedLog asked (place_of state.edit) old.log wal c → Opened asked old.manifest state → IfKnown old.manifest (λ m. IsUnmade m.reads → ⊥)
    → state.log.id ≡ wal.id → KeepsWal (place_of state.edit) asked old.log wal.moments old.log_faults wal.faults → KeepsLog edits.MAGIC (edits.head_stamp asked) old.manifest state.log.moments old.manifest_faults state.log.faults
    → wal.faults ≡ old.log_faults → state.log.faults ≡ old.manifest_faults → LogsOpened asked old wal c state
logs_made asked old wal c state log manifest made one log_kept manifest_kept log_unfailed manifest_unfailed = record {
  log = log;
  one_id = one;
  manifest = opened_anew asked wal.id old.manifest state manifest (made_any (state.log.id ≡ wal.id) old.manifest made);
  log_kept = log_kept;
  manifest_kept = kept_whatever asked wal.id old.manifest state.log.moments old.manifest_faults state.log.faults made manifest_kept;
  unfailed = (log_unfailed, manifest_unfailed);
}

pub logs_new : (asked : ℕ) (old : DevicesLeft) (wal : WalState) (c : Cut) (state : ManifestState) → IsOpenedLog asked 0 old.log wal c → place_of state.edit ≡ 0 → Opened wal.id old.manifest state
    → state.log.id ≡ wal.id → KeepsWal 0 asked old.log wal.moments old.log_faults wal.faults → KeepsLog edits.MAGIC (edits.head_stamp wal.id) old.manifest state.log.moments old.manifest_faults state.log.faults
    → wal.faults ≡ old.log_faults → state.log.faults ≡ old.manifest_faults → LogsOpened asked old wal c state
logs_new asked old wal c state log place manifest one log_kept manifest_kept log_unfailed manifest_unfailed = record {
  one_id = one;
  log = subst (λ (n : ℕ). IsOpenedLog asked n old.log wal c) (sym place) log;
  manifest = manifest;
  log_kept = subst (λ (n : ℕ). KeepsWal n asked old.log wal.moments old.log_faults wal.faults) (sym place) log_kept;
  manifest_kept = manifest_kept;
  unfailed = (log_unfailed, manifest_unfailed);
}

-- what the log has of the history over its cut is that cut
pub same_stored : (wal : WalState) (o h : RoomyHistory) → StoresCut wal (cut_in o) [] → h.base ≡ o.base → cut_in h ≡ cut_in o → stored_cut wal h.entries ≡ cut_in o
same_stored wal o h stores base cuts = ap (cut_at h.entries) (sym stores.based ∙ sym base) ∙ cuts

-- ---- what is left of them

pub log_left : (asked place : ℕ) (old new : DevicesLeft) (wal : WalState) (c : Cut) → IsOpenedLog asked place old.log wal c → new.log ≡ wal.moments → new.log_faults ≡ wal.faults → KeepsWal place asked old.log wal.moments old.log_faults wal.faults → IfKnown wal.moments (LeavesCut wal.id wal.segment.place c)
    → IsLogLeft asked wal.id place c old new
log_left asked place old new wal c o moments faults kept left = record {
  found = o.found;
  left = subst (λ (ms : List Moment). IfKnown ms (LeavesCut wal.id place c)) (sym moments) (subst (λ (n : ℕ). IfKnown wal.moments (LeavesCut wal.id n c)) o.placed left);
  kept = subst (λ (n : ℕ). KeepsWal place asked old.log new.log old.log_faults n) (sym faults) (subst (λ (ms : List Moment). KeepsWal place asked old.log ms old.log_faults wal.faults) (sym moments) kept);
}

pub manifest_left : (asked id : ℕ) (old new : List Moment) (state : ManifestState) (o : Opened asked old state) → new ≡ state.log.moments → SurvivesThrough edits.MAGIC (edits.head_stamp id) old state.log.moments → IsManifestLeft id state.log.id o.edits old new
manifest_left asked id old new state o moments survives = record {
  found = o.found;
  rests = subst (λ (ms : List Moment). IsLeftAtRest edits.MAGIC old ms) (sym moments) (manifest_rests asked old state o);
  survives = subst (SurvivesThrough edits.MAGIC (edits.head_stamp id) old) (sym moments) survives;
}

-- ---- refusals

module _ (law : OpensOrDamaged) (asked : ℕ) (same_log same_tables : Type 0) (old new : DevicesLeft) (why : OpenError) (tables : same_tables) (tables_later : old.tables_faults ≤ new.tables_faults) where
  pub manifest_refused : (refusal : ManifestError) → IsManifestReason refusal why → IsUnopenedManifest old.manifest new.manifest old.manifest_faults new.manifest_faults refusal → KeepsLog edits.MAGIC (edits.head_stamp asked) old.manifest new.manifest old.manifest_faults new.manifest_faults
      → same_log → old.log_faults ≤ new.log_faults → IsRefusedFrom asked same_log same_tables old new why
  manifest_refused refusal is unopened kept log log_later =
      refused_from law asked same_log same_tables old new why (of_manifest refusal is unopened.cause) (at_manifest refusal is unopened.left kept.survives log tables) kept.durable log_later kept.later tables_later

  pub log_refused : (found : ℕ) (list : List Edit) (place : ℕ) (refusal : WalError) → place ≡ place_of (edits.last_edit list) → WereRead found list old.manifest → IsManifestSeen asked found list old.manifest new.manifest → IsLogReason refusal why
      → IsUnopenedLog place old.log new.log old.log_faults new.log_faults refusal → old.log_faults ≤ new.log_faults → LosesNoRecord edits.MAGIC old.manifest new.manifest → old.manifest_faults ≤ new.manifest_faults → IsRefusedFrom asked same_log same_tables old new why
  log_refused found list place refusal place_is reads seen is unopened log_later durable later =
      let there = subst (λ (n : ℕ). IsUnopenedLog n old.log new.log old.log_faults new.log_faults refusal) place_is unopened in
      refused_from law asked same_log same_tables old new why (of_log found list refusal reads is there.cause) (at_log found list refusal seen is there.left tables) durable log_later later tables_later

  pub repair_refused : (id its : ℕ) (c : Cut) (list : List Edit) → WereRead its list old.manifest → IsManifestSeen asked id list old.manifest new.manifest → IsLogBroken asked id (place_of (edits.last_edit list)) c old new → Rose old.log_faults new.log_faults → why ≡ open_error.OpenFault device.Log
      → LosesNoRecord edits.MAGIC old.manifest new.manifest → old.manifest_faults ≤ new.manifest_faults → IsRefusedFrom asked same_log same_tables old new why
  repair_refused id its c list reads seen broken rose is durable later =
      refused_from law asked same_log same_tables old new why (of_log its list wal_error.DiskFault reads is rose) (at_repair id c list broken seen is tables) durable broken.kept.later later tables_later

  pub new_refused : (id : ℕ) (c : Cut) (refusal : ManifestError) → IfKnown old.manifest (λ m. IsUnmade m.reads) → IsLogLeft asked id 0 c old new → IsManifestReason refusal why → IsUnopenedManifest old.manifest new.manifest old.manifest_faults new.manifest_faults refusal
      → KeepsLog edits.MAGIC (edits.head_stamp id) old.manifest new.manifest old.manifest_faults new.manifest_faults → IsRefusedFrom asked same_log same_tables old new why
  new_refused id c refusal unmade log is unopened kept =
      refused_from law asked same_log same_tables old new why (of_manifest refusal is unopened.cause) (at_new_manifest id c refusal unmade log is unopened.left kept.survives tables) kept.durable log.kept.later kept.later tables_later

  pub place_refused : (id its : ℕ) (c : Cut) (list : List Edit) → IfKnown old.manifest (λ m. ⊥) → AreLeft asked id its 0 c list old new → place_of (edits.last_edit list) ≢ 0 → why ≡ open_error.Contents (bad.BadHead device.Log)
      → LosesNoRecord edits.MAGIC old.manifest new.manifest → old.manifest_faults ≤ new.manifest_faults → IsRefusedFrom asked same_log same_tables old new why
  place_refused id its c list none left other is durable later =
      let log = left.log in
      refused_from law asked same_log same_tables old new why (of_place none is) (at_place id its c list left (none, inl (other, is)) tables) durable log.kept.later later tables_later

  pub stranger_refused : (id its : ℕ) (c : Cut) (list : List Edit) → IfKnown old.manifest (λ m. ⊥) → WereRead its list old.manifest → WasRead asked id (place_of (edits.last_edit list)) c old.log → AreLeft asked id its 0 c list old new → its ≢ id → why ≡ open_error.Contents (bad.Stranger id its)
      → LosesNoRecord edits.MAGIC old.manifest new.manifest → old.manifest_faults ≤ new.manifest_faults → IsRefusedFrom asked same_log same_tables old new why
  stranger_refused id its c list none reads finds left other is durable later =
      let log = left.log in
      refused_from law asked same_log same_tables old new why
      (of_ids id its c list reads finds other (known_map (λ m. ⊥) (λ m. IsOther id its m.reads) (λ m wrong. absurd wrong) old.manifest none) is)
      (at_place id its c list left (none, inr (other, is)) tables) durable log.kept.later later tables_later

  pub ids_refused : (id found : ℕ) (c : Cut) (list : List Edit) → WereRead found list old.manifest → WasRead asked id (place_of (edits.last_edit list)) c old.log → found ≢ id → IfKnown old.manifest (λ m. IsOther id found m.reads) → IsLogSeen id (place_of (edits.last_edit list)) c old.log new.log
      → IsManifestLeft asked found list old.manifest new.manifest → why ≡ open_error.Contents (bad.Stranger id found) → old.log_faults ≤ new.log_faults → LosesNoRecord edits.MAGIC old.manifest new.manifest → old.manifest_faults ≤ new.manifest_faults → IsRefusedFrom asked same_log same_tables old new why
  ids_refused id found c list reads finds differ other seen left is log_later durable later =
      refused_from law asked same_log same_tables old new why (of_ids id found c list reads finds differ other is) (at_ids id found c list seen left differ is tables) durable log_later later tables_later

-- what the last edit says is refused
pub edit_refused : OpensOrDamaged → (asked : ℕ) (same_log same_tables : Type 0) (old new : DevicesLeft) (why : OpenError) (id : ℕ) (c : Cut) (list : List Edit) → WereRead id list old.manifest → WasRead asked id (place_of (edits.last_edit list)) c old.log
    → AreLeft asked id id (place_of (edits.last_edit list)) c list old new → IsStoreCause id c (edits.last_edit list) (Rose old.tables_faults new.tables_faults) old.tables why → LeavesSynced same_tables old.tables new.tables why
    → LosesNoRecord edits.MAGIC old.manifest new.manifest → old.manifest_faults ≤ new.manifest_faults → old.tables_faults ≤ new.tables_faults → IsRefusedFrom asked same_log same_tables old new why
edit_refused law asked same_log same_tables old new why id c list reads finds left cause tables durable later tables_later =
    let log = left.log in
    refused_from law asked same_log same_tables old new why (of_edit id c list reads finds cause) (edit_left asked same_log same_tables (Rose old.tables_faults new.tables_faults) old new id c list why left cause tables) durable log.kept.later later tables_later

-- it was made, under another id
pub other_id : (id : ℕ) (moments : List Moment) (state : ManifestState) → IfKnown moments (λ m. IsUnmade m.reads → ⊥) → state.log.id < 2 ^ 32 → state.log.id ≢ id → IfKnown moments (λ m. IsOther id state.log.id m.reads)
other_id id moments state made fits differ = known_map (λ m. IsUnmade m.reads → ⊥) (λ m. IsOther id state.log.id m.reads) (λ m was. record { fits = fits; other = differ; made = was }) moments made

-- one that was not made, and then has another id than it was to be made with, is of a device that tells nothing
pub other_there : (id : ℕ) (moments : List Moment) (state : ManifestState) → Opened id moments state → IfKnown moments (λ m. IsUnmade m.reads) → state.log.id ≢ id → IfKnown moments (λ m. ⊥)
other_there id moments state o unmade differ = known_both (λ m. IsUnmade m.reads) (λ m. IsUnmade m.reads → state.log.id ≡ id) (λ m. ⊥) (λ m is made. differ (made is)) moments unmade o.made

-- what was read of a log and a manifest that are open, by the last of the edits
pub logs_read : (asked : ℕ) (old : DevicesLeft) (wal : WalState) (c : Cut) (state : ManifestState) (l : LogsOpened asked old wal c state) → wal.id < 2 ^ 32 → WasRead asked wal.id (place_of (edits.last_edit l.manifest.edits)) c old.log
logs_read asked old wal c state l fits =
    subst (λ (e : Edit). WasRead asked wal.id (place_of e) c old.log) l.manifest.stores.last (opened_read asked (place_of state.edit) old.log wal c fits l.log)

pub logs_left : (asked : ℕ) (old new : DevicesLeft) (wal : WalState) (c : Cut) (state : ManifestState) (l : LogsOpened asked old wal c state) → new.log ≡ wal.moments → new.log_faults ≡ wal.faults → new.manifest ≡ state.log.moments → IfKnown wal.moments (LeavesCut wal.id wal.segment.place c)
    → AreLeft asked wal.id state.log.id (place_of (edits.last_edit l.manifest.edits)) c l.manifest.edits old new
logs_left asked old new wal c state l moments faults manifest left = record {
  log = subst (λ (e : Edit). IsLogLeft asked wal.id (place_of e) c old new) l.manifest.stores.last (log_left asked (place_of state.edit) old new wal c l.log moments faults l.log_kept left);
  manifest = manifest_left wal.id wal.id old.manifest new.manifest state l.manifest manifest l.manifest_kept.survives;
}
