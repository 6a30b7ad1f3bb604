-- What was seen of a manifest, by whether one was made.
use Rattle.std.proofs.Common.{◌≡◌, ◌≢◌, inl, inr, ℕ, ◌<◌, ◌≤◌, ◌^◌, List, [], refl, sym, ap, subst, ◌∙◌, arith}
use Rattle.wp_outside.specs.declared.disk.Disks.{Disks}
use Rattle.wp_outside.specs.Disk.{Moment, IfKnown}
use Rattle.wp_cuts.specs.Cut.{Cut}
use Rattle.wp_gatelog.specs.Durability.{LosesNoRecord}
use Rattle.wp_gatelog.specs.Opening.{KeepsLog}
use Rattle.wp_gatelog.specs.Spelling.{IsUnmade}
use Rattle.wp_wal.specs.Opening.{IsOpenedLog, KeepsWal}
use Rattle.wp_wal.specs.Wal.{WalState}
use Rattle.wp_manifest.specs.declared.error.ManifestError.{ManifestError}
use Rattle.wp_manifest.specs.Edit.{Edit, place_of}
use Rattle.wp_manifest.specs.Manifest.{ManifestState, Opened}
use Rattle.wp_manifest.specs.Opening.{IsUnopenedManifest}
use Rattle.wp_manifest.specs.Spelling.{MAGIC, head_stamp, last_edit}
use Rattle.wp_contents.specs.Devices.{devices_of}
use Rattle.wp_refused.specs.Damage.{IsOther}
use Rattle.wp_refused.specs.Parts.{LogsOpened}
use Rattle.wp_refused.specs.Refused.{IsManifestLeft, IsManifestSeen, WereRead}
use Rattle.wp_refused.proofs.BothOpen.{logs_made, logs_new, manifest_left, other_id}
use Rattle.wp_refused.proofs.Stages.{edits_read, none_read, seen_durable}
use Rattle.wp_logs.specs.declared.manifest.SeenManifest.{SeenManifest}
use Rattle.wp_logs.specs.declared.manifest.SeenManifest.TheVariants as seen
use Rattle.wp_logs.specs.Seen.{HasOther, HasSame, MayNotOpen, OpensSeen, WasMade, seen_faults, seen_moments, seen_place}

module _ {D : Type 0} (asked : ℕ) (moments : D → List Moment) (faults : D → ℕ) (disk : D) where
  -- these edits were read of it
  pub record Seen (it : SeenManifest D) : Type 0 where
    pub found : ℕ
    pub list : List Edit
    pub reads : WereRead found list (moments disk)
    pub left : IsManifestSeen asked found list (moments disk) (seen_moments moments it)
    pub under : (id : ℕ) → HasSame id it → IsManifestSeen asked id list (moments disk) (seen_moments moments it)
    pub place : seen_place it ≡ place_of (last_edit list)
    pub durable : LosesNoRecord MAGIC (moments disk) (seen_moments moments it)
    pub later : faults disk ≤ seen_faults faults it

  pub as_seen : (it : SeenManifest D) → WasMade asked moments faults disk it → Seen it
  as_seen (seen.Made edits) was =
      let opened = was.0 in
      let kept = was.2 in
      let left = manifest_left asked asked (moments disk) edits.log.moments edits opened refl kept.survives in
      record {
        found = edits.log.id;
        list = opened.edits;
        reads = edits_read asked (moments disk) edits opened;
        left = inl (was.1, left);
        under = λ id same. inl (was.1, subst (λ (n : ℕ). IsManifestLeft asked n opened.edits (moments disk) edits.log.moments) same left);
        place = ap place_of opened.stores.last;
        durable = kept.durable;
        later = kept.later;
      }
  as_seen (seen.Unmade new) was = record {
    found = 0;
    list = [];
    reads = none_read 0 (moments disk) was.2;
    left = inr (refl, was.2, was.0);
    under = λ id same. inr (refl, was.2, was.0);
    place = refl;
    durable = seen_durable (moments disk) (moments new) was.0;
    later = omega (arith, was.1);
  }

  -- it was made, under another id
  pub record SeenOther (id found : ℕ) (it : SeenManifest D) : Type 0 where
    pub list : List Edit
    pub reads : WereRead found list (moments disk)
    pub other : IfKnown (moments disk) (λ m. IsOther id found m.reads)
    pub differ : found ≢ id
    pub left : IsManifestLeft asked found list (moments disk) (seen_moments moments it)
    pub place : seen_place it ≡ place_of (last_edit list)
    pub durable : LosesNoRecord MAGIC (moments disk) (seen_moments moments it)
    pub later : faults disk ≤ seen_faults faults it

  pub as_other : (id found : ℕ) (it : SeenManifest D) → WasMade asked moments faults disk it → found < 2 ^ 32 → HasOther id it found → SeenOther id found it
  as_other id found (seen.Made edits) was fits (is, differ) =
      let opened = was.0 in
      let kept = was.2 in
      let its : edits.log.id ≡ found = sym is in
      record {
        list = opened.edits;
        reads = subst (λ (n : ℕ). WereRead n opened.edits (moments disk)) its (edits_read asked (moments disk) edits opened);
        other = subst (λ (n : ℕ). IfKnown (moments disk) (λ m. IsOther id n m.reads)) its (other_id id (moments disk) edits was.1 (subst (λ (n : ℕ). n < 2 ^ 32) is fits) (λ e. differ (is ∙ e)));
        differ = differ;
        left = subst (λ (n : ℕ). IsManifestLeft asked n opened.edits (moments disk) edits.log.moments) its (manifest_left asked asked (moments disk) edits.log.moments edits opened refl kept.survives);
        place = ap place_of opened.stores.last;
        durable = kept.durable;
        later = kept.later;
      }
  as_other id found (seen.Unmade new) was fits other = absurd other

  -- one was to be made
  pub record SeenNone (id : ℕ) (it : SeenManifest D) (new : D) (why : ManifestError) : Type 0 where
    pub front : seen_place it ≡ 0
    pub unmade : IfKnown (moments disk) (λ m. IsUnmade m.reads)
    pub unopened : IsUnopenedManifest (moments disk) (moments new) (faults disk) (faults new) why
    pub kept : KeepsLog MAGIC (head_stamp id) (moments disk) (moments new) (faults disk) (faults new)

  pub as_none : (id : ℕ) (it : SeenManifest D) (new : D) (why : ManifestError) → WasMade asked moments faults disk it → MayNotOpen id moments faults it new why → SeenNone id it new why
  as_none id (seen.Made edits) new why was refused = absurd refused
  as_none id (seen.Unmade still) new why was refused =
      record {
        front = refl;
        unmade = was.2;
        unopened = rw (was.0, was.1) at refused.0;
        kept = rw (was.0, was.1) at refused.1;
      }

  -- ... and was, but names another place, or has another id: the one that was seen does not
  pub record SeenNew (id : ℕ) (it : SeenManifest D) (edits : ManifestState) : Type 0 where
    pub front : seen_place it ≡ 0
    pub unmade : IfKnown (moments disk) (λ m. IsUnmade m.reads)
    pub opened : Opened id (moments disk) edits
    pub kept : KeepsLog MAGIC (head_stamp id) (moments disk) edits.log.moments (faults disk) edits.log.faults
    pub unfailed : edits.log.faults ≡ faults disk

  as_new : (id : ℕ) (new : D) (edits : ManifestState) → WasMade asked moments faults disk (seen.Unmade new) → OpensSeen id moments faults (seen.Unmade new) edits → SeenNew id (seen.Unmade new) edits
  as_new id new edits was opens = record {
    front = refl;
    unmade = was.2;
    opened = rw was.0 at opens.0;
    kept = rw (was.0, was.1) at opens.1;
    unfailed = opens.2 ∙ was.1;
  }

  pub as_elsewhere : (id : ℕ) (it : SeenManifest D) (edits : ManifestState) → WasMade asked moments faults disk it → HasSame id it → OpensSeen id moments faults it edits → place_of edits.edit ≢ seen_place it → SeenNew id it edits
  as_elsewhere id (seen.Made made) edits was same opens other = absurd (other (ap (λ (s : ManifestState). place_of s.edit) opens))
  as_elsewhere id (seen.Unmade new) edits was same opens other = as_new id new edits was opens

  pub as_stranger : (id : ℕ) (it : SeenManifest D) (edits : ManifestState) → WasMade asked moments faults disk it → HasSame id it → OpensSeen id moments faults it edits → edits.log.id ≢ id → SeenNew id it edits
  as_stranger id (seen.Made made) edits was same opens other = absurd (other (ap (λ (s : ManifestState). s.log.id) opens ∙ same))
  as_stranger id (seen.Unmade new) edits was same opens other = as_new id new edits was opens

-- both are open
pub logs_opened : {D : Type 0} (asked : ℕ) (moments : D → List Moment) (faults : D → ℕ) (disks : Disks D) (it : SeenManifest D) (wal : WalState) (c : Cut) (edits : ManifestState) → WasMade asked moments faults disks.manifest it → HasSame wal.id it → OpensSeen wal.id moments faults it edits
    → IsOpenedLog asked (seen_place it) (moments disks.log) wal c → KeepsWal (seen_place it) asked (moments disks.log) wal.moments (faults disks.log) wal.faults → wal.faults ≡ faults disks.log → place_of edits.edit ≡ wal.segment.place → edits.log.id ≡ wal.id → LogsOpened asked (devices_of moments faults disks) wal c edits
logs_opened asked moments faults disks (seen.Made made) wal c edits was same opens log kept unfailed place one =
    subst (λ (s : ManifestState). LogsOpened asked (devices_of moments faults disks) wal c s) (sym opens) (logs_made asked (devices_of moments faults disks) wal c made log was.0 was.1 same kept was.2 unfailed was.3)
logs_opened asked moments faults disks (seen.Unmade new) wal c edits was same opens log kept unfailed place one =
    let it = as_new asked moments faults disks.manifest wal.id new edits was opens in
    logs_new asked (devices_of moments faults disks) wal c edits log (place ∙ log.placed) it.opened one kept it.kept unfailed it.unfailed
