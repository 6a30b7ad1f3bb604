-- Why a manifest is refused.
use Rattle.std.proofs.Common.{◌≡◌, arith, ℕ, Bool, true, false, List, [], ◌∷◌, length, refl, subst, ap, ◌∙◌, inl, inr}
use Rattle.std.proofs.lemmas.List.{length-map}
use Rattle.wp_outside.specs.Disk.{Moment, IfKnown, added, after_sync}
use Rattle.wp_outside.specs.Faults.{Rose}
use Rattle.wp_fields.specs.declared.format.Format.{Format}
use Rattle.wp_fields.specs.declared.format.Format.TheVariants.{One, Two}
use Rattle.wp_gatelog.specs.declared.error.LogError.{LogError}
use Rattle.wp_gatelog.specs.declared.error.LogError.TheVariants as log
use Rattle.wp_gatelog.specs.Damage.{IsCut}
use Rattle.wp_gatelog.specs.Errors.{FaultRose}
use Rattle.wp_gatelog.specs.Left.{IsLeftAtRest, IsSyncedOrAtRest}
use Rattle.wp_gatelog.specs.Log.{LogState, IsAtRest, stamp_of}
use Rattle.wp_gatelog.specs.Opening.{IsFound, IsRefused, IsUntouched, IsOpened}
use Rattle.wp_gatelog.specs.Spelling.{Stamp, IsUnmade, IsUpTo, Spells}
use Rattle.wp_manifest.specs.Edit.{Edit, edit_bytes}
use Rattle.wp_manifest.specs.Errors.{manifest_error_of}
use Rattle.wp_manifest.specs.Manifest.{Opened}
use Rattle.wp_manifest.specs.Opening.{IsManifestCause, IsUnopenedManifest, LeavesEdits}
use Rattle.wp_manifest.specs.declared.error.ManifestError.{ManifestError}
use Rattle.wp_manifest.specs.declared.error.ManifestError.TheVariants.{Memory, DiskFault, BadHead, BadEdit}
use Rattle.wp_manifest.specs.Reading.{IsBadAmong, IsEditCause, IsLastOf}
use Rattle.wp_manifest.specs.Spelling.{MAGIC, IsManifestOf, head_stamp}

-- ---- the head

-- the first version is the only one up to it
pub only_first : (format : Format) → IsUpTo One format → format ≡ One
only_first One up = refl
only_first Two up = absurd (omega arith)

first_stamp : (stamp : Stamp) → IsUpTo One stamp.format → stamp ≡ head_stamp stamp.id
first_stamp stamp up = λ i. record { format = only_first stamp.format up i; id = stamp.id }

-- a log that was found is of the first version
found_first : (asked : ℕ) (stamp : Stamp) (bytes : List ℕ) (records : List (List ℕ)) → IsFound 0 MAGIC (head_stamp asked) bytes stamp records → Spells bytes MAGIC (head_stamp stamp.id) records
found_first asked stamp bytes records found = subst (λ (s : Stamp). Spells bytes MAGIC s records) (first_stamp stamp found.readable) found.spelled

apart : {b : Bool} → b ≡ true → b ≡ false → ⊥
apart same other = absurd cc

-- ---- causes

known : (P Q : Moment → Type 0) (moments : List Moment) → ((m : Moment) → P m → Q m) → IfKnown moments P → IfKnown moments Q
known P Q [] implies is = tt
known P Q (m ∷ past) implies is = implies m is

pub refused_cause : (before now : ℕ) (moments : List Moment) (why : LogError) → IfKnown moments (λ m. IsRefused 0 MAGIC One m.reads why) → FaultRose before now why → IsManifestCause (Rose before now) moments (manifest_error_of why)
refused_cause before now moments log.Memory refused rose = tt
refused_cause before now moments log.DiskFault refused rose = rose
refused_cause before now moments log.BadHead refused rose = refused
refused_cause before now moments (log.Cut index id) refused rose =
    inl (known (λ m. (cut : IsCut MAGIC One index m.reads) × (id ≡ cut.stamp.id)) (λ m. IsCut MAGIC One index m.reads) moments (λ m cut. cut.0) refused)

-- a record of a log that was found is no edit
pub bad_edit_cause : (asked index : ℕ) (stamp : Stamp) (records : List (List ℕ)) (moments : List Moment) (rose : Type 0) → IfKnown moments (λ m. IsFound 0 MAGIC (head_stamp asked) m.reads stamp records) → IsBadAmong records index → IsManifestCause rose moments (BadEdit index)
bad_edit_cause asked index stamp records moments rose found bad =
    inr (stamp.id, records, bad, known (λ m. IsFound 0 MAGIC (head_stamp asked) m.reads stamp records) (λ m. Spells m.reads MAGIC (head_stamp stamp.id) records) moments (λ m is. found_first asked stamp m.reads records is) found)

-- ---- what is left

pub refused_left : (old new : List Moment) (why : LogError) → IsUntouched (added after_sync old) new why → LeavesEdits old new (manifest_error_of why)
refused_left old new log.Memory same = inl same
refused_left old new log.DiskFault same = tt
refused_left old new log.BadHead same = same
refused_left old new (log.Cut index id) same = inl same

-- the log of the edits was opened, and let go of
pub opened_left : (asked : ℕ) (log : LogState) (records : List (List ℕ)) (old : List Moment) → IsOpened 0 MAGIC (head_stamp asked) old log records → IsSyncedOrAtRest MAGIC old log.moments
opened_left asked log records old opened = inr (by old log.moments opened.found opened.rests)
  where
    by : (old new : List Moment) → IfKnown old (λ m. IsFound 0 MAGIC (head_stamp asked) m.reads (stamp_of log) records) → IfKnown new (IsAtRest MAGIC (stamp_of log) log.end [] [] records) → IsLeftAtRest MAGIC old new
    by [] new found rests = tt
    by (m ∷ past) [] found rests = tt
    by (m ∷ past) (n ∷ before) found rests = record { stamp = stamp_of log; end = log.end; records = records; spelled = found.spelled; rests = rests }

-- its records are not all edits, or memory ran out
pub edits_refused : (asked before now : ℕ) (log : LogState) (records : List (List ℕ)) (old : List Moment) (why : ManifestError) → IsOpened 0 MAGIC (head_stamp asked) old log records → IsEditCause records why → IsUnopenedManifest old log.moments before now why
edits_refused asked before now log records old Memory opened cause = record { cause = tt; left = opened_left asked log records old opened }
edits_refused asked before now log records old DiskFault opened cause = absurd cause
edits_refused asked before now log records old BadHead opened cause = absurd cause
edits_refused asked before now log records old (BadEdit index) opened bad = record {
  cause = bad_edit_cause asked index (stamp_of log) records old (Rose before now) opened.found bad;
  left = opened_left asked log records old opened;
}

-- ---- an open manifest

pub opened_edits : (asked : ℕ) (log : LogState) (records : List (List ℕ)) (edit : Edit) (old : List Moment) → IsOpened 0 MAGIC (head_stamp asked) old log records → IsLastOf records edit → Opened asked old (record { log = log; edit = edit })
opened_edits asked log records edit old opened last =
    let first : stamp_of log ≡ head_stamp log.id = first_stamp (stamp_of log) opened.readable in
    record {
      edits = last.0;
      stores = record {
        records = records;
        spelled = last.1;
        counted = opened.counted ∙ ap (λ (rs : List (List ℕ)). length rs) last.1.spelled ∙ length-map last.0 edit_bytes;
        last = last.2;
        version = only_first log.format opened.readable;
        rests = λ running. subst (λ (s : Stamp). IfKnown log.moments (IsAtRest MAGIC s log.end [] [] records)) first opened.rests;
        left = λ closed. absurd (running_not_closed closed);
      };
      found = known (λ m. IsFound 0 MAGIC (head_stamp asked) m.reads (stamp_of log) records) (λ m. IsManifestOf log.id last.0 m.reads) old
          (λ m is. (records, found_first asked (stamp_of log) m.reads records is, last.1)) opened.found;
      made = known (λ m. IsFound 0 MAGIC (head_stamp asked) m.reads (stamp_of log) records) (λ m. IsUnmade m.reads → log.id ≡ asked) old
          (λ m is unmade. ap (λ (s : Stamp). s.id) (is.unmade unmade)) opened.found;
      running = opened.running;
    }
  where
    running_not_closed : log.closed ≡ true → ⊥
    running_not_closed closed = apart closed opened.running
