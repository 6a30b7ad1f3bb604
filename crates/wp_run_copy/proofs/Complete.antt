-- Where nothing stands in the way of a copy, there is one, or memory was wanting.
use Rattle.std.proofs.Common.{ℕ, List, [], ◌∷◌, inl, inr, refl, subst}
use Rattle.wp_outside.specs.declared.disk.Device.{Device}
use Rattle.wp_outside.specs.declared.disk.Device.TheVariants as device
use Rattle.wp_outside.specs.Disk.{Moment}
use Rattle.wp_manifest.specs.declared.error.ManifestError.{ManifestError}
use Rattle.wp_manifest.specs.declared.error.ManifestError.TheVariants as manifest_error
use Rattle.wp_manifest.specs.Opening.{IsManifestCause}
use Rattle.wp_wal.specs.declared.error.WalError.{WalError}
use Rattle.wp_wal.specs.declared.error.WalError.TheVariants as wal_error
use Rattle.wp_wal.specs.Opening.{IsLogCause}
use Rattle.wp_contents.specs.Opens.{AllKnown}
use Rattle.wp_refused.specs.declared.error.OpenError.TheVariants as open_error
use Rattle.wp_refused.specs.Refused.{IsCause, IsLogReason, IsManifestReason, of_manifest, of_log, of_place, of_ids, of_edit}
use Rattle.wp_refused.specs.Tables.{IsReadCause, IsStoreCause, ahead, behind, of_tables, not_legal, not_covered}
use Rattle.wp_checkpoint.specs.Target.{IsHeld, faults_of, moments_of}
use Rattle.wp_outside.specs.Faults.{Rose}
use Rattle.wp_status.specs.declared.status.Status.{Status}
use Rattle.wp_status.specs.declared.status.Status.TheVariants as status
use Rattle.wp_status.specs.Use.{before, after}
use Rattle.wp_run_copy.specs.Amiss.{Had, NothingIsAmiss, IsCopiedOrLacksMemory}
use Rattle.wp_run_copy.specs.CopyCall.{CopyCall, CopyEnds}

-- ---- a device whose call failed

manifest_failed : (rose : Type 0) (moments : List Moment) (failed : Device) (refusal : ManifestError) → IsManifestReason refusal (open_error.OpenFault failed) → IsManifestCause rose moments refusal → rose
manifest_failed rose moments failed manifest_error.Memory reason cause = absurd cc
manifest_failed rose moments failed manifest_error.DiskFault reason cause = cause
manifest_failed rose moments failed manifest_error.BadHead reason cause = absurd cc
manifest_failed rose moments failed (manifest_error.BadEdit index) reason cause = absurd cc

log_failed : (place : ℕ) (rose : Type 0) (moments : List Moment) (failed : Device) (refusal : WalError) → IsLogReason refusal (open_error.OpenFault failed) → IsLogCause place rose moments refusal → rose
log_failed place rose moments failed wal_error.Memory reason cause = absurd cc
log_failed place rose moments failed wal_error.DiskFault reason cause = cause
log_failed place rose moments failed wal_error.BadHead reason cause = absurd cc
log_failed place rose moments failed (wal_error.BadRecord index why) reason cause = absurd cc
log_failed place rose moments failed (wal_error.Illegal number) reason cause = absurd cc

tables_failed : (rose : Type 0) (failed : Device) → IsReadCause rose (open_error.OpenFault failed) → rose
tables_failed rose device.Log cause = absurd cause
tables_failed rose device.Manifest cause = absurd cause
tables_failed rose device.Tables cause = cause

store_failed : (id : ℕ) (c : _) (edit : _) (rose : Type 0) (moments : List Moment) (failed : Device) → IsStoreCause id c edit rose moments (open_error.OpenFault failed) → rose
store_failed id c edit rose moments failed (ahead low why) = absurd cc
store_failed id c edit rose moments failed (behind high low why) = absurd cc
store_failed id c edit rose moments failed (of_tables within cause) = tables_failed rose failed cause
store_failed id c edit rose moments failed (not_legal number within wrong why) = absurd cc
store_failed id c edit rose moments failed (not_covered within wrong why) = absurd cc

-- where an opening failed with a device, the count of one rose
some_failed : (asked : ℕ) (log_rose manifest_rose tables_rose : Type 0) (log manifest tables : List Moment) (failed : Device) → IsCause asked log_rose manifest_rose tables_rose log manifest tables (open_error.OpenFault failed) → ¬ log_rose → ¬ manifest_rose → ¬ tables_rose → ⊥
some_failed asked a b c log manifest tables failed (of_manifest refusal reason cause) no-log no-manifest no-tables = no-manifest (manifest_failed b manifest failed refusal reason cause)
some_failed asked a b c log manifest tables failed (of_log found edits refusal read reason cause) no-log no-manifest no-tables = no-log (log_failed _ a log failed refusal reason cause)
some_failed asked a b c log manifest tables failed (of_place none why) no-log no-manifest no-tables = absurd cc
some_failed asked a b c log manifest tables failed (of_ids id found cut edits read its apart other why) no-log no-manifest no-tables = absurd cc
some_failed asked a b c log manifest tables failed (of_edit id cut edits read its cause) no-log no-manifest no-tables = no-tables (store_failed id cut _ c tables failed cause)

-- ---- devices that are known

had_all : (log manifest tables : List Moment) (l m t : List ℕ) (P : List ℕ → List ℕ → List ℕ → Type 0) → Had log l → Had manifest m → Had tables t → AllKnown log manifest tables P → P l m t
had_all (log ∷ logs) (manifest ∷ manifests) (table ∷ tables) l m t P a b c known = subst (λ (x : List ℕ × List ℕ × List ℕ). P x.0 x.1 x.2) (λ i. (a i, b i, c i)) known
had_all [] manifest tables l m t P a b c known = absurd a
had_all (log ∷ logs) [] tables l m t P a b c known = absurd b
had_all (log ∷ logs) (manifest ∷ manifests) [] l m t P a b c known = absurd c

not_held : (moments : List Moment) → Had moments [] → IsHeld moments → ⊥
not_held [] none held = none
not_held (m ∷ past) none held = held none

module _ (call : CopyCall) (fine : NothingIsAmiss call) where
  target_held : (which : Device) → IsHeld (moments_of which (before call.target)) → ⊥
  target_held device.Log = not_held call.target.log.before fine.empty.0
  target_held device.Manifest = not_held call.target.manifest.before fine.empty.1
  target_held device.Tables = not_held call.target.tables.before fine.empty.2

  target_failed : (which : Device) → Rose (faults_of which (before call.target)) (faults_of which (after call.target)) → ⊥
  target_failed device.Log = fine.target_unfailed.0
  target_failed device.Manifest = fine.target_unfailed.1
  target_failed device.Tables = fine.target_unfailed.2

  pub complete : (end : Status) → CopyEnds call end → IsCopiedOrLacksMemory end
  complete status.Ok h = inl refl
  complete status.Memory h = inr refl
  complete status.Words h = absurd (h fine.taken)
  complete status.SourceFault h = absurd h.copied
  complete status.SinkFault h = absurd (fine.sink_unfailed h.copied.0)
  complete (status.Script fault) h = absurd h.copied
  complete status.LogFault h = absurd h.copied
  complete status.TableFault h = absurd h.copied
  complete (status.Contents damage) h =
      let o = fine.opens in
      absurd (had_all call.store.log.before call.store.manifest.before call.store.tables.before o.log o.manifest o.tables _ o.log_had o.manifest_had o.tables_had h.copied.0.only o.id o.history o.opens (o.asked h.options h.chosen))
  complete (status.OpenFault failed) h =
      absurd (some_failed h.options.id _ _ _ call.store.log.before call.store.manifest.before call.store.tables.before failed h.copied.0.cause fine.store_unfailed.0 fine.store_unfailed.1 fine.store_unfailed.2)
  complete (status.CopyFault failed) h = absurd (target_failed failed h.copied.refused.cause.0)
  complete (status.CopyHeld held) h = absurd (target_held held h.copied.refused.cause.0)
