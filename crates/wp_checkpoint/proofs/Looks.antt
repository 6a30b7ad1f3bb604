-- What looks at the devices of a target say of it.
use Rattle.std.proofs.Common.{◌≡◌, ◌≢◌, ◌⊎◌, inl, inr, ℕ, List, [], ◌∷◌, length, refl, sym, ◌∙◌, subst, arith}
use Rattle.wp_outside.specs.Disk.{Moment, IfKnown}
use Rattle.wp_outside.specs.Faults.{Rose}
use Rattle.wp_outside.specs.declared.disk.Device.TheVariants as device
use Rattle.wp_contents.specs.Devices.{DevicesLeft}
use Rattle.wp_checkpoint.specs.Looking.{IsRefusedBy, IsSeen}
use Rattle.wp_checkpoint.specs.Target.{IsCopyCause, IsEmpty, IsHeld, StayAsTheyWere}
use Rattle.wp_checkpoint.specs.declared.error.CopyError.{CopyError}
use Rattle.wp_checkpoint.specs.declared.error.CopyError.TheVariants.{Memory, CopyHeld, CopyFault}
use Rattle.wp_checkpoint.specs.declared.looking.Seen.{Seen}
use Rattle.wp_checkpoint.specs.declared.looking.Seen.TheVariants.{Empty, Held, Failed}

-- ---- a length that was told

no_bytes : (bytes : List ℕ) → 0 ≡ length bytes → bytes ≡ []
no_bytes [] none = refl
no_bytes (b ∷ bytes) none = absurd (omega (arith, none))

pub empty_by : (moments : List Moment) → IfKnown moments (λ m. 0 ≡ length m.reads) → IsEmpty moments
empty_by [] known = tt
empty_by (m ∷ past) known = no_bytes m.reads known

pub held_by : (n : ℕ) (moments : List Moment) → n ≢ 0 → IfKnown moments (λ m. n ≡ length m.reads) → IsHeld moments
held_by n [] some known = tt
held_by n (m ∷ past) some known = λ none. some (subst (λ (bytes : List ℕ). n ≡ length bytes) none known)

-- ---- the three of them

without_bytes : (moments : List Moment) (before now : ℕ) (seen : Seen) → IsSeen moments before now seen → seen ≢ Held → IsEmpty moments ⊎ Rose before now
without_bytes moments before now Empty is differ = inl is.0
without_bytes moments before now Held is differ = absurd (differ refl)
without_bytes moments before now Failed is differ = inr is

module _ (old new : DevicesLeft) (log manifest tables : Seen) (stay : StayAsTheyWere old new) (of_log : IsSeen old.log old.log_faults new.log_faults log) (of_manifest : IsSeen old.manifest old.manifest_faults new.manifest_faults manifest)
    (of_tables : IsSeen old.tables old.tables_faults new.tables_faults tables) where
  log_without : log ≢ Held → IsEmpty old.log ⊎ Rose old.log_faults new.log_faults
  log_without = without_bytes old.log old.log_faults new.log_faults log of_log

  manifest_without : manifest ≢ Held → IsEmpty old.manifest ⊎ Rose old.manifest_faults new.manifest_faults
  manifest_without = without_bytes old.manifest old.manifest_faults new.manifest_faults manifest of_manifest

  tables_without : tables ≢ Held → IsEmpty old.tables ⊎ Rose old.tables_faults new.tables_faults
  tables_without = without_bytes old.tables old.tables_faults new.tables_faults tables of_tables

  -- one that is empty, or that failed, has no bytes
  other_than : (seen one : Seen) → seen ≡ one → one ≢ Held → seen ≢ Held
  other_than seen one is differ same = differ (sym is ∙ same)

  empty_is : (seen : Seen) → seen ≡ Empty → seen ≢ Held
  empty_is seen is = other_than seen Empty is (λ e. absurd cc)

  failed_is : (seen : Seen) → seen ≡ Failed → seen ≢ Held
  failed_is seen is = other_than seen Failed is (λ e. absurd cc)

  pub look_refused : (why : CopyError) → IsRefusedBy log manifest tables why → IsCopyCause old new why
  look_refused Memory is = absurd is
  look_refused (CopyHeld device.Log) is = (subst (IsSeen old.log old.log_faults new.log_faults) is of_log, tt, stay)
  look_refused (CopyHeld device.Manifest) is = (subst (IsSeen old.manifest old.manifest_faults new.manifest_faults) is.0 of_manifest, log_without is.1, stay)
  look_refused (CopyHeld device.Tables) is = (subst (IsSeen old.tables old.tables_faults new.tables_faults) is.0 of_tables, (log_without is.1, manifest_without is.2), stay)
  look_refused (CopyFault device.Log) is = (
    subst (IsSeen old.log old.log_faults new.log_faults) is.0 of_log,
    (log_without (failed_is log is.0), manifest_without is.1, tables_without is.2),
    stay.manifest,
  )
  look_refused (CopyFault device.Manifest) is = (
    subst (IsSeen old.manifest old.manifest_faults new.manifest_faults) is.0 of_manifest,
    (log_without (empty_is log is.1), manifest_without (failed_is manifest is.0), tables_without is.2),
    tt,
  )
  look_refused (CopyFault device.Tables) is = (
    subst (IsSeen old.tables old.tables_faults new.tables_faults) is.0 of_tables,
    (log_without (empty_is log is.1), manifest_without (empty_is manifest is.2), tables_without (failed_is tables is.0)),
    (stay.log, stay.manifest),
  )
