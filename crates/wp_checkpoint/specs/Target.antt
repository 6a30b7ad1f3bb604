-- What becomes of a target.
use Rattle.std.specs.Prelude.{◌≡◌, ◌≢◌, ◌⊎◌, ℕ, ◌≤◌, List, []}
use Rattle.wp_outside.specs.Disk.{Moment, IfKnown}
use Rattle.wp_outside.specs.Faults.{Rose}
use Rattle.wp_outside.specs.declared.disk.Device.{Device}
use Rattle.wp_outside.specs.declared.disk.Device.TheVariants as device
use Rattle.wp_contents.specs.Devices.{DevicesLeft}
use Rattle.wp_checkpoint.specs.declared.error.CopyError.{CopyError}
use Rattle.wp_checkpoint.specs.declared.error.CopyError.TheVariants.{Memory, CopyHeld, CopyFault}

abbrev pub moments_of : Device → DevicesLeft → List Moment
moments_of device.Log target = target.log
moments_of device.Manifest target = target.manifest
moments_of device.Tables target = target.tables

abbrev pub faults_of : Device → DevicesLeft → ℕ
faults_of device.Log target = target.log_faults
faults_of device.Manifest target = target.manifest_faults
faults_of device.Tables target = target.tables_faults

-- ---- empty targets

-- where a device is known, it has no bytes
abbrev pub IsEmpty : List Moment → Type 0
IsEmpty moments = IfKnown moments (λ m. m.reads ≡ [])

pub record AreEmpty (target : DevicesLeft) : Type 0 where
  pub log : IsEmpty target.log
  pub manifest : IsEmpty target.manifest
  pub tables : IsEmpty target.tables

-- it has bytes
abbrev pub IsHeld : List Moment → Type 0
IsHeld moments = IfKnown moments (λ m. m.reads ≢ [])

-- it was empty, or its count of faults rose
abbrev pub WasEmptyOrRose : Device → (old new : DevicesLeft) → Type 0
WasEmptyOrRose d old new = IsEmpty (moments_of d old) ⊎ Rose (faults_of d old) (faults_of d new)

-- so was each before it, in the order in which targets are looked at
abbrev pub WereEmptyBefore : Device → (old new : DevicesLeft) → Type 0
WereEmptyBefore device.Log old new = Unit {0}
WereEmptyBefore device.Manifest old new = WasEmptyOrRose device.Log old new
WereEmptyBefore device.Tables old new = WasEmptyOrRose device.Log old new × WasEmptyOrRose device.Manifest old new

-- so was each of the three
abbrev pub WereEmpty : (old new : DevicesLeft) → Type 0
WereEmpty old new = WasEmptyOrRose device.Log old new × WasEmptyOrRose device.Manifest old new × WasEmptyOrRose device.Tables old new

-- ---- what stays

pub record StayAsTheyWere (old new : DevicesLeft) : Type 0 where
  pub log : new.log ≡ old.log
  pub manifest : new.manifest ≡ old.manifest
  pub tables : new.tables ≡ old.tables

-- Those that are written behind it: first the tables, then the log, and the manifest last.
abbrev pub StayBehind : Device → (old new : DevicesLeft) → Type 0
StayBehind device.Tables old new = (new.log ≡ old.log) × (new.manifest ≡ old.manifest)
StayBehind device.Log old new = new.manifest ≡ old.manifest
StayBehind device.Manifest old new = Unit {0}

-- no count of faults falls
pub record AreLater (old new : DevicesLeft) : Type 0 where
  pub log : old.log_faults ≤ new.log_faults
  pub manifest : old.manifest_faults ≤ new.manifest_faults
  pub tables : old.tables_faults ≤ new.tables_faults

-- none rose
pub record AreUnfailed (old new : DevicesLeft) : Type 0 where
  pub log : new.log_faults ≡ old.log_faults
  pub manifest : new.manifest_faults ≡ old.manifest_faults
  pub tables : new.tables_faults ≡ old.tables_faults

-- ---- refusals

-- Memory was wanting, behind the look and before all writes. Or that device is the first that has bytes. Or none has, as far as the target
-- could be looked at, and that one failed: those that are written behind it are as they were.
abbrev pub IsCopyCause : (old new : DevicesLeft) → CopyError → Type 0
IsCopyCause old new Memory = AreEmpty old × (new ≡ old)
IsCopyCause old new (CopyHeld d) = IsHeld (moments_of d old) × WereEmptyBefore d old new × StayAsTheyWere old new
IsCopyCause old new (CopyFault d) = Rose (faults_of d old) (faults_of d new) × WereEmpty old new × StayBehind d old new

-- why the copy was not made, and what that leaves of the target
pub record RefusesCopy (old new : DevicesLeft) (why : CopyError) : Type 0 where
  pub cause : IsCopyCause old new why
  pub later : AreLater old new
