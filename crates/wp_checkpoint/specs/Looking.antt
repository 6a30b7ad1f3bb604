-- What a look at the devices of a target shows.
use Rattle.std.specs.Prelude.{◌≡◌, ◌≢◌, ℕ, List}
use Rattle.wp_outside.specs.Disk.{Moment}
use Rattle.wp_outside.specs.Faults.{Rose}
use Rattle.wp_outside.specs.declared.disk.Device.TheVariants as device
use Rattle.wp_checkpoint.specs.Target.{IsEmpty, IsHeld}
use Rattle.wp_checkpoint.specs.declared.error.CopyError.{CopyError}
use Rattle.wp_checkpoint.specs.declared.error.CopyError.TheVariants.{Memory, CopyHeld, CopyFault}
use Rattle.wp_checkpoint.specs.declared.looking.Seen.{Seen}
use Rattle.wp_checkpoint.specs.declared.looking.Seen.TheVariants.{Empty, Held, Failed}

-- the device has no bytes, or some; or its count of faults rose
abbrev pub IsSeen : List Moment → (before now : ℕ) → Seen → Type 0
IsSeen moments before now Empty = IsEmpty moments × (now ≡ before)
IsSeen moments before now Held = IsHeld moments
IsSeen moments before now Failed = Rose before now

-- That device is the first that has bytes; or none has, and it is the first that failed.
abbrev pub IsRefusedBy : (log manifest tables : Seen) → CopyError → Type 0
IsRefusedBy log manifest tables Memory = ⊥
IsRefusedBy log manifest tables (CopyHeld device.Log) = log ≡ Held
IsRefusedBy log manifest tables (CopyHeld device.Manifest) = (manifest ≡ Held) × (log ≢ Held)
IsRefusedBy log manifest tables (CopyHeld device.Tables) = (tables ≡ Held) × (log ≢ Held) × (manifest ≢ Held)
IsRefusedBy log manifest tables (CopyFault device.Log) = (log ≡ Failed) × (manifest ≢ Held) × (tables ≢ Held)
IsRefusedBy log manifest tables (CopyFault device.Manifest) = (manifest ≡ Failed) × (log ≡ Empty) × (tables ≢ Held)
IsRefusedBy log manifest tables (CopyFault device.Tables) = (tables ≡ Failed) × (log ≡ Empty) × (manifest ≡ Empty)
