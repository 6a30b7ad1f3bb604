-- What is told of a copy.
use Rattle.std.specs.Prelude.{◌≡◌, false, Result, Ok, Err}
use Rattle.wp_outside.specs.declared.disk.Disks.{Disks}
use Rattle.wp_checkpoint.specs.declared.copying.Copied.{Copied}
use Rattle.wp_checkpoint.specs.declared.error.CopyError.{CopyError}
use Rattle.wp_checkpoint.specs.declared.error.CopyError.TheVariants as copy_error
use Rattle.wp_checkpoint.specs.declared.error.CopyRefused.{CopyRefused}
use Rattle.wp_status.specs.declared.status.Status.{Status}
use Rattle.wp_status.specs.declared.status.Status.TheVariants as status
use Rattle.wp_status.specs.Use.{SinkUse}
use Rattle.wp_status.specs.Written.{IsWritten}
use Rattle.wp_run_copy.specs.Line.{copied_line}

-- the end that names why a copy was not made
abbrev pub IsStatusOf : CopyError → Status → Type 0
IsStatusOf copy_error.Memory end = end ≡ status.Memory
IsStatusOf (copy_error.CopyHeld device) end = end ≡ status.CopyHeld device
IsStatusOf (copy_error.CopyFault device) end = end ≡ status.CopyFault device

-- the line was written, or what could be of it, or the reason is named; and the target comes back
abbrev pub Tells : {E : Type 0} → Result (Copied × Disks E) (CopyRefused E) → SinkUse → Status → Disks E → Type 0
Tells (Ok made) sink end target = IsWritten false false sink (copied_line made.0) end × (target ≡ made.1)
Tells (Err refused) sink end target = IsStatusOf refused.why end × (target ≡ refused.target)
