-- How the text of a command was written.
use Rattle.std.specs.Prelude.{◌≡◌, ℕ, Bool, true, false, List}
use Rattle.std.specs.Io.KnownBytes.{Appends}
use Rattle.wp_outside.specs.Faults.{Rose}
use Rattle.wp_outside.specs.Sink.{AppendsPrefix}
use Rattle.wp_status.specs.declared.status.Status.{Status}
use Rattle.wp_status.specs.declared.status.Status.TheVariants as status
use Rattle.wp_status.specs.Use.{SinkUse}

-- the whole text was written, and no call of the sink failed
abbrev pub IsWhole : SinkUse → List ℕ → Type 0
IsWhole sink text = Appends sink.before sink.after text × (sink.faults_after ≡ sink.faults_before)

-- how a text was written: whole, with the log failed, the tables alone, or neither; or in part
abbrev pub IsWritten : (stopped halted : Bool) → SinkUse → List ℕ → Status → Type 0
IsWritten stopped halted sink text status.Ok = (stopped ≡ false) × (halted ≡ false) × IsWhole sink text
IsWritten stopped halted sink text status.LogFault = (stopped ≡ true) × IsWhole sink text
IsWritten stopped halted sink text status.TableFault = (stopped ≡ false) × (halted ≡ true) × IsWhole sink text
IsWritten stopped halted sink text status.SinkFault = Rose sink.faults_before sink.faults_after × AppendsPrefix sink.before sink.after text
IsWritten stopped halted sink text other = ⊥
