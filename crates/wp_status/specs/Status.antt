-- The ways to end: the exit status of each, the line that names it, and how far the call came.
use Rattle.std.specs.Prelude.{◌≡◌, ℕ, List, codes}
use mathlib.Core.List.{IsPrefix}
use Rattle.wp_refused.specs.declared.error.OpenError.{OpenError}
use Rattle.wp_refused.specs.declared.error.OpenError.TheVariants as open_error
use Rattle.wp_status.specs.declared.status.Status.{Status}
use Rattle.wp_status.specs.declared.status.Status.TheVariants as status

abbrev pub code_of : Status → ℕ
code_of status.Ok = 0
code_of status.Words = 2
code_of status.Memory = 3
code_of status.SourceFault = 4
code_of status.SinkFault = 5
code_of (status.Script fault) = 6
code_of status.LogFault = 7
code_of status.TableFault = 8
code_of (status.Contents bad) = 9
code_of (status.OpenFault device) = 10
code_of (status.CopyFault device) = 11
code_of (status.CopyHeld device) = 12

-- The text that names a status. Behind that of a fault of the script, of the devices' bytes or of a device comes its own text.
abbrev pub own_text : Status → List ℕ
own_text status.Ok = codes "wp: ok"
own_text status.Words = codes "wp: words not accepted"
own_text status.Memory = codes "wp: out of memory"
own_text status.SourceFault = codes "wp: script could not be read"
own_text status.SinkFault = codes "wp: output could not be written"
own_text (status.Script fault) = codes "wp: "
own_text status.LogFault = codes "wp: log fault"
own_text status.TableFault = codes "wp: table fault"
own_text (status.Contents bad) = codes "wp: contents: "
own_text (status.OpenFault device) = codes "wp: opening failed: "
own_text (status.CopyFault device) = codes "wp: copy failed: "
own_text (status.CopyHeld device) = codes "wp: copy not empty: "

-- The line of a status is its text; or it begins with that, where a fault's own text follows, which no contract has.
abbrev pub IsLine : Status → List ℕ → Type 0
IsLine (status.Script fault) line = IsPrefix (own_text (status.Script fault)) line
IsLine (status.Contents bad) line = IsPrefix (own_text (status.Contents bad)) line
IsLine (status.OpenFault device) line = IsPrefix (own_text (status.OpenFault device)) line
IsLine (status.CopyFault device) line = IsPrefix (own_text (status.CopyFault device)) line
IsLine (status.CopyHeld device) line = IsPrefix (own_text (status.CopyHeld device)) line
IsLine end line = line ≡ own_text end

-- The last that a call may have come to: its words, the source, the disks or the sink.
pub data Stage : Type 0 where
  AtWords : Stage
  AtSource : Stage
  AtDisks : Stage
  AtSink : Stage

abbrev pub stage_of : Status → Stage
stage_of status.Words = AtWords
stage_of status.SourceFault = AtSource
stage_of (status.Script fault) = AtSource
stage_of status.Memory = AtDisks
stage_of (status.Contents damage) = AtDisks
stage_of (status.OpenFault d) = AtDisks
stage_of (status.CopyFault d) = AtDisks
stage_of (status.CopyHeld d) = AtDisks
stage_of status.Ok = AtSink
stage_of status.LogFault = AtSink
stage_of status.TableFault = AtSink
stage_of status.SinkFault = AtSink

abbrev pub IsBeforeSink : Stage → Type 0
IsBeforeSink AtSink = ⊥
IsBeforeSink other = Unit {0}

-- What comes after a stage was not called.
abbrev pub LeavesUncalled : Stage → (source_uncalled disks_uncalled sink_uncalled : Type 0) → Type 0
LeavesUncalled AtWords source_uncalled disks_uncalled sink_uncalled = source_uncalled × disks_uncalled × sink_uncalled
LeavesUncalled AtSource source_uncalled disks_uncalled sink_uncalled = disks_uncalled × sink_uncalled
LeavesUncalled AtDisks source_uncalled disks_uncalled sink_uncalled = sink_uncalled
LeavesUncalled AtSink source_uncalled disks_uncalled sink_uncalled = Unit {0}

-- the end that names why a store was not opened
abbrev pub IsStatusOf : OpenError → Status → Type 0
IsStatusOf open_error.Memory end = end ≡ status.Memory
IsStatusOf (open_error.OpenFault d) end = end ≡ status.OpenFault d
IsStatusOf (open_error.Contents damage) end = end ≡ status.Contents damage
