-- What a call of the program's top call did, by the status that it ended with.
use Rattle.std.specs.Prelude.{◌≡◌, ◌≤◌, ◌⊎◌, ℕ, ◌+◌, List, [], Result, Ok, Err}
use Rattle.wp_outside.specs.Faults.{Rose}
use Rattle.wp_text.specs.declared.fault.Fault.{Fault}
use Rattle.wp_text.specs.declared.script.Part.{Part}
use Rattle.wp_text.specs.Grammar.{IsScript}
use Rattle.wp_make.specs.Generator.{made_script}
use Rattle.wp_text.specs.Faults.{IsFault}
use Rattle.wp_args.specs.declared.choice.Action.{Action}
use Rattle.wp_args.specs.declared.choice.Action.TheVariants as action
use Rattle.wp_args.specs.declared.choice.Choice.{Choice}
use Rattle.wp_args.specs.declared.limits.TheConstants.{MOST_CLIENTS, MOST_LINES}
use Rattle.wp_args.specs.Choice.{IsChoice, IsTaken}
use Rattle.wp_outside.specs.Whole.{AreBytesRead}
use Rattle.wp_status.specs.declared.status.Status.{Status}
use Rattle.wp_status.specs.declared.status.Status.TheVariants as status
use Rattle.wp_text.specs.declared.read.TheConstants.{MOST_BYTES}
use Rattle.wp_run.specs.Headline.{Serving}
use Rattle.wp_run.specs.Serving.{Serves, ServesExactly}
use Rattle.wp_status.specs.Use.{DisksUse, SourceUse, SinkUse, AreUncalled, IsDurable}

-- the words choose to do this
abbrev pub IsChosen : List (List ℕ) → Action → Type 0
IsChosen words chosen = (choice : Choice) × IsChoice words choice × (choice.action ≡ chosen)

-- what the words choose, or why they choose nothing
abbrev pub IsChoiceOf : List (List ℕ) → Result Choice Status → Type 0
IsChoiceOf words (Ok choice) = IsChoice words choice
IsChoiceOf words (Err status.Words) = ¬ IsTaken words
IsChoiceOf words (Err status.Memory) = Unit {0}
IsChoiceOf words (Err other) = ⊥

-- how many bytes are read at most: one more than a script may have, so that a longer one is named
abbrev pub most_read : ℕ
most_read = MOST_BYTES + 1

-- these bytes were read of the source, and no call of it failed
abbrev pub WereRead : SourceUse → List ℕ → Type 0
WereRead source bytes = AreBytesRead most_read source.before source.after bytes × (source.faults_after ≡ source.faults_before)

-- the script that the source held
abbrev pub IsScriptIn : SourceUse → List Part → Type 0
IsScriptIn source script = (bytes : List ℕ) × WereRead source bytes × IsScript bytes script

-- The script that a choice runs: that which the source held; or none, where the store is only shown, or the one that is made, and
-- the source is not called.
abbrev pub IsScriptOf : Action → SourceUse → List Part → Type 0
IsScriptOf action.Run source script = IsScriptIn source script
IsScriptOf action.Show source script = source.uncalled × (script ≡ [])
IsScriptOf (action.Make seed clients lines) source script = source.uncalled × (script ≡ made_script seed clients lines)

-- the numbers of a script that is to be made are in their ranges
abbrev pub CanMake : Action → Type 0
CanMake (action.Make seed clients lines) = ((1 ≤ clients) × (clients ≤ MOST_CLIENTS)) × ((1 ≤ lines) × (lines ≤ MOST_LINES))
CanMake other = Unit {0}

-- the bytes read are no script, and this is their first fault
abbrev pub IsOutsideGrammar : SourceUse → Fault → Type 0
IsOutsideGrammar source fault = (bytes : List ℕ) × WereRead source bytes × IsFault bytes fault.line fault.why

-- why the source gave no script
abbrev pub IsUnread : SourceUse → Status → Type 0
IsUnread source status.Memory = Unit {0}
IsUnread source status.SourceFault = Rose source.faults_before source.faults_after
IsUnread source (status.Script fault) = IsOutsideGrammar source fault
IsUnread source other = ⊥

-- What reading the script of a choice gave. Where the source is not called, nothing but memory can be wanting.
abbrev pub IsReadAs : Action → SourceUse → Result (List Part) Status → Type 0
IsReadAs chosen source (Ok script) = IsScriptOf chosen source script
IsReadAs action.Run source (Err end) = IsUnread source end
IsReadAs other source (Err end) = source.uncalled × (end ≡ status.Memory)

-- the words of a call, and what it did to each device
pub record Call : Type 1 where
  pub words : List (List ℕ)
  pub source : SourceUse
  pub disks : DisksUse
  pub sink : SinkUse

abbrev pub call_of : List (List ℕ) → SourceUse → DisksUse → SinkUse → Call
call_of words source disks sink = record { words = words; source = source; disks = disks; sink = sink }

-- a choice of the words had its script served so
pub record IsServed (Serves : Serving → Status → Type 0) (call : Call) (end : Status) : Type 0 where
  pub choice : Choice
  pub chosen : IsChoice call.words choice
  pub script : List Part
  pub read : IsScriptOf choice.action call.source script
  pub served : Serves (record { choice = choice; script = script; disks = call.disks; sink = call.sink }) end

-- How a call ended, and why, where a script is served so. Want of memory came before a device was called, or as the script of a
-- choice was served.
abbrev pub Ends : (Serves : Serving → Status → Type 0) → Call → Status → Type 0
Ends Serves call status.Words = ¬ IsTaken call.words
Ends Serves call status.SourceFault = IsChosen call.words action.Run × Rose call.source.faults_before call.source.faults_after
Ends Serves call (status.Script fault) = IsChosen call.words action.Run × IsOutsideGrammar call.source fault
Ends Serves call status.Memory = AreUncalled call.disks ⊎ IsServed Serves call status.Memory
Ends Serves call end = IsServed Serves call end

-- what a call came to
pub record IsOutcome (call : Call) (end : Status) : Type 0 where
  -- How it ended and why, what was written and what the devices store, by the status.
  pub ends : Ends Serves call end
  -- The same, where each reply of a client that is alone is the one that is due.
  pub alone : Ends ServesExactly call end
  -- However it ended, no crash takes what each crash would have left before: acknowledged edits, and the bytes of tables. Of
  -- acknowledged entries `ends` says it, by the place where the log begins.
  pub durable : IsDurable call.disks
