-- What a call of the top call that copies did, by the status that it ended with.
use Rattle.std.specs.Prelude.{◌⊎◌, ℕ, List, [], Result, Ok, Err}
use Rattle.wp_outside.specs.Faults.{Rose}
use Rattle.wp_outside.specs.Sink.{AppendsPrefix}
use Rattle.wp_refused.specs.declared.error.OpenError.{OpenError}
use Rattle.wp_refused.specs.declared.error.OpenError.TheVariants as open_error
use Rattle.wp_args.specs.CopyChoice.{IsCopyChoice, IsCopyTaken}
use Rattle.wp_args.specs.declared.choice.Action.TheVariants as action
use Rattle.wp_args.specs.declared.choice.StoreOptions.{StoreOptions}
use Rattle.wp_status.specs.declared.status.Status.{Status}
use Rattle.wp_status.specs.declared.status.Status.TheVariants as status
use Rattle.wp_status.specs.Unopened.{IsUnopened}
use Rattle.wp_status.specs.Use.{DisksUse, SinkUse, AreUncalled, before, after}
use Rattle.wp_status.specs.Written.{IsWhole}
use Rattle.wp_checkpoint.specs.declared.copying.Copied.{Copied}
use Rattle.wp_checkpoint.specs.declared.error.CopyError.{CopyError}
use Rattle.wp_checkpoint.specs.declared.error.CopyError.TheVariants as copy_error
use Rattle.wp_copy.specs.CopyAt.{CopiesTo, RefusesAt}
use Rattle.wp_run.specs.Headline.{Serving, Headline}
use Rattle.wp_run.specs.Serving.{faults_of}
use Rattle.wp_run_copy.specs.Line.{copied_line}

-- the words choose these options, or why they choose none
abbrev pub IsCopyChoiceOf : List (List ℕ) → Result StoreOptions Status → Type 0
IsCopyChoiceOf words (Ok options) = IsCopyChoice words options
IsCopyChoiceOf words (Err status.Words) = ¬ IsCopyTaken words
IsCopyChoiceOf words (Err status.Memory) = Unit {0}
IsCopyChoiceOf words (Err other) = ⊥

-- ---- the store that the words choose

-- a store with these options, and what copying it did to its devices, to those of the target, and to the sink
pub record Copying : Type 1 where
  pub options : StoreOptions
  pub store : DisksUse
  pub target : DisksUse
  pub sink : SinkUse

abbrev pub copying_of : StoreOptions → (store target : DisksUse) → SinkUse → Copying
copying_of options store target sink = record { options = options; store = store; target = target; sink = sink }

-- as a store that is shown
abbrev pub shown_by : Copying → Serving
shown_by c = record { choice = record { action = action.Show; store = c.options }; script = []; disks = c.store; sink = c.sink }

-- The store was opened, and ended as one that is shown: all that the headline says of the empty script is so of it, and no device of
-- it failed.
abbrev pub SourceStands : Copying → Type 0
SourceStands c = Headline (shown_by c) (faults_of 0 0 0) []

-- it was not opened, for this reason, and the target was not called
abbrev pub SourceUnopened : Copying → OpenError → Type 0
SourceUnopened c why = IsUnopened c.options.id c.store why × AreUncalled c.target

-- the target has a copy of all that the history leaves, under the store's id
pub record HasCopied (c : Copying) (copied : Copied) : Type 0 where
  pub source : SourceStands c
  pub copies : CopiesTo source.id source.left.history (before c.target) copied (after c.target)

-- There is no copy, for this reason. Where memory was wanting, the target is as it was.
pub record HasNotCopied (c : Copying) (why : CopyError) : Type 0 where
  pub source : SourceStands c
  pub refused : RefusesAt (before c.target) (after c.target) why

-- how copying ended, why, what was written, and what the devices store
abbrev pub Copies : Copying → Status → Type 0
Copies c status.Ok = (copied : Copied) × HasCopied c copied × IsWhole c.sink (copied_line copied)
Copies c status.SinkFault = Rose c.sink.faults_before c.sink.faults_after × (copied : Copied) × HasCopied c copied × AppendsPrefix c.sink.before c.sink.after (copied_line copied)
Copies c status.Memory = SourceUnopened c open_error.Memory ⊎ HasNotCopied c copy_error.Memory
Copies c (status.Contents damage) = SourceUnopened c (open_error.Contents damage)
Copies c (status.OpenFault device) = SourceUnopened c (open_error.OpenFault device)
Copies c (status.CopyHeld device) = HasNotCopied c (copy_error.CopyHeld device)
Copies c (status.CopyFault device) = HasNotCopied c (copy_error.CopyFault device)
Copies c other = ⊥

-- ---- a call

-- the words of a call, and what it did to each device: those of the store, those of the target, and the sink
pub record CopyCall : Type 1 where
  pub words : List (List ℕ)
  pub store : DisksUse
  pub target : DisksUse
  pub sink : SinkUse

abbrev pub copy_call_of : List (List ℕ) → (store target : DisksUse) → SinkUse → CopyCall
copy_call_of words store target sink = record { words = words; store = store; target = target; sink = sink }

-- the options that the words choose are those of a store that was copied so
pub record IsCopied (call : CopyCall) (end : Status) : Type 0 where
  pub options : StoreOptions
  pub chosen : IsCopyChoice call.words options
  pub copied : Copies (copying_of options call.store call.target call.sink) end

-- How a call ended, and why. Want of memory came before a device was called, or as the store was copied.
abbrev pub CopyEnds : CopyCall → Status → Type 0
CopyEnds call status.Words = ¬ IsCopyTaken call.words
CopyEnds call status.Memory = (AreUncalled call.store × AreUncalled call.target) ⊎ IsCopied call status.Memory
CopyEnds call end = IsCopied call end
