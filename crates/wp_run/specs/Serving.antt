-- How serving a script ended.
use Rattle.std.specs.Prelude.{◌≡◌, ◌⊎◌, ℕ, true, List}
use Rattle.wp_model.specs.declared.entry.Entry.{Entry}
use Rattle.wp_outside.specs.Faults.{Rose}
use Rattle.wp_outside.specs.Sink.{AppendsPrefix}
use Rattle.wp_refused.specs.declared.error.OpenError.TheVariants as open_error
use Rattle.wp_args.specs.declared.choice.Action.{Action}
use Rattle.wp_text.specs.declared.script.Part.{Part}
use Rattle.wp_replies.specs.Exact.{IsExact}
use Rattle.wp_replies.specs.Explains.{Faults, AreFirstParts}
use Rattle.wp_replies.specs.Kind.{is_fault, is_tables_fault}
use Rattle.wp_threads.specs.Over.{Answered, replies_of}
use Rattle.wp_status.specs.declared.status.Status.{Status}
use Rattle.wp_status.specs.declared.status.Status.TheVariants as status
use Rattle.wp_transcript.specs.Transcript.{text_of}
use Rattle.wp_transcript.specs.Answers.{are_whole, one_fails}
use Rattle.wp_status.specs.Written.{IsWhole, IsWritten}
use Rattle.wp_run.specs.Headline.{Serving, Headline}
use Rattle.wp_status.specs.Unopened.{IsUnopened}
use Rattle.wp_status.specs.Use.{SinkUse}

-- ---- what is said of a store that ran

-- more than the headline
abbrev pub More : Serving → Type 1
More s = (faults : Faults) (run : List Part) → Headline s faults run → Type 0

abbrev pub nothing_more : (s : Serving) → More s
nothing_more s faults run headline = Unit {0}

-- With one client, what is left and what was answered are just what is due.
abbrev pub exactly : (s : Serving) → More s
exactly s faults run headline = IsExact headline.limits headline.found headline.left headline.failed run headline.replies

-- ---- how serving ended

-- All commands of the script ran, and the text is of just these replies and this history: the transcript, or the summary of a
-- made script.
abbrev pub IsText : (s : Serving) → (faults : Faults) → Headline s faults s.script → List ℕ → Type 0
IsText s faults headline text = text ≡ text_of s.choice.action s.script headline.replies headline.found.edit.segment.base headline.store headline.left.history

-- The text answers the script, with these faults.
pub record AnswersScript (s : Serving) (more : More s) (faults : Faults) (text : List ℕ) : Type 0 where
  pub headline : Headline s faults s.script
  pub text_is : IsText s faults headline text
  pub also : more faults s.script headline

-- Memory was wanting once the store was open. The first commands of each client had their replies, and these explain what
-- is left.
pub record LacksMemory (s : Serving) (more : More s) : Type 0 where
  pub faults : Faults
  pub run : List Part
  pub first : AreFirstParts s.script run
  pub headline : Headline s faults run
  pub also : more faults run headline

abbrev pub faults_of : (log tables renewals : ℕ) → Faults
faults_of log tables renewals = record { log = log; tables = tables; renewals = renewals }

-- how serving ended, why, what was written and what the devices store
abbrev pub ServesWith : (s : Serving) → More s → Status → Type 0
ServesWith s more status.Ok = (text : List ℕ) × AnswersScript s more (faults_of 0 0 0) text × IsWhole s.sink text
ServesWith s more status.LogFault = (tables : ℕ) × (text : List ℕ) × AnswersScript s more (faults_of 1 tables 0) text × IsWhole s.sink text
ServesWith s more status.TableFault = (renewals : ℕ) × (text : List ℕ) × AnswersScript s more (faults_of 0 1 renewals) text × IsWhole s.sink text
ServesWith s more status.SinkFault = Rose s.sink.faults_before s.sink.faults_after × (faults : Faults) × (text : List ℕ) × AnswersScript s more faults text × AppendsPrefix s.sink.before s.sink.after text
ServesWith s more status.Memory = IsUnopened s.choice.store.id s.disks open_error.Memory ⊎ LacksMemory s more
ServesWith s more (status.Contents damage) = IsUnopened s.choice.store.id s.disks (open_error.Contents damage)
ServesWith s more (status.OpenFault device) = IsUnopened s.choice.store.id s.disks (open_error.OpenFault device)
ServesWith s more other = ⊥

abbrev pub Serves : Serving → Status → Type 0
Serves s = ServesWith s (nothing_more s)

abbrev pub ServesExactly : Serving → Status → Type 0
ServesExactly s = ServesWith s (exactly s)

-- What became of the replies: with the history they were written, or what could be of them; or memory was wanting for that, or in
-- a session.
abbrev pub HasEnded : Action → List Part → List Answered → (base : ℕ) → List (List ℕ × List ℕ) → List Entry → SinkUse → Status → Type 0
HasEnded action script answered base store history sink status.Memory = Unit {0}
HasEnded action script answered base store history sink end = (are_whole answered ≡ true) × IsWritten (one_fails is_fault answered) (one_fails is_tables_fault answered) sink (text_of action script (replies_of answered) base store history) end
