-- What the calls of the crates below come to as replies.
use Rattle.std.specs.Prelude.{◌≡◌, ℕ, List, [], ◌∷◌, ◌++◌, length, map, Option, Some, None}
use Rattle.wp_model.specs.declared.change.Change.{Change}
use Rattle.wp_model.specs.declared.change.Change.TheVariants as change
use Rattle.wp_text.specs.declared.script.Command.{Command}
use Rattle.wp_text.specs.declared.script.Command.TheVariants as command
use Rattle.wp_text.specs.declared.reply.Reply.{Reply}
use Rattle.wp_text.specs.declared.reply.Reply.TheVariants as reply
use Rattle.wp_open_txns.specs.declared.error.TxnError.{TxnError}
use Rattle.wp_open_txns.specs.declared.error.TxnError.TheVariants as why
use Rattle.wp_replies.specs.Client.{number_of}
use Rattle.wp_client.specs.declared.holdings.HeldTxn.{HeldTxn}
use Rattle.wp_client.specs.declared.holdings.HeldTxn.TheVariants as held
use Rattle.wp_client.specs.declared.holdings.HeldSnapshot.{HeldSnapshot}
use Rattle.wp_client.specs.Holdings.{labelled}

-- what a refusal is answered: nothing where memory was wanting; that a label is silent is answered with the label
abbrev pub refusal : TxnError → Option Reply
refusal why.Memory = None
refusal (why.Taken name) = Some (reply.Taken name)
refusal (why.Busy holder) = Some (reply.Busy holder)
refusal why.TooMany = Some reply.TooMany
refusal (why.Conflict n) = Some (reply.Conflict n)
refusal why.Silent = None
refusal (why.Unknown name at) = Some (reply.Unknown name at)
refusal (why.InUse name) = Some (reply.InUse name)
refusal (why.Crowded first second) = Some (reply.Crowded first second)
refusal (why.NumbersFull published limit) = Some (reply.Full published limit)
refusal why.LogFault = Some reply.FaultLog
refusal (why.Stopped n) = Some (reply.Stopped n)

-- ---- changes

-- the command that asks for the change, and the reply that acknowledges it
abbrev pub asking : Change → Command
asking (change.Put key value) = command.Put key value
asking (change.Del key) = command.Del key

abbrev pub acknowledging : Change → ℕ → Reply
acknowledging (change.Put key value) n = reply.Put n
acknowledging (change.Del key) n = reply.Del n

-- ---- reads

-- the changes of the client's own transaction
abbrev pub batch_in : HeldTxn → List Change
batch_in held.Idle = []
batch_in (held.Open t) = t.batch
batch_in (held.Prepared t) = t.batch

-- what is answered of a key by what these say of it
abbrev pub own_reply : Option (Option (List ℕ)) → Option Reply
own_reply None = None
own_reply (Some None) = Some reply.MissingOwn
own_reply (Some (Some value)) = Some (reply.GotOwn value)

-- ---- snapshots

-- the snapshot with this place is the first one of the label
pub record IsPlace (snapshots : List HeldSnapshot) (label : List ℕ) (i : ℕ) : Type 0 where
  pub front : List HeldSnapshot
  pub found : HeldSnapshot
  pub back : List HeldSnapshot
  pub are : snapshots ≡ front ++ found ∷ back
  pub place : length front ≡ i
  pub label_is : found.label ≡ label
  pub none_before : number_of (map labelled front) label ≡ None
