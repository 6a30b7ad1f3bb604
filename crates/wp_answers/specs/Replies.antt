-- What the calls on tables come to as replies, which commands change a key, and which the transaction that a client has.
use Rattle.std.specs.Prelude.{Bool, true, false, Option, Some, None}
use Rattle.wp_text.specs.declared.script.Command.{Command}
use Rattle.wp_text.specs.declared.script.Command.TheVariants as command
use Rattle.wp_text.specs.declared.reply.Reply.{Reply}
use Rattle.wp_text.specs.declared.reply.Reply.TheVariants as reply
use Rattle.wp_maint.specs.declared.renewed.RenewError.{RenewError}
use Rattle.wp_maint.specs.declared.renewed.RenewError.TheVariants as renewal
use Rattle.wp_maint.specs.declared.error.MaintError.{MaintError}
use Rattle.wp_maint.specs.declared.error.MaintError.TheVariants as maint

-- what a refusal by the tables is answered: nothing where memory was wanting
abbrev pub tables_refusal : MaintError → Option Reply
tables_refusal maint.Memory = None
tables_refusal maint.Nothing = Some reply.Nothing
tables_refusal maint.TableFault = Some reply.FaultTables
tables_refusal (maint.TablesStopped flushed) = Some (reply.Halted flushed)

-- likewise of a renewal
abbrev pub renewal_refusal : RenewError → Option Reply
renewal_refusal renewal.Memory = None
renewal_refusal (renewal.TablesStopped flushed) = Some (reply.Halted flushed)
renewal_refusal (renewal.Stopped n) = Some (reply.Stopped n)
renewal_refusal renewal.Nothing = Some reply.Nothing
renewal_refusal renewal.TableFault = Some reply.FaultTables
renewal_refusal renewal.LogFault = Some reply.FaultLog

-- the command puts or deletes a key
abbrev pub is_change : Command → Bool
is_change (command.Put key value) = true
is_change (command.Del key) = true
is_change other = false

-- the command may change which transaction the client has, where it does not change a key
abbrev pub is_of_txn : Command → Bool
is_of_txn (command.Begin name) = true
is_of_txn (command.Take name) = true
is_of_txn command.Prepare = true
is_of_txn command.Commit = true
is_of_txn command.Rollback = true
is_of_txn command.Leave = true
is_of_txn other = false
