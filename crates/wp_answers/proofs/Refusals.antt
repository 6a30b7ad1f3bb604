-- Which replies the refusals of the tables and of a renewal come to.
use Rattle.std.proofs.Common.{◌≡◌, ℕ, Some, subst}
use Rattle.wp_text.specs.declared.reply.Reply.{Reply}
use Rattle.wp_text.specs.declared.reply.Reply.TheVariants as reply
use Rattle.wp_model.proofs.Tests.{same_some}
use Rattle.wp_maint.specs.declared.error.MaintError.{MaintError}
use Rattle.wp_maint.specs.declared.error.MaintError.TheVariants.{Memory, Nothing, TableFault, TablesStopped}
use Rattle.wp_maint.specs.declared.renewed.RenewError.{RenewError}
use Rattle.wp_maint.specs.declared.renewed.RenewError.TheVariants as renewal
use Rattle.wp_answers.specs.Replies.{renewal_refusal, tables_refusal}

-- what is so of each reply that the tables' refusals come to
pub tables_refused : (P : Reply → Type 0) → P reply.Nothing → P reply.FaultTables → ((flushed : ℕ) → P (reply.Halted flushed)) → (why : MaintError) (r : Reply) → tables_refusal why ≡ Some r → P r
tables_refused P nothing failed halted Memory r is = absurd cc
tables_refused P nothing failed halted Nothing r is = subst P (same_some reply.Nothing r is) nothing
tables_refused P nothing failed halted TableFault r is = subst P (same_some reply.FaultTables r is) failed
tables_refused P nothing failed halted (TablesStopped flushed) r is = subst P (same_some (reply.Halted flushed) r is) (halted flushed)

-- ... and those of a renewal
pub renewal_refused : (P : Reply → Type 0) → P reply.Nothing → P reply.FaultTables → P reply.FaultLog → ((n : ℕ) → P (reply.Stopped n)) → ((flushed : ℕ) → P (reply.Halted flushed)) → (why : RenewError) (r : Reply) → renewal_refusal why ≡ Some r → P r
renewal_refused P nothing failed failed_log stopped halted renewal.Memory r is = absurd cc
renewal_refused P nothing failed failed_log stopped halted renewal.Nothing r is = subst P (same_some reply.Nothing r is) nothing
renewal_refused P nothing failed failed_log stopped halted renewal.TableFault r is = subst P (same_some reply.FaultTables r is) failed
renewal_refused P nothing failed failed_log stopped halted renewal.LogFault r is = subst P (same_some reply.FaultLog r is) failed_log
renewal_refused P nothing failed failed_log stopped halted (renewal.Stopped n) r is = subst P (same_some (reply.Stopped n) r is) (stopped n)
renewal_refused P nothing failed failed_log stopped halted (renewal.TablesStopped flushed) r is = subst P (same_some (reply.Halted flushed) r is) (halted flushed)
