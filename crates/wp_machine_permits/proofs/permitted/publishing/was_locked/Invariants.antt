use Rattle.std.proofs.Common.{drop}
use Rattle.wp_model.specs.declared.holder.Holder.TheVariants.{Txn}
use Rattle.wp_core.specs.Lists.{IsIn}
use Rattle.wp_core.specs.Views.{locked}
use Rattle.wp_machine_permits.proofs.permitted.publishing.was_locked.Given as goal

abbrev pub invariant-loop-event : goal.invariant-loop-event
invariant-loop-event l = IsIn (locked l.key (Txn l.name)) (drop l.event-index l.past) → IsIn (locked l.key (Txn l.name)) l.past
