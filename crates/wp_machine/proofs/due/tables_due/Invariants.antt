use Rattle.std.proofs.Common.{◌≡◌, take}
use Rattle.wp_core.specs.Sound.Pasts.{tables_due}
use Rattle.wp_machine.proofs.due.tables_due.Given as goal

abbrev pub invariant-loop-event : goal.invariant-loop-event
invariant-loop-event l = l.due ≡ tables_due l.first (take l.event-index l.past)
