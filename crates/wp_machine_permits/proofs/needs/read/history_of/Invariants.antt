use Rattle.std.proofs.Common.{◌≡◌, take}
use Rattle.wp_machine_permits.proofs.needs.read.history_of.Given as goal

abbrev pub invariant-loop-entry : goal.invariant-loop-entry
invariant-loop-entry l = record { base : l.history.base ≡ 0; entries : l.history.entries ≡ take l.entry-index l.entries }
