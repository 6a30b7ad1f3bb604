use Rattle.std.proofs.Common.{◌≡◌, ◌++◌, take}
use Rattle.wp_machine_permits.proofs.permitted.history.add_all.Given as goal

abbrev pub invariant-loop-entry : goal.invariant-loop-entry
invariant-loop-entry l = l.history.entries ≡ l.fn.history.entries ++ take l.entry-index l.entries
