use Rattle.std.proofs.Common.{drop}
use Rattle.wp_model.specs.Record.{AreCommits}
use Rattle.wp_machine_permits.proofs.permitted.write.are_commits.Given as goal

abbrev pub invariant-loop-entry : goal.invariant-loop-entry
invariant-loop-entry l = AreCommits (drop l.entry-index l.entries) → AreCommits l.entries
