use Rattle.std.proofs.Common.{◌≡◌, take, ◌++◌}
use Rattle.std.specs.List.{flat_map}
use Rattle.wp_entry.specs.Record.{named_bytes}
use Rattle.wp_entry.proofs.writing.push_all_named.Given as goal

abbrev pub invariant-loop-commit : goal.invariant-loop-commit
invariant-loop-commit l = l.out.items ≡ l.fn.out.items ++ flat_map (named_bytes l.format) (take l.commit-index l.commits)
