use Rattle.std.proofs.Common.{◌≡◌, ◌++◌}
use Rattle.wp_store.proofs.sources.listed.Given as goal

abbrev pub invariant-loop-version : goal.invariant-loop-version
invariant-loop-version l = l.list.items ++ l.version-iterator ≡ l.fn.merge
