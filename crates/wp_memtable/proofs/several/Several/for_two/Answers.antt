use Rattle.std.proofs.Common.{sym, subst}
use Rattle.wp_memtable.specs.KeyVersions.{AreNewestFirst}
use Rattle.wp_memtable.proofs.KeyVersions.{newest_none}
use Rattle.wp_memtable.proofs.several.Several.for_two.Goals as goal

pub invariant_of-result : goal.invariant_of-result
invariant_of-result c = subst AreNewestFirst (sym c.in_ok-with_capacity.ensures.items) newest_none
