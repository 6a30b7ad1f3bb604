use Rattle.std.proofs.Common.{sym}
use Rattle.wp_snaps.proofs.KeptNumbers.{len-none}
use Rattle.wp_snaps.proofs.snaps.Snaps.new.Goals as goal

pub invariant_of-result : goal.invariant_of-result
invariant_of-result c = sym (len-none c.new.result.entries c.new.ensures.empty)
