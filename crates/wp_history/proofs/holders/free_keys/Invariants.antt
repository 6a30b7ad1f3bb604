use Rattle.std.proofs.Common.{take, None}
use Rattle.wp_history.specs.Holders.{Marks}
use Rattle.wp_history.proofs.holders.free_keys.Given as goal

abbrev pub invariant-loop-change : goal.invariant-loop-change
invariant-loop-change l = Marks (None) (take l.change-index l.changes) l.fn.keys l.keys
