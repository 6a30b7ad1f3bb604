use Rattle.std.proofs.Common.{take, Some}
use Rattle.wp_history.specs.Holders.{Marks}
use Rattle.wp_history.proofs.last_changes.put_under.Given as goal

abbrev pub invariant-loop-change : goal.invariant-loop-change
invariant-loop-change l = Marks (Some l.number) (take l.change-index l.changes) l.fn.last l.last
