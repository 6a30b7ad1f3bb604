use Rattle.std.proofs.Common.{take}
use Rattle.wp_history.proofs.Taking.{AreHeld}
use Rattle.wp_history.proofs.holders.hold_keys.Given as goal

abbrev pub invariant-loop-change : goal.invariant-loop-change
invariant-loop-change l = AreHeld l.number (take l.change-index l.changes) l.fn.keys l.keys
