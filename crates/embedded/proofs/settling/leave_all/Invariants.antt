use Rattle.std.proofs.Common.{length}
use Rattle.basilcorbel.specs.Groups.{ArePrepared}
use Rattle.embedded.specs.Alone.{IsAlone}
use Rattle.embedded.proofs.settling.leave_all.Given as goal

-- those that are not left yet are prepared still
abbrev pub invariant-loop-txns : goal.invariant-loop-txns
invariant-loop-txns g l = IsAlone l.store l.seat × ArePrepared l.seat l.txns.items

abbrev pub decreases-loop-txns : goal.decreases-loop-txns
decreases-loop-txns g l = length l.txns.items
