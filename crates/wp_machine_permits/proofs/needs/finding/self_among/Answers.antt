use Rattle.wp_core.specs.Sound.Locks.{owner_of}
use Rattle.wp_machine_permits.proofs.Places.{mapped_at}
use Rattle.wp_machine_permits.proofs.needs.finding.self_among.Goals as goal

pub returns-then-is_self : goal.returns-then-is_self
returns-then-is_self c = (owner_of c.index-participants-i.result, mapped_at owner_of _ _ _ c.loop-i-test.true c.index-participants-i.is, c.is_self.ensures c.if-is_self.true)
