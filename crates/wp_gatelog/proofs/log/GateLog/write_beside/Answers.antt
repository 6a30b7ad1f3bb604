use Rattle.wp_gatelog.proofs.BesideLemmas.{writes_beside, writes_failed, writes_none}
use Rattle.wp_gatelog.proofs.log.GateLog.write_beside.Goals as goal

pub returns-in-Ok-clause-writes : goal.returns-in-Ok-clause-writes
returns-in-Ok-clause-writes g c = rw (← c.self.view_is) (writes_beside c.args.place c.args.bytes.now _ _ _ _ (c.in-Ok.ensures.brings c.self.inside.end))

pub returns-in-Err-clause-writes : goal.returns-in-Err-clause-writes
returns-in-Err-clause-writes g c = rw (← c.self.view_is) (writes_failed c.args.place c.args.bytes.now _ _ _ _ (c.write_synced.ensures.brings c.self.inside.end))

pub returns-then-self-clause-writes : goal.returns-then-self-clause-writes
returns-then-self-clause-writes g c = rw (← c.self.view_is) (writes_none c.args.place c.args.bytes.now _ _ _ c.if-self.true)
