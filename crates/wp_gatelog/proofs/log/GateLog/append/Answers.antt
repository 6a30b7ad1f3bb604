use Rattle.std.proofs.Common.{ℕ, ◌+◌, refl, ap}
use Rattle.wp_gatelog.proofs.FrameLemmas.{appends_more, appends_failed, appends_none}
use Rattle.wp_gatelog.proofs.log.GateLog.append.Goals as goal

pub returns-in-Ok-clause-appends : goal.returns-in-Ok-clause-appends
returns-in-Ok-clause-appends g c = rw (← c.self.view_is) (appends_more c.args.frame.now _ _ c.if-self.false _ _ refl refl (ap (λ (n : ℕ). c.self.inside.end + n) c.len.ensures) c.in-Ok.ensures.appended)

pub returns-in-Err-clause-appends : goal.returns-in-Err-clause-appends
returns-in-Err-clause-appends g c = rw (← c.self.view_is) (appends_failed c.args.frame.now _ _ c.if-self.false _ _ c.append_frame.ensures.appended)

pub returns-then-self-clause-appends : goal.returns-then-self-clause-appends
returns-then-self-clause-appends g c = appends_none c.args.frame.now _ _
