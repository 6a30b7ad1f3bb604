use Rattle.std.proofs.Common.{subst}
use Rattle.wp_parts.specs.Log.{LogState}
use Rattle.wp_parts.specs.Parts.{LogStands}
use Rattle.wp_parts.proofs.behind_turn.LogBehindTurnTurnValue.into_part.Goals as goal

pub returns-clause-tells : goal.returns-clause-tells
returns-clause-tells g c = λ first is. (subst (λ (l : LogState). LogStands l) c.deref.ensures (c.devices_agree.ensures.tells, c.devices_agree.ensures.next), is)
