use Rattle.wp_gatelog.specs.Spelling.{stamped}
use Rattle.wp_gatelog.proofs.OpenLemmas.{keeps_synced}
use Rattle.wp_gatelog.proofs.log.GateLog.open.Goals as goal

pub returns-in-Err-clause-kept : goal.returns-in-Err-clause-kept
returns-in-Err-clause-kept g c =
    let refused = c.in-Err.ensures.refused in
    keeps_synced c.args.place c.args.magic (stamped c.args.newest c.args.id) _ _ _ _ c.in-Err.refused.why (g.met.D.Peek.itself c.args.disk) refused.left c.in-Err.ensures.faults
