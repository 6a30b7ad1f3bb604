use Rattle.std.proofs.lemmas.Result.{IfOk-weaker}
use Rattle.wp_outside.specs.Disk.{IfKnown}
use Rattle.wp_gatelog.specs.Opens.{IsFoundLog}
use Rattle.wp_gatelog.specs.Spelling.{stamped}
use Rattle.wp_gatelog.proofs.OpenLemmas.{before_sync}
use Rattle.wp_gatelog.proofs.open.find.Goals as goal

pub returns-clause-found : goal.returns-clause-found
returns-clause-found g c =
    let asked = stamped c.args.newest c.args.id in
    IfOk-weaker c.find_behind.result _ (λ log. IfKnown (g.D.Peek.moments c.args.disk.now) (λ m. IsFoundLog c.args.place c.args.magic asked m.reads log))
    (λ log. before_sync (λ bytes. IsFoundLog c.args.place c.args.magic asked bytes log) _ _ c.in_ok-sync.ensures.done) (c.find_behind.ensures.found c.args.id)
