use Rattle.std.proofs.lemmas.Result.{IfErr-weaker, IfOk-weaker}
use Rattle.wp_outside.specs.Disk.{IfKnown}
use Rattle.wp_gatelog.specs.Opening.{IsRefused}
use Rattle.wp_gatelog.specs.Opens.{IsFoundLog}
use Rattle.wp_gatelog.specs.Spelling.{stamped}
use Rattle.wp_gatelog.proofs.OpenLemmas.{by_head}
use Rattle.wp_gatelog.proofs.open.find_first.Goals as goal

pub returns-in-Made-clause-found : goal.returns-in-Made-clause-found
returns-in-Made-clause-found g c =
    let asked = stamped c.args.newest c.args.id in
    IfOk-weaker c.find_made.result _ (λ log. IfKnown (g.D.Peek.moments c.args.disk.now) (λ m. IsFoundLog 0 c.args.magic asked m.reads log))
    (λ log. by_head (λ m. IsFoundLog 0 c.args.magic asked m.reads log) 0 c.in-Made.first c.in-Made.gate c.in-Made.format c.args.newest c.in-Made.id c.args.magic _ _ c.own_head.ensures.unchanged c.requires
    (rw c.in-Made.is at c.in_ok-own_head.ensures.readable) (rw c.in-Made.is at c.in_ok-own_head.ensures.found))
    (c.find_made.ensures.found c.args.magic asked)

pub returns-in-Made-clause-refused : goal.returns-in-Made-clause-refused
returns-in-Made-clause-refused g c =
    let asked = stamped c.args.newest c.args.id in
    IfErr-weaker c.find_made.result _ (λ why. IfKnown (g.D.Peek.moments c.args.disk.now) (λ m. IsRefused 0 c.args.magic c.args.newest m.reads why))
    (λ why. by_head (λ m. IsRefused 0 c.args.magic c.args.newest m.reads why) 0 c.in-Made.first c.in-Made.gate c.in-Made.format c.args.newest c.in-Made.id c.args.magic _ _ c.own_head.ensures.unchanged c.requires
    (rw c.in-Made.is at c.in_ok-own_head.ensures.readable) (rw c.in-Made.is at c.in_ok-own_head.ensures.found))
    (c.find_made.ensures.refused c.args.magic asked)
