use Rattle.std.proofs.Common.{◌≡◌, ◌∙◌, length, arith}
use Rattle.std.proofs.lemmas.Result.{IfErr-weaker, IfOk-weaker}
use Rattle.wp_outside.specs.Disk.{IfKnown}
use Rattle.wp_gatelog.specs.Damage.{IsBadHeadAt}
use Rattle.wp_gatelog.specs.Opening.{IsRefused}
use Rattle.wp_gatelog.specs.Opens.{IsFoundLog}
use Rattle.wp_gatelog.specs.Spelling.{stamped}
use Rattle.wp_gatelog.proofs.MomentLemmas.{known_map}
use Rattle.wp_gatelog.proofs.OpenLemmas.{by_head, short_above}
use Rattle.wp_gatelog.proofs.open.find_behind.Goals as goal

pub returns-then-saturating_sub-le-HEAD_LEN-clause-refused : goal.returns-then-saturating_sub-le-HEAD_LEN-clause-refused
returns-then-saturating_sub-le-HEAD_LEN-clause-refused g c =
    known_map (λ m. c.in_ok-len.len ≡ length m.reads) (λ m. IsBadHeadAt c.args.place c.args.magic c.args.newest m.reads)
    (λ m size. short_above c.args.place c.args.magic c.args.newest m.reads c.requires.place (omega (arith, size))) _ c.in_ok-len.ensures.length

pub returns-in-Made-clause-found : goal.returns-in-Made-clause-found
returns-in-Made-clause-found g c = λ id.
    let head = rw c.own_len.ensures.unchanged at (rw c.in-Made.is at c.in_ok-own_head.ensures.found) in
    IfOk-weaker c.find_made.result _ (λ log. IfKnown (g.D.Peek.moments c.args.disk.now) (λ m. IsFoundLog c.args.place c.args.magic (stamped c.args.newest id) m.reads log))
    (λ log. by_head (λ m. IsFoundLog c.args.place c.args.magic (stamped c.args.newest id) m.reads log) c.args.place c.in-Made.first c.in-Made.gate c.in-Made.format c.args.newest c.in-Made.id c.args.magic _ _ (c.own_head.ensures.unchanged ∙ c.own_len.ensures.unchanged) c.requires.magic
    (rw c.in-Made.is at c.in_ok-own_head.ensures.readable) head)
    (c.find_made.ensures.found c.args.magic (stamped c.args.newest id))

pub returns-in-Made-clause-refused : goal.returns-in-Made-clause-refused
returns-in-Made-clause-refused g c =
    let head = rw c.own_len.ensures.unchanged at (rw c.in-Made.is at c.in_ok-own_head.ensures.found) in
    IfErr-weaker c.find_made.result _ (λ why. IfKnown (g.D.Peek.moments c.args.disk.now) (λ m. IsRefused c.args.place c.args.magic c.args.newest m.reads why))
    (λ why. by_head (λ m. IsRefused c.args.place c.args.magic c.args.newest m.reads why) c.args.place c.in-Made.first c.in-Made.gate c.in-Made.format c.args.newest c.in-Made.id c.args.magic _ _ (c.own_head.ensures.unchanged ∙ c.own_len.ensures.unchanged) c.requires.magic
    (rw c.in-Made.is at c.in_ok-own_head.ensures.readable) head)
    (c.find_made.ensures.refused c.args.magic (stamped c.args.newest 0))
