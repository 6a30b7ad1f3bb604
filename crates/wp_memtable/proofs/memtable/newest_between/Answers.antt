use Rattle.std.proofs.Common.{sym, ap, ◌∙◌}
use Rattle.wp_memtable.proofs.NextVersion.{front_under, newest_is}
use Rattle.wp_memtable.proofs.memtable.newest_between.Goals as goal

pub returns-in-Some : goal.returns-in-Some
returns-in-Some c =
    let key = c.args.key.now in
    sym (ap (front_under key) (sym c.new.ensures ∙ c.in-Some.ensures.steps)) ∙ newest_is c.args.bounds key c.args.versions.now.versions

pub returns-in-None : goal.returns-in-None
returns-in-None c =
    let key = c.args.key.now in
    sym (ap (front_under key) (sym c.new.ensures ∙ c.in-None.ensures.steps.0)) ∙ newest_is c.args.bounds key c.args.versions.now.versions
