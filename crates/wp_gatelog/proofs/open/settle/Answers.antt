use Rattle.wp_gatelog.specs.Opens.{found_stamp}
use Rattle.wp_gatelog.proofs.OpenLemmas.{settles_none, settles_some}
use Rattle.wp_gatelog.proofs.open.settle.Goals as goal

pub returns-in-None-clause-brings : goal.returns-in-None-clause-brings
returns-in-None-clause-brings g c = λ bytes was known. settles_none c.args.place c.args.magic bytes c.args.log.now _ _ _ c.requires.magic c.in-None.is was c.make.ensures.made known

pub returns-in-Some-clause-brings : goal.returns-in-Some-clause-brings
returns-in-Some-clause-brings g c = λ bytes was known. settles_some c.args.place c.args.magic bytes c.args.log.now c.in-Some.head _ _ _ c.in-Some.is was (c.repair.ensures.repaired c.args.magic (found_stamp c.args.log.now)) known
