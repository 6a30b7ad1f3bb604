use Rattle.wp_open.proofs.Under.{under_none, under_one}
use Rattle.wp_open.proofs.standing.is_under.Goals as goal

pub returns-in-Some : goal.returns-in-Some
returns-in-Some c = λ carried holds. under_one c.args.version.now carried c.args.holders.now holds c.in-Some.number (rw c.in-Some.is at c.holder_of.ensures)

pub returns-in-None : goal.returns-in-None
returns-in-None c = λ carried holds. under_none c.args.version.now carried c.args.holders.now holds (rw c.in-None.is at c.holder_of.ensures)
