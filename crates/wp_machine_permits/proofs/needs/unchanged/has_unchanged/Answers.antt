use Rattle.std.proofs.Common.{rules, ◌≡◌, true, Some}
use Rattle.std.specs.FinMap as finite
use Rattle.std.specs.FinSet as set
use Rattle.wp_machine_permits.proofs.needs.unchanged.has_unchanged.Goals as goal

pub returns : goal.returns
returns c passed =
    let there : finite.get c.args.participant.now.transactions c.args.name.now ≡ Some c.in-Some.transaction.now = search rules in
    let has : set.contains c.in-Some.transaction.now.locked c.args.key.now ≡ true = search rules in
    let is = c.in_ok-unchanged.ensures passed in
    ((c.in-Some.transaction.now, there, has), is.0, is.1)
