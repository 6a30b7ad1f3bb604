use Rattle.std.proofs.Common.{rules, ◌≡◌, true}
use Rattle.std.specs.Option.{is_some}
use Rattle.std.specs.FinMap as finite
use Rattle.wp_machine_permits.proofs.Held.{owned}
use Rattle.wp_machine_permits.proofs.permitted.publishing.has_transaction.Goals as goal

pub returns : goal.returns
returns c there =
    let found : is_some (finite.get c.args.actor.now.participant.transactions c.args.name.now) ≡ true = search rules in
    owned c.args.actor.now c.args.name.now found
