use Rattle.std.proofs.Common.{rules, ◌≡◌, None, refl}
use Rattle.wp_model.specs.History.{named}
use Rattle.wp_core.specs.Turns.{Holds, locks_turn}
use Rattle.wp_core.specs.Steps.{free_transaction}
use Rattle.wp_machine_permits.specs.Permits.{IsOwned}
use Rattle.wp_machine_permits.proofs.permitted.locks.may_free_transaction.Goals as goal

pub returns : goal.returns
returns c passed =
    let turn : Holds c.args.world.now.holders locks_turn c.args.by = search rules in
    let owned : IsOwned c.args.actor.now c.args.name.now = c.has_transaction.ensures (search rules) in
    let unprepared : named c.args.world.now.writes.history c.args.name.now ≡ None = search rules in
    record { step = free_transaction c.args.name.now; is = refl; needs = (turn, (owned.transaction, owned.there), unprepared) }
