use Rattle.std.proofs.Common.{rules, ◌≡◌, true, refl}
use Rattle.std.specs.Option.{is_some}
use Rattle.wp_model.specs.History.{named}
use Rattle.wp_core.specs.Turns.{Holds, locks_turn}
use Rattle.wp_core.specs.Steps.{leave_name}
use Rattle.wp_machine_permits.specs.Permits.{IsOwned}
use Rattle.wp_machine_permits.proofs.permitted.locks.may_leave_name.Goals as goal

pub returns : goal.returns
returns c passed =
    let turn : Holds c.args.world.now.holders locks_turn c.args.by = search rules in
    let owned : IsOwned c.args.actor.now c.args.name.now = c.has_transaction.ensures (search rules) in
    let prepared : is_some (named c.args.world.now.writes.history c.args.name.now) ≡ true = search rules in
    record { step = leave_name c.args.name.now; is = refl; needs = (turn, (owned.transaction, owned.there), prepared) }
