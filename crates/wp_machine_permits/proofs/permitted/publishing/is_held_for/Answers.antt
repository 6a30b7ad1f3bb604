use Rattle.std.proofs.Common.{rules, ◌≡◌, Some, None}
use Rattle.std.proofs.Common.{inr}
use Rattle.std.specs.FinMap as finite
use Rattle.wp_model.specs.declared.holder.Holder.TheVariants.{Txn}
use Rattle.wp_model.specs.History.{named}
use Rattle.wp_machine_permits.specs.Permits.{IsOwned}
use Rattle.wp_machine_permits.proofs.permitted.publishing.is_held_for.Goals as goal

pub returns-then-has_transaction : goal.returns-then-has_transaction
returns-then-has_transaction c has =
    let owned : IsOwned c.args.actor.now c.in-Some-Txn.name = c.has_transaction.ensures (search rules) in
    let held : finite.get c.args.world.now.locks.keys c.args.key.now ≡ Some (Txn c.in-Some-Txn.name) = search rules in
    let open_one : named c.args.history.now.entries c.in-Some-Txn.name ≡ None = search rules in
    record { held = inr (c.in-Some-Txn.name, owned.transaction, owned.there, held, open_one) }
