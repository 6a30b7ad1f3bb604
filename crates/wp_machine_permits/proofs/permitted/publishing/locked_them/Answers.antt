use Rattle.std.proofs.Common.{rules, ◌≡◌, ℕ, List, true, None}
use Rattle.std.specs.FinMap as finite
use Rattle.std.specs.FinSet as set
use Rattle.wp_model.specs.declared.holder.Holder.TheVariants.{Txn}
use Rattle.wp_core.specs.Lists.{IsIn}
use Rattle.wp_core.specs.Views.{locked}
use Rattle.wp_core.specs.Conditions.{HasTransaction}
use Rattle.wp_machine_permits.proofs.Held.{came, none_came}
use Rattle.wp_machine_permits.proofs.permitted.publishing.locked_them.Goals as goal

pub returns-in-Some : goal.returns-in-Some
returns-in-Some c passed =
    let there : HasTransaction c.args.actor.now c.args.name.now c.in-Some.transaction.now = search rules in
    let each : (key : List ℕ) → set.contains c.in-Some.transaction.now.locked key ≡ true → IsIn (locked key (Txn c.args.name.now)) c.args.actor.now.participant.past = search rules in
    came c.args.actor.now c.args.name.now c.in-Some.transaction.now there each

pub returns-in-None : goal.returns-in-None
returns-in-None c passed =
    let none : finite.get c.args.actor.now.participant.transactions c.args.name.now ≡ None = search rules in
    none_came c.args.actor.now c.args.name.now none
